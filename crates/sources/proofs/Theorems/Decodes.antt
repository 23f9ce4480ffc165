-- The word of an instruction line decodes to what the line says, and the word of a data line is its value.
use Rattle.std.specs.Prelude.{◌≡◌, List, ℕ, suc, ◌-◌, ◌^◌, ◌≤◌, ◌<◌, ℤ, negsuc}
use Rattle.std.proofs.Math.Path.{refl, ap, subst}
use Rattle.std.proofs.Common.{sym, ◌∙◌, arith, lt-ltb, le-ltb}
use Rattle.std.proofs.Math.Option.{Option}
use Rattle.std.proofs.Math.IntN.{pos}
use Rattle.common.specs.Opcodes as is
use Rattle.common.specs.Words as words
use Rattle.common.specs.Words.{Row, uses, row, pack, Decoded, decode, encode}
use Rattle.common.proofs.Laws.WordLaws.{row_small, Allowed, allowed_is, encode_0, read_back}
use Rattle.common.specs.Instructions.{Offset, forward, back, offset}
use Rattle.grammar.specs.Tokens.{Single, Jump, Jal, Pair, Mov, Load, Store, Triple, Add, Sub, Mul, Eq, Leq, opcode, Nop, Halt, Const, Bnz, one, two, three}
use Rattle.grammar.specs.Trees.{Expr, Instruction, nop, halt, constant, moving, computing, jumping, branching}
use Rattle.sources.specs.Values.{Valued, is, unknown, outside, after}
use Rattle.sources.specs.Words.{twos, Fields, fields, word_of, immediate, displacement, datum, fields_of, instruction_word}
use Rattle.sources.specs.Laws.OnTheWay.{Within, plain_e}
use Rattle.sources.proofs.Laws.ValueLaws.{field_is}
use Rattle.sources.proofs.Laws.Registers.{Registers}

-- ---- what a line says

-- a whole number as the machine's offset
abbrev pub way : ℤ → Offset
way (pos n) = forward n
way (negsuc n) = back (suc n)

-- opcode and fields as the line has them: registers in the sheet's order, a constant's plain value, an offset that the machine takes as its plain value
module _ (labels : List ℕ → Option ℕ) (dot : ℕ) where
  abbrev pub Means : Instruction → Decoded → Type 0
  Means nop d = d ≡ words.instruction (opcode Nop) 0 0 0
  Means halt d = d ≡ words.instruction (opcode Halt) 0 0 0
  Means (constant e r) d = (n : ℕ) × (plain_e labels dot e ≡ pos n) × (d ≡ words.instruction (opcode Const) r 0 n)
  Means (moving k a b) d = d ≡ words.instruction (opcode (two k)) a b 0
  Means (computing k a b c) d = d ≡ words.instruction (opcode (three k)) a b c
  Means (jumping k a) d = d ≡ words.instruction (opcode (one k)) a 0 0
  Means (branching a e) d = (low : ℕ) × (way (plain_e labels dot e) ≡ offset low) × (d ≡ words.instruction (opcode Bnz) a 0 low)

-- ---- what is allowed decodes

decode_pack : (op a b low : ℕ) → Allowed op a b low → decode (pack op a b low) ≡ words.instruction op a b low
unfolding encode
decode_pack op a b low w =
    let e : (encode op a b low).word ≡ pack op a b low = simp (allowed_is op a b low w) in
    ap decode (sym e) ∙ read_back op a b low ((encode_0 op a b low).1 w)

pack_small : (op a b low : ℕ) → Allowed op a b low → pack op a b low < 2 ^ 32
pack_small op a b low w = let k = w.known in let i = w.a_small in let j = w.b_small in let l = w.low_small in omega arith

-- by the row of its opcode
allows : (op a b low : ℕ) (r : Row) → row op ≡ r → op < is.count → a ≤ r.a → b ≤ r.b → low ≤ r.low → Allowed op a b low
allows op a b low r e h i j l =
    let ea = ap (λ (s : Row). s.a) e in
    let eb = ap (λ (s : Row). s.b) e in
    let el = ap (λ (s : Row). s.low) e in
    let small = row_small op in
    let sa = small.a in
    let sb = small.b in
    let sl = small.low in
    record { known = h; a_most = omega arith; b_most = omega arith; low_most = omega arith; a_small = omega arith; b_small = omega arith; low_small = omega arith }

row_one : (k : Single) → (row (opcode (one k)) ≡ uses 15 0 0) × (opcode (one k) < is.count)
unfolding row
row_one Jump = (refl, omega arith)
row_one Jal = (refl, omega arith)

row_two : (k : Pair) → (row (opcode (two k)) ≡ uses 15 15 0) × (opcode (two k) < is.count)
unfolding row
row_two Mov = (refl, omega arith)
row_two Load = (refl, omega arith)
row_two Store = (refl, omega arith)

row_three : (k : Triple) → (row (opcode (three k)) ≡ uses 15 15 15) × (opcode (three k) < is.count)
unfolding row
row_three Add = (refl, omega arith)
row_three Sub = (refl, omega arith)
row_three Mul = (refl, omega arith)
row_three Eq = (refl, omega arith)
row_three Leq = (refl, omega arith)

-- ---- what stands in a field

twos_small : (below above size : ℕ) (z : ℤ) → above < size → Within below above z → twos size z < size
twos_small below above size (pos n) h w = omega arith
twos_small below above size (negsuc n) h w = omega arith

never_negative : (above size : ℕ) (z : ℤ) → Within 0 above z → z ≡ pos (twos size z)
never_negative above size (pos n) w = refl
never_negative above size (negsuc n) w = absurd (omega arith)

way_offset : (z : ℤ) → Within 32768 32767 z → way z ≡ offset (twos 65536 z)
unfolding offset
way_offset (pos n) w = rw (lt-ltb n 32768 (omega arith)) refl
way_offset (negsuc n) w =
    let e : 65536 - (65536 - suc n) ≡ suc n = omega arith in
    rw (le-ltb (65536 - suc n) 32768 (omega arith)) (ap back (sym e))

-- ---- lines that have a word

module _ (labels : List ℕ → Option ℕ) (dot : ℕ) where
  -- fields that are allowed, and say what the line says
  record Coded (i : Instruction) (f : Fields) : Type 0 where
    allowed : Allowed f.op f.a f.b f.low
    means : Means labels dot i (words.instruction f.op f.a f.b f.low)

  constant_coded : (e : Expr) (r n : ℕ) → r < 16 → immediate labels dot e ≡ is n → Coded (constant e r) (fields (opcode Const) r 0 n)
  unfolding row
  constant_coded e r n h v =
      let x = (field_is labels dot 0 65535 65536 e n).0 v in
      let small = twos_small 0 65535 65536 (plain_e labels dot e) (omega arith) x.1.1 in
      let same = x.2 in
      record {
        allowed = allows (opcode Const) r 0 n (uses 15 0 65535) refl (omega arith) (omega arith) (omega arith) (omega arith);
        means = (n, never_negative 65535 65536 (plain_e labels dot e) x.1.1 ∙ ap pos same, refl);
      }

  branch_coded : (a : ℕ) (e : Expr) (n : ℕ) → a < 16 → displacement labels dot e ≡ is n → Coded (branching a e) (fields (opcode Bnz) a 0 n)
  unfolding row
  branch_coded a e n h v =
      let x = (field_is labels dot 32768 32767 65536 e n).0 v in
      let small = twos_small 32768 32767 65536 (plain_e labels dot e) (omega arith) x.1.1 in
      let same = x.2 in
      record {
        allowed = allows (opcode Bnz) a 0 n (uses 15 0 65535) refl (omega arith) (omega arith) (omega arith) (omega arith);
        means = (n, way_offset (plain_e labels dot e) x.1.1 ∙ ap offset same, refl);
      }

  -- what comes after a value is there, so the value was
  was : {A B : Type 0} (f : A → B) (v : Valued A) (b : B) → after (λ a. is (f a)) v ≡ is b → (a : A) × (v ≡ is a) × (f a ≡ b)
  was f (is a) b h = (a, refl, cc)
  was f unknown b h = let z : ◌≡◌ {A = ℕ} 0 1 = cc in absurd (omega arith)
  was f outside b h = let z : ◌≡◌ {A = ℕ} 0 1 = cc in absurd (omega arith)

  coded : (i : Instruction) → Registers i → (f : Fields) → fields_of labels dot i ≡ is f → Coded i f
  unfolding row
  coded nop r f e =
      subst (Coded nop) (cc) (record { allowed = allows (opcode Nop) 0 0 0 (uses 0 0 0) refl (omega arith) (omega arith) (omega arith) (omega arith); means = refl })
  coded halt r f e =
      subst (Coded halt) (cc) (record { allowed = allows (opcode Halt) 0 0 0 (uses 0 0 0) refl (omega arith) (omega arith) (omega arith) (omega arith); means = refl })
  coded (constant x a) r f e =
      let w = was (λ n. fields (opcode Const) a 0 n) (immediate labels dot x) f e in subst (Coded (constant x a)) w.2 (constant_coded x a w.0 r w.1)
  coded (moving k a b) r f e =
      let t = row_two k in
      subst (Coded (moving k a b)) (cc) (record { allowed = allows (opcode (two k)) a b 0 (uses 15 15 0) t.0 t.1 (omega arith) (omega arith) (omega arith); means = refl })
  coded (computing k a b c) r f e =
      let t = row_three k in
      subst (Coded (computing k a b c)) (cc) (record { allowed = allows (opcode (three k)) a b c (uses 15 15 15) t.0 t.1 (omega arith) (omega arith) (omega arith); means = refl })
  coded (jumping k a) r f e =
      let t = row_one k in
      subst (Coded (jumping k a)) (cc) (record { allowed = allows (opcode (one k)) a 0 0 (uses 15 0 0) t.0 t.1 (omega arith) (omega arith) (omega arith); means = refl })
  coded (branching a x) r f e =
      let w = was (λ n. fields (opcode Bnz) a 0 n) (displacement labels dot x) f e in subst (Coded (branching a x)) w.2 (branch_coded a x w.0 r w.1)

  -- the fields of an instruction whose registers are among the sixteen
  pub fields_allowed : (i : Instruction) → Registers i → (f : Fields) → fields_of labels dot i ≡ is f → Allowed f.op f.a f.b f.low
  fields_allowed i r f e = (coded i r f e).allowed

  -- "the image decodes to what the text says"
  pub record Decodes (i : Instruction) (w : ℕ) : Type 0 where
    pub valued : Fields
    pub are : fields_of labels dot i ≡ is valued
    pub decoded : decode w ≡ words.instruction valued.op valued.a valued.b valued.low
    pub means : Means labels dot i (decode w)
    pub small : w < 2 ^ 32

  -- an instruction's word decodes to its opcode and its fields as valued
  pub instruction_decodes : (i : Instruction) → Registers i → (w : ℕ) → instruction_word labels dot i ≡ is w → Decodes i w
  instruction_decodes i r w h =
      let x = was word_of (fields_of labels dot i) w h in
      let f = x.0 in
      let c = coded i r f x.1 in
      let d : decode w ≡ words.instruction f.op f.a f.b f.low = ap decode (sym x.2) ∙ decode_pack f.op f.a f.b f.low c.allowed in
      record {
        valued = f;
        are = x.1;
        decoded = d;
        means = subst (Means labels dot i) (sym d) c.means;
        small = subst (λ (n : ℕ). n < 2 ^ 32) x.2 (pack_small f.op f.a f.b f.low c.allowed);
      }

  -- a data line's word is its plain value
  pub datum_is : (e : Expr) (w : ℕ) → datum labels dot e ≡ is w → (plain_e labels dot e ≡ pos w) × (w < 2 ^ 32)
  datum_is e w h =
      let x = (field_is labels dot 0 4294967295 4294967296 e w).0 h in
      let small = twos_small 0 4294967295 4294967296 (plain_e labels dot e) (omega arith) x.1.1 in
      let same = x.2 in
      (never_negative 4294967295 4294967296 (plain_e labels dot e) x.1.1 ∙ ap pos same, omega arith)
