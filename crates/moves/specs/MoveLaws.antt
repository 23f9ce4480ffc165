-- The cases of a decision, each in the form in which the code comes to it.
use Rattle.std.specs.Prelude.{◌≡◌, ℕ, ◌%◌, ◌<◌, ◌≤◌, Bool, true, false, not, ◌&&◌, ◌≢◌, List, ◌==◌, nat_lt, slice_index, refl}
use Rattle.std.proofs.Common.{sym, ap, ◌∙◌}
use Rattle.std.proofs.Math.Path.{subst⁻¹}
use Rattle.std.proofs.Math.Bool.{or-true}
use native.Mathlib.Omega.{arith}
use borrow.Author.Tests.{ltb-true, ltb-false, le-leb, eq-eqb, ne_eqb, not-true, not-false}
use Rattle.common.specs.Answers as answer
use Rattle.common.proofs.Laws.Tests.{NoneOf, past}
use Rattle.common.specs.Words.{Decoded, none as no_word, decode, op_of, a_of, b_of, low_of}
use Rattle.common.proofs.Laws.WordLaws.{rd_small as register}
use Rattle.common.specs.Instructions.{plus, arithmetic}
use Rattle.rules.specs.Compartments.{member}
use Rattle.rights.specs.Rights.{free}
use Rattle.rights.specs.Arrivals as at
use Rattle.instructions.specs.declared.Instruction.{Instruction}
use Rattle.instructions.specs.Masks.{fits_in, fields_of, decode_fields, decode_stray, decode_high}
use Rattle.instructions.specs.Views.{standing}
use Rattle.moves.specs.declared.Move.{Move}
use Rattle.moves.specs.Moves as is

-- ---- one law for each arm: i is decoded; on is pc + 1, x and y the registers that it names
module _ (i : Decoded) (regs : List ℕ) (pc owner : ℕ) (strict : Bool) (n : ℕ) (words owners writers readers : List ℕ) (m : Move) where
  abbrev Is : Type 0
  Is = m ≡ is.instruction_move i regs pc owner strict n words owners writers readers

  abbrev X : ℕ → Type 0
  X x = x ≡ slice_index regs i.a

  abbrev Y : ℕ → Type 0
  Y y = y ≡ slice_index regs i.b

  abbrev On : ℕ → Type 0
  On on = on ≡ plus pc 1

  pub nop : i.op ≡ 0 → (on : ℕ) → On on → m ≡ is.goes owner on → Is
  unfolding is.instruction_move
  nop h on eo e = simp (h, e, eo)

  pub const : i.op ≡ 1 → (on : ℕ) → On on → m ≡ is.puts owner on i.a i.low → Is
  unfolding is.instruction_move
  const h on eo e = simp (h, e, eo)

  pub mov : i.op ≡ 2 → (on : ℕ) → On on → (x : ℕ) → X x → m ≡ is.puts owner on i.b x → Is
  unfolding is.instruction_move
  mov h on eo x ex e = simp (h, e, eo, ex)

  pub load : i.op ≡ 8 → (on : ℕ) → On on → (x : ℕ) → X x → m ≡ is.load_move owner on i.b x strict n words owners readers → Is
  unfolding is.instruction_move
  load h on eo x ex e = simp (h, e, eo, ex)

  pub store : i.op ≡ 9 → (on : ℕ) → On on → (x : ℕ) → X x → (y : ℕ) → Y y → m ≡ is.store_move owner on x y n owners writers → Is
  unfolding is.instruction_move
  store h on eo x ex y ey e = simp (h, e, eo, ex, ey)

  pub jump : i.op ≡ 10 → (x : ℕ) → X x → m ≡ is.leaps owner x is.no_register 0 → Is
  unfolding is.instruction_move
  jump h x ex e = simp (h, e, ex)

  pub jal : i.op ≡ 11 → (x : ℕ) → X x → (on : ℕ) → On on → m ≡ is.leaps owner x 15 on → Is
  unfolding is.instruction_move
  jal h x ex on eo e = simp (h, e, eo, ex)

  pub bnz : i.op ≡ 12 → (x : ℕ) → X x → m ≡ is.bnz_move owner (plus pc 1) pc i.low x → Is
  unfolding is.instruction_move
  bnz h x ex e = simp (h, e, ex)

  pub halt : i.op ≡ 13 → m ≡ is.stop answer.halt owner → Is
  unfolding is.instruction_move
  halt h e = simp (h, e)

  -- the five arithmetic ones
  pub five : 3 ≤ i.op → i.op < 8 → i.low < 16 → (on : ℕ) → On on → (x : ℕ) → X x → (y : ℕ) → Y y → (v : ℕ) → v ≡ arithmetic i.op x y
      → m ≡ is.puts owner on (i.low % 16) v → Is
  unfolding is.instruction_move
  five h k l on eo x ex y ey v ev e =
      let r : i.low % 16 ≡ i.low = omega arith in
      let a : i.op ≢ 1 = λ z. omega arith in
      let b : i.op ≢ 2 = λ z. omega arith in
      simp (ne_eqb i.op 1 a, ne_eqb i.op 2 b, le-leb 3 i.op h, le-leb i.op 7 (omega arith), e, ev, eo, ex, ey, r)

-- an opcode that is none of those that have an arm
no_arm : (o : ℕ) → (3 ≤ o → o < 8 → ⊥) → NoneOf 3 o → o ≢ 8 → o ≢ 9 → o ≢ 10 → o ≢ 11 → o ≢ 12 → o ≢ 13 → 14 ≤ o
no_arm o h k a b c d e f = late o (not_below (nat_lt o 8) refl) a b c d e f
  where
    low : 3 ≤ o
    low = past 3 o k

    not_below : (t : Bool) → nat_lt o 8 ≡ t → 8 ≤ o
    not_below true z = absurd (h low (ltb-true o 8 z))
    not_below false z = ltb-false o 8 z

    late : (o : ℕ) → 8 ≤ o → o ≢ 8 → o ≢ 9 → o ≢ 10 → o ≢ 11 → o ≢ 12 → o ≢ 13 → 14 ≤ o
    late o h a b c d e f = omega arith

-- ---- from the fields of a word to the word

module _ (regs : List ℕ) (pc owner : ℕ) (strict : Bool) (n : ℕ) (words owners writers readers : List ℕ) where
  abbrev move : Decoded → Move
  move d = is.word_move d regs pc owner strict n words owners writers readers

  taken : (d : Decoded) → d.answer ≡ answer.done → is.instruction_move d regs pc owner strict n words owners writers readers ≡ move d
  unfolding is.word_move
  taken d h = simp h

  refused : (k : ℕ) → (k == answer.done) ≡ false → is.stop k owner ≡ move (no_word k)
  unfolding is.word_move
  refused k h = simp h

-- i has the word's fields as they stand
module _ (word : ℕ) (i : Instruction) (ei : standing i ≡ fields_of word) where
  is_op_lem : i.op ≡ op_of word
  is_op_lem = ap (λ (d : Decoded). d.op) ei

  pub a_small : i.a < 16
  a_small = let e : i.a ≡ a_of word = ap (λ (d : Decoded). d.a) ei in omega arith

  pub b_small : i.b < 16
  b_small = let e : i.b ≡ b_of word = ap (λ (d : Decoded). d.b) ei in omega arith

  pub low_small : i.low < 65536
  low_small = let e : i.low ≡ low_of word = ap (λ (d : Decoded). d.low) ei in omega arith

  pub not_five : (3 ≤ i.op → i.op < 8 → ⊥) → 3 ≤ op_of word → op_of word < 8 → ⊥
  not_five f h k = let e = is_op_lem in f (omega arith) (omega arith)

  -- an arm k: t is its test
  module _ (k : ℕ) (ek : i.op ≡ k) (l : k < 14) (t : Bool) (et : t ≡ fits_in word k) where
    whole : t ≡ true → standing i ≡ decode word
    whole h = ei ∙ sym (decode_fields word k (sym is_op_lem ∙ ek) l (sym et ∙ h))

    -- an arithmetic word that fits names its register by the low 16 bits
    pub rd_small : t ≡ true → 3 ≤ i.op → i.op < 8 → i.low < 16
    rd_small h a b =
        let done : (decode word).answer ≡ answer.done = ap (λ (d : Decoded). d.answer) (sym (whole h) ∙ ei) in
        subst⁻¹ (λ (d : Decoded). 3 ≤ d.op → d.op ≤ 7 → d.low < 16) (whole h) (register word done) a (omega arith)

    module _ (regs : List ℕ) (pc owner : ℕ) (strict : Bool) (n : ℕ) (words owners writers readers : List ℕ) (m : Move) where
      pub fits : t ≡ true → m ≡ is.instruction_move (standing i) regs pc owner strict n words owners writers readers
          → m ≡ is.word_move (decode word) regs pc owner strict n words owners writers readers
      fits h e = e ∙ taken regs pc owner strict n words owners writers readers (standing i) (ap (λ (d : Decoded). d.answer) ei) ∙ ap (move regs pc owner strict n words owners writers readers) (whole h)

      pub stray : t ≡ false → m ≡ is.stop answer.stray_bit owner → m ≡ is.word_move (decode word) regs pc owner strict n words owners writers readers
      stray h e = e ∙ refused regs pc owner strict n words owners writers readers answer.stray_bit refl ∙ ap (move regs pc owner strict n words owners writers readers) (sym (decode_stray word k (sym is_op_lem ∙ ek) l (sym et ∙ h)))

  -- no arm
  pub high : (3 ≤ op_of word → op_of word < 8 → ⊥) → NoneOf 3 i.op → i.op ≢ 8 → i.op ≢ 9 → i.op ≢ 10 → i.op ≢ 11 → i.op ≢ 12 → i.op ≢ 13
      → (regs : List ℕ) (pc owner : ℕ) (strict : Bool) (n : ℕ) (words owners writers readers : List ℕ) (m : Move) → m ≡ is.stop answer.no_instruction owner
      → m ≡ is.word_move (decode word) regs pc owner strict n words owners writers readers
  high f k a b c d u v regs pc owner strict n words owners writers readers m e =
      let o = is_op_lem in
      let h : 14 ≤ i.op = no_arm i.op (λ x y. f (omega arith) (omega arith)) k a b c d u v in
      e ∙ refused regs pc owner strict n words owners writers readers answer.no_instruction refl ∙ ap (move regs pc owner strict n words owners writers readers) (sym (decode_high word (omega arith)))

-- ---- the instruction at pc: the two stops before it, the three ways to come to it
module _ (arrival : ℕ) (regs : List ℕ) (pc next : ℕ) (strict : Bool) (n : ℕ) (words owners jumpers writers readers : List ℕ) (owner : ℕ) (eo : owner ≡ slice_index owners pc) (home : Bool) (eh : home ≡ at.home arrival owner) where
  abbrev Decides : Move → Type 0
  Decides m = m ≡ is.move_from arrival regs pc next strict n words owners jumpers writers readers

  abbrev Runs : Type 0
  Runs = Decides (is.word_move (decode (slice_index words pc)) regs pc owner strict n words owners writers readers)

  away : not home ≡ true → is.move_from arrival regs pc next strict n words owners jumpers writers readers ≡ is.move_of regs pc (at.prev_of arrival) (at.jumped_of arrival) next strict n words owners jumpers writers readers
  unfolding is.move_from
  away h = simp (← eo, ← eh, not-true home h)

  pub at_home : not home ≡ false → Runs
  unfolding is.move_from
  at_home h = simp (← eo, ← eh, not-false home h)

  module _ (h : not home ≡ true) (f : Bool) (ef : f ≡ free strict owner next) where
    pub not_free : not f ≡ true → (m : Move) → m ≡ is.stop answer.bad_owner owner → Decides m
    unfolding is.move_of
    not_free hf m e = simp (away h, ← eo, ← ef, not-true f hf, e)

    module _ (hf : not f ≡ false) where
      module _ (prev : ℕ) (ep : prev ≡ at.prev_of arrival) where
        pub by_own : owner ≡ prev → Runs
        unfolding is.move_of is.arrives_at
        by_own e = simp (away h, ← eo, ← ef, not-false f hf, eq-eqb owner (at.prev_of arrival) (e ∙ ep))

        module _ (jumped : Bool) (ej : jumped ≡ at.jumped_of arrival) (set : ℕ) (es : set ≡ slice_index jumpers pc) (a : Bool) (ea : a ≡ (jumped && member set prev)) where
          pub not_come : owner ≢ prev → not a ≡ true → (m : Move) → m ≡ is.stop answer.no_arrival owner → Decides m
          unfolding is.move_of is.arrives_at
          not_come ne ha m e =
              simp (away h, ← eo, ← ef, not-false f hf, ← ep, ← ej, ne_eqb owner prev ne, ← es, ← ea, not-true a ha, e)

          pub by_jump : not a ≡ false → Runs
          unfolding is.move_of is.arrives_at
          by_jump ha = simp (away h, ← eo, ← ef, not-false f hf, ← ep, ← ej, ← es, ← ea, not-false a ha, or-true)

  pub runs : Runs → (word : ℕ) → word ≡ slice_index words pc → (m : Move) → m ≡ is.word_move (decode word) regs pc owner strict n words owners writers readers → Decides m
  runs r word ew m e = e ∙ ap (λ (w : ℕ). is.word_move (decode w) regs pc owner strict n words owners writers readers) ew ∙ r
