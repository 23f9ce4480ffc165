-- The code tests all unused bits at once, by a mask: that says what the rules' table of largest values says.
use Rattle.std.specs.Prelude.{◌≡◌, refl, Bool, true, false, ◌&&◌, ℕ, ◌+◌, ◌-◌, ◌*◌, ◌%◌, ◌^◌, ◌≤◌, ◌<◌, leb, eqb}
use Rattle.std.proofs.Common.{sym, ap, ◌∙◌, arith, mod-lt, mod-eq_of_lt, pow_pos}
use borrow.Author.Tests.{leb-true, eqb-true, lt-ltb, le-ltb, le-leb, eq-eqb}
use Rattle.std.specs.Int.Bits.{bit_and}
use Rattle.std.proofs.lemmas.Nat.{and_mask, and_block, and_le_l}
use Rattle.common.specs.Answers as answer
use Rattle.common.proofs.Laws.Tests.{both, bool_ext}
use Rattle.common.specs.Words.{row, allowed, op_of, a_of, b_of, low_of, Decoded, instruction, none, decode}
use Rattle.common.proofs.Laws.WordLaws.{nibble, half_word, row_full, row_high, row_small}

-- the bits that an opcode uses: the largest value of each field, in the field's place
unfoldable pub used_of : ℕ → ℕ
used_of op = (row op).a * 1048576 + ((row op).b * 65536 + (row op).low)

pub used_high : (op : ℕ) → 14 ≤ op → 0 ≡ used_of op
unfolding used_of
used_high op h = simp (row_high op h)

-- ---- a mask of ones is a largest value

ones_mask : (j x : ℕ) → eqb (bit_and x (2 ^ j - 1)) x ≡ leb x (2 ^ j - 1)
ones_mask j x =
    ap (λ (y : ℕ). eqb y x) (and_mask x j)
    ∙ bool_ext (eqb (x % 2 ^ j) x) (leb x (2 ^ j - 1))
    (λ h. let e = eqb-true (x % 2 ^ j) x h in let l = mod-lt x (pow_pos j) in le-leb x (2 ^ j - 1) (omega arith))
    (λ h. let l = leb-true x (2 ^ j - 1) h in let p = pow_pos j in eq-eqb (x % 2 ^ j) x (mod-eq_of_lt (omega arith)))

nibble_mask : (m x : ℕ) → nibble m ≡ true → eqb (bit_and x m) x ≡ leb x m
nibble_mask m x h = go (eqb m 0) refl
  where
    go : (t : Bool) → eqb m 0 ≡ t → eqb (bit_and x m) x ≡ leb x m
    go true e = simp (eqb-true m 0 e) (ones_mask 0 x)
    go false e = simp (eqb-true m 15 (simp e at h)) (ones_mask 4 x)

half_word_mask : (m x : ℕ) → half_word m ≡ true → eqb (bit_and x m) x ≡ leb x m
half_word_mask m x h = go (nibble m) refl
  where
    go : (t : Bool) → nibble m ≡ t → eqb (bit_and x m) x ≡ leb x m
    go true e = nibble_mask m x e
    go false e = simp (eqb-true m 65535 (simp e at h)) (ones_mask 16 x)

-- ---- three fields side by side

-- a field of 4 bits, one of 4 and one of 16 are equal together when each is
fields_equal : (x y z p q r : ℕ) → x ≤ p → y ≤ q → z ≤ r → q < 16 → r < 65536
    → eqb (x * 1048576 + (y * 65536 + z)) (p * 1048576 + (q * 65536 + r)) ≡ (eqb x p && eqb y q && eqb z r)
fields_equal x y z p q r hx hy hz hq hr =
    bool_ext (eqb (x * 1048576 + (y * 65536 + z)) (p * 1048576 + (q * 65536 + r))) (eqb x p && eqb y q && eqb z r)
    (λ h.
    let e = eqb-true (x * 1048576 + (y * 65536 + z)) (p * 1048576 + (q * 65536 + r)) h in
    let ex : x ≡ p = omega arith in
    let ey : y ≡ q = omega arith in
    let ez : z ≡ r = omega arith in
    simp (eq-eqb x p ex, eq-eqb y q ey, eq-eqb z r ez))
    (λ h.
    let t = both (eqb x p && eqb y q) (eqb z r) h in
    let u = both (eqb x p) (eqb y q) t.0 in
    let ex = eqb-true x p u.0 in
    let ey = eqb-true y q u.1 in
    let ez = eqb-true z r t.1 in
    eq-eqb (x * 1048576 + (y * 65536 + z)) (p * 1048576 + (q * 65536 + r)) (omega arith))

mask_fields : (x y z p q r : ℕ) → y < 16 → z < 65536 → q < 16 → r < 65536
    → bit_and (x * 1048576 + (y * 65536 + z)) (p * 1048576 + (q * 65536 + r)) ≡ bit_and x p * 1048576 + (bit_and y q * 65536 + bit_and z r)
mask_fields x y z p q r hy hz hq hr =
    and_block 20 x p (y * 65536 + z) (q * 65536 + r) (omega arith) (omega arith)
    ∙ ap (λ (k : ℕ). bit_and x p * 1048576 + k) (and_block 16 y q z r hz hr)

-- ---- the code's test

-- no bit below the opcode is set that an opcode leaves unused
unfoldable pub fits_in : ℕ → ℕ → Bool
fits_in word op = eqb (bit_and (word % 16777216) (used_of op)) (word % 16777216)

-- no unused bit is set when no field is above its largest value
pub mask_allowed : (word : ℕ) → op_of word < 14 → fits_in word (op_of word) ≡ allowed (op_of word) (a_of word) (b_of word) (low_of word)
unfolding used_of allowed fits_in
mask_allowed word h =
    let small = row_small (op_of word) in
    let f = both (nibble (row (op_of word)).a && nibble (row (op_of word)).b) (half_word (row (op_of word)).low) (row_full (op_of word)) in
    let g = both (nibble (row (op_of word)).a) (nibble (row (op_of word)).b) f.0 in
    let split : word % 16777216 ≡ a_of word * 1048576 + (b_of word * 65536 + low_of word) = omega arith in
    let lb : b_of word < 16 = omega arith in
    let ll : low_of word < 65536 = omega arith in
    let m = mask_fields (a_of word) (b_of word) (low_of word) (row (op_of word)).a (row (op_of word)).b (row (op_of word)).low lb ll (omega arith) (omega arith) in
    let e = fields_equal (bit_and (a_of word) (row (op_of word)).a) (bit_and (b_of word) (row (op_of word)).b) (bit_and (low_of word) (row (op_of word)).low) (a_of word) (b_of word) (low_of word) (and_le_l _ _) (and_le_l _ _) (and_le_l _ _) lb ll in
    simp (split, m, e, nibble_mask (row (op_of word)).a (a_of word) g.0, nibble_mask (row (op_of word)).b (b_of word) g.1, half_word_mask (row (op_of word)).low (low_of word) f.1, lt-ltb (op_of word) 14 h)

-- ---- what a word decodes to, by the test

-- the opcode and the fields as they stand
abbrev pub fields_of : ℕ → Decoded
fields_of word = instruction (op_of word) (a_of word) (b_of word) (low_of word)

module _ (word k : ℕ) (h : op_of word ≡ k) (l : k < 14) where
  asked : fits_in word k ≡ allowed (op_of word) (a_of word) (b_of word) (low_of word)
  asked = ap (fits_in word) (sym h) ∙ mask_allowed word (omega arith)

  pub decode_fields : fits_in word k ≡ true → decode word ≡ fields_of word
  unfolding decode
  decode_fields e = simp (← asked, e)

  pub decode_stray : fits_in word k ≡ false → decode word ≡ none answer.stray_bit
  unfolding decode
  decode_stray e = simp (← asked, e, lt-ltb (op_of word) 14 (omega arith))

pub op_high : (word : ℕ) → 14 ≤ op_of word → false ≡ allowed (op_of word) (a_of word) (b_of word) (low_of word)
unfolding allowed
op_high word h = simp (le-ltb (op_of word) 14 h)

pub decode_high : (word : ℕ) → 14 ≤ op_of word → decode word ≡ none answer.no_instruction
unfolding decode
decode_high word h = simp (← op_high word h, le-ltb (op_of word) 14 h)
