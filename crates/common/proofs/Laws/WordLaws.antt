-- Laws of instruction words: each number exactly on its condition, and both round trips.
use Rattle.std.specs.Prelude.{◌≡◌, refl, Bool, true, false, cond, ◌&&◌, ◌||◌, List, [], ◌∷◌, ◌↔◌, ℕ, zero, suc, ◌≤◌, ◌<◌, ltb, leb, eqb, get_or}
use Rattle.std.proofs.Common.{arith, ltb-true, ltb-false, leb-true, leb-false, eqb-true, lt-ltb, le-ltb, le-leb}
use Rattle.std.proofs.Math.ListN.{get_or-eq_default}
use Rattle.common.specs.Answers as answer
use Rattle.common.specs.Opcodes as is
use Rattle.common.proofs.Laws.Tests.{both}
use Rattle.common.specs.Words.{Row, table, uses, row, allowed, op_of, a_of, b_of, low_of, pack, Decoded, instruction, none, decode, Encoded, encode}

-- ---- the table's rule, by one test over all its rows

abbrev every : (Row → Bool) → List Row → Bool
every test [] = true
every test (r ∷ rs) = test r && every test rs

at : (test : Row → Bool) (rs : List Row) (d : Row) → test d ≡ true → every test rs ≡ true → (i : ℕ) → test (get_or rs i d) ≡ true
at test [] d hd h i = hd
at test (r ∷ rs) d hd h zero = (both (test r) (every test rs) h).0
at test (r ∷ rs) d hd h (suc i) = at test rs d hd (both (test r) (every test rs) h).1 i

-- the largest value of a field is 0, or all ones of its 4 or 16 bits
abbrev pub nibble : ℕ → Bool
nibble m = eqb m 0 || eqb m 15

abbrev pub half_word : ℕ → Bool
half_word m = nibble m || eqb m 65535

abbrev full : Row → Bool
full r = nibble r.a && nibble r.b && half_word r.low

pub row_full : (op : ℕ) → full (row op) ≡ true
unfolding row
row_full op = at full table (uses 0 0 0) refl refl op

pub row_high : (op : ℕ) → 14 ≤ op → row op ≡ uses 0 0 0
unfolding row
row_high op h = get_or-eq_default table (uses 0 0 0) h

-- a and b take 4 bits, low 16
pub record Small (r : Row) : Type 0 where
  pub a : r.a ≤ 15
  pub b : r.b ≤ 15
  pub low : r.low ≤ 65535

nibble_most : (m : ℕ) → nibble m ≡ true → m ≤ 15
nibble_most m h = go (eqb m 0) refl
  where
    go : (t : Bool) → eqb m 0 ≡ t → m ≤ 15
    go true e = let z = eqb-true m 0 e in omega arith
    go false e = let z = eqb-true m 15 (simp e at h) in omega arith

half_word_most : (m : ℕ) → half_word m ≡ true → m ≤ 65535
half_word_most m h = go (nibble m) refl
  where
    go : (t : Bool) → nibble m ≡ t → m ≤ 65535
    go true e = let z = nibble_most m e in omega arith
    go false e = let z = eqb-true m 65535 (simp e at h) in omega arith

pub row_small : (op : ℕ) → Small (row op)
row_small op =
    let x = both (nibble (row op).a && nibble (row op).b) _ (row_full op) in
    let y = both (nibble (row op).a) _ x.0 in
    record { a = nibble_most _ y.0; b = nibble_most _ y.1; low = half_word_most _ x.1 }

-- ---- what an allowed instruction is, as orders

pub record Allowed (op a b low : ℕ) : Type 0 where
  pub known : op < is.count
  pub a_most : a ≤ (row op).a
  pub b_most : b ≤ (row op).b
  pub low_most : low ≤ (row op).low
  pub a_small : a < 16
  pub b_small : b < 16
  pub low_small : low < 65536

pub is_allowed : (op a b low : ℕ) → allowed op a b low ≡ true → Allowed op a b low
unfolding allowed
is_allowed op a b low h =
    let x = both (ltb op is.count && leb a (row op).a && leb b (row op).b) _ h in
    let y = both (ltb op is.count && leb a (row op).a) _ x.0 in
    let z = both (ltb op is.count) _ y.0 in
    let small = row_small op in
    let ha : a ≤ (row op).a = leb-true _ _ z.1 in
    let hb : b ≤ (row op).b = leb-true _ _ y.1 in
    let hl : low ≤ (row op).low = leb-true _ _ x.1 in
    record {
      known = ltb-true _ _ z.0;
      a_most = ha;
      b_most = hb;
      low_most = hl;
      a_small = omega arith;
      b_small = omega arith;
      low_small = omega arith;
    }

pub allowed_is : (op a b low : ℕ) → Allowed op a b low → allowed op a b low ≡ true
unfolding allowed
allowed_is op a b low w = simp (lt-ltb _ _ w.known, le-leb _ _ w.a_most, le-leb _ _ w.b_most, le-leb _ _ w.low_most)

-- "a field out of range, or an unused field not 0", the largest value of an unused field being 0: of a word, an unused bit set
pub data Above (op a b low : ℕ) : Type 0 where
  a_above : (row op).a < a → Above op a b low
  b_above : (row op).b < b → Above op a b low
  low_above : (row op).low < low → Above op a b low

-- "opcode above 13, a field out of range, or an unused field not 0"
pub data Outside (op a b low : ℕ) : Type 0 where
  unknown : 13 < op → Outside op a b low
  above : Above op a b low → Outside op a b low

is_outside : (op a b low : ℕ) → allowed op a b low ≡ false → Outside op a b low
unfolding allowed
is_outside op a b low h = go (ltb op is.count) (leb a (row op).a) (leb b (row op).b) refl refl refl
  where
    go : (x y z : Bool) → ltb op is.count ≡ x → leb a (row op).a ≡ y → leb b (row op).b ≡ z → Outside op a b low
    go false y z e f g = unknown (ltb-false _ _ e)
    go true false z e f g = above (a_above (leb-false _ _ f))
    go true true false e f g = above (b_above (leb-false _ _ g))
    go true true true e f g = above (low_above (leb-false _ _ (simp (e, f, g) at h)))

outside_not : (op a b low : ℕ) → Outside op a b low → Allowed op a b low → ⊥
outside_not op a b low (unknown h) w = let k = w.known in omega arith
outside_not op a b low (above (a_above h)) w = let k = w.a_most in omega arith
outside_not op a b low (above (b_above h)) w = let k = w.b_most in omega arith
outside_not op a b low (above (low_above h)) w = let k = w.low_most in omega arith

outside_refused : (op a b low : ℕ) → Outside op a b low → allowed op a b low ≡ false
outside_refused op a b low o = go (allowed op a b low) refl
  where
    go : (x : Bool) → allowed op a b low ≡ x → allowed op a b low ≡ false
    go true e = absurd (outside_not op a b low o (is_allowed op a b low e))
    go false e = e

-- ---- each number exactly on its condition

-- what holds of the picked side, of a test that is known
picks {ℓ} : {A : Type ℓ} (t : Bool) (x y : A) (P : A → Type 0) → (t ≡ true → P x) → (t ≡ false → P y) → P (cond t x y)
picks true x y P f g = f refl
picks false x y P f g = g refl

-- what holds of a decoded word: of an instruction, of an unknown opcode, of a stray bit
decodes : (word : ℕ) (P : Decoded → Type 0) → (Allowed (op_of word) (a_of word) (b_of word) (low_of word) → P (instruction (op_of word) (a_of word) (b_of word) (low_of word)))
    → (13 < op_of word → P (none answer.no_instruction)) → (op_of word < is.count → Above (op_of word) (a_of word) (b_of word) (low_of word) → P (none answer.stray_bit))
    → P (decode word)
unfolding decode
decodes word P f g h =
    picks (allowed (op_of word) (a_of word) (b_of word) (low_of word)) _ _ P (λ e. f (is_allowed _ _ _ _ e))
    (λ e. picks (ltb (op_of word) is.count) answer.stray_bit answer.no_instruction (λ (k : ℕ). P (none k))
    (λ l. h (ltb-true _ _ l) (stray (ltb-true _ _ l) (is_outside _ _ _ _ e))) (λ l. g (ltb-false _ _ l)))
  where
    stray : op_of word < is.count → Outside (op_of word) (a_of word) (b_of word) (low_of word) → Above (op_of word) (a_of word) (b_of word) (low_of word)
    stray l (unknown k) = absurd (omega arith)
    stray l (above k) = k

-- "3 is the unknown opcode", whatever the other bits
pub decode_3 : (word : ℕ) → ((decode word).answer ≡ answer.no_instruction) ↔ (13 < op_of word)
unfolding decode
decode_3 word = (
  decodes word (λ (d : Decoded). d.answer ≡ 3 → 13 < op_of word) (λ w h. let z : ◌≡◌ {A = ℕ} 0 3 = h in absurd (omega arith)) (λ l h. l)
      (λ l k h. let z : ◌≡◌ {A = ℕ} 16 3 = h in absurd (omega arith)),
  λ l. simp (outside_refused (op_of word) (a_of word) (b_of word) (low_of word) (unknown l), le-ltb (op_of word) is.count l),
)

-- "16 the stray bit": a known opcode with an unused bit set
pub decode_16 : (word : ℕ) → ((decode word).answer ≡ answer.stray_bit) ↔ ((op_of word < is.count) × Above (op_of word) (a_of word) (b_of word) (low_of word))
unfolding decode
decode_16 word = (
  decodes word (λ (d : Decoded). d.answer ≡ 16 → (op_of word < is.count) × Above (op_of word) (a_of word) (b_of word) (low_of word))
      (λ w h. let z : ◌≡◌ {A = ℕ} 0 16 = h in absurd (omega arith)) (λ l h. let z : ◌≡◌ {A = ℕ} 3 16 = h in absurd (omega arith)) (λ l k h. (l, k)),
  λ o. simp (outside_refused (op_of word) (a_of word) (b_of word) (low_of word) (above o.1), lt-ltb (op_of word) is.count o.0),
)

pub encode_30 : (op a b low : ℕ) → ((encode op a b low).answer ≡ answer.no_word) ↔ Outside op a b low
unfolding encode
encode_30 op a b low = (
  picks (allowed op a b low) (record { answer = 0; word = pack op a b low }) (record { answer = 30; word = 0 })
      (λ (d : Encoded). d.answer ≡ 30 → Outside op a b low)
      (λ e h. let z : ◌≡◌ {A = ℕ} 0 30 = h in absurd (omega arith)) (λ e h. is_outside op a b low e),
  λ o. simp (outside_refused op a b low o),
)

-- a decoder that answers neither 3 nor 16 answers 0, and so with the encoder's 30
pub decode_0 : (word : ℕ) → ((decode word).answer ≡ answer.done) ↔ Allowed (op_of word) (a_of word) (b_of word) (low_of word)
unfolding decode
decode_0 word = (
  decodes word (λ (d : Decoded). d.answer ≡ 0 → Allowed (op_of word) (a_of word) (b_of word) (low_of word)) (λ w h. w)
      (λ l h. let z : ◌≡◌ {A = ℕ} 3 0 = h in absurd (omega arith)) (λ l k h. let z : ◌≡◌ {A = ℕ} 16 0 = h in absurd (omega arith)),
  λ w. simp (allowed_is _ _ _ _ w),
)

-- no other number arises
pub data Decodes (k : ℕ) : Type 0 where
  runs : k ≡ answer.done → Decodes k
  unknown_opcode : k ≡ answer.no_instruction → Decodes k
  stray : k ≡ answer.stray_bit → Decodes k

pub decode_answers : (word : ℕ) → Decodes (decode word).answer
decode_answers word = decodes word (λ (d : Decoded). Decodes d.answer) (λ w. runs refl) (λ l. unknown_opcode refl) (λ l k. stray refl)

pub encode_0 : (op a b low : ℕ) → ((encode op a b low).answer ≡ answer.done) ↔ Allowed op a b low
unfolding encode
encode_0 op a b low = (
  picks (allowed op a b low) (record { answer = 0; word = pack op a b low }) (record { answer = 30; word = 0 })
      (λ (d : Encoded). d.answer ≡ 0 → Allowed op a b low)
      (λ e h. is_allowed op a b low e) (λ e h. let z : ◌≡◌ {A = ℕ} 30 0 = h in absurd (omega arith)),
  λ w. simp (allowed_is op a b low w),
)

-- the refusals, whole
pub decode_refused : (word : ℕ) → ((decode word).answer ≡ answer.done → ⊥) → decode word ≡ none (decode word).answer
decode_refused word =
    decodes word (λ (d : Decoded). (d.answer ≡ answer.done → ⊥) → d ≡ none d.answer) (λ w n. absurd (n refl)) (λ l n. refl) (λ l k n. refl)

pub encode_refused : (op a b low : ℕ) → (encode op a b low).answer ≡ answer.no_word → encode op a b low ≡ record { answer = answer.no_word; word = 0 }
unfolding encode
encode_refused op a b low h = simp (outside_refused _ _ _ _ ((encode_30 op a b low).0 h))

-- ---- both round trips

-- what was encoded decodes to what was meant
pub read_back : (op a b low : ℕ) → (encode op a b low).answer ≡ answer.done → decode (encode op a b low).word ≡ instruction op a b low
unfolding decode encode
read_back op a b low h =
    let w = (encode_0 op a b low).0 h in
    let e = allowed_is op a b low w in
    let e1 : op_of (pack op a b low) ≡ op = omega arith in
    let e2 : a_of (pack op a b low) ≡ a = omega arith in
    let e3 : b_of (pack op a b low) ≡ b = omega arith in
    let e4 : low_of (pack op a b low) ≡ low = omega arith in
    simp (e, e1, e2, e3, e4)

-- a word that decodes encodes to the same word
pub written_again : (word : ℕ) → (decode word).answer ≡ answer.done
    → encode (decode word).op (decode word).a (decode word).b (decode word).low ≡ record { answer = answer.done; word = word }
unfolding decode encode
written_again word h =
    let e = allowed_is _ _ _ _ ((decode_0 word).0 h) in
    let r : pack (op_of word) (a_of word) (b_of word) (low_of word) ≡ word = omega arith in
    simp (e, r)

-- the fields that a decoder gives are in range, also where it refuses
pub decoded_small : (word : ℕ) → ((decode word).op < is.count) × ((decode word).a < 16) × ((decode word).b < 16) × ((decode word).low < 65536)
unfolding decode
decoded_small word =
    decodes word (λ (d : Decoded). (d.op < is.count) × (d.a < 16) × (d.b < 16) × (d.low < 65536))
    (λ w. (w.known, w.a_small, w.b_small, w.low_small)) (λ l. (omega arith, omega arith, omega arith, omega arith))
    (λ l k. (omega arith, omega arith, omega arith, omega arith))

-- ---- the low 16 bits of an arithmetic instruction are a register

arithmetic_row : (op : ℕ) → is.add ≤ op → op ≤ is.leq → (row op).low ≤ 15
unfolding row
arithmetic_row zero h k = absurd (omega arith)
arithmetic_row (suc zero) h k = absurd (omega arith)
arithmetic_row (suc (suc zero)) h k = absurd (omega arith)
arithmetic_row (suc (suc (suc zero))) h k = omega arith
arithmetic_row (suc (suc (suc (suc zero)))) h k = omega arith
arithmetic_row (suc (suc (suc (suc (suc zero))))) h k = omega arith
arithmetic_row (suc (suc (suc (suc (suc (suc zero)))))) h k = omega arith
arithmetic_row (suc (suc (suc (suc (suc (suc (suc zero))))))) h k = omega arith
arithmetic_row (suc (suc (suc (suc (suc (suc (suc (suc op)))))))) h k = absurd (omega arith)

pub rd_small : (word : ℕ) → (decode word).answer ≡ answer.done → is.add ≤ (decode word).op → (decode word).op ≤ is.leq → (decode word).low < 16
unfolding decode
rd_small word h =
    let w = (decode_0 word).0 h in
    let m = w.low_most in
    simp (allowed_is _ _ _ _ w) (λ k l. let r = arithmetic_row (op_of word) k l in omega arith)
