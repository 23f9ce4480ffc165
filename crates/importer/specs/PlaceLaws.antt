-- Places that hold bytes, as the code walks over them.
use Rattle.std.specs.Prelude.{◌≡◌, true, false, List, [], ◌∷◌, ◌++◌, map, get_or, length, set, take, drop}
use Rattle.std.proofs.Math.Path.{refl}
use Rattle.std.proofs.Common.{sym, ap, ◌∙◌, zero-add, take-suc, length-take-le, drop_of_length-le}
use Prim.Native.Nat.{ℕ, suc, ◌+◌, ◌-◌, ◌*◌, ◌<◌, ◌≤◌}
use native.Mathlib.Omega.{arith}
use borrow.Author.Tests.{lt-ltb, le-ltb, ne_eqb}
use Rattle.std.proofs.Math.ListN.{get_or-map}
use Rattle.std.proofs.lemmas.List.Edits.{sets}
use Rattle.grammar.specs.Laws.Runs.{front}
use Rattle.rules.specs.Images.{field, fields, over}
use Rattle.images.specs.Filling.{field_of, fields_more}
use Rattle.intel_hex.specs.Records.{octet, octets}
use Rattle.intel_hex.specs.Reading.{none, any_given}
use Rattle.intel_hex.specs.Importing.{past, filled}

-- ---- whether some place has its byte

module _ (m : List ℕ) (i : ℕ) where
  module _ (h : i < length m) where
    pub given_here : get_or m i 0 < none → true ≡ any_given (drop i m)
    unfolding any_given
    given_here k = rw (front m i h, lt-ltb (get_or m i 0) none k) refl

    pub given_turn : none ≤ get_or m i 0 → any_given (drop i m) ≡ any_given (drop (i + 1) m)
    unfolding any_given
    given_turn k = rw (front m i h, le-ltb (get_or m i 0) none k) refl

  pub given_ends : length m ≤ i → false ≡ any_given (drop i m)
  unfolding any_given
  given_ends h = rw (drop_of_length-le m h) refl

-- ---- a record's bytes, put one after the other

pub put_starts : (m r : List ℕ) (at n : ℕ) → sets m at (octets r 4 n) ≡ sets m (at + 0) (octets r (4 + 0) (n - 0))
put_starts m r at n =
    let p : at + 0 ≡ at = omega arith in
    let k : n - 0 ≡ n = omega arith in
    rw (p, k) refl

module _ (m r : List ℕ) (at i n : ℕ) where
  -- those that are left to put
  abbrev pub rest : List ℕ
  rest = sets m (at + i) (octets r (4 + i) (n - i))

  pub put_turn : i < n → (x : ℕ) → x ≡ octet r (4 + i) → rest ≡ sets (set m (at + i) x) (at + (i + 1)) (octets r (4 + (i + 1)) (n - (i + 1)))
  unfolding octets
  put_turn h x e =
      let k : n - i ≡ suc (n - (i + 1)) = omega arith in
      let p : at + (i + 1) ≡ suc (at + i) = omega arith in
      let q : 4 + (i + 1) ≡ suc (4 + i) = omega arith in
      rw (k, p, q, e) refl

  pub put_ends : n ≤ i → rest ≡ m
  unfolding octets
  put_ends h = let k : n - i ≡ 0 = omega arith in rw k refl

-- ---- one past the highest

past_snoc : (l : List ℕ) (x : ℕ) → x < none → past (l ++ x ∷ []) ≡ suc (length l)
unfolding past
past_snoc [] x h = rw (lt-ltb x none h) refl
past_snoc (y ∷ l) x h = let n : suc (length l) ≡ 0 → ⊥ = λ e. omega arith in rw (past_snoc l x h, ne_eqb (suc (length l)) 0 n) refl

past_gap : (l : List ℕ) (x : ℕ) → none ≤ x → past (l ++ x ∷ []) ≡ past l
unfolding past
past_gap [] x h = rw (le-ltb x none h) refl
past_gap (y ∷ l) x h = rw (past_gap l x h) refl

pub past_start : (m : List ℕ) (k : ℕ) → k ≤ 0 → 0 ≡ past (take k m)
unfolding past
past_start m k h = let z : k ≡ 0 = omega arith in rw z refl

module _ (m : List ℕ) (k : ℕ) (p : 0 < k) (h : k ≤ length m) where
  last : take k m ≡ take (k - 1) m ++ get_or m (k - 1) 0 ∷ []
  last = let e : k ≡ suc (k - 1) = omega arith in ap (λ (n : ℕ). take n m) e ∙ take-suc m (k - 1) 0 (omega arith)

  pub past_here : get_or m (k - 1) 0 < none → k ≡ past (take k m)
  past_here l =
      let n = length-take-le (k - 1) m (omega arith) in
      let s = past_snoc (take (k - 1) m) (get_or m (k - 1) 0) l in
      rw last (omega arith)

  pub past_less : none ≤ get_or m (k - 1) 0 → past (take k m) ≡ past (take (k - 1) m)
  past_less l = ap past last ∙ past_gap (take (k - 1) m) (get_or m (k - 1) 0) l

-- ---- words

module _ (m : List ℕ) where
  gap_filled : (p : ℕ) → filled (get_or m p 0) ≡ get_or (map filled m) p 0
  gap_filled p = sym (get_or-map filled m p 0)

  pub word_filled : (at b0 b1 b2 b3 w : ℕ) → b0 ≡ filled (get_or m at 0) → b1 ≡ filled (get_or m (at + 1) 0) → b2 ≡ filled (get_or m (at + 2) 0) → b3 ≡ filled (get_or m (at + 3) 0)
      → w ≡ field (b0 ∷ b1 ∷ b2 ∷ b3 ∷ []) 0
      → w ≡ field (map filled m) at
  word_filled at b0 b1 b2 b3 w e0 e1 e2 e3 e =
      rw (e0 ∙ gap_filled at, e1 ∙ gap_filled (at + 1), e2 ∙ gap_filled (at + 2), e3 ∙ gap_filled (at + 3)) at e ∙ field_of (map filled m) at

  pub word_joins : (old : List ℕ) (i w : ℕ) → i < length old → w ≡ field (map filled m) (4 * i)
      → set (over (fields (map filled m) 0 i) old) i w ≡ over (fields (map filled m) 0 (i + 1)) old
  word_joins old i w h e =
      let f : w ≡ field (map filled m) (0 + 4 * i) = e ∙ ap (field (map filled m)) (sym (zero-add (4 * i))) in
      ap (set (over (fields (map filled m) 0 i) old) i) f ∙ fields_more (map filled m) old 0 i h
