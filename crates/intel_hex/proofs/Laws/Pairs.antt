-- Pairs of digits that were written are read as the bytes they say; and a line that was written is one line.
use Rattle.std.specs.Prelude.{◌≡◌, refl, Bool, true, false, List, [], ◌∷◌, ◌++◌, ℕ, zero, suc, ◌+◌, ◌-◌, ◌*◌, ◌/◌, ◌%◌, ◌≤◌, ◌<◌, ltb, get_or, length, take, drop}
use Rattle.std.proofs.Common.{ap, ◌∙◌, arith, lt-ltb, le-leb, ltb-true, ltb-false, ne_eqb, drop-cons}
use Rattle.std.proofs.lemmas.Bool.{lt-leb}
use Rattle.numerals.specs.Bytes.{feed}
use Rattle.numerals.specs.Numerals.{glyph}
use Rattle.intel_hex.specs.Records.{line, onto, lines, return, body, digit_of, all_digits, octet, octets}
use Rattle.intel_hex.specs.Exporting.{pairs}
use Rattle.intel_hex.proofs.Laws.Bounds.{Below, From, from_at}

-- ---- digits

pub digit_glyph : (d : ℕ) → d < 16 → digit_of (glyph d) ≡ d
unfolding digit_of
digit_glyph d h = go (ltb d 10) refl
  where
    go : (b : Bool) → ltb d 10 ≡ b → digit_of (glyph d) ≡ d
    go true e =
        let l = ltb-true d 10 e in
        let s : 48 + d - 48 ≡ d = omega arith in
        simp (e, le-leb 48 (48 + d) (omega arith), le-leb (48 + d) 57 (omega arith), s)
    go false e =
        let l = ltb-false d 10 e in
        let s : 55 + d - 55 ≡ d = omega arith in
        simp (e, le-leb 48 (55 + d) (omega arith), lt-leb (55 + d) 57 (omega arith), le-leb 65 (55 + d) (omega arith), le-leb (55 + d) 70 (omega arith), s)

pub glyph_from : (d : ℕ) → 48 ≤ glyph d
glyph_from d = go (ltb d 10) refl
  where
    go : (b : Bool) → ltb d 10 ≡ b → 48 ≤ glyph d
    go true e = simp e (omega arith)
    go false e = simp e (omega arith)

-- ---- pairs

pub length_pairs : (xs : List ℕ) → length (pairs xs) ≡ 2 * length xs
unfolding pairs
length_pairs [] = refl
length_pairs (x ∷ xs) = let ih = length_pairs xs in omega arith

pub pairs_from : (xs : List ℕ) → From 48 (pairs xs)
unfolding pairs
pairs_from [] = tt
pairs_from (x ∷ xs) = (glyph_from (x / 16 % 16), (glyph_from (x % 16), pairs_from xs))

pub pairs_digits : (xs : List ℕ) → all_digits (pairs xs) ≡ true
unfolding pairs all_digits
pairs_digits [] = refl
pairs_digits (x ∷ xs) =
    let a : x / 16 % 16 < 16 = omega arith in
    let b : x % 16 < 16 = omega arith in
    simp (digit_glyph (x / 16 % 16) a, digit_glyph (x % 16) b, lt-ltb (x / 16 % 16) 16 a, lt-ltb (x % 16) 16 b, pairs_digits xs)

octet_first : (c x : ℕ) (l : List ℕ) → x < 256 → octet (c ∷ glyph (x / 16 % 16) ∷ glyph (x % 16) ∷ l) 0 ≡ x
unfolding octet
octet_first c x l h =
    let a : x / 16 % 16 < 16 = omega arith in
    let b : x % 16 < 16 = omega arith in
    simp (digit_glyph (x / 16 % 16) a, digit_glyph (x % 16) b) (omega arith)

octet_past : (c a b : ℕ) (l : List ℕ) (i : ℕ) → octet (c ∷ a ∷ b ∷ l) (suc i) ≡ octet (b ∷ l) i
unfolding octet
octet_past c a b l i =
    let p : 2 * suc i + 1 ≡ suc (suc (2 * i + 1)) = omega arith in
    let q : 2 * suc i + 2 ≡ suc (suc (2 * i + 2)) = omega arith in
    simp (p, q)

-- behind any first byte
pub octet_at : (c : ℕ) (xs : List ℕ) (i : ℕ) → Below 256 xs → i < length xs → octet (c ∷ pairs xs) i ≡ get_or xs i 0
unfolding pairs
octet_at c [] i s h = absurd (omega arith)
octet_at c (x ∷ xs) zero s h = octet_first c x (pairs xs) s.0
octet_at c (x ∷ xs) (suc i) s h =
    octet_past c (glyph (x / 16 % 16)) (glyph (x % 16)) (pairs xs) i ∙ octet_at (glyph (x % 16)) xs i s.1 (omega arith)

pub octets_at : (c : ℕ) (xs : List ℕ) (i k : ℕ) → Below 256 xs → i + k ≤ length xs → octets (c ∷ pairs xs) i k ≡ take k (drop i xs)
unfolding octets
octets_at c xs i zero s h = refl
octets_at c xs i (suc k) s h =
    let d : drop i xs ≡ get_or xs i 0 ∷ drop (suc i) xs = drop-cons xs i 0 (omega arith) in
    rw (d, octet_at c xs i s (omega arith), octets_at c xs (suc i) k s (omega arith))

-- ---- lines

pub one_line : (bs rest : List ℕ) → From 48 bs → lines (bs ++ feed ∷ rest) ≡ line bs true ∷ lines rest
unfolding lines
one_line [] rest h = refl
one_line (b ∷ bs) rest h =
    let l : 48 ≤ b = h.0 in
    let n : b ≡ 10 → ⊥ = λ e. omega arith in
    rw (ne_eqb b 10 n) (ap (onto b) (one_line bs rest h.1))

-- no CR stands at its end
pub whole_body : (bs : List ℕ) → From 48 bs → 0 < length bs → body bs ≡ bs
unfolding body
whole_body bs h p =
    let l : 48 ≤ get_or bs (length bs - 1) 0 = from_at 48 bs (length bs - 1) h (omega arith) in
    let n : get_or bs (length bs - 1) 0 ≡ return → ⊥ = λ e. omega arith in
    rw (ne_eqb (get_or bs (length bs - 1) 0) return n) refl
