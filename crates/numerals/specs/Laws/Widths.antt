-- How many digits a number has.
use Rattle.std.specs.Prelude.{◌≡◌, refl, Bool, true, false, [], ◌∷◌, ℕ, zero, suc, ◌-◌, ◌*◌, ◌/◌, ◌^◌, ◌<◌, ◌≤◌, ltb, length}
use Rattle.std.proofs.Common.{sym, ap, ◌∙◌, arith, pow-suc, add-one, ltb-true, ltb-false, lt-ltb, le-ltb, length-append}
use Rattle.numerals.specs.Numerals.{digits}
use Rattle.numerals.specs.Numerals.{width_by, width, decimal}

-- ---- the bound on the way is never met

width_low : (k n : ℕ) → n < 10 → width_by k n ≡ 1
unfolding width_by
width_low zero n h = refl
width_low (suc k) n h = simp (lt-ltb n 10 h)

width_high : (k n : ℕ) → 10 ≤ n → width_by (suc k) n ≡ suc (width_by k (n / 10))
unfolding width_by
width_high k n h = simp (le-ltb n 10 h)

same_width : (j k n : ℕ) → n ≤ j → n ≤ k → width_by j n ≡ width_by k n
same_width zero k n h i = width_low zero n (omega arith) ∙ sym (width_low k n (omega arith))
same_width (suc j) zero n h i = width_low (suc j) n (omega arith) ∙ sym (width_low zero n (omega arith))
same_width (suc j) (suc k) n h i = go (ltb n 10) refl (same_width j k (n / 10))
  where
    go : (b : Bool) → ltb n 10 ≡ b → (n / 10 ≤ j → n / 10 ≤ k → width_by j (n / 10) ≡ width_by k (n / 10)) → width_by (suc j) n ≡ width_by (suc k) n
    go true e ih = let l = ltb-true n 10 e in width_low (suc j) n l ∙ sym (width_low (suc k) n l)
    go false e ih = let l = ltb-false n 10 e in width_high j n l ∙ ap suc (ih (omega arith) (omega arith)) ∙ sym (width_high k n l)

-- ---- one digit, or one more than the rest has

pub width_one : (n : ℕ) → n < 10 → width n ≡ 1
width_one n h = width_low n n h

pub width_more : (n : ℕ) → 10 ≤ n → width n ≡ suc (width (n / 10))
width_more n h =
    let e : n ≡ suc (n - 1) = omega arith in
    ap (λ (k : ℕ). width_by k n) e ∙ width_high (n - 1) n h ∙ ap suc (same_width (n - 1) (n / 10) (n / 10) (omega arith) (omega arith))

-- what holds of one digit, and of a number where it holds of all its digits but the last
by_tens : (P : ℕ → Type 0) → ((n : ℕ) → n < 10 → P n) → ((n : ℕ) → 10 ≤ n → P (n / 10) → P n) → (n : ℕ) → P n
by_tens P low rest n = within n n (omega arith)
  where
    within : (k n : ℕ) → n ≤ k → P n
    within zero n h = low n (omega arith)
    within (suc k) n h = go (ltb n 10) refl (within k (n / 10))
      where
        go : (b : Bool) → ltb n 10 ≡ b → (n / 10 ≤ k → P (n / 10)) → P n
        go true e ih = low n (ltb-true n 10 e)
        go false e ih = let l = ltb-false n 10 e in rest n l (ih (omega arith))

-- so many digits are enough
pub width_enough : (n : ℕ) → n < 10 ^ width n
width_enough = by_tens (λ n. n < 10 ^ width n) low rest
  where
    low : (n : ℕ) → n < 10 → n < 10 ^ width n
    low n h = let e = ap (λ (k : ℕ). 10 ^ k) (width_one n h) in omega arith

    rest : (n : ℕ) → 10 ≤ n → n / 10 < 10 ^ width (n / 10) → n < 10 ^ width n
    rest n h ih = let e : 10 ^ width n ≡ 10 ^ width (n / 10) * 10 = ap (λ (k : ℕ). 10 ^ k) (width_more n h) ∙ pow-suc 10 (width (n / 10)) in omega arith

-- and fewer are not
pub width_most : (k n : ℕ) → n < 10 ^ suc k → width n ≤ suc k
width_most zero n h = let e = width_one n (omega arith) in omega arith
width_most (suc k) n h = go (ltb n 10) refl (width_most k (n / 10))
  where
    go : (b : Bool) → ltb n 10 ≡ b → (n / 10 < 10 ^ suc k → width (n / 10) ≤ suc k) → width n ≤ suc (suc k)
    go true e ih = let w = width_one n (ltb-true n 10 e) in omega arith
    go false e ih =
        let w = width_more n (ltb-false n 10 e) in
        let p = pow-suc 10 (suc k) in
        let l = ih (omega arith) in
        omega arith

pub width_some : (n : ℕ) → 0 < width n
width_some = by_tens (λ n. 0 < width n) (λ n h. let e = width_one n h in omega arith) (λ n h ih. let e = width_more n h in omega arith)

-- ---- their texts

pub length_digits : (base k n : ℕ) → length (digits base k n) ≡ k
length_digits base zero n = refl
length_digits base (suc k) n =
    length-append (digits base k (n / base)) (_ ∷ []) ∙ add-one (length (digits base k (n / base))) ∙ ap suc (length_digits base k (n / base))

pub length_decimal : (n : ℕ) → length (decimal n) ≡ width n
unfolding decimal
length_decimal n = length_digits 10 (width n) n
