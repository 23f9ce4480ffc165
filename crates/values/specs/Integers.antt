-- A sign and a magnitude as a whole number: sums, differences and products of them.
use Rattle.std.specs.Prelude.{◌≡◌, refl, Bool, true, false, cond, not, ℕ, zero, suc, ◌+◌, ◌-◌, ◌*◌, ◌<◌, ◌≤◌, ℤ, pos, neg_ℤ, ◌+ℤ◌, ◌*ℤ◌}
use Rattle.std.proofs.Common.{sym, ap, ◌∙◌, mul-zero, zero-mul, arith, lt-ltb, le-ltb}
use Rattle.std.proofs.Math.IntN.{neg_ℤ-+ℤ, neg_ℤ-neg_ℤ}
use Rattle.values.specs.Values.{same}

abbrev pub integer : Bool → ℕ → ℤ
integer negative m = cond negative (neg_ℤ (pos m)) (pos m)

pub opposite : (b : Bool) (n : ℕ) → integer (not b) n ≡ neg_ℤ (integer b n)
opposite false n = refl
opposite true n = sym (neg_ℤ-neg_ℤ (pos n))

-- ---- sums: of one sign, and of two, where the first or the second magnitude is more

pub together : (a : Bool) (m n : ℕ) → integer a (m + n) ≡ integer a m +ℤ integer a n
together false m n = refl
together true m n = neg_ℤ-+ℤ (pos m) (pos n)

down : (m n : ℕ) → n ≤ m → pos m +ℤ neg_ℤ (pos n) ≡ pos (m - n)
down m zero h = let e : m + 0 ≡ m - 0 = omega arith in ap pos e
down m (suc n) h = simp (le-ltb m (suc n) h)

up : (m n : ℕ) → m < n → pos m +ℤ neg_ℤ (pos n) ≡ neg_ℤ (pos (n - m))
up m zero h = absurd (omega arith)
up m (suc n) h = let e : suc n - m ≡ suc (suc n - suc m) = omega arith in simp (lt-ltb m (suc n) h, e)

turned : (m n : ℕ) → neg_ℤ (pos m +ℤ neg_ℤ (pos n)) ≡ neg_ℤ (pos m) +ℤ pos n
turned m n = neg_ℤ-+ℤ (pos m) (neg_ℤ (pos n)) ∙ ap (λ (z : ℤ). neg_ℤ (pos m) +ℤ z) (neg_ℤ-neg_ℤ (pos n))

pub first_more : (a : Bool) (m n : ℕ) → n ≤ m → integer a (m - n) ≡ integer a m +ℤ integer (not a) n
first_more false m n h = sym (down m n h)
first_more true m n h = ap neg_ℤ (sym (down m n h)) ∙ turned m n

pub second_more : (a : Bool) (m n : ℕ) → m < n → integer (not a) (n - m) ≡ integer a m +ℤ integer (not a) n
second_more false m n h = sym (up m n h)
second_more true m n h = sym (neg_ℤ-neg_ℤ (pos (n - m))) ∙ ap neg_ℤ (sym (up m n h)) ∙ turned m n

-- ---- products

pub product : (a : Bool) (m : ℕ) (b : Bool) (n : ℕ) → integer (not (same a b)) (m * n) ≡ integer a m *ℤ integer b n
product false m false n = refl
product false m true zero = rw (mul-zero m) refl
product false m true (suc n) = refl
product true zero false n = rw (zero-mul n) refl
product true (suc m) false n = refl
product true zero true n = rw (zero-mul n) (zero_times n)
  where
    zero_times : (n : ℕ) → pos 0 ≡ pos 0 *ℤ neg_ℤ (pos n)
    zero_times zero = refl
    zero_times (suc n) = rw (zero-mul (suc n)) refl
product true (suc m) true zero = rw (mul-zero (suc m)) refl
product true (suc m) true (suc n) = refl
