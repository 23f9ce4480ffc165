-- The decimal digits of a number tell the number, also where a text goes on behind them.
use Rattle.std.specs.Prelude.{◌≡◌, refl, Bool, true, false, ◌&&◌, ℕ, zero, suc, ◌+◌, ◌/◌, ◌%◌, ◌^◌, ◌<◌, leb, length}
use Rattle.std.proofs.Common.{sym, ap, ◌∙◌, subst, true≢false, arith, pow-suc, lt-ltb, le-leb}
use mathlib.Core.List.{List, [], ◌∷◌, ◌++◌, head-eq_of_cons-eq, tail-eq_of_cons-eq}
use Rattle.std.proofs.Math.Nat.{pow-zero}
use Rattle.numerals.specs.Numerals.{glyph, digits, width, decimal}
use Rattle.numerals.specs.Laws.Widths.{width_enough, length_digits, length_decimal}

-- ---- digits of one count

-- joined lists whose fronts are equally long
same_fronts : (xs ys r s : List ℕ) → length xs ≡ length ys → xs ++ r ≡ ys ++ s → (xs ≡ ys) × (r ≡ s)
same_fronts [] [] r s l e = (refl, e)
same_fronts [] (y ∷ ys) r s l e = absurd (omega arith)
same_fronts (x ∷ xs) [] r s l e = absurd (omega arith)
same_fronts (x ∷ xs) (y ∷ ys) r s l e =
    let t = same_fronts xs ys r s (omega arith) (tail-eq_of_cons-eq e) in (λ i. head-eq_of_cons-eq e i ∷ t.0 i, t.1)

glyph_is : (d : ℕ) → d < 10 → glyph d ≡ 48 + d
glyph_is d h = simp (lt-ltb d 10 h)

digits_tell : (k m n : ℕ) → m < 10 ^ k → n < 10 ^ k → digits 10 k m ≡ digits 10 k n → m ≡ n
digits_tell zero m n h i e = let z = pow-zero 10 in omega arith
digits_tell (suc k) m n h i e =
    let p = pow-suc 10 k in
    let t = same_fronts (digits 10 k (m / 10)) (digits 10 k (n / 10)) _ _ (length_digits 10 k (m / 10) ∙ sym (length_digits 10 k (n / 10))) e in
    let all = digits_tell k (m / 10) (n / 10) (omega arith) (omega arith) t.0 in
    let last : 48 + m % 10 ≡ 48 + n % 10 = sym (glyph_is (m % 10) (omega arith)) ∙ head-eq_of_cons-eq t.1 ∙ glyph_is (n % 10) (omega arith) in
    omega arith

-- two numbers with the same digits are equal
pub decimal_tells : (m n : ℕ) → decimal m ≡ decimal n → m ≡ n
unfolding decimal
decimal_tells m n e =
    let w : width m ≡ width n = sym (length_decimal m) ∙ ap length e ∙ length_decimal n in
    digits_tell (width m) m n (width_enough m) (subst (λ (k : ℕ). n < 10 ^ k) (sym w) (width_enough n)) (e ∙ ap (λ (k : ℕ). digits 10 k n) (sym w))

-- ---- where the digits end

-- the byte of a decimal digit
abbrev pub is_digit : ℕ → Bool
is_digit b = leb 48 b && leb b 57

-- a text that begins with no digit
abbrev pub Stops : List ℕ → Type 0
Stops [] = Unit {0}
Stops (x ∷ xs) = is_digit x ≡ false

abbrev AllDigits : List ℕ → Type 0
AllDigits [] = Unit {0}
AllDigits (x ∷ xs) = (is_digit x ≡ true) × AllDigits xs

all_more : (xs : List ℕ) (x : ℕ) → AllDigits xs → is_digit x ≡ true → AllDigits (xs ++ x ∷ [])
all_more [] x h i = (i, tt)
all_more (y ∷ ys) x h i = (h.0, all_more ys x h.1 i)

digits_all : (k n : ℕ) → AllDigits (digits 10 k n)
digits_all zero n = tt
digits_all (suc k) n =
    let l : n % 10 < 10 = omega arith in
    all_more (digits 10 k (n / 10)) _ (digits_all k (n / 10))
    (ap is_digit (glyph_is (n % 10) l) ∙ simp (le-leb 48 (48 + n % 10) (omega arith), le-leb (48 + n % 10) 57 (omega arith)))

no_digit : (x : ℕ) (xs r : List ℕ) → is_digit x ≡ true → Stops r → r ≡ x ∷ xs → ⊥
no_digit x xs r h s e = let z : is_digit x ≡ false = subst Stops e s in true≢false (sym h ∙ z)

same_digits : (xs ys r s : List ℕ) → AllDigits xs → AllDigits ys → Stops r → Stops s → xs ++ r ≡ ys ++ s → (xs ≡ ys) × (r ≡ s)
same_digits [] [] r s h i j k e = (refl, e)
same_digits [] (y ∷ ys) r s h i j k e = absurd (no_digit y _ r i.0 j e)
same_digits (x ∷ xs) [] r s h i j k e = absurd (no_digit x _ s h.0 k (sym e))
same_digits (x ∷ xs) (y ∷ ys) r s h i j k e =
    let t = same_digits xs ys r s h.1 i.1 j k (tail-eq_of_cons-eq e) in (λ p. head-eq_of_cons-eq e p ∷ t.0 p, t.1)

-- a number before a text that begins with no digit is told, and so is the text
pub number_then : (m n : ℕ) (r s : List ℕ) → Stops r → Stops s → decimal m ++ r ≡ decimal n ++ s → (m ≡ n) × (r ≡ s)
unfolding decimal
number_then m n r s j k e =
    let t = same_digits (decimal m) (decimal n) r s (digits_all (width m) m) (digits_all (width n) n) j k e in (decimal_tells m n t.0, t.1)
