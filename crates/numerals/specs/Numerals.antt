-- Numbers in digits.
use Rattle.std.specs.Prelude.{cond, List, [], ◌∷◌, ◌++◌, ℕ, zero, suc, ◌+◌, ◌/◌, ◌%◌, ltb}

-- "0" to "9", then "A" to "F"
abbrev pub glyph : ℕ → ℕ
glyph d = cond (ltb d 10) (48 + d) (55 + d)

-- the last k digits of n, the highest first
abbrev pub digits : ℕ → ℕ → ℕ → List ℕ
digits base zero n = []
digits base (suc k) n = digits base k (n / base) ++ glyph (n % base) ∷ []

-- how many decimal digits a number has
unfoldable pub width_by : ℕ → ℕ → ℕ
width_by zero n = 1
width_by (suc k) n = cond (ltb n 10) 1 (suc (width_by k (n / 10)))

abbrev pub width : ℕ → ℕ
width n = width_by n n

-- a number in decimal digits, without a zero before it
unfoldable pub decimal : ℕ → List ℕ
decimal n = digits 10 (width n) n
