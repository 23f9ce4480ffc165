-- Lists whose numbers are all below, or all from, a bound.
use Rattle.std.specs.Prelude.{List, [], ◌∷◌, ◌++◌, ℕ, zero, suc, ◌≤◌, ◌<◌, get_or, length, take, drop}
use Rattle.std.proofs.Common.{arith}

abbrev pub Below : ℕ → List ℕ → Type 0
Below m [] = Unit {0}
Below m (x ∷ xs) = (x < m) × Below m xs

pub below_of : (m : ℕ) (xs : List ℕ) → ((i : ℕ) → i < length xs → get_or xs i 0 < m) → Below m xs
below_of m [] h = tt
below_of m (x ∷ xs) h = (h 0 (omega arith), below_of m xs (λ i k. h (suc i) (omega arith)))

pub below_append : (m : ℕ) (xs ys : List ℕ) → Below m xs → Below m ys → Below m (xs ++ ys)
below_append m [] ys h k = k
below_append m (x ∷ xs) ys h k = (h.0, below_append m xs ys h.1 k)

pub below_take : (m n : ℕ) (xs : List ℕ) → Below m xs → Below m (take n xs)
below_take m zero xs h = tt
below_take m (suc n) [] h = tt
below_take m (suc n) (x ∷ xs) h = (h.0, below_take m n xs h.1)

pub below_drop : (m n : ℕ) (xs : List ℕ) → Below m xs → Below m (drop n xs)
below_drop m zero xs h = h
below_drop m (suc n) [] h = tt
below_drop m (suc n) (x ∷ xs) h = below_drop m n xs h.1

abbrev pub From : ℕ → List ℕ → Type 0
From m [] = Unit {0}
From m (x ∷ xs) = (m ≤ x) × From m xs

pub from_at : (m : ℕ) (xs : List ℕ) (i : ℕ) → From m xs → i < length xs → m ≤ get_or xs i 0
from_at m [] i h k = absurd (omega arith)
from_at m (x ∷ xs) zero h k = h.0
from_at m (x ∷ xs) (suc i) h k = from_at m xs i h.1 (omega arith)
