-- The first of several that does not pass: an address of a range, a pair of a set, one of the four sets.
use Rattle.std.specs.Prelude.{Bool, cond, List, [], ◌∷◌, ℕ, zero, suc, ◌-◌, length}
use Rattle.common.specs.AddressSets.{Pair, ordered, within}

-- the first of the k addresses from x on at which the test fails, or the address behind them
unfoldable pub first_not : (ℕ → Bool) → ℕ → ℕ → ℕ
first_not test x zero = x
first_not test x (suc k) = cond (test x) (first_not test (suc x) k) x

-- what is told of the first pair that does not pass, and of how many stand before it; in a list of pairs the last stands in front
unfoldable pub first_pair : (List Pair → Bool) → (Pair → ℕ → ℕ) → List Pair → ℕ
first_pair every tell [] = 0
first_pair every tell (p ∷ ps) = cond (every ps) (tell p (length ps)) (first_pair every tell ps)

-- the first address of a set at which the test fails: of the first pair that has one, the lowest
abbrev pub first_out : (ℕ → Bool) → List Pair → ℕ
first_out test = first_pair (λ ps. within ps test) (λ p j. first_not test p.first (p.past - p.first))

-- how many pairs stand before the first that has first >= past
abbrev pub first_disordered : List Pair → ℕ
first_disordered = first_pair ordered (λ p j. j)

-- the first of the four sets that does not pass; the fourth where the three before it do
unfoldable pub first_set : (ℕ → Bool) → ℕ
first_set test = cond (test 1) (cond (test 2) (cond (test 3) 4 3) 2) 1
