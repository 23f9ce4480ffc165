-- A table of checks, each a number and its condition: the answer is the number of the first row whose condition holds.
use Rattle.std.specs.Prelude.{◌≡◌, Bool, true, false, cond, List, [], ◌∷◌, ◌⊎◌, ℕ}
use Rattle.common.specs.Answers as answer

pub record Check : Type 0 where
  pub number : ℕ
  pub holds : Bool

abbrev pub on : ℕ → Bool → Check
on number holds = record { number = number; holds = holds }

-- the number of the first check that holds, or 0
unfoldable pub first_of : List Check → ℕ
first_of [] = answer.done
first_of (c ∷ cs) = cond c.holds c.number (first_of cs)

-- some check with number k holds, and none before it
unfoldable pub Exactly : List Check → ℕ → Type 0
Exactly [] k = ⊥
Exactly (c ∷ cs) k = ((c.holds ≡ true) × (c.number ≡ k)) ⊎ ((c.holds ≡ false) × Exactly cs k)

-- no check holds
unfoldable pub NoneHolds : List Check → Type 0
NoneHolds [] = record {}
NoneHolds (c ∷ cs) = (c.holds ≡ false) × NoneHolds cs
