-- What the contracts' counts say.
use Rattle.std.proofs.Common.{sym, length-take-le}
use Rattle.std.specs.Prelude.{List, ℕ, ◌≡◌, ◌≤◌, length, take}
use Rattle.std.specs.Counts.{IsPrefixLen}

-- `&xs[..n]` is in bounds and has n elements, whatever they are: of numbers this is `IsPrefixLen`
abbrev pub IsFrontLen : {A : Type 0} → ℕ → List A → Type 0
IsFrontLen n xs = (n ≤ length xs) × (n ≡ length (take n xs))

-- a number within a buffer counts bytes at its front
pub counted : (n : ℕ) (xs : List ℕ) → n ≤ length xs → IsPrefixLen n xs
counted n xs h = (h, sym (length-take-le n xs h))
