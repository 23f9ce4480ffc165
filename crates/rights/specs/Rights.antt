-- Who may run, load and store at a word, by the numbers that stand there.
use Rattle.std.specs.Prelude.{Bool, ◌||◌, not, ℕ, leb, eqb}
use Rattle.common.specs.Services.{is_service_number}
use Rattle.rules.specs.Compartments.{member}

unfoldable pub free : Bool → ℕ → ℕ → Bool
free strict owner next = not (is_service_number strict owner || leb next owner)

unfoldable pub may_use : ℕ → ℕ → ℕ → Bool
may_use owner target granted = eqb target owner || member granted owner
