-- How much of an input is asked: its first 8,273 bytes.
use Rattle.std.specs.Prelude.{◌≡◌, Bool, List, ℕ, take}
use Rattle.std.proofs.Common.{ap}
use Rattle.rules.specs.Images.{Loaded}
use Rattle.images.specs.Prefix.{load_prefix}
use Rattle.printed.specs.Outcome as meant

-- the first 8,273 bytes of an input say all that is printed of it
pub print_front : (strict : Bool) (input out : List ℕ) → meant.print strict input out ≡ meant.print strict (take 8273 input) out
unfolding meant.print meant.outcome
print_front strict input out = ap (λ (l : Loaded). meant.printed_in (meant.load_outcome l) out) (load_prefix strict input meant.memories)
