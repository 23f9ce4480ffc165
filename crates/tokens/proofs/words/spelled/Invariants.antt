-- What is left of the word, behind the key of its bytes so far.
use mathlib.Core.Path.{◌≡◌}
use Prim.Native.Nat.{◌-◌, ◌≤◌}
use lib.ListN.{length}
use Rattle.tokens.specs.Words.{spelled_at, spelled_on}
use Rattle.tokens.specs.Keys.{longest}
use Rattle.tokens.proofs.words.spelled.Given as goal

abbrev pub invariant-loop-p : goal.invariant-loop-p
invariant-loop-p l = (l.key ≤ longest) × (spelled_at l.text l.at ≡ spelled_on l.text l.p l.key)

abbrev pub decreases-loop-p : goal.decreases-loop-p
decreases-loop-p l = length l.text - l.p
