-- What is left of the word, behind the number of its digits so far.
use mathlib.Core.Path.{◌≡◌}
use Prim.Native.Nat.{◌-◌, ◌≤◌}
use lib.ListN.{length}
use Rattle.tokens.specs.Numerals.{most, numeral_at, numeral_on}
use Rattle.tokens.proofs.numbers.numeral.Given as goal

abbrev pub invariant-loop-p : goal.invariant-loop-p
invariant-loop-p l = (l.value ≤ most) × (numeral_at l.text l.place l.from l.base ≡ numeral_on l.text l.place l.p l.base l.value)

abbrev pub decreases-loop-p : goal.decreases-loop-p
decreases-loop-p l = length l.text - l.p
