-- The digits counted and those of what is left of the number are all its digits and the last once more.
use mathlib.Core.Path.{◌≡◌}
use Prim.Native.Nat.{◌+◌}
use Rattle.numerals.specs.Numerals.{width}
use Rattle.text.proofs.digits.width.Given as goal

abbrev pub invariant-loop-v : goal.invariant-loop-v
invariant-loop-v l = l.k + width l.v ≡ width l.n + 1

abbrev pub decreases-loop-v : goal.decreases-loop-v
decreases-loop-v l = l.v
