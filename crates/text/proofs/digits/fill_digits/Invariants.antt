-- From the place reached on the digits stand in the buffer, and those before it are the digits of what is left of the number.
use Rattle.std.proofs.Common.{◌≡◌, ◌++◌, length, drop}
use Rattle.numerals.specs.Numerals.{digits}
use Rattle.text.proofs.digits.fill_digits.Given as goal

abbrev pub invariant-loop-i : goal.invariant-loop-i
invariant-loop-i l = digits l.base (length l.out) l.value ≡ digits l.base l.i l.left ++ drop l.i l.out
