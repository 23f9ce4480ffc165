-- From the place reached on, digits decide.
use Rattle.std.proofs.Common.{◌≡◌, drop}
use Rattle.intel_hex.specs.Records.{all_digits}
use Rattle.importer.proofs.records.all_digits.Given as goal

abbrev pub invariant-loop-i : goal.invariant-loop-i
invariant-loop-i l = all_digits (drop 1 l.pairs) ≡ all_digits (drop l.i l.pairs)
