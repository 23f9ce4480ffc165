-- The bytes so far and those that are left make the sum.
use Rattle.std.proofs.Common.{◌≡◌, ◌+◌, ◌-◌, ◌*◌, ◌≤◌}
use Rattle.intel_hex.specs.Records.{octets, sum}
use Rattle.importer.proofs.records.sums_up.Given as goal

abbrev pub invariant-loop-i : goal.invariant-loop-i
invariant-loop-i l = (l.sum + sum (octets l.pairs l.i (l.n - l.i)) ≡ sum (octets l.pairs 0 l.n)) × (l.sum ≤ 272 * l.i) × (l.n ≤ 277)
