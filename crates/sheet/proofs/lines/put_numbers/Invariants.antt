-- The numbers of the set below the one reached are put.
use Rattle.std.proofs.Common.{◌-◌}
use Rattle.sheet.specs.LineLaws.{Numbers}
use Rattle.sheet.proofs.lines.put_numbers.Given as goal

abbrev pub invariant-loop-from : goal.invariant-loop-from
invariant-loop-from l = Numbers l.set l.initial.out l.at l.p l.out l.from

abbrev pub decreases-loop-from : goal.decreases-loop-from
decreases-loop-from l = 64 - l.from
