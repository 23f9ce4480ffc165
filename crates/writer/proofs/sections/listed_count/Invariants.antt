-- No number from the place reached on is listed.
use Rattle.std.proofs.Common.{◌≤◌, length}
use Rattle.rules.specs.Images.{listed}
use Rattle.writer.proofs.sections.listed_count.Given as goal

abbrev pub invariant-loop-k : goal.invariant-loop-k
invariant-loop-k l = length (listed l.regs) ≤ l.k
