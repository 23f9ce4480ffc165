-- Each line that is read leaves less to read.
use Rattle.std.proofs.Common.{length}
use Rattle.cases.proofs.lines.run_lines.Given as goal

abbrev pub decreases-loop-letter : goal.decreases-loop-letter
decreases-loop-letter l = length l.rest
