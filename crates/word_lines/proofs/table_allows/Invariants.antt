-- Each opcode adds what it allows.
use Rattle.std.proofs.Common.{◌*◌, ◌≤◌}
use Rattle.word_lines.proofs.table_allows.Given as goal

abbrev pub invariant-loop-op : goal.invariant-loop-op
invariant-loop-op l = l.count ≤ 1048576 * l.op
