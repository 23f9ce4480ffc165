-- The lines of the compartments before are put.
use mathlib.Core.Path.{◌≡◌}
use Prim.Native.Nat.{◌*◌, ◌≤◌}
use lib.ListN.{length}
use Rattle.printed.specs.Text.{row_lines}
use Rattle.rows.specs.Views.{table}
use Rattle.numerals.specs.Writing.{put}
use Rattle.text.specs.Puts.{put_of}
use Rattle.printer.specs.Views.{lines_of}
use Rattle.printer.proofs.lines.put_rows.Given as goal

abbrev pub invariant-loop-c : goal.invariant-loop-c
invariant-loop-c l = (put_of l.p l.out ≡ put (row_lines (lines_of (table l.rows) 0 l.c)) l.at l.initial.out) × (length (row_lines (lines_of (table l.rows) 0 l.c)) ≤ 44 * l.c)
