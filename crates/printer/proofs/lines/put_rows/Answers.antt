-- The lines of the compartments before are put.
use Rattle.std.proofs.Common.{List}
use Rattle.rules.specs.Rows.{Row}
use Rattle.rows.specs.Views.{table}
use Rattle.printer.specs.LineLaws.{no_rows, no_length, row_put, row_length}
use Rattle.printer.proofs.lines.put_rows.Goals as goal

pub loop-c-init : goal.loop-c-init
loop-c-init c = (no_rows _ _ _ c.requires, no_length _)

pub loop-c-preserved : goal.loop-c-preserved
loop-c-preserved c =
    let t : List Row = table c.args.rows.now in
    let x = c.loop-c in (
      row_put t _ c.row_at-row.result c.row_at-row.ensures _ _ _ _ _ _ x.invariant.0 c.put_row-p.ensures.written,
      row_length t _ c.row_at-row.result c.row_at-row.ensures x.invariant.1 c.put_row-p.ensures.bounded,
    )
