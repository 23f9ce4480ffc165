-- The first line, and the lines of the compartments behind it.
use Rattle.printer.specs.TextLaws.{ran_put, ran_length}
use mathlib.Core.List.{List}
use Rattle.rules.specs.Rows.{Row}
use Rattle.rows.specs.Views.{table}
use Rattle.text.specs.Puts.{put_within}
use Rattle.printer.proofs.put_ran.Goals as goal

pub put_rows-requires : goal.put_rows-requires
put_rows-requires c = put_within _ _ _ _ _ c.put_first-end.ensures.written

pub returns : goal.returns
returns c =
    let t : List Row = table c.args.rows.now in
    record { written = ran_put _ _ _ t _ c.widest-widest.ensures _ _ _ _ _ c.put_first-end.ensures.written c.put_rows.ensures.written; bounded = ran_length _ _ _ t _ c.widest-widest.ensures c.put_first-end.ensures.bounded c.put_rows.ensures.bounded }
