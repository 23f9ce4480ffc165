-- A refused image has its line; any other is run, and has the text of its run.
use Rattle.printer.specs.TextLaws.{refused_made, refused_short, ran_made, ran_short}
use Rattle.std.proofs.Common.{ap}
use Rattle.answers.specs.Numbers.{answer_of}
use Rattle.printer.proofs.make.Goals as goal

pub returns-in-Err : goal.returns-in-Err
returns-in-Err c = record { written = refused_made _ _ _ _ _ _ _ _ _ c.load_rows-l.ensures _ c.in-Err.is _ c.from.ensures _ _ _ c.put_refused.ensures.written; bounded = refused_short _ _ _ _ _ _ _ _ _ c.load_rows-l.ensures _ c.in-Err.is _ c.from.ensures c.put_refused.ensures.bounded }

pub returns : goal.returns
returns c = record { written = ran_made _ _ _ _ _ _ _ _ _ c.load_rows-l.ensures (ap answer_of c.in_default.is) _ _ _ _ _ _ _ c.run_rows-r.ensures _ c.ended_by.ensures _ _ _ c.put_ran.ensures.written; bounded = ran_short _ _ _ _ _ _ _ _ _ c.load_rows-l.ensures (ap answer_of c.in_default.is) _ _ _ _ _ _ _ c.run_rows-r.ensures c.put_ran.ensures.bounded }
