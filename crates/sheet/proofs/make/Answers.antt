-- A refused image has its line; any other is run, and has the line of its run.
use Rattle.sheet.specs.LineMaking.{refused_made, refused_short, ran_made, ran_short}
use Rattle.std.proofs.Common.{ap}
use Rattle.answers.specs.Numbers.{answer_of}
use Rattle.sheet.proofs.make.Goals as goal

pub returns-in-Err : goal.returns-in-Err
returns-in-Err c = record { written = refused_made _ _ _ _ _ _ _ _ c.load-l.ensures _ c.in-Err.is _ c.from-answer.ensures _ _ _ c.put_refused.ensures.written; bounded = refused_short _ _ _ _ _ _ _ _ c.load-l.ensures _ c.in-Err.is _ c.from-answer.ensures c.put_refused.ensures.bounded }

pub returns : goal.returns
returns c = record { written = ran_made _ _ _ _ _ _ _ _ c.load-l.ensures (ap answer_of c.in_default.is) _ _ _ _ _ _ c.run-r.ensures _ _ _ c.put_ran.ensures.written; bounded = ran_short _ _ _ _ _ _ _ _ c.load-l.ensures (ap answer_of c.in_default.is) _ _ _ _ _ _ c.run-r.ensures c.put_ran.ensures.bounded }
