-- One row, where the number has one.
use Rattle.std.proofs.Common.{arith}
use Rattle.rows.specs.TableLaws.{is_more, row_gained}
use Rattle.rows.proofs.gain.Goals as goal

pub returns-then-i-rows : goal.returns-then-i-rows
returns-then-i-rows c = row_gained c.args.rows.now _ _ c.if-i-rows.true _ _ _ _ _ _ (is_more _ _ (omega arith)) (is_more _ _ (omega arith)) (is_more _ _ (omega arith))
