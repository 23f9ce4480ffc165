-- One row, where the number has one.
use Rattle.std.proofs.Common.{arith}
use Rattle.rows.specs.TableLaws.{is_less, row_lost}
use Rattle.rows.proofs.lose.Goals as goal

pub returns-then-i-rows : goal.returns-then-i-rows
returns-then-i-rows c = row_lost c.args.rows.now _ _ c.if-i-rows.true _ _ (is_less _ _ (omega arith) (omega arith))
