-- Where nothing moves.
use Rattle.rows.specs.TableLaws.{settled_none}
use Rattle.rows.proofs.settle.Goals as goal

pub returns-else-t-ne0 : goal.returns-else-t-ne0
returns-else-t-ne0 c = settled_none _ _ _ _ _ _ c.if-k-ne0.false c.if-j-ne0.false c.if-t-ne0.false
