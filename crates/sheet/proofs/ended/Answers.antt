-- Each return is one side of the test.
use Rattle.std.proofs.Common.{eq-eqb, ne_eqb}
use Rattle.sheets.specs.Totals.{status}
use Rattle.sheet.proofs.ended.Goals as goal

pub returns-then-t : goal.returns-then-t
unfolding status
returns-then-t c = simp (eq-eqb _ _ c.if-t.true)

pub returns-else-t : goal.returns-else-t
unfolding status
returns-else-t c = simp (ne_eqb _ _ c.if-t.false)
