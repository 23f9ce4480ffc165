-- The rows before this number are filled.
use Rattle.std.proofs.Common.{◌≡◌, length, ap, ◌∙◌, arith, eq-eqb}
use Rattle.rules.specs.Rows.{rows_from}
use Rattle.rows.specs.TableLaws.{fill_goes, fill_ends}
use Rattle.rows.proofs.fill.Goals as goal

pub loop-number-preserved : goal.loop-number-preserved
loop-number-preserved c = fill_goes _ _ _ _ _ c.loop-number.invariant (omega arith) c.fresh.ensures

pub returns-after-loop-number : goal.returns-after-loop-number
returns-after-loop-number c =
    let e : length c.args.rows.now ≡ 64 = c.if-rows-eq-ROWS.true in
    simp (eq-eqb _ _ e) (fill_ends _ _ _ _ c.loop-number.invariant (omega arith) ∙ ap (rows_from _ 0) e)
