-- `execute`, case by case.
use Rattle.std.proofs.Common.{refl, arith}
use Rattle.instructions.specs.Views.{standing}
use Rattle.moves.specs.MoveLaws as law
use Rattle.moves.proofs.execute.Goals as goal
use Rattle.moves.proofs.execute.Goals.{in_default-via-then-i-lt3, in_default-via-else-i-lt3+else-i-lt8}

pub reg-requires : goal.reg-requires
reg-requires c = law.a_small c.args.word c.fields-i.result c.fields-i.ensures

pub reg-requires-then-fits : goal.reg-requires-then-fits
reg-requires-then-fits c = law.b_small c.args.word c.fields-i.result c.fields-i.ensures

pub other-requires : goal.other-requires
other-requires c =
    law.not_five c.args.word c.fields-i.result c.fields-i.ensures
    (λ h k. elim c.in_default.branch [ in_default-via-then-i-lt3 w ↦ omega arith | in_default-via-else-i-lt3+else-i-lt8 w ↦ omega arith ])

pub returns-then-fits : goal.returns-then-fits
returns-then-fits c = law.fits c.args.word c.fields-i.result c.fields-i.ensures _ refl (omega arith) _ c.fits.ensures _ _ _ _ _ _ _ _ _ _ c.if-fits.true (law.five (standing c.fields-i.result) _ _ _ _ _ _ _ _ _ _ (omega arith) (omega arith) (law.rd_small c.args.word c.fields-i.result c.fields-i.ensures _ refl (omega arith) _ c.fits.ensures c.if-fits.true (omega arith) (omega arith)) _ refl _ c.reg.ensures _ c.reg-then-fits.ensures _ c.arith.ensures c.puts.ensures)

pub returns-else-fits : goal.returns-else-fits
returns-else-fits c = law.stray c.args.word c.fields-i.result c.fields-i.ensures _ refl (omega arith) _ c.fits.ensures _ _ _ _ _ _ _ _ _ _ c.if-fits.false c.stray.ensures
