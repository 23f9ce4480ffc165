-- With N = 0 the record is the blank one.
use Rattle.std.proofs.Common.{refl}
use Rattle.rules.specs.Images.{blank}
use Rattle.loader.proofs.refused.Goals as goal

pub returns : goal.returns
unfolding blank
returns c = (c.fresh.ensures, refl)
