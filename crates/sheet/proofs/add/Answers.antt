-- The counts by answer, and the three sums of 32 bits.
use Rattle.std.proofs.Common.{ℕ, ap}
use Rattle.common.specs.Instructions.{plus}
use Rattle.sheets.specs.Told.{added}
use Rattle.sheet.proofs.add.Goals as goal

pub returns : goal.returns
unfolding added
returns c = let t = c.args.t in
    let refused = ap (λ (x : ℕ). plus t.refused x) c.from.ensures in
    let ended = c.count.ensures in
    λ i. record { images = plus t.images 1; refused = refused i; ended = ended i; steps = plus t.steps c.args.n.steps }
