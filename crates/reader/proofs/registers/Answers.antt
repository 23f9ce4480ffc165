-- The registers read so far stand over zeros.
use Rattle.std.proofs.Common.{◌≡◌, refl, arith, replicate}
use Rattle.rules.specs.Images.{fields}
use Rattle.images.specs.Filling.{fields_more, fields_zeros}
use Rattle.reader.proofs.registers.Goals as goal

pub loop-i-init : goal.loop-i-init
unfolding fields
loop-i-init c = refl

pub loop-i-preserved : goal.loop-i-preserved
loop-i-preserved c =
    let g = c.args in
    let x = c.loop-i in
    simp (x.invariant, c.field.ensures) (fields_more g.bytes.now (replicate 16 0) g.at x.i (omega arith))

pub returns : goal.returns
returns c =
    let e : c.loop-i.i ≡ c.args.count = omega arith in
    simp (c.loop-i.invariant, e) (fields_zeros c.args.bytes.now c.args.at c.args.count 16)
