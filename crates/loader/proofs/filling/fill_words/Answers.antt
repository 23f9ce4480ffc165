-- The words read so far stand over what the memory held.
use Rattle.std.proofs.Common.{◌≡◌, refl, arith, take}
use Rattle.rules.specs.Images.{fields}
use Rattle.images.specs.Filling.{field_of, fields_more}
use Rattle.loader.specs.Loading.{over_words, front}
use Rattle.loader.proofs.filling.fill_words.Goals as goal

pub loop-i-init : goal.loop-i-init
unfolding fields
loop-i-init c = refl

pub loop-i-preserved : goal.loop-i-preserved
loop-i-preserved c =
    let g = c.args in
    let x = c.loop-i in
    let e = front g.n g.words.now c.requires.0 in
    simp (x.invariant, c.number.ensures, field_of) (fields_more g.bytes.now (take g.n g.words.now) 4 x.i (omega arith))

pub returns : goal.returns
returns c =
    let g = c.args in
    let f = front g.n g.words.now c.requires.0 in
    let e : c.loop-i.i ≡ g.n = omega arith in
    simp (c.loop-i.invariant, e) (over_words g.bytes.now g.words.now g.n c.requires.0)
