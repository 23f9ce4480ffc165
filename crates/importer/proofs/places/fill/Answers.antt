-- The words so far stand over what was there.
use Rattle.std.proofs.Common.{◌≡◌, refl, arith}
use Rattle.rules.specs.Images.{fields}
use Rattle.importer.specs.PlaceLaws.{word_joins}
use Rattle.importer.proofs.places.fill.Goals as goal

pub loop-i-init : goal.loop-i-init
unfolding fields
loop-i-init c = refl

pub loop-i-preserved : goal.loop-i-preserved
loop-i-preserved c = simp c.loop-i.invariant (word_joins c.args.memory.now c.args.words.now c.loop-i.i _ (omega (arith, c.requires)) c.word.ensures)

pub returns : goal.returns
returns c = let e : c.loop-i.i ≡ c.args.n = omega arith in simp (c.loop-i.invariant, e)
