-- Four places, filled.
use Rattle.importer.specs.PlaceLaws.{word_filled}
use Rattle.importer.proofs.places.word.Goals as goal

pub returns : goal.returns
returns c = word_filled c.args.memory.now c.args.at _ _ _ _ _ c.filled-b0.ensures c.filled-b1.ensures c.filled-b2.ensures c.filled-b3.ensures c.number.ensures
