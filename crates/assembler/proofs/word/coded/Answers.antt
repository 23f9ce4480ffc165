-- The encoder's word.
use Rattle.assembler.specs.HoldingLaws.{coded_comes}
use Rattle.assembler.proofs.word.coded.Goals as goal

pub returns : goal.returns
returns c = coded_comes _ _ _ _ _ c.encode.ensures
