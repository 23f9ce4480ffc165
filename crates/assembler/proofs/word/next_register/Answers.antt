-- The comma, then the register.
use Rattle.assembler.specs.HoldingLaws.{operand_comes}
use Rattle.assembler.proofs.word.next_register.Goals as goal

pub returns : goal.returns
returns c = operand_comes _ _ _ _ c.past_comma.ensures c.register.ensures
