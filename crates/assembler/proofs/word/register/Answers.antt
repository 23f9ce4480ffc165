-- The number of the token and the place behind it.
use Rattle.tokens.specs.Kinds.{seen}
use Rattle.assembler.specs.HoldingLaws.{register_comes}
use Rattle.assembler.proofs.word.register.Goals as goal

pub returns : goal.returns
returns c = register_comes _ _ (seen c.token-t.result) c.token-t.ensures
