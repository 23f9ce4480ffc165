-- Each return is a law of the closing bracket.
use Rattle.tokens.specs.Kinds.{seen, are_other, are_same}
use Rattle.tokens.specs.declared.Kind.TheVariants.{Right}
use Rattle.expressions.specs.Reading.{closed_missing, closed_done}
use Rattle.expressions.proofs.Line.closed.Goals as goal

pub returns-then-ne : goal.returns-then-ne
returns-then-ne c = closed_missing _ _ (seen c.token-t.result) c.token-t.ensures (are_other _ Right _ c.ne.ensures c.if-ne.true)

pub returns : goal.returns
returns c = closed_done _ _ (seen c.token-t.result) c.token-t.ensures (are_same _ Right _ c.ne.ensures c.if-ne.false)
