-- Behind a comma, or where reading was.
use Rattle.tokens.specs.Kinds.{seen, is_kind, no_kind}
use Rattle.tokens.specs.declared.Kind.TheVariants.{Comma}
use Rattle.assembler.specs.HoldingLaws.{at_comma, no_comma}
use Rattle.assembler.proofs.word.past_comma.Goals as goal

pub returns-then-eq : goal.returns-then-eq
returns-then-eq c = at_comma _ _ (seen c.token-t.result) c.token-t.ensures (is_kind _ Comma _ c.eq.ensures c.if-eq.true)

pub returns-else-eq : goal.returns-else-eq
returns-else-eq c = no_comma _ _ (seen c.token-t.result) c.token-t.ensures (no_kind _ Comma _ c.eq.ensures c.if-eq.false)
