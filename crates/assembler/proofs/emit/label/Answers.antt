-- Each return is a side of the definition.
use Rattle.tokens.specs.Kinds.{seen}
use Rattle.assembler.specs.EmitLaws.{label_twice, label_once, label_none}
use Rattle.assembler.proofs.emit.label.Goals as goal

pub returns-in-Some : goal.returns-in-Some
returns-in-Some c = label_twice _ _ _ _ (seen c.token-t.result) c.token-t.ensures _ c.locate.ensures _ c.in-Some.is c.if-first-line.true

pub returns-in_default : goal.returns-in_default
returns-in_default c = label_once _ _ _ _ (seen c.token-t.result) c.token-t.ensures _ c.locate.ensures _ c.in-Some.is c.if-first-line.false

pub returns-in_default-2 : goal.returns-in_default-2
returns-in_default-2 c = label_none _ _ _ _ (seen c.token-t.result) c.token-t.ensures _ c.locate.ensures c.in_default.is
