-- A full table stays; else the new entry stands at the front of its chain.
use Rattle.std.proofs.Common.{sym, ◌∙◌}
use Rattle.label_table.specs.Table.{added, head}
use Rattle.label_table.specs.Steps.{stays, puts_in}
use Rattle.label_table.proofs.Table.insert.Goals as goal

pub returns-then-is_full : goal.returns-then-is_full
returns-then-is_full c = stays _ _ _ _ _ (sym c.is_full.ensures ∙ c.if-is_full.true)

pub returns : goal.returns
unfolding added head
returns c = puts_in _ _ _ _ _ (sym c.is_full.ensures ∙ c.if-is_full.false) _ c.hash-h.ensures.0
