-- By owning x, or by the set at x.
use mathlib.Core.Path.{◌∙◌}
use Rattle.reach.specs.ReachLaws.{reached, reached_by}
use Rattle.reach.proofs.Caller.reaches.Goals as goal

pub returns-then-owns : goal.returns-then-owns
returns-then-owns c = c.if-owns.true ∙ reached _ _ _ _ _ _ _ _ c.owns.ensures c.if-owns.true

pub returns-else-owns : goal.returns-else-owns
returns-else-owns c = reached_by _ _ _ _ _ _ _ _ c.owns.ensures c.if-owns.false _ c.numbers_at.ensures _ c.contains.ensures
