-- Beyond the end of the memory there is no set to change.
use Rattle.tags.specs.TagLaws.{one_changed, none_changed}
use Rattle.tags.proofs.join_at.Goals as goal

pub returns-then-i-sets : goal.returns-then-i-sets
returns-then-i-sets c = none_changed _ _ _ c.if-i-sets.true

pub returns : goal.returns
returns c = one_changed c.args.sets.now _ _ _ _ c.if-i-sets.false c.insert-set.ensures c.differs.ensures.0
