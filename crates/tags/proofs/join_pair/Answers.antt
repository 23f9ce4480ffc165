-- The number has joined at the pair's places before x.
use native.Mathlib.Omega.{arith}
use Rattle.rules.specs.Step.{joined}
use Rattle.tags.specs.TagLaws.{walk_starts, walk_fits, walk_goes, walk_ends}
use Rattle.tags.proofs.join_pair.Goals as goal

pub loop-x-init : goal.loop-x-init
unfolding joined
loop-x-init c = walk_starts _ _ _ _ _

pub overflow_add-changes : goal.overflow_add-changes
unfolding joined
overflow_add-changes c = omega (arith, walk_fits _ _ _ _ _ _ _ _ _ _ c.loop-x.invariant c.loop-x-test.true (omega arith) (omega arith) c.differs-changes.ensures.0)

pub loop-x-preserved : goal.loop-x-preserved
unfolding joined
loop-x-preserved c = walk_goes _ _ _ _ _ _ _ _ _ _ c.loop-x.invariant c.loop-x-test.true (omega arith) (omega arith) c.differs-changes.ensures.0 c.insert-set.ensures

pub shape_of-sets : goal.shape_of-sets
unfolding joined
shape_of-sets c = c.loop-x.invariant.long

pub returns : goal.returns
unfolding joined
returns c = walk_ends _ _ _ _ _ _ _ _ _ c.loop-x.invariant c.loop-x-test.false (omega arith)
