-- The number has joined at the pairs before j.
use native.Mathlib.Omega.{arith}
use Rattle.rules.specs.Laws.CompartmentLaws.{insert_twice}
use Rattle.rules.specs.Step.{joined}
use Rattle.tags.specs.TagLaws.{set_starts, set_fits, set_goes, set_ends}
use Rattle.tags.proofs.join.Goals as goal

pub loop-j-init : goal.loop-j-init
unfolding joined
loop-j-init c = set_starts _ (λ v. insert_twice v _) _ _ _ _ _

pub overflow_add-changes : goal.overflow_add-changes
unfolding joined
overflow_add-changes c =
    let left = c.join_pair-changes in
    omega (arith, set_fits _ (λ v. insert_twice v _) _ _ _ _ _ _ _ _ c.loop-j.invariant (omega arith) _ c.pair.ensures _ left.auto.sets left.ensures.0 _ left.ensures.1)

pub loop-j-preserved : goal.loop-j-preserved
unfolding joined
loop-j-preserved c =
    let left = c.join_pair-changes in
    set_goes _ (λ v. insert_twice v _) _ _ _ _ _ _ _ _ c.loop-j.invariant (omega arith) _ c.pair.ensures _ left.auto.sets left.ensures.0 _ left.ensures.1

pub shape_of-sets : goal.shape_of-sets
unfolding joined
shape_of-sets c = c.loop-j.invariant.long

pub returns : goal.returns
unfolding joined
returns c = set_ends _ (λ v. insert_twice v _) _ _ _ _ _ _ _ _ c.loop-j.invariant c.loop-j-test.false (omega arith)
