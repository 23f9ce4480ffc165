-- The pairs before j have the owner.
use native.Mathlib.Omega.{arith}
use mathlib.Core.Path.{refl}
use Rattle.rules.specs.Step.{owned}
use Rattle.tags.specs.TagLaws.{set_starts, set_fits, set_goes, set_ends}
use Rattle.tags.proofs.own.Goals as goal

pub loop-j-init : goal.loop-j-init
unfolding owned
loop-j-init c = set_starts _ (λ v. refl) _ _ _ _ _

pub overflow_add-changes : goal.overflow_add-changes
unfolding owned
overflow_add-changes c =
    let left = c.own_pair-changes in
    omega (arith, set_fits _ (λ v. refl) _ _ _ _ _ _ _ _ c.loop-j.invariant (omega arith) _ c.pair.ensures _ left.auto.owners left.ensures.0 _ left.ensures.1)

pub loop-j-preserved : goal.loop-j-preserved
unfolding owned
loop-j-preserved c =
    let left = c.own_pair-changes in
    set_goes _ (λ v. refl) _ _ _ _ _ _ _ _ c.loop-j.invariant (omega arith) _ c.pair.ensures _ left.auto.owners left.ensures.0 _ left.ensures.1

pub shape_of-owners : goal.shape_of-owners
unfolding owned
shape_of-owners c = c.loop-j.invariant.long

pub returns : goal.returns
unfolding owned
returns c = set_ends _ (λ v. refl) _ _ _ _ _ _ _ _ c.loop-j.invariant c.loop-j-test.false (omega arith)
