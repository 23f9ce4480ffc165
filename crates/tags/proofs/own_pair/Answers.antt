-- The pair's places before x have the owner.
use mathlib.Core.Path.{refl}
use native.Mathlib.Omega.{arith}
use Rattle.std.specs.Prelude.{◌≡◌, get_or}
use Rattle.common.specs.Instructions.{bit}
use Rattle.rules.specs.Laws.CountLaws.{differs}
use Rattle.rules.specs.Step.{owned}
use Rattle.tags.specs.TagLaws.{walk_starts, walk_fits, walk_goes, walk_ends}
use Rattle.tags.proofs.own_pair.Goals as goal

pub loop-x-init : goal.loop-x-init
unfolding owned
loop-x-init c = walk_starts _ _ _ _ _

pub overflow_add-changes : goal.overflow_add-changes
unfolding owned
overflow_add-changes c =
    let d : c.differs-changes.result ≡ bit (differs (get_or c.loop-x.owners c.loop-x.x 0) c.args.number) = cc in
    omega (arith, walk_fits _ _ _ _ _ _ _ _ _ _ c.loop-x.invariant c.loop-x-test.true (omega arith) (omega arith) d)

pub loop-x-preserved : goal.loop-x-preserved
unfolding owned
loop-x-preserved c =
    let d : c.differs-changes.result ≡ bit (differs (get_or c.loop-x.owners c.loop-x.x 0) c.args.number) = cc in
    walk_goes _ _ _ _ _ _ _ _ _ _ c.loop-x.invariant c.loop-x-test.true (omega arith) (omega arith) d refl

pub shape_of-owners : goal.shape_of-owners
unfolding owned
shape_of-owners c = c.loop-x.invariant.long

pub returns : goal.returns
unfolding owned
returns c = walk_ends _ _ _ _ _ _ _ _ _ c.loop-x.invariant c.loop-x-test.false (omega arith)
