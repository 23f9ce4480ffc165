-- Three services, and in strict mode the fourth.
use native.Mathlib.Omega.{arith}
use Rattle.tags.specs.TagLaws.{three_differ, four_differ}
use Rattle.std.proofs.Common.{ap}
use Rattle.std.specs.Prelude.{not}
use Rattle.tags.proofs.services_joined.Goals as goal

pub overflow_add-three : goal.overflow_add-three
overflow_add-three c = omega (arith, c.differs-isolate.ensures.1, c.differs-add_jump.ensures.1)

pub overflow_add-three-2 : goal.overflow_add-three-2
overflow_add-three-2 c = omega (arith, c.differs-isolate.ensures.1, c.differs-add_jump.ensures.1, c.differs-add_store.ensures.1)

pub returns-else-strict : goal.returns-else-strict
returns-else-strict c = three_differ _ c.args.before c.args.after _ _ _ c.differs-isolate.ensures.0 c.differs-add_jump.ensures.0 c.differs-add_store.ensures.0 (ap not c.if-strict.false)

pub overflow_add-result : goal.overflow_add-result
overflow_add-result c =
    let a = c.differs-isolate.ensures.1 in
    let b = c.differs-add_jump.ensures.1 in
    let d = c.differs-add_store.ensures.1 in
    let e = c.differs.ensures.1 in
    omega (arith, a, b, d, e)

pub returns-then-strict : goal.returns-then-strict
returns-then-strict c = four_differ _ c.args.before c.args.after _ _ _ c.differs-isolate.ensures.0 c.differs-add_jump.ensures.0 c.differs-add_store.ensures.0 (ap not c.if-strict.true) _ c.differs.ensures.0
