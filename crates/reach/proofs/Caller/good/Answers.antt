-- Inside memory and in order, and in strict mode the caller reaches each word of the set.
use Rattle.reach.specs.ReadLaws.{order_fits, not_in_order, all_read, reads_all}
use native.Mathlib.Omega.{arith}
use mathlib.Core.Path.{sym, ◌∙◌}
use borrow.Author.Tests.{not-true, not-false}
use Rattle.reach.proofs.Caller.good.Goals as goal

pub returns-then-not-is_in_order : goal.returns-then-not-is_in_order
returns-then-not-is_in_order c = not_in_order _ _ _ _ (sym c.is_in_order.ensures ∙ c.if-not-is_in_order.true)

pub returns-then-not-self : goal.returns-then-not-self
returns-then-not-self c = all_read _ _ _ (sym c.is_in_order.ensures ∙ c.if-not-is_in_order.false) _ _ (not-true _ c.if-not-self.true)

pub overflow_add-past : goal.overflow_add-past
overflow_add-past c = omega (arith, order_fits _ _ _ (sym c.is_in_order.ensures ∙ c.if-not-is_in_order.false))

pub overflow_mul-past : goal.overflow_mul-past
overflow_mul-past c = omega (arith, order_fits _ _ _ (sym c.is_in_order.ensures ∙ c.if-not-is_in_order.false), c.count.ensures)

pub overflow_add-past-2 : goal.overflow_add-past-2
overflow_add-past-2 c = omega (arith, order_fits _ _ _ (sym c.is_in_order.ensures ∙ c.if-not-is_in_order.false), c.count.ensures)

pub returns : goal.returns
returns c = reads_all _ _ _ (sym c.is_in_order.ensures ∙ c.if-not-is_in_order.false) _ _ (not-false _ c.if-not-self.false) _ c.count.ensures _ c.reaches_all.ensures
