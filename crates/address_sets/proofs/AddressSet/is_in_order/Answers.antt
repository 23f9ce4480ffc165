-- The count fits behind the set's place when the rules' sum stays inside memory.
use Rattle.std.proofs.Common.{arith, sym, ◌∙◌}
use borrow.Author.Tests.{leb-true, leb-false, ltb-true}
use Rattle.address_sets.specs.SetLaws.{order_outside, order_long, order_inside}
use Rattle.address_sets.proofs.AddressSet.is_in_order.Goals as goal
use Rattle.address_sets.proofs.AddressSet.is_in_order.Goals.{then-self-n, else-self-n}

pub returns-then-count-n : goal.returns-then-count-n
returns-then-count-n c =
    elim c.if-self-n.branch [
      | then-self-n w ↦ c.is_ordered.ensures ∙ sym (order_inside _ _ _ w.if-self-n.true (omega (arith, leb-true _ _ (sym w.value-is ∙ c.if-count-n.true))))
      | else-self-n w ↦ absurd (omega (arith, ltb-true _ _ (sym w.value-is ∙ c.if-count-n.true)))
    ]

pub returns-else-count-n : goal.returns-else-count-n
returns-else-count-n c =
    c.if-count-n.false
    ∙ elim c.if-self-n.branch [
      | then-self-n w ↦ sym (order_long _ _ _ w.if-self-n.true (omega (arith, leb-false _ _ (sym w.value-is ∙ c.if-count-n.false))))
      | else-self-n w ↦ sym (order_outside _ _ _ w.if-self-n.false)
    ]
