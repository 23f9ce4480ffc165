-- The bytes so far and those that are left make the sum.
use Rattle.std.proofs.Common.{sym, ap, ◌∙◌, arith, ℕ, ◌+◌}
use Rattle.importer.specs.RecordLaws.{sum_start, sum_turn, sum_ends, summed}
use Rattle.importer.proofs.records.sums_up.Goals as goal

pub loop-i-init : goal.loop-i-init
loop-i-init c = let z = c.octet.ensures.1 in (sum_start _ _, omega arith, omega arith)

pub overflow_add-sum : goal.overflow_add-sum
overflow_add-sum c = let o = c.octet-sum.ensures.1 in let b = c.loop-i.invariant in omega arith

pub loop-i-preserved : goal.loop-i-preserved
loop-i-preserved c =
    let o = c.octet-sum.ensures.1 in
    let b = c.loop-i.invariant in
    (sum_turn _ _ _ _ _ c.loop-i-test.true c.octet-sum.ensures.0 ∙ b.0, omega arith, b.2)

pub returns : goal.returns
returns c = summed _ _ _ (ap (λ (x : ℕ). x + 5) c.octet.ensures.0) (sym (sum_ends _ _ _ _ c.loop-i-test.false) ∙ c.loop-i.invariant.0)
