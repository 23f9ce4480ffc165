-- One more where the set has the number.
use Rattle.std.proofs.Common.{◌≡◌, ℕ, ◌∙◌, take, get_or, arith, rules}
use Rattle.common.specs.Instructions.{bit}
use Rattle.rules.specs.Compartments.{member}
use Rattle.report.specs.CountLaws.{least, count_zero, counts_on, counts_below}
use Rattle.report.proofs.places_with.Goals as goal

pub loop-set-init : goal.loop-set-init
loop-set-init c = count_zero _

pub overflow_add-count : goal.overflow_add-count
overflow_add-count c =
    let o : c.from-count.result ≡ bit (member (get_or (take c.min-places.result c.args.sets.now) c.loop-set.set-index 0) c.args.number) = search rules in
    let m = counts_below (λ (x : ℕ). member x c.args.number) _ _ _ _ _ _ c.loop-set.invariant c.loop-set-test.true o (c.min-places.ensures ∙ least _ _) in
    let n = c.ranges.n.fits in
    omega arith

pub loop-set-preserved : goal.loop-set-preserved
loop-set-preserved c =
    let o : c.from-count.result ≡ bit (member (get_or (take c.min-places.result c.args.sets.now) c.loop-set.set-index 0) c.args.number) = search rules in
    counts_on (λ (x : ℕ). member x c.args.number) _ _ _ _ _ c.loop-set.invariant c.loop-set-test.true o
