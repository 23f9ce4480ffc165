-- One more where the number owns the place.
use Rattle.std.proofs.Common.{◌≡◌, ℕ, ◌∙◌, take, get_or, arith, rules}
use Rattle.std.specs.Prelude.{eqb}
use Rattle.common.specs.Instructions.{bit}
use Rattle.report.specs.CountLaws.{least, count_zero, counts_on, counts_below}
use Rattle.report.proofs.places_owned.Goals as goal

pub loop-owner-init : goal.loop-owner-init
loop-owner-init c = count_zero _

pub overflow_add-count : goal.overflow_add-count
overflow_add-count c =
    let o : c.from-count.result ≡ bit (eqb (get_or (take c.min-places.result c.args.owners.now) c.loop-owner.owner-index 0) c.args.number) = search rules in
    let m = counts_below (λ (x : ℕ). eqb x c.args.number) _ _ _ _ _ _ c.loop-owner.invariant c.loop-owner-test.true o (c.min-places.ensures ∙ least _ _) in
    let n = c.ranges.n.fits in
    omega arith

pub loop-owner-preserved : goal.loop-owner-preserved
loop-owner-preserved c =
    let o : c.from-count.result ≡ bit (eqb (get_or (take c.min-places.result c.args.owners.now) c.loop-owner.owner-index 0) c.args.number) = search rules in
    counts_on (λ (x : ℕ). eqb x c.args.number) _ _ _ _ _ c.loop-owner.invariant c.loop-owner-test.true o
