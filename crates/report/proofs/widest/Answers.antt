-- The most of the words before x.
use Rattle.std.proofs.Common.{◌≡◌, ℕ, ◌∙◌, sym, ap, ap₂, min, max, length, arith}
use Rattle.rules.specs.Counts.{most_below, widest}
use Rattle.report.specs.CountLaws.{least, greatest, most_none, most_more}
use Rattle.report.proofs.widest.Invariants.{at}
use Rattle.report.proofs.widest.Goals as goal

pub loop-x-init : goal.loop-x-init
loop-x-init c = most_none _

pub loop-x-preserved : goal.loop-x-preserved
loop-x-preserved c =
    c.max-most.ensures ∙ greatest _ _ ∙ ap₂ max c.loop-x.invariant c.writer_count.ensures ∙ sym (most_more (at c.args.owners.now c.args.writers.now) c.loop-x.x)

pub returns : goal.returns
unfolding widest
returns c =
    let p : c.min-places.result ≡ min c.args.cpu.n (min (length c.args.owners.now) (length c.args.writers.now)) =
    c.min-places.ensures ∙ least _ _ ∙ ap (min c.args.cpu.n) (c.min.ensures ∙ least _ _) in
    let e : c.loop-x.x ≡ min c.args.cpu.n (min (length c.args.owners.now) (length c.args.writers.now)) = omega arith in
    c.loop-x.invariant ∙ ap (λ (k : ℕ). most_below k (at c.args.owners.now c.args.writers.now)) e
