-- The loop has passed the pairs before j, and the caller may give away all of each.
use Rattle.std.proofs.Common.{ℕ, ◌-◌, ◌∙◌, sym, ap, arith}
use Rattle.common.specs.AddressSets.{set_at, within}
use Rattle.common.proofs.Laws.Tests.{clash}
use Rattle.reasons.specs.First.{first_not, first_out}
use Rattle.why.specs.Giving.{gives}
use Rattle.reach.specs.WalkLaws.{every_within}
use Rattle.address_sets.specs.declared.AddressSet.{AddressSet}
use Rattle.address_sets.specs.SetLaws.{set_of, every_none, every_more, every_all}
use Rattle.why.specs.Views.{before}
use Rattle.why.specs.SetLaws.{gives_within, out_is}
use Rattle.why.specs.WalkLaws.{first_pair_lem}
use Rattle.why.proofs.next_step.NextStep.out_at.Goals as goal

pub loop-j-init : goal.loop-j-init
loop-j-init c = every_none (every_within _) _ _

pub returns-in-Some : goal.returns-in-Some
returns-in-Some c =
    let s = before c.args.self.now in
    c.in-Some.ensures.1 ∙ first_pair_lem (every_within _) (λ p j. first_not (gives c.args.set s) p.first (p.past - p.first)) _ _ _ _ c.pair-pair.ensures (omega (arith, c.count-j-end.ensures)) c.loop-j.invariant c.in-Some.ensures.0
    ∙ ap (λ (w : AddressSet). first_out (gives c.args.set s) (set_of w)) c.set_at-given.ensures ∙ ap (λ (q : ℕ). first_out (gives c.args.set s) (set_at s.words q)) c.pointer.ensures
    ∙ out_is s c.args.set c.requires.fourth

pub loop-j-preserved : goal.loop-j-preserved
loop-j-preserved c = every_more (every_within _) _ _ _ _ c.pair-pair.ensures c.in_default.ensures c.loop-j.invariant

pub returns : goal.returns
returns c =
    let s = before c.args.self.now in
    clash
    (sym (gives_within s c.args.set c.requires.fourth) ∙ ap (λ (q : ℕ). within (set_at s.words q) (gives c.args.set s)) (sym c.pointer.ensures) ∙ ap (λ (w : AddressSet). within (set_of w) (gives c.args.set s)) (sym c.set_at-given.ensures)
    ∙ every_all (every_within _) _ _ _ (omega (arith, c.count-j-end.ensures)) c.loop-j.invariant)
    c.requires.fails
