-- The first address at which the closure answers true.
use Rattle.std.proofs.Common.{◌≡◌, true, false, ◌∙◌, ap, subst, Bool, ℕ, rules}
use borrow.Author.Tests.{tests}
use Rattle.std.proofs.lemmas.Iterator.{first_from_Range}
use Rattle.rules.specs.State.{State}
use Rattle.reach.specs.declared.Caller.{Caller}
use Rattle.reach.specs.Called.{asked_by, reaches}
use Rattle.why.specs.Views.{before}
use Rattle.why.specs.Giving.{gives}
use Rattle.why.specs.WalkLaws.{IsFirstNot, found_first}
use Rattle.why.proofs.next_step.NextStep.first_not.Goals as goal

pub returns : goal.returns
returns c =
    let k = c.caller-caller.result in
    let t = c.tags-tags.result in
    let test : ℕ → Bool = reaches (asked_by k t) k.number in
    let same : test ≡ gives c.args.set (before c.args.self.now) =
    ap (λ (k : Caller). reaches (asked_by k t) k.number) c.caller-caller.ensures ∙ ap (λ (s : State). reaches s c.args.self.now.cpu.prev) c.tags-tags.ensures in
    subst (λ f. IsFirstNot f c.args.first c.args.past c.find.result) same
    (found_first _ _ _ _
    (first_from_Range _ _ _ _ (λ x. test x ≡ false) (λ x. test x ≡ true) c.find.ensures.ran (λ x q k. search (rules, tests)) (λ x q k. search (rules, tests))))
