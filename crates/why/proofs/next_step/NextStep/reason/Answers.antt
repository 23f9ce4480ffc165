-- What 8 and 10 ask of the set that they tell of.
use Rattle.std.proofs.Common.{◌≡◌, ◌∙◌, sym, ap, subst}
use Rattle.common.specs.AddressSets.{good_set, within}
use Rattle.address_sets.specs.declared.AddressSet.{AddressSet}
use Rattle.rules.specs.State.{State, reads}
use Rattle.rules.specs.Checks.{good_in, verdict}
use Rattle.answers.specs.Numbers.{number}
use Rattle.reasons.specs.Laws.FirstLaws.{Failing}
use Rattle.reasons.specs.Why.{set_by, may_give}
use Rattle.why.specs.Views.{before}
use Rattle.why.specs.RowLaws.{bad_there, wide_there}
use Rattle.why.proofs.next_step.NextStep.reason.Goals as goal

pub set_fault-fault-requires : goal.set_fault-fault-requires
set_fault-fault-requires c =
    let s : State = before c.args.self.now in
    let v : verdict s ≡ 8 = sym c.requires ∙ ap number c.in-BadSet.is in
    ap (λ (w : AddressSet). good_set w.words.now s.cpu.n (reads s s.cpu.prev) w.at) c.set_at.ensures ∙ ap (good_set s.words s.cpu.n (reads s s.cpu.prev)) c.pointer.ensures ∙ ap (good_in s s.cpu.prev) c.bad_set-set.ensures ∙ (bad_there s v).fails

pub out_at-place-requires : goal.out_at-place-requires
out_at-place-requires c =
    let s : State = before c.args.self.now in
    let v : verdict s ≡ 10 = sym c.requires ∙ ap number c.in-NotWithin.is in
    subst (Failing s.cpu.strict (λ r. within (set_by s r) (may_give s s.cpu.prev r))) (sym c.wide_set-set.ensures) (wide_there s v)
