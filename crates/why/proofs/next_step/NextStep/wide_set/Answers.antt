-- The first set that is not within what the caller may give.
use Rattle.std.proofs.Common.{arith}
use Rattle.common.specs.AddressSets.{within}
use Rattle.reasons.specs.Why.{wide_set, set_by, may_give}
use Rattle.why.specs.Views.{before}
use Rattle.why.specs.SetLaws.{gives_within}
use Rattle.why.proofs.next_step.NextStep.wide_set.Goals as goal

pub returns : goal.returns
unfolding wide_set
returns c =
    let s = before c.args.self.now in
    c.first_set.ensures (λ r. within (set_by s r) (may_give s s.cpu.prev r)) (λ set r l e. let w = gives_within s set (λ f. absurd (omega arith)) in cc)
