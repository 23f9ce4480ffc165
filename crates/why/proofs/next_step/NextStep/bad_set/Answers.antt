-- The first set that is not good.
use Rattle.std.proofs.Common.{rules}
use Rattle.rules.specs.Checks.{good_in}
use Rattle.reasons.specs.Why.{bad_set}
use Rattle.why.specs.Views.{before}
use Rattle.why.proofs.next_step.NextStep.bad_set.Goals as goal

pub returns : goal.returns
unfolding bad_set
returns c = c.first_set.ensures (good_in (before c.args.self.now) c.args.self.now.cpu.prev) (λ set r l e. search rules)
