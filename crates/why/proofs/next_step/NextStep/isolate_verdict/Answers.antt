-- The call is the state's.
use Rattle.std.proofs.Common.{◌∙◌}
use Rattle.std.proofs.lemmas.Result.{err_from_is_err_and}
use Rattle.service.specs.ServiceLaws.{same_isolate}
use Rattle.why.specs.Views.{before}
use Rattle.why.proofs.next_step.NextStep.isolate_verdict.Goals as goal

pub returns-in_err-isolate_verdict : goal.returns-in_err-isolate_verdict
returns-in_err-isolate_verdict c =
    let p = err_from_is_err_and c.from_residual.result c.from_residual.ensures.1 in
    let e = rw c.caller.ensures at c.in_err-isolate_verdict.ensures in
    rw (p.1, p.2) (e ∙ same_isolate (before c.args.self.now))

pub returns : goal.returns
returns c = let e = rw c.caller.ensures at c.in_ok-isolate_verdict.ensures in e ∙ same_isolate (before c.args.self.now)
