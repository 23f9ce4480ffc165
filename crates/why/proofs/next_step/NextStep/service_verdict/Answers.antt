-- 2, 4, then the call's own checks.
use Rattle.std.proofs.Common.{◌∙◌, sym}
use Rattle.why.specs.PlaceLaws.{service_above}
use Rattle.why.specs.VerdictLaws.{service_answer, is_add_lem, is_isolate}
use Rattle.why.specs.Views.{before}
use Rattle.why.proofs.next_step.NextStep.service_verdict.Goals as goal

pub overflow_sub-cpu : goal.overflow_sub-cpu
overflow_sub-cpu c = service_above _ _ (sym c.is_service.ensures ∙ c.if-not-is_service.false)

pub returns-then-cpu-eq-ISOLATE : goal.returns-then-cpu-eq-ISOLATE
unfolding service_answer
returns-then-cpu-eq-ISOLATE c =
    c.isolate_verdict.ensures ∙ is_isolate (before c.args.self.now) c.if-cpu-eq-ISOLATE.true
    ∙ sym (simp (sym c.is_service.ensures ∙ c.if-not-is_service.false, ← c.set_at-gate.ensures, sym c.jumped_in.ensures ∙ c.if-not-jumped_in.false))

pub returns-else-cpu-eq-ISOLATE : goal.returns-else-cpu-eq-ISOLATE
unfolding service_answer
returns-else-cpu-eq-ISOLATE c =
    c.add_verdict.ensures ∙ is_add_lem (before c.args.self.now) c.if-cpu-eq-ISOLATE.false
    ∙ sym (simp (sym c.is_service.ensures ∙ c.if-not-is_service.false, ← c.set_at-gate.ensures, sym c.jumped_in.ensures ∙ c.if-not-jumped_in.false))
