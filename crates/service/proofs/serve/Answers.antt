-- `serve`, case by case.
use Rattle.std.proofs.Common.{arith, ◌∙◌}
use Rattle.service.specs.Served.{grown}
use Rattle.service.specs.CaseLaws as law
use Rattle.service.proofs.serve.Goals as goal
use Rattle.service.proofs.serve.Goals.{in_default-via-in-4099+else-strict, in_default-via-in_default-1}

pub returns-in-Ok : goal.returns-in-Ok
unfolding grown
returns-in-Ok c = law.at_isolate_lem _ c.in-4096.is _ c.in-Ok.ensures

pub returns-in-Err : goal.returns-in-Err
returns-in-Err c = law.refuses _ c.in-4096.is _ _ _ _ _ c.in-Err.ensures

pub returns-in-4097 : goal.returns-in-4097
returns-in-4097 c = rw (c.and.ensures, c.unwrap_or.ensures) (law.at_jump _ c.in-4097.is _ (law.added _ _ _ ∙ c.add_target-added.ensures))

pub returns-in-4098 : goal.returns-in-4098
returns-in-4098 c = rw (c.and-in-4098.ensures, c.unwrap_or-in-4098.ensures) (law.at_store _ c.in-4098.is _ (law.added _ _ _ ∙ c.add_target-added-in-4098.ensures))

pub returns-in-4099 : goal.returns-in-4099
returns-in-4099 c = rw c.and-in-4099.ensures (law.at_read _ c.in-4099.is c.if-strict.true _ (law.added _ _ _ ∙ c.add_target-added-in-4099.ensures))

pub returns-in_default : goal.returns-in_default
returns-in_default c =
    elim c.in_default.branch [
      | in_default-via-in-4099+else-strict w ↦ law.at_closed _ w.in-4099.is w.if-strict.false
      | in_default-via-in_default-1 w ↦ law.at_none _ (λ e. omega arith) (λ e. omega arith) (λ e. omega arith) (λ e. omega arith)
    ]
