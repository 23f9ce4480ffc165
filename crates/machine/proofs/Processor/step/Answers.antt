-- `step` is a run of budget 1.
use Rattle.machine.specs.RunLaws.{one_step_lem}
use Rattle.machine.proofs.Processor.step.Goals as goal

pub returns : goal.returns
returns c = one_step_lem _ _ c.run-r.ensures
