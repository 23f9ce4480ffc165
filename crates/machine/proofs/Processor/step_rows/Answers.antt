-- `step_rows` is a run of budget 1.
use Rattle.machine.specs.RunLaws.{one_lent_step}
use Rattle.machine.proofs.Processor.step_rows.Goals as goal

pub returns : goal.returns
returns c = one_lent_step _ _ _ c.run_rows-r.ensures
