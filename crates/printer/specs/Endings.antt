-- The status that each ending is told as.
use Rattle.std.specs.Prelude.{ℕ}
use Rattle.printed.specs.Outcome as told
use Rattle.printer.specs.declared.Ending.{Ending}
use Rattle.printer.specs.declared.Ending.TheVariants.{Halted, Stopped, Refused, BudgetUsed, NotRun}

abbrev pub status_of : Ending → ℕ
status_of Halted = told.halted
status_of Stopped = told.stopped
status_of Refused = told.turned_away
status_of BudgetUsed = told.budget_used
status_of NotRun = told.not_run
