-- The status of a run by its answer: 0 where the budget is used, 1 of a Halt, and all others stop it.
use Rattle.std.specs.Prelude.{ℕ, zero, suc}
use Rattle.lines.specs.declared.status.Status.{Status}
use Rattle.lines.specs.declared.status.Status.TheVariants.{Halted, Stopped, UsedUp}

abbrev pub status_of : ℕ → Status
status_of zero = UsedUp
status_of (suc zero) = Halted
status_of (suc (suc n)) = Stopped
