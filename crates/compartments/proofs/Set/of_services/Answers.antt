-- 30 is the set of 1 to 4, and 14 that of 1, 2 and 3.
use mathlib.Core.Path.{sym, ap}
use Rattle.common.specs.Services.{service_count}
use Rattle.rules.specs.Compartments.{insert, up_to, service_numbers}
use Rattle.compartments.proofs.Set.of_services.Goals as goal

pub returns-then-strict : goal.returns-then-strict
unfolding insert up_to service_numbers service_count
returns-then-strict c = sym (ap service_numbers c.if-strict.true)

pub returns-else-strict : goal.returns-else-strict
unfolding insert up_to service_numbers service_count
returns-else-strict c = sym (ap service_numbers c.if-strict.false)
