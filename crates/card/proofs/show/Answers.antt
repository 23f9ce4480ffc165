-- The status is the call's; where the text could not be written it says so.
use Rattle.std.proofs.Common.{ap, ◌∙◌}
use Rattle.printed.proofs.Theorems.Printing.{print_status}
use Rattle.printed.specs.Outcome.{Printed, written}
use Rattle.card.proofs.show.Goals as goal

pub returns : goal.returns
returns c = written (ap (λ (x : Printed). x.status) c.print-p.ensures ∙ print_status _ _ _)
