-- The set of the main compartment at each service, and the first number of the mode.
use Rattle.rules.specs.Compartments.{main_alone}
use Rattle.loader.proofs.fresh.Goals as goal

pub returns : goal.returns
unfolding main_alone
returns c = simp (c.insert-main.ensures, c.none.ensures, c.first_number-next.ensures)
