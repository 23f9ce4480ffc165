-- `ended`: the arrival, taken apart.
use Rattle.machine.proofs.ended.Goals as goal

pub returns : goal.returns
returns c = simp (c.prev_of-prev.ensures, c.jumped_of-jumped.ensures)
