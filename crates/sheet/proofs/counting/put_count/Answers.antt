-- A number of 32 bits has ten digits at most.
use Rattle.printed.proofs.Theorems.Lengths.{field_most}
use Rattle.sheet.proofs.counting.put_count.Goals as goal

pub returns : goal.returns
returns c = let g = c.args in record { written = c.put_field.ensures; bounded = field_most g.name.now g.n c.ranges.n.fits }
