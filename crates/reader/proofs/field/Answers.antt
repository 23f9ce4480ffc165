-- Four bytes make the field.
use Rattle.rules.specs.Images.{field}
use Rattle.reader.proofs.field.Goals as goal

pub returns : goal.returns
unfolding field
returns c = c.number.ensures
