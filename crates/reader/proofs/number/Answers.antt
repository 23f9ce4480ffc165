use Rattle.std.proofs.Common.{arith}
use Rattle.rules.specs.Images.{field}
use Rattle.reader.proofs.number.Goals as goal

pub returns : goal.returns
unfolding field
returns c = omega arith
