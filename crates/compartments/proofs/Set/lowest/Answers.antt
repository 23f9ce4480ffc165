-- `lowest` is the lowest number, by the count of trailing zeros.
use Rattle.compartments.specs.CountLaws.{zeros_lowest}
use Rattle.compartments.proofs.Set.lowest.Goals as goal

pub returns : goal.returns
returns c = zeros_lowest c.args.self.0
