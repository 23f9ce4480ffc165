-- `count` is the set's size, by the count of ones.
use borrow.Author.Rules.{rules}
use Rattle.compartments.specs.CountLaws.{ones_size}
use Rattle.compartments.proofs.Set.count.Goals as goal

pub returns : goal.returns
returns c = ones_size 64 c.args.self.0 (search rules)
