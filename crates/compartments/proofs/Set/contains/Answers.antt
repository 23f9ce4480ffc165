-- `contains` is membership: a number from 64 on is in no 64-bit set.
use Rattle.std.proofs.Common.{rules, sym, refl, ◌∙◌}
use borrow.Author.Tests.{le-ltb}
use Rattle.rules.specs.Compartments.{member}
use Rattle.rules.specs.Laws.CompartmentLaws.{member_high}
use Rattle.compartments.proofs.Set.contains.Goals as goal

pub returns-then-number-lt64 : goal.returns-then-number-lt64
unfolding member
returns-then-number-lt64 c = refl

pub returns-else-number-lt64 : goal.returns-else-number-lt64
returns-else-number-lt64 c = le-ltb _ _ c.if-number-lt64.false ∙ sym (member_high c.args.self.0 c.args.number (search rules) c.if-number-lt64.false)
