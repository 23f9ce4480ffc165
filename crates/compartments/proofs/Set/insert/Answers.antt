-- `insert` adds the number's bit, and leaves the set for a number from 64 on.
use Rattle.std.proofs.Common.{ap, ◌∙◌}
use Rattle.std.specs.Prelude.{bit_or}
use borrow.Author.Tests.{le-ltb, lt-ltb}
use Rattle.rules.specs.Compartments.{insert}
use Rattle.compartments.proofs.Shift.{one_shl}
use Rattle.compartments.proofs.Set.insert.Goals as goal

pub returns-then-number-lt64 : goal.returns-then-number-lt64
unfolding insert
returns-then-number-lt64 c = ap (bit_or c.args.self.0) (one_shl 64 c.args.number c.if-number-lt64.true) ∙ simp (lt-ltb _ _ c.if-number-lt64.true)

pub returns-else-number-lt64 : goal.returns-else-number-lt64
unfolding insert
returns-else-number-lt64 c = simp (le-ltb _ _ c.if-number-lt64.false)
