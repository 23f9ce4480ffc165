-- The table is that of the rules.
use mathlib.Core.Path.{refl}
use Rattle.grammar.specs.Reading.Shapes.{rows}
use Rattle.syntax.proofs.table.Goals as goal

pub returns : goal.returns
unfolding rows
returns c = refl
