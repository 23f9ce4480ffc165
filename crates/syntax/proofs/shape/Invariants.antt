-- From the place reached on, in the row reached, the pass comes to the line's shape.
use Prim.Native.Nat.{◌-◌}
use lib.ListN.{length}
use Rattle.grammar.specs.Laws.Runs.{line_at}
use Rattle.grammar.specs.Reading.Shapes.{shape_of}
use Rattle.sources.specs.Texts.{reading}
use Rattle.syntax.specs.Passes.{Passing}
use Rattle.syntax.proofs.shape.Given as goal

abbrev pub invariant-loop-behind : goal.invariant-loop-behind
invariant-loop-behind l = Passing l.text (shape_of (reading (line_at l.text l.at))) l.place l.state l.depth

abbrev pub decreases-loop-behind : goal.decreases-loop-behind
decreases-loop-behind l = length l.text - l.place
