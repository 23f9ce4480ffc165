-- The table holds the labels of the lines so far, and what lies ahead tells the others.
use Prim.Native.Nat.{◌+◌, ◌-◌, ◌≤◌}
use lib.ListN.{length}
use Rattle.assembler.specs.Surveys.{Surveying}
use Rattle.assembler.proofs.survey.survey.Given as goal

abbrev pub invariant-loop-at : goal.invariant-loop-at
invariant-loop-at l = (l.at ≤ length l.text + 1) × (l.here.line ≤ l.at) × (l.here.words ≤ l.here.line) × Surveying l.text l.table l.at l.here.line l.here.words

abbrev pub decreases-loop-at : goal.decreases-loop-at
decreases-loop-at l = length l.text + 1 - l.at
