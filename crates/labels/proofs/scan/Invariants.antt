-- What lies ahead of the place reached, counted from the first line, is what the whole text says.
use mathlib.Core.Path.{◌≡◌}
use Prim.Native.Nat.{◌+◌, ◌-◌, ◌≤◌}
use lib.ListN.{length}
use Rattle.grammar.specs.Laws.Runs.{name_at}
use Rattle.sources.specs.Texts.{readings}
use Rattle.sources.specs.Labels.{first}
use Rattle.sources.proofs.Laws.FirstLaws.{ahead}
use Rattle.labels.proofs.scan.Given as goal

abbrev pub invariant-loop-at : goal.invariant-loop-at
invariant-loop-at l =
    (l.at ≤ length l.text + 1) × (l.definition.line ≤ l.at) × (l.definition.words ≤ l.definition.line) × (first (name_at l.text l.place) (readings l.text) ≡ ahead l.text (name_at l.text l.place) l.at l.definition.line l.definition.words)

abbrev pub decreases-loop-at : goal.decreases-loop-at
decreases-loop-at l = length l.text + 1 - l.at
