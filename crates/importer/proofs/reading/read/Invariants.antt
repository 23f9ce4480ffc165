-- The lines so far are said; the rest of the text says the rest.
use mathlib.Core.Path.{◌≡◌}
use Prim.Native.Nat.{◌+◌, ◌-◌, ◌≤◌}
use lib.ListN.{length, drop}
use Rattle.intel_hex.specs.Reading.{from, reading}
use Rattle.intel_hex.specs.Records.{lines}
use Rattle.importer.specs.Views.{said}
use Rattle.importer.proofs.reading.read.Given as goal

abbrev pub invariant-loop-at : goal.invariant-loop-at
invariant-loop-at l = (l.line ≤ l.at) × (l.at ≤ length l.text + 1) × (reading l.text ≡ from (said l.said.ended l.said.base l.memory) l.line (lines (drop l.at l.text)))

abbrev pub decreases-loop-at : goal.decreases-loop-at
decreases-loop-at l = length l.text + 1 - l.at
