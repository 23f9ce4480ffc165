-- The lines so far are without fault and their words are kept; the rest of the text says the rest.
use Rattle.std.proofs.Common.{◌≡◌, ◌+◌, ◌-◌, ◌≤◌, length, take}
use Rattle.sources.proofs.Laws.Walks.{Walked}
use Rattle.assembler.proofs.emit.emit.Given as goal

abbrev pub invariant-loop-at : goal.invariant-loop-at
invariant-loop-at l =
    (l.at ≤ length l.labels.text.now + 1) × (l.line ≤ l.at) × (l.count ≤ 2048) × (length l.words ≡ 2048) × Walked l.labels.text.now l.at l.line l.count (take l.count l.words)

abbrev pub decreases-loop-at : goal.decreases-loop-at
decreases-loop-at l = length l.labels.text.now + 1 - l.at
