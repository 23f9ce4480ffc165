-- The pair's places before x have the owner.
use Rattle.tags.specs.TagLaws.{Walking}
use Rattle.tags.proofs.own_pair.Given as goal

abbrev pub invariant-loop-x : goal.invariant-loop-x
invariant-loop-x l = Walking (λ _. l.number) l.initial.owners l.n l.fn.pair.first l.end l.owners l.x l.changes
