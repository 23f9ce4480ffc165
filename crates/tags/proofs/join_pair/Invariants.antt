-- The number has joined at the pair's places before x.
use Rattle.rules.specs.Compartments.{insert}
use Rattle.tags.specs.TagLaws.{Walking}
use Rattle.tags.proofs.join_pair.Given as goal

abbrev pub invariant-loop-x : goal.invariant-loop-x
invariant-loop-x l = Walking (λ v. insert v l.number) l.initial.sets l.n l.fn.pair.first l.end l.sets l.x l.changes
