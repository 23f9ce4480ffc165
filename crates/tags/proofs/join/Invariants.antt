-- The number has joined at the pairs before j.
use Rattle.rules.specs.Compartments.{insert}
use Rattle.tags.specs.TagLaws.{Pairing}
use Rattle.tags.proofs.join.Given as goal

abbrev pub invariant-loop-j : goal.invariant-loop-j
invariant-loop-j l = Pairing (λ v. insert v l.number) l.initial.sets l.n l.set.words.now l.set.at l.j-end l.sets l.j l.changes
