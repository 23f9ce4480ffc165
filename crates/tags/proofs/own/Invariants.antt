-- The pairs before j have the owner.
use Rattle.tags.specs.TagLaws.{Pairing}
use Rattle.tags.proofs.own.Given as goal

abbrev pub invariant-loop-j : goal.invariant-loop-j
invariant-loop-j l = Pairing (λ _. l.number) l.initial.owners l.n l.set.words.now l.set.at l.j-end l.owners l.j l.changes
