-- The stops before the answer reached are put.
use Rattle.sheet.specs.TotalLaws.{Stops, Short}
use Rattle.sheet.proofs.counting.put_stops.Given as goal

abbrev pub invariant-loop-a : goal.invariant-loop-a
invariant-loop-a l = Stops l.strict l.ended l.initial.out l.at l.p l.out l.a × Short l.strict l.ended l.a
