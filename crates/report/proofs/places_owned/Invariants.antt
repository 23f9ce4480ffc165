-- How many of the places before this one the number owns.
use Rattle.std.proofs.Common.{◌≡◌, get_or}
use Rattle.std.specs.Prelude.{eqb}
use Rattle.rules.specs.Counts.{count_from}
use Rattle.report.proofs.places_owned.Given as goal

abbrev pub invariant-loop-owner : goal.invariant-loop-owner
invariant-loop-owner l = l.count ≡ count_from (λ y. eqb (get_or l.owners y 0) l.number) 0 l.owner-index
