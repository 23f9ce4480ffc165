-- How many of the sets before this one have the number.
use Rattle.std.proofs.Common.{◌≡◌, get_or}
use Rattle.rules.specs.Compartments.{member}
use Rattle.rules.specs.Counts.{count_from}
use Rattle.report.proofs.places_with.Given as goal

abbrev pub invariant-loop-set : goal.invariant-loop-set
invariant-loop-set l = l.count ≡ count_from (λ y. member (get_or l.sets y 0) l.number) 0 l.set-index
