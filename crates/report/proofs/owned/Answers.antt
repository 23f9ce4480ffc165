-- The places and the services are the rules' count, which fits.
use Rattle.report.specs.CountLaws.{counts_fit, owned_is}
use native.Mathlib.Omega.{arith}
use borrow.Author.Rules.{rules}
use Rattle.report.proofs.owned.Goals as goal

pub overflow_add-result : goal.overflow_add-result
overflow_add-result c = omega (arith, counts_fit _ _ _ _ _ _ _ _ _ _ c.places_owned.ensures c.services.ensures (search rules))

pub returns : goal.returns
returns c = owned_is _ _ _ _ c.places_owned.ensures c.services.ensures
