-- The places and the services are the rules' count, which fits.
use Rattle.report.specs.CountLaws.{counts_fit, jumps_are}
use native.Mathlib.Omega.{arith}
use borrow.Author.Rules.{rules}
use Rattle.report.proofs.jumps.Goals as goal

pub overflow_add-result : goal.overflow_add-result
overflow_add-result c = omega (arith, counts_fit _ _ _ _ _ _ _ _ _ _ c.places_with.ensures c.services.ensures (search rules))

pub returns : goal.returns
returns c = jumps_are _ _ _ _ _ _ _ _ c.places_with.ensures c.contains-isolate.ensures c.contains-jump.ensures c.contains-store.ensures c.contains-read.ensures c.services.ensures
