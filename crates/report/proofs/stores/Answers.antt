-- The services have no writers: the places are all.
use mathlib.Core.Path.{◌∙◌}
use Rattle.report.specs.CountLaws.{stores_are}
use Rattle.report.proofs.stores.Goals as goal

pub returns : goal.returns
returns c = c.places_with.ensures ∙ stores_are _ _
