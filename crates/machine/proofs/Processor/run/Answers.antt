-- The run over a table of 64 rows of which nobody asks.
use Rattle.machine.specs.RunLaws.{unseen}
use mathlib.Core.Path.{refl}
use lib.ListN.{replicate}
use Rattle.machine.proofs.Processor.run.Goals as goal

pub returns : goal.returns
returns c = unseen _ _ (replicate 64 (record { owned = 0; jump = 0; store = 0 })) refl _ c.run_rows.ensures
