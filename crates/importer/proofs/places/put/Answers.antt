-- The bytes put so far and those that are left are the record's.
use Rattle.std.proofs.Common.{sym, ◌∙◌}
use Rattle.importer.specs.PlaceLaws.{put_starts, put_turn, put_ends}
use Rattle.importer.proofs.places.put.Goals as goal

pub loop-i-init : goal.loop-i-init
loop-i-init c = put_starts _ _ _ _

pub loop-i-preserved : goal.loop-i-preserved
loop-i-preserved c = c.loop-i.invariant ∙ put_turn _ _ _ _ _ c.loop-i-test.true _ c.octet.ensures.0

pub returns : goal.returns
returns c = sym (c.loop-i.invariant ∙ put_ends _ _ _ _ _ c.loop-i-test.false)
