-- The records before are put.
use native.Mathlib.Omega.{arith}
use Rattle.std.proofs.Common.{refl}
use Rattle.rules.specs.Images.{all_bytes}
use Rattle.exporter.specs.Records.{records_none, records_put, part_put}
use Rattle.exporter.proofs.records.put_records.Goals as goal

pub loop-i-init : goal.loop-i-init
loop-i-init c = records_none _ _

pub loop-i-preserved : goal.loop-i-preserved
loop-i-preserved c = let w = c.args.words.now in
    let x = c.loop-i in
    records_put (all_bytes w) x.i _ _ _ _ _ x.invariant (part_put w x.i _ _ refl (omega arith) _ _ _ _ c.put_record-at.ensures)
