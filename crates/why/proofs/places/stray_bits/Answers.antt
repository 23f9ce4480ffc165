-- The bits of each field that are above its largest value.
use Rattle.why.specs.PlaceLaws.{no_opcode, stray_is}
use Rattle.why.proofs.places.stray_bits.Goals as goal

pub returns-then-op-gt13 : goal.returns-then-op-gt13
returns-then-op-gt13 c = no_opcode _ _ _ _ _ c.fields-i.ensures c.if-op-gt13.true

pub returns : goal.returns
returns c = stray_is _ _ _ _ _ c.fields-i.ensures c.if-op-gt13.false _ c.used-used.ensures _ _ _ c.beyond-a.ensures c.beyond-b.ensures c.beyond-low.ensures
