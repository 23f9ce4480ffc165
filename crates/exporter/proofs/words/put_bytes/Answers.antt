-- The digits of the bytes before are put.
use native.Mathlib.Omega.{arith}
use Rattle.exporter.specs.Words.{bytes_none, byte_put}
use Rattle.exporter.proofs.words.put_bytes.Goals as goal

pub loop-byte-init : goal.loop-byte-init
loop-byte-init c = bytes_none c.args.bytes.now _ _ c.requires

pub loop-byte-preserved : goal.loop-byte-preserved
loop-byte-preserved c = let x = c.loop-byte in
    byte_put c.args.at _ _ _ _ _ c.args.bytes.now x.byte-index (omega arith) x.invariant (cc)
