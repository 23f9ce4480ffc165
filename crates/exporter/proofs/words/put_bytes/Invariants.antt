-- The digits of the bytes before are put.
use Rattle.std.proofs.Common.{◌≡◌, take}
use Rattle.numerals.specs.Writing.{put}
use Rattle.text.specs.Puts.{put_of}
use Rattle.intel_hex.specs.Exporting.{pairs}
use Rattle.exporter.proofs.words.put_bytes.Given as goal

abbrev pub invariant-loop-byte : goal.invariant-loop-byte
invariant-loop-byte l = put_of l.next l.out ≡ put (pairs (take l.byte-index l.bytes)) l.at l.initial.out
