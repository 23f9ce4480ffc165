-- The records before are put.
use Rattle.std.proofs.Common.{◌≡◌}
use Rattle.rules.specs.Images.{all_bytes}
use Rattle.numerals.specs.Writing.{put}
use Rattle.text.specs.Puts.{put_of}
use Rattle.intel_hex.specs.Exporting.{records}
use Rattle.exporter.proofs.records.put_records.Given as goal

abbrev pub invariant-loop-i : goal.invariant-loop-i
invariant-loop-i l = put_of l.at l.out ≡ put (records (all_bytes l.words) 0 l.i) 0 l.initial.out
