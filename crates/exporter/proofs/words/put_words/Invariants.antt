-- The digits of the words before are put.
use Rattle.std.proofs.Common.{◌≡◌, take}
use Rattle.rules.specs.Images.{all_bytes}
use Rattle.numerals.specs.Writing.{put}
use Rattle.text.specs.Puts.{put_of}
use Rattle.intel_hex.specs.Exporting.{pairs}
use Rattle.exporter.proofs.words.put_words.Given as goal

abbrev pub invariant-loop-word : goal.invariant-loop-word
invariant-loop-word l = put_of l.next l.out ≡ put (pairs (all_bytes (take l.word-index l.words))) l.at l.initial.out
