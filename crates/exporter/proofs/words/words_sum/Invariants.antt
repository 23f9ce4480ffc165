-- The bytes of the words before are added up.
use Rattle.std.proofs.Common.{◌≡◌, take}
use Rattle.rules.specs.Images.{all_bytes}
use Rattle.intel_hex.specs.Records.{sum}
use Rattle.exporter.proofs.words.words_sum.Given as goal

abbrev pub invariant-loop-word : goal.invariant-loop-word
invariant-loop-word l = l.sum ≡ sum (all_bytes (take l.word-index l.words))
