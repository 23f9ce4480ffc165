-- The words read so far stand over what the memory held.
use Rattle.std.proofs.Common.{◌≡◌, take}
use Rattle.rules.specs.Images.{fields, over}
use Rattle.loader.proofs.filling.fill_words.Given as goal

abbrev pub invariant-loop-i : goal.invariant-loop-i
invariant-loop-i l = l.word-items ≡ over (fields l.bytes 4 l.i) (take l.n l.fn.words)
