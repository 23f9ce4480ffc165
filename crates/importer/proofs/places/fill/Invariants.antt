-- The words so far stand over what was there.
use Rattle.std.proofs.Common.{◌≡◌, map}
use Rattle.intel_hex.specs.Importing.{filled}
use Rattle.rules.specs.Images.{fields, over}
use Rattle.importer.proofs.places.fill.Given as goal

abbrev pub invariant-loop-i : goal.invariant-loop-i
invariant-loop-i l = l.words ≡ over (fields (map filled l.memory) 0 l.i) l.initial.words
