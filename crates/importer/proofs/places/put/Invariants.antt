-- The bytes put so far and those that are left are the record's.
use Rattle.std.proofs.Common.{◌≡◌}
use Rattle.std.proofs.lemmas.List.Edits.{sets}
use Rattle.intel_hex.specs.Records.{octets}
use Rattle.importer.specs.PlaceLaws.{rest}
use Rattle.importer.proofs.places.put.Given as goal

abbrev pub invariant-loop-i : goal.invariant-loop-i
invariant-loop-i l = sets l.initial.memory l.at (octets l.pairs 4 l.n) ≡ rest l.memory l.pairs l.at l.i l.n
