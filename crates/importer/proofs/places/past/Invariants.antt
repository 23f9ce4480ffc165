-- No place from the one reached on has its byte.
use Rattle.std.proofs.Common.{◌≡◌, take}
use Rattle.intel_hex.specs.Importing as hex
use Rattle.importer.proofs.places.past.Given as goal

abbrev pub invariant-loop-k : goal.invariant-loop-k
invariant-loop-k l = hex.past l.memory ≡ hex.past (take l.k l.memory)
