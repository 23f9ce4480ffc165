-- No place before the one reached has its byte.
use Rattle.std.proofs.Common.{◌≡◌, drop}
use Rattle.intel_hex.specs.Reading.{any_given}
use Rattle.importer.proofs.places.given.Given as goal

abbrev pub invariant-loop-x : goal.invariant-loop-x
invariant-loop-x l = any_given l.places ≡ any_given (drop l.x-index l.places)
