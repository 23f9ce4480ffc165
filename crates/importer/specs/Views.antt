-- What is seen of an import's outcome, and of what was read.
use Rattle.std.specs.Prelude.{Bool, List, ℕ, Option, None, Some, Result, Ok, Err}
use Rattle.std.specs.Result.{result_unwrap_or}
use Rattle.common.specs.Answers as answer
use Rattle.intel_hex.specs.Reading.{Said, Reading, says, refused}
use Rattle.intel_hex.specs.Importing as meant
use Rattle.answers.specs.declared.Refusal.{Refusal}
use Rattle.answers.specs.declared.Fault.{Fault}
use Rattle.importer.specs.declared.reading.Said as code
use Rattle.answers.specs.Numbers.{number, answer_of}

abbrev pub imported_of : Result ℕ Fault → List ℕ → meant.Imported
imported_of (Ok length) out = record { answer = answer.done; line = 0; length = length; out = out }
imported_of (Err fault) out = record { answer = number fault.refusal; line = fault.line; length = 0; out = out }

-- the same at the end, where no record is at fault
abbrev pub ended_of : Result ℕ Refusal → List ℕ → meant.Imported
ended_of r out = record { answer = answer_of r; line = 0; length = result_unwrap_or r 0; out = out }

abbrev pub said : Bool → ℕ → List ℕ → Said
said ended base memory = record { ended = ended; base = base; memory = memory }

abbrev pub read_of : Result code.Said Fault → List ℕ → Reading
read_of (Ok s) memory = says (said s.ended s.base memory)
read_of (Err fault) memory = refused (number fault.refusal) fault.line

-- a digit's number, and 16 where there is none
abbrev pub digit_by : Option ℕ → ℕ
digit_by None = 16
digit_by (Some d) = d
