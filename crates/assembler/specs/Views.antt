-- What is seen of an assembly's outcome.
use Rattle.std.specs.Prelude.{List, ℕ, Result, Ok, Err}
use Rattle.common.specs.Answers as answer
use Rattle.answers.specs.Numbers.{number}
use Rattle.sources.specs.Meaning as meant
use Rattle.answers.specs.declared.Fault.{Fault}

abbrev pub assembled_of : Result ℕ Fault → List ℕ → meant.Assembled
assembled_of (Ok length) out = record { answer = answer.done; line = 0; length = length; out = out }
assembled_of (Err fault) out = record { answer = number fault.refusal; line = fault.line; length = 0; out = out }
