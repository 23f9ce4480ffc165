-- What is seen of the writer's outcome: the number of its answer, the length written, the buffer.
use Rattle.std.specs.Prelude.{List, ℕ, Result}
use Rattle.std.specs.Result.{result_unwrap_or}
use Rattle.answers.specs.Numbers.{answer_of}
use Rattle.answers.specs.declared.Refusal.{Refusal}
use Rattle.rules.specs.Images as meant

abbrev pub written_of : Result ℕ Refusal → List ℕ → meant.Written
written_of r out = record { answer = answer_of r; length = result_unwrap_or r 0; out = out }
