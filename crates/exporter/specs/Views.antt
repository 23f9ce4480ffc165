-- What is seen of the exporter's outcome: the number of its answer, the length written, the buffer.
use Rattle.std.specs.Prelude.{List, ℕ, Result}
use Rattle.std.specs.Result.{result_unwrap_or}
use Rattle.answers.specs.Numbers.{answer_of}
use Rattle.answers.specs.declared.Refusal.{Refusal}
use Rattle.rules.specs.Images.{Written}

abbrev pub exported_of : Result ℕ Refusal → List ℕ → Written
exported_of r out = record { answer = answer_of r; length = result_unwrap_or r 0; out = out }
