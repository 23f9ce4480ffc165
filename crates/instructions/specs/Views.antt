-- What is seen of the decoder's and the encoder's outcomes.
use Rattle.std.specs.Prelude.{ℕ, Result, Ok, Err}
use Rattle.common.specs.Answers as answer
use Rattle.common.specs.Words as meant
use Rattle.answers.specs.declared.Refusal.{Refusal}
use Rattle.answers.specs.Numbers.{number}
use Rattle.instructions.specs.declared.Instruction.{Instruction}

-- the instruction that the fields would make
abbrev pub standing : Instruction → meant.Decoded
standing i = meant.instruction i.op i.a i.b i.low

abbrev pub decoded : Result Instruction Refusal → meant.Decoded
decoded (Ok i) = standing i
decoded (Err refusal) = meant.none (number refusal)

abbrev pub encoded : Result ℕ Refusal → meant.Encoded
encoded (Ok word) = record { answer = answer.done; word = word }
encoded (Err refusal) = record { answer = number refusal; word = 0 }
