-- What an image says, as the reader's promises have it.
use Rattle.std.specs.Prelude.{cond, List, ℕ, eqb, replicate, Result, Ok, Err}
use Rattle.common.specs.Answers as answer
use Rattle.rules.specs.Images as meant
use Rattle.rules.specs.Images.{size_in, entry_in, regs_of, image_verdict}
use Rattle.answers.specs.declared.Refusal.{Refusal}
use Rattle.answers.specs.Numbers.{number}
use Rattle.reader.specs.declared.Image.{Image}

-- answer 0 with N, the sixteen registers and the entry; or a refusal and zeros
pub record Read : Type 0 where
  pub answer : ℕ
  pub size : ℕ
  pub regs : List ℕ
  pub entry : ℕ

abbrev pub refused : ℕ → Read
refused v = record { answer = v; size = 0; regs = replicate 16 0; entry = 0 }

-- what an accepted image says, or the refusal and zeros
unfoldable pub image_of : ℕ → List ℕ → Read
image_of lent bytes =
    cond (eqb (image_verdict lent bytes) answer.done)
    (record { answer = answer.done; size = size_in bytes; regs = regs_of bytes; entry = entry_in bytes })
    (refused (image_verdict lent bytes))

-- all that a reading hands back
abbrev pub read_of : Result Image Refusal → Read
read_of (Ok image) = record { answer = answer.done; size = image.size; regs = image.regs; entry = image.entry }
read_of (Err refusal) = refused (number refusal)

-- all that a check hands back
abbrev pub checked_of : Result ℕ Refusal → meant.Checked
checked_of (Ok size) = record { answer = answer.done; size = size }
checked_of (Err refusal) = record { answer = number refusal; size = 0 }
