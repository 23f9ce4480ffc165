-- The image of what a text says, with the caller's registers and entry.
use Rattle.std.specs.Prelude.{cond, not, List, [], ◌∷◌, map, ℕ, suc, ◌/◌, ◌%◌, leb, ltb, eqb, length}
use Rattle.common.specs.Answers as answer
use Rattle.common.specs.Tables.{Check, on, first_of}
use Rattle.rules.specs.Images.{fields, image_bytes, over}
use Rattle.intel_hex.specs.Reading.{none, Said, Reading, says, refused, reading}

-- ---- words

-- one past the highest place that has its byte, and 0 where none has
unfoldable pub past : List ℕ → ℕ
past [] = 0
past (x ∷ xs) = cond (eqb (past xs) 0) (cond (ltb x none) 1 0) (suc (past xs))

-- "gaps filled with 0"
abbrev pub filled : ℕ → ℕ
filled x = cond (ltb x none) x 0

-- "four bytes to a word, little-endian"
unfoldable pub words_of : List ℕ → List ℕ
words_of memory = fields (map filled memory) 0 (past memory / 4)

-- ---- "at the end 65 no end record, 68 no data, 67 one past the highest byte address is not a multiple of four; then 25 for the caller's
-- entry, then 31"

unfoldable pub end_checks : Said → List ℕ → ℕ → List ℕ → List Check
end_checks s regs entry out =
    on answer.no_end (not s.ended)
    ∷ on answer.no_data (eqb (past s.memory) 0)
    ∷ on answer.part_word (not (eqb (past s.memory % 4) 0))
    ∷ on answer.bad_entry (not (ltb entry (length (words_of s.memory))))
    ∷ on answer.short_buffer (not (leb (length (image_bytes (words_of s.memory) regs entry)) (length out)))
    ∷ []

unfoldable pub end_verdict : Said → List ℕ → ℕ → List ℕ → ℕ
end_verdict s regs entry out = first_of (end_checks s regs entry out)

-- ---- importing

-- the answer; the record at fault, counted from 1, or 0; the length written; the buffer
pub record Imported : Type 0 where
  pub answer : ℕ
  pub line : ℕ
  pub length : ℕ
  pub out : List ℕ

-- "Refusals keep the out buffer's contents"
abbrev pub refusal : ℕ → ℕ → List ℕ → Imported
refusal number line out = record { answer = number; line = line; length = 0; out = out }

-- the image, and beyond it what the buffer held
abbrev pub accepted : List ℕ → List ℕ → ℕ → List ℕ → Imported
accepted words regs entry out =
    record { answer = answer.done; line = 0; length = length (image_bytes words regs entry); out = over (image_bytes words regs entry) out }

abbrev pub image_of : Reading → List ℕ → ℕ → List ℕ → Imported
image_of (refused number line) regs entry out = refusal number line out
image_of (says s) regs entry out =
    cond (eqb (end_verdict s regs entry out) answer.done) (accepted (words_of s.memory) regs entry out) (refusal (end_verdict s regs entry out) 0 out)

unfoldable pub import : List ℕ → List ℕ → ℕ → List ℕ → Imported
import text regs entry out = image_of (reading text) regs entry out
