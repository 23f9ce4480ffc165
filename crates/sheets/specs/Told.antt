-- What the calls hand back: a text in a lent buffer with what the totals take of its line, and totals of 32 bits with a line more.
use Rattle.std.specs.Prelude.{Bool, cond, List, [], ◌∷◌, ℕ, leb, get_or, length, set, replicate}
use Rattle.common.specs.Answers as answer
use Rattle.common.specs.Instructions.{bit, plus}
use Rattle.rules.specs.Images.{over}
use Rattle.sheets.specs.Lines.{Entry, entry, line_text}
use Rattle.sheets.specs.Totals.{Note, note_of, answers, Totals, totals_text}

pub record Told : Type 0 where
  pub answer : ℕ
  pub length : ℕ
  pub out : List ℕ

-- the text at the buffer's front, and the buffer beyond it as it was; or 31, and all of it as it was
unfoldable pub tell : List ℕ → List ℕ → Told
tell text out =
    cond (leb (length text) (length out))
    (record { answer = answer.done; length = length text; out = over text out })
    (record { answer = answer.short_buffer; length = 0; out = out })

-- the line of an input, and what the totals take of it
pub record Lined : Type 0 where
  pub told : Told
  pub note : Note

unfoldable pub line : Bool → List ℕ → List ℕ → Lined
line strict input out = record { told = tell (line_text (entry strict input)) out; note = note_of (entry strict input) }

-- the totals' line
unfoldable pub total : Bool → Totals → List ℕ → Told
total strict t out = tell (totals_text strict t) out

-- ---- totals of 32 bits

-- of no lines
unfoldable pub none : Totals
none = record { images = 0; refused = 0; ended = replicate answers 0; steps = 0 }

-- a line more; an answer from 18 on has no place
unfoldable pub added : Totals → Note → Totals
added t n =
    record {
      images = plus t.images 1;
      refused = plus t.refused (bit n.refused);
      ended = cond n.refused t.ended (set t.ended n.answer (plus (get_or t.ended n.answer 0) 1));
      steps = plus t.steps n.steps;
    }

-- line by line
unfoldable pub tally : Totals → List Entry → Totals
tally t [] = t
tally t (e ∷ es) = tally (added t (note_of e)) es
