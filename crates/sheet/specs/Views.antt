-- The code's results, seen as the definitions' numbers.
use Rattle.std.specs.Prelude.{ℕ, List, Result}
use Rattle.std.specs.Result.{result_unwrap_or}
use Rattle.answers.specs.declared.Refusal.{Refusal}
use Rattle.answers.specs.Numbers.{answer_of}
use Rattle.numerals.specs.Writing.{Put, put}
use Rattle.text.specs.Puts.{put_of}
use Rattle.sheets.specs.Lines.{Entry, line_text}
use Rattle.sheets.specs.Totals as meant
use Rattle.sheets.specs.Told as told
use Rattle.sheet.specs.declared.Note.{Note}
use Rattle.sheet.specs.declared.Lined.{Lined}
use Rattle.sheet.specs.declared.Totals.{Totals}
use Rattle.sheet.specs.declared.Made.{Made}

abbrev pub note_of : Note → meant.Note
note_of n = record { refused = n.refused; answer = n.answer; steps = n.steps }

abbrev pub told_of : Result ℕ Refusal → List ℕ → told.Told
told_of r out = record { answer = answer_of r; length = result_unwrap_or r 0; out = out }

abbrev pub lined_of : Lined → List ℕ → told.Lined
lined_of r out = record { told = told_of r.told out; note = note_of r.note }

abbrev pub totals_of : Totals → meant.Totals
totals_of t = record { images = t.images; refused = t.refused; ended = t.ended; steps = t.steps }

-- a line as it is made: its note, and its text in a buffer
pub record Meant : Type 0 where
  pub note : meant.Note
  pub made : Put

abbrev pub made_of : Made → List ℕ → Meant
made_of r out = record { note = note_of r.note; made = put_of r.length out }

abbrev pub meant_of : Entry → List ℕ → Meant
meant_of e out = record { note = meant.note_of e; made = put (line_text e) 0 out }
