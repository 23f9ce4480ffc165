-- The code's results, seen as the definitions' numbers.
use Rattle.std.specs.Prelude.{Bool, List, [], ◌∷◌, ℕ, zero, suc, get_or}
use Rattle.std.specs.Result.{result_unwrap_or}
use Rattle.answers.specs.Numbers.{answer_of}
use Rattle.rules.specs.Counts.{widest}
use Rattle.rules.specs.Rows as rows
use Rattle.machine.specs.declared.Ran.{Ran}
use Rattle.machine.specs.Views.{state_of}
use Rattle.numerals.specs.Writing.{Put, put}
use Rattle.text.specs.Puts.{put_of}
use Rattle.printed.specs.Text as meant
use Rattle.printed.specs.Outcome as outcome
use Rattle.printer.specs.declared.Printed.{Printed}
use Rattle.printer.specs.declared.Made.{Made}
use Rattle.printer.specs.Endings.{status_of}

-- the numbers of a first line, and of a compartment's
abbrev pub line : ℕ → ℕ → ℕ → ℕ → Bool → ℕ → ℕ → meant.Line
line answer steps pc prev jumped next widest = record { answer = answer; steps = steps; pc = pc; prev = prev; jumped = jumped; next = next; widest = widest }

abbrev pub row : ℕ → ℕ → ℕ → ℕ → meant.Row
row number owned jumps stores = record { number = number; owned = owned; jumps = jumps; stores = stores }

-- the lines of k compartments, c the first, from a table of rows
unfoldable pub lines_of : List rows.Row → ℕ → ℕ → List meant.Row
lines_of table c zero = []
lines_of table c (suc k) =
    let r : rows.Row = get_or table c rows.no_row in
    row c r.owned r.jump r.store ∷ lines_of table (suc c) k

-- what a run came to, told from what it left
abbrev pub ran_by : Ran → List ℕ → List ℕ → List rows.Row → meant.Outcome
ran_by r owners writers table =
    meant.ran (line r.answer r.count r.cpu.pc r.cpu.prev r.cpu.jumped r.cpu.next (widest (state_of r.cpu [] owners [] writers [])))
    (lines_of table 0 r.cpu.next)

-- a text as it is made: how it ended, and the text in a buffer
pub record Meant : Type 0 where
  pub status : ℕ
  pub made : Put

abbrev pub made_of : Made → List ℕ → Meant
made_of r out = record { status = status_of r.ending; made = put_of r.length out }

abbrev pub meant_of : meant.Outcome → List ℕ → Meant
meant_of o out = record { status = outcome.status o; made = put (meant.text o) 0 out }

abbrev pub printed_of : Printed → List ℕ → outcome.Printed
printed_of r out = record { answer = answer_of r.length; length = result_unwrap_or r.length 0; status = status_of r.ending; out = out }
