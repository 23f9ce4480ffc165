-- What comes of an image: "It reads one image .., runs at most 100,000 steps over memories of 2,048 places, and prints".
use Rattle.std.specs.Prelude.{◌≡◌, Bool, false, cond, List, [], ◌∷◌, ℕ, zero, suc, eqb, leb, length, replicate}
use Rattle.common.specs.Answers as answer
use Rattle.rules.specs.State.{State}
use Rattle.rules.specs.Images.{Loaded, load, blank, over}
use Rattle.rules.specs.Run.{Ran, run}
use Rattle.rules.specs.Counts.{owned_count, jump_count, store_count, widest}
use Rattle.printed.specs.Text.{Line, Row, Outcome, refused, ran, text}

abbrev pub budget : ℕ
budget = 100000

abbrev pub places : ℕ
places = 2048

-- the memories before an image is loaded
abbrev pub memories : State
memories =
    record {
      cpu = blank false;
      words = replicate places 0;
      owners = replicate places 0;
      jumpers = replicate places 0;
      writers = replicate places 0;
      readers = replicate places 0;
    }

-- ---- a run's numbers

unfoldable pub line_of : Ran → Line
line_of r =
    record {
      answer = r.answer;
      steps = r.count;
      pc = r.state.cpu.pc;
      prev = r.state.cpu.prev;
      jumped = r.state.cpu.jumped;
      next = r.state.cpu.next;
      widest = widest r.state;
    }

unfoldable pub row_of : State → ℕ → Row
row_of s c = record { number = c; owned = owned_count s c; jumps = jump_count s c; stores = store_count s c }

-- the rows of k compartments, c the first
unfoldable pub rows_from : State → ℕ → ℕ → List Row
rows_from s c zero = []
rows_from s c (suc k) = row_of s c ∷ rows_from s (suc c) k

-- "a line for each compartment below next"
unfoldable pub ran_outcome : Ran → Outcome
ran_outcome r = ran (line_of r) (rows_from r.state 0 r.state.cpu.next)

unfoldable pub load_outcome : Loaded → Outcome
load_outcome l = cond (eqb l.answer answer.done) (ran_outcome (run budget l.state)) (refused l.answer)

-- what comes of the bytes of an input, in a mode
unfoldable pub outcome : Bool → List ℕ → Outcome
outcome strict input = load_outcome (load strict input memories)

-- ---- how it ended: the program's status

abbrev pub halted : ℕ
halted = 0

abbrev pub stopped : ℕ
stopped = 1

abbrev pub turned_away : ℕ
turned_away = 2

abbrev pub budget_used : ℕ
budget_used = 3

unfoldable pub ended_by : ℕ → ℕ
ended_by a = cond (eqb a answer.done) budget_used (cond (eqb a answer.halt) halted stopped)

unfoldable pub status : Outcome → ℕ
status (refused answer) = turned_away
status (ran line rows) = ended_by line.answer

-- "4 could not be run": reading or writing failed
abbrev pub not_run : ℕ
not_run = 4

-- the status of a program that writes the text of an outcome: how it ended, or that writing failed
pub data Ends (o : Outcome) (r : ℕ) : Type 0 where
  written : r ≡ status o → Ends o r
  failed : r ≡ not_run → Ends o r

-- ---- the text in a lent buffer

pub record Printed : Type 0 where
  pub answer : ℕ
  pub length : ℕ
  pub status : ℕ
  pub out : List ℕ

-- the text at the buffer's front, "and the out buffer beyond that length keeps its contents"; or 31, and all of it keeps them
unfoldable pub printed_in : Outcome → List ℕ → Printed
printed_in o out =
    cond (leb (length (text o)) (length out))
    (record { answer = answer.done; length = length (text o); status = status o; out = over (text o) out })
    (record { answer = answer.short_buffer; length = 0; status = status o; out = out })

unfoldable pub print : Bool → List ℕ → List ℕ → Printed
print strict input out = printed_in (outcome strict input) out
