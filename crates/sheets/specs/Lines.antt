-- The line of an image: "one line per image in list order, as the run program's first line"; "For an image that answers 7, add the writers
-- of the target word, lowest number first".
use Rattle.std.specs.Prelude.{Bool, cond, List, [], ◌∷◌, ◌++◌, ℕ, zero, suc, eqb, get_or}
use Rattle.common.specs.Answers as answer
use Rattle.rules.specs.Compartments.{numbers, member, empty}
use Rattle.rules.specs.State.{State}
use Rattle.rules.specs.Checks.{named}
use Rattle.rules.specs.Images.{Loaded, load}
use Rattle.rules.specs.Run.{Ran, run}
use Rattle.numerals.specs.Bytes.{bytes}
use Rattle.printed.specs.Text.{field, line_end, refused_line, Line, first_fields}
use Rattle.printed.specs.Outcome.{budget, memories, line_of}

-- ---- the writers of a word

-- those of the k numbers from c on that are in the set, lowest first
unfoldable pub members_from : ℕ → ℕ → ℕ → List ℕ
members_from zero c set = []
members_from (suc k) c set = cond (member set c) (c ∷ members_from k (suc c) set) (members_from k (suc c) set)

-- the numbers in a set, lowest first
abbrev pub members : ℕ → List ℕ
members set = members_from numbers 0 set

-- W of the word that the Store at pc names
unfoldable pub target_writers : State → ℕ
target_writers s = get_or s.writers (named s) empty

-- ---- what came of an image

pub data Entry : Type 0 where
  -- the loader's number
  refused : ℕ → Entry
  -- the numbers of the run program's first line, and the writers of the target word, where the answer is 7
  ran : Line → List ℕ → Entry

unfoldable pub ran_entry : Ran → Entry
ran_entry r = ran (line_of r) (cond (eqb r.answer answer.store_forbidden) (members (target_writers r.state)) [])

unfoldable pub load_entry : Loaded → Entry
load_entry l = cond (eqb l.answer answer.done) (ran_entry (run budget l.state)) (refused l.answer)

-- of the bytes of an input, in a mode
unfoldable pub entry : Bool → List ℕ → Entry
entry strict input = load_entry (load strict input memories)

-- ---- its text

-- a space before each number
unfoldable pub numbers_text : List ℕ → List ℕ
numbers_text [] = []
numbers_text (x ∷ xs) = field (bytes " ") x ++ numbers_text xs

-- ` writers`, and their numbers; with nobody in W the line ends with ` writers`
unfoldable pub writers_text : ℕ → List ℕ → List ℕ
writers_text a writers = cond (eqb a answer.store_forbidden) (bytes " writers" ++ numbers_text writers) []

unfoldable pub line_text : Entry → List ℕ
line_text (refused a) = refused_line a
line_text (ran line writers) = first_fields line ++ writers_text line.answer writers ++ line_end
