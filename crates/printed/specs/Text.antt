-- The text of numbers: `refused R`, or "one line and then a line for each compartment", each with its line feed.
use Rattle.std.specs.Prelude.{Bool, List, [], ◌∷◌, ◌++◌, ℕ}
use Rattle.common.specs.Instructions.{bit}
use Rattle.numerals.specs.Bytes.{bytes, feed}
use Rattle.numerals.specs.Numerals.{decimal}

-- a name, with its blanks, and the number behind it
unfoldable pub field : List ℕ → ℕ → List ℕ
field name value = name ++ decimal value

abbrev pub line_end : List ℕ
line_end = feed ∷ []

-- `refused R`
unfoldable pub refused_line : ℕ → List ℕ
refused_line answer = field (bytes "refused ") answer ++ line_end

-- the numbers of the first line
pub record Line : Type 0 where
  pub answer : ℕ
  pub steps : ℕ
  pub pc : ℕ
  -- the pc number
  pub prev : ℕ
  pub jumped : Bool
  pub next : ℕ
  pub widest : ℕ

-- "answer 16 steps 3 pc 3 prev 0 jumped 0 next 4 widest 1"; "`jumped` is 1 or 0"
unfoldable pub first_fields : Line → List ℕ
first_fields l =
    field (bytes "answer ") l.answer ++ field (bytes " steps ") l.steps ++ field (bytes " pc ") l.pc ++ field (bytes " prev ") l.prev
    ++ field (bytes " jumped ") (bit l.jumped) ++ field (bytes " next ") l.next ++ field (bytes " widest ") l.widest

unfoldable pub first_line : Line → List ℕ
first_line l = first_fields l ++ line_end

-- a compartment's line: "number, addresses owned, addresses in J, addresses in S"
pub record Row : Type 0 where
  pub number : ℕ
  pub owned : ℕ
  pub jumps : ℕ
  pub stores : ℕ

unfoldable pub row_line : Row → List ℕ
row_line r = field [] r.number ++ field (bytes " ") r.owned ++ field (bytes " ") r.jumps ++ field (bytes " ") r.stores ++ line_end

unfoldable pub row_lines : List Row → List ℕ
row_lines [] = []
row_lines (r ∷ rs) = row_line r ++ row_lines rs

-- what came of an image
pub data Outcome : Type 0 where
  refused : ℕ → Outcome
  ran : Line → List Row → Outcome

unfoldable pub text : Outcome → List ℕ
text (refused answer) = refused_line answer
text (ran line rows) = first_line line ++ row_lines rows
