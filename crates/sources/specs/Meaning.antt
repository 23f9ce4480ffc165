-- What a text means: its words, or the first line at fault with its number; and what assembling it leaves.
use Rattle.std.specs.Prelude.{cond, List, [], ◌∷◌, ◌++◌, ℕ, ◌+◌, ltb, length, replicate}
use Rattle.common.specs.Answers as answer
use Rattle.rules.specs.Images as image
use Rattle.grammar.specs.Trees.{nothing, labelled, instruction, value}
use Rattle.grammar.specs.Reading.Reader.{got, fault, deep}
use Rattle.sources.specs.Values.{Valued, is, unknown, outside}
use Rattle.sources.specs.Texts.{Reading, readings}
use Rattle.sources.specs.Labels.{words_in, defined, address}
use Rattle.sources.specs.Words.{datum, instruction_word}

-- what a line comes to: nothing, a word, or a refusal
pub data Outcome : Type 0 where
  empty : Outcome
  word : ℕ → Outcome
  at_fault : ℕ → Outcome

abbrev pub most : ℕ
most = 2048

-- the word of a line, where `before` words stand before it: its lowest number is 51, then 53, then 55
abbrev pub placed : ℕ → Valued ℕ → Outcome
placed before unknown = at_fault answer.unknown_label
placed before outside = at_fault answer.value_outside
placed before (is w) = cond (ltb before most) (word w) (at_fault answer.many_words)

-- the lines of the whole text say what its labels are
module _ (all : List Reading) where
  -- a line behind the lines `before`
  abbrev pub outcome : List Reading → Reading → Outcome
  outcome before fault = at_fault answer.no_line
  outcome before deep = at_fault answer.too_deep
  outcome before (got nothing) = empty
  outcome before (got (labelled x)) = cond (defined x before) (at_fault answer.label_twice) empty
  outcome before (got (instruction i)) = placed (words_in before) (instruction_word (address all) (words_in before) i)
  outcome before (got (value e)) = placed (words_in before) (datum (address all) (words_in before) e)

-- the words of a text; or the first line at fault, counted from 1, with its number
pub data Meaning : Type 0 where
  says : List ℕ → Meaning
  refused : ℕ → ℕ → Meaning

abbrev pub behind : List ℕ → Meaning → Meaning
behind ws (says us) = says (ws ++ us)
behind ws (refused number line) = refused number line

-- a line's outcome, and what the lines after it mean
abbrev pub then : Outcome → ℕ → Meaning → Meaning
then empty line rest = rest
then (word w) line rest = behind (w ∷ []) rest
then (at_fault number) line rest = refused number line

unfoldable pub from : List Reading → List Reading → List Reading → Meaning
from all before [] = says []
from all before (l ∷ ls) = then (outcome all before l) (length before + 1) (from all (before ++ l ∷ []) ls)

unfoldable pub meaning : List ℕ → Meaning
meaning text = from (readings text) [] (readings text)

-- ---- assembling

pub record Assembled : Type 0 where
  pub answer : ℕ
  pub line : ℕ
  pub length : ℕ
  pub out : List ℕ

-- "The image has entry 0 and lists no registers"
abbrev pub no_registers : List ℕ
no_registers = replicate 16 0

-- "then 21 for no words, then 31. Refusals keep the out buffer's contents"
abbrev pub image_of : Meaning → List ℕ → Assembled
image_of (refused number line) out = record { answer = number; line = line; length = 0; out = out }
image_of (says words) out =
    let w = image.write words no_registers 0 out in
    record { answer = w.answer; line = 0; length = w.length; out = w.out }

unfoldable pub assemble : List ℕ → List ℕ → Assembled
assemble text out = image_of (meaning text) out
