-- Words and labels of a text's lines: which lines hold a word, and where a label is defined first.
use Rattle.std.specs.Prelude.{Bool, false, cond, ◌||◌, List, [], ◌∷◌, ℕ, ◌+◌}
use Rattle.std.proofs.Math.Option.{Option, none, some, map}
use Rattle.grammar.specs.Trees.{nothing, labelled, instruction, value}
use Rattle.grammar.specs.Reading.Reader.{got, fault, deep}
use Rattle.grammar.specs.Reading.Lexer.{same}
use Rattle.sources.specs.Texts.{Reading}

-- how many words a line holds; "lines at 50 and 54 define no label and hold no word"
abbrev pub holds : Reading → ℕ
holds (got nothing) = 0
holds (got (labelled x)) = 0
holds (got (instruction i)) = 1
holds (got (value e)) = 1
holds fault = 0
holds deep = 0

unfoldable pub words_in : List Reading → ℕ
words_in [] = 0
words_in (l ∷ ls) = holds l + words_in ls

-- whether a line defines the label x
abbrev pub defines : List ℕ → Reading → Bool
defines x (got nothing) = false
defines x (got (labelled y)) = same x y
defines x (got (instruction i)) = false
defines x (got (value e)) = false
defines x fault = false
defines x deep = false

unfoldable pub defined : List ℕ → List Reading → Bool
defined x [] = false
defined x (l ∷ ls) = defines x l || defined x ls

-- a line: how many lines, and how many words, stand before it
pub record Site : Type 0 where
  pub line : ℕ
  pub words : ℕ

abbrev pub site : ℕ → ℕ → Site
site line words = record { line = line; words = words }

abbrev pub onward : ℕ → ℕ → Site → Site
onward line words s = site (line + s.line) (words + s.words)

-- "A label means its first line"
unfoldable pub first : List ℕ → List Reading → Option Site
first x [] = none
first x (l ∷ ls) = cond (defines x l) (some (site 0 0)) (map (onward 1 (holds l)) (first x ls))

-- "A label is the number of words on good lines before its first definition"
abbrev pub address : List Reading → List ℕ → Option ℕ
address ls x = map (λ (s : Site). s.words) (first x ls)
