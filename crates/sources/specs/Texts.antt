-- A text as its lines, and each line as it is read.
use Rattle.std.specs.Prelude.{cond, List, [], ◌∷◌, map, ℕ, eqb}
use Rattle.numerals.specs.Bytes.{feed}
use Rattle.grammar.specs.Trees.{Line}
use Rattle.grammar.specs.Grammar.{deepest}
use Rattle.grammar.specs.Reading.Reader.{Answer}
use Rattle.grammar.specs.Sources.{answer}

abbrev pub onto : ℕ → List (List ℕ) → List (List ℕ)
onto b [] = (b ∷ []) ∷ []
onto b (l ∷ ls) = (b ∷ l) ∷ ls

-- "text = line { LF line }": there is always a line, and the last may be empty
unfoldable pub lines : List ℕ → List (List ℕ)
lines [] = [] ∷ []
lines (b ∷ bs) = cond (eqb b feed) ([] ∷ lines bs) (onto b (lines bs))

-- a line of the grammar; or 50; or 54
abbrev pub Reading : Type 0
Reading = Answer Line

unfoldable pub reading : List ℕ → Reading
reading line = answer deepest line

unfoldable pub readings : List ℕ → List Reading
readings text = map reading (lines text)
