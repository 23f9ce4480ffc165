-- The token from a place of a text on, and the tokens of the line from there.
use Rattle.std.specs.Prelude.{Bool, cond, not, ◌&&◌, ◌||◌, List, [], ◌∷◌, ℕ, ◌+◌, eqb, ltb, length, get_or, drop}
use Rattle.std.proofs.Math.Option.{Option, none, some}
use Rattle.grammar.specs.Tokens as grammar
use Rattle.grammar.specs.Spelling.{in_word, blank, signs}
use Rattle.grammar.specs.Reading.Lexer.{find, token_of, lex}
use Rattle.grammar.specs.Laws.Runs.{leading, name_at}
use Rattle.grammar.specs.Reading.Kinds.{kind_of, number_of}

-- LF and the semicolon end what is read of a line
abbrev pub ends : ℕ → Bool
ends b = eqb b 10 || eqb b 59

-- the bytes up to there
unfoldable pub code : List ℕ → List ℕ
code [] = []
code (b ∷ bs) = cond (ends b) [] (b ∷ code bs)

-- the tokens of the line from a place on
unfoldable pub stream : List ℕ → ℕ → List grammar.Token
stream text at = lex [] (code (drop at text))

-- the place after the blanks from a place on
unfoldable pub skipped : List ℕ → ℕ → ℕ
skipped text at = at + leading blank (drop at text)

-- there is a token at a place that has no blank
unfoldable pub more : List ℕ → ℕ → Bool
more text p = ltb p (length text) && not (ends (get_or text p 0))

abbrev pub or_stray : Option grammar.Token → grammar.Token
or_stray (some t) = t
or_stray none = grammar.stray

-- the token at such a place, and how many bytes it has
unfoldable pub token_in : List ℕ → ℕ → grammar.Token
token_in text p = cond (in_word (get_or text p 0)) (token_of (name_at text p)) (or_stray (find signs (get_or text p 0 ∷ [])))

unfoldable pub width_in : List ℕ → ℕ → ℕ
width_in text p = cond (in_word (get_or text p 0)) (length (name_at text p)) 1

-- a token as the code hands it out: kind and number, where it stands, and where reading goes on
pub record Handed : Type 0 where
  pub kind : ℕ
  pub value : ℕ
  pub place : ℕ
  pub next : ℕ

abbrev pub handed : ℕ → ℕ → ℕ → ℕ → Handed
handed kind value place next = record { kind = kind; value = value; place = place; next = next }

unfoldable pub token_at : List ℕ → ℕ → Handed
token_at text at =
    let p = skipped text at in
    cond (more text p) (handed (kind_of (token_in text p)) (number_of (token_in text p)) p (p + width_in text p)) (handed 0 0 p p)
