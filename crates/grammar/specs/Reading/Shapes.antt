-- The shape of a line, by one pass over the kinds of its tokens: the reader without its trees, its states as the rows of one table.
use Rattle.std.specs.Prelude.{Bool, cond, ◌&&◌, ◌||◌, List, [], ◌∷◌, ℕ, zero, suc, eqb, get_or}
use Rattle.std.proofs.Math.Option.{Option, none, some, map}
use Rattle.common.specs.Answers as answer
use Rattle.grammar.specs.Tokens.{register, comma, colon, left, right}
use Rattle.grammar.specs.Trees.{Line, nothing, labelled, instruction, value}
use Rattle.grammar.specs.Reading.Reader.{Answer, got, fault, deep, or_fault}
use Rattle.grammar.specs.Reading.Kinds as kind
use Rattle.grammar.specs.Reading.Kinds.{kind_of}

-- ---- the shapes

abbrev pub empty : ℕ
empty = 0

abbrev pub label : ℕ
label = 1

-- an instruction or a value, which is one word of memory
abbrev pub word : ℕ
word = 2

abbrev pub shape_of_line : Line → ℕ
shape_of_line nothing = empty
shape_of_line (labelled x) = label
shape_of_line (instruction i) = word
shape_of_line (value e) = word

-- a number of what is got; or 50; or 54
abbrev pub numbered : {A : Type 0} → (A → ℕ) → Answer A → ℕ
numbered f (got a) = f a
numbered f fault = answer.no_line
numbered f deep = answer.too_deep

abbrev pub shape_of : Answer Line → ℕ
shape_of = numbered shape_of_line

-- ---- the table

-- no token of the kind may stand there
abbrev pub no : ℕ
no = answer.no_line

-- a row for each state, and in it for each kind of token the state behind it; and first, for the line's end, the shape
unfoldable pub rows : List (List ℕ)
rows =
    -- end  Nop  Const Bnz Jump Mov  Add  reg  name  num  ,    :    +    -    *    .    (    )  stray
    -- 0: nothing stands yet
    (empty ∷ 19 ∷ 6 ∷ 15 ∷ 12 ∷ 13 ∷ 14 ∷ no ∷ 2 ∷ 5 ∷ no ∷ no ∷ no ∷ 4 ∷ no ∷ 5 ∷ 3 ∷ no ∷ no ∷ [])
    -- 1: Bnz and its register: a comma may come, and an expression has to
    ∷ (no ∷ no ∷ no ∷ no ∷ no ∷ no ∷ no ∷ no ∷ 11 ∷ 11 ∷ 9 ∷ no ∷ no ∷ 10 ∷ no ∷ 11 ∷ 9 ∷ no ∷ no ∷ [])
    -- 2: a name, and nothing before it: a colon may come, or it is an expression
    ∷ (word ∷ no ∷ no ∷ no ∷ no ∷ no ∷ no ∷ no ∷ no ∷ no ∷ no ∷ 18 ∷ 4 ∷ 4 ∷ 4 ∷ no ∷ no ∷ 5 ∷ no ∷ [])
    -- 3, 4, 5: an expression that is the line: a sign may come; a factor has to come; a factor stands
    ∷ (no ∷ no ∷ no ∷ no ∷ no ∷ no ∷ no ∷ no ∷ 2 ∷ 5 ∷ no ∷ no ∷ no ∷ 4 ∷ no ∷ 5 ∷ 3 ∷ no ∷ no ∷ [])
    ∷ (no ∷ no ∷ no ∷ no ∷ no ∷ no ∷ no ∷ no ∷ 5 ∷ 5 ∷ no ∷ no ∷ no ∷ no ∷ no ∷ 5 ∷ 3 ∷ no ∷ no ∷ [])
    ∷ (word ∷ no ∷ no ∷ no ∷ no ∷ no ∷ no ∷ no ∷ no ∷ no ∷ no ∷ no ∷ 4 ∷ 4 ∷ 4 ∷ no ∷ no ∷ 5 ∷ no ∷ [])
    -- 6, 7, 8: the same behind Const
    ∷ (no ∷ no ∷ no ∷ no ∷ no ∷ no ∷ no ∷ no ∷ 8 ∷ 8 ∷ no ∷ no ∷ no ∷ 7 ∷ no ∷ 8 ∷ 6 ∷ no ∷ no ∷ [])
    ∷ (no ∷ no ∷ no ∷ no ∷ no ∷ no ∷ no ∷ no ∷ 8 ∷ 8 ∷ no ∷ no ∷ no ∷ no ∷ no ∷ 8 ∷ 6 ∷ no ∷ no ∷ [])
    ∷ (no ∷ no ∷ no ∷ no ∷ no ∷ no ∷ no ∷ 19 ∷ no ∷ no ∷ 12 ∷ no ∷ 7 ∷ 7 ∷ 7 ∷ no ∷ no ∷ 8 ∷ no ∷ [])
    -- 9, 10, 11: the same behind Bnz and its register
    ∷ (no ∷ no ∷ no ∷ no ∷ no ∷ no ∷ no ∷ no ∷ 11 ∷ 11 ∷ no ∷ no ∷ no ∷ 10 ∷ no ∷ 11 ∷ 9 ∷ no ∷ no ∷ [])
    ∷ (no ∷ no ∷ no ∷ no ∷ no ∷ no ∷ no ∷ no ∷ 11 ∷ 11 ∷ no ∷ no ∷ no ∷ no ∷ no ∷ 11 ∷ 9 ∷ no ∷ no ∷ [])
    ∷ (word ∷ no ∷ no ∷ no ∷ no ∷ no ∷ no ∷ no ∷ no ∷ no ∷ no ∷ no ∷ 10 ∷ 10 ∷ 10 ∷ no ∷ no ∷ 11 ∷ no ∷ [])
    -- 12, 13, 14, 15: a register has to come, the last; or the last but one; or the first of three; or that of Bnz
    ∷ (no ∷ no ∷ no ∷ no ∷ no ∷ no ∷ no ∷ 19 ∷ no ∷ no ∷ no ∷ no ∷ no ∷ no ∷ no ∷ no ∷ no ∷ no ∷ no ∷ [])
    ∷ (no ∷ no ∷ no ∷ no ∷ no ∷ no ∷ no ∷ 16 ∷ no ∷ no ∷ no ∷ no ∷ no ∷ no ∷ no ∷ no ∷ no ∷ no ∷ no ∷ [])
    ∷ (no ∷ no ∷ no ∷ no ∷ no ∷ no ∷ no ∷ 17 ∷ no ∷ no ∷ no ∷ no ∷ no ∷ no ∷ no ∷ no ∷ no ∷ no ∷ no ∷ [])
    ∷ (no ∷ no ∷ no ∷ no ∷ no ∷ no ∷ no ∷ 1 ∷ no ∷ no ∷ no ∷ no ∷ no ∷ no ∷ no ∷ no ∷ no ∷ no ∷ no ∷ [])
    -- 16, 17: a comma may come, and a register has to, the last; or the last but one
    ∷ (no ∷ no ∷ no ∷ no ∷ no ∷ no ∷ no ∷ 19 ∷ no ∷ no ∷ 12 ∷ no ∷ no ∷ no ∷ no ∷ no ∷ no ∷ no ∷ no ∷ [])
    ∷ (no ∷ no ∷ no ∷ no ∷ no ∷ no ∷ no ∷ 16 ∷ no ∷ no ∷ 13 ∷ no ∷ no ∷ no ∷ no ∷ no ∷ no ∷ no ∷ no ∷ [])
    -- 18, 19: a label stands with its colon; an instruction stands whole
    ∷ (label ∷ no ∷ no ∷ no ∷ no ∷ no ∷ no ∷ no ∷ no ∷ no ∷ no ∷ no ∷ no ∷ no ∷ no ∷ no ∷ no ∷ no ∷ no ∷ [])
    ∷ (word ∷ no ∷ no ∷ no ∷ no ∷ no ∷ no ∷ no ∷ no ∷ no ∷ no ∷ no ∷ no ∷ no ∷ no ∷ no ∷ no ∷ no ∷ no ∷ [])
    ∷ []

abbrev pub next_of : ℕ → ℕ → ℕ
next_of state k = get_or (get_or rows state []) k no

-- ---- brackets

-- a register, a comma, a colon and the line's end stand outside of brackets
abbrev pub lone : ℕ → Bool
lone k = eqb k (kind_of (register 0)) || eqb k (kind_of comma) || eqb k (kind_of colon) || eqb k kind.none

abbrev pub outside : ℕ → Option ℕ
outside zero = some 0
outside (suc d) = none

abbrev pub closed : ℕ → Option ℕ
closed zero = none
closed (suc d) = some d

-- how many brackets are open behind a token, the limit aside
abbrev pub level : ℕ → ℕ → Option ℕ
level k d = cond (eqb k (kind_of left)) (some (suc d)) (cond (eqb k (kind_of right)) (closed d) (cond (lone k) (outside d) (some d)))

-- ---- one pass

-- a row of the table, and how many brackets are open
pub record Control : Type 0 where
  pub state : ℕ
  pub depth : ℕ

abbrev pub at : ℕ → ℕ → Control
at n d = record { state = n; depth = d }

abbrev pub move : ℕ → Control → Option Control
move k c = let n = next_of c.state k in cond (eqb n no) none (map (at n) (level k c.depth))

-- the line's end
abbrev pub ending : Control → ℕ
ending c = numbered (λ d. next_of c.state kind.none) (or_fault (level kind.none c.depth))

module _ (limit : ℕ) where
  -- one bracket more is too deep, wherever it stands
  abbrev pub step : ℕ → Control → Answer Control
  step k c = cond (eqb k (kind_of left) && eqb c.depth limit) deep (or_fault (move k c))

  abbrev pub shape_from : List ℕ → Control → ℕ
  shape_from [] c = ending c
  shape_from (k ∷ ks) c = numbered (λ d. shape_from ks d) (step k c)

  unfoldable pub shape : List ℕ → ℕ
  shape ks = shape_from ks (at 0 0)
