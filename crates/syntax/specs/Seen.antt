-- What is told of a line, as numbers: its shape, or the answer of its refusal.
use Rattle.std.specs.Prelude.{◌≡◌, refl, Bool, true, false, cond, ◌||◌, ℕ, ◌+◌, ◌-◌, ◌<◌, eqb, ltb, leb, Result, Ok, Err}
use Rattle.std.proofs.Common.{sym, ap, ◌∙◌, arith, eqb-true, le-ltb, le-leb}
use Rattle.common.specs.Answers as answer
use Rattle.grammar.specs.Grammar.{deepest}
use Rattle.grammar.specs.Trees.{Line, nothing, labelled, instruction, value}
use Rattle.grammar.specs.Reading.Reader.{Answer, got, fault, deep}
use Rattle.grammar.specs.Reading.Shapes.{shape_of}
use Rattle.answers.specs.declared.Refusal.{Refusal}
use Rattle.answers.specs.Numbers.{number}
use Rattle.answers.specs.Results.{result_of, result_of-number}
use Rattle.syntax.specs.declared.shapes.Shape.{Shape}
use Rattle.syntax.specs.declared.shapes.Shape.TheVariants.{Nothing, Label, Word}

-- the same numbers as in crates/grammar/specs/Reading/Shapes.antt
abbrev pub shape_number : Shape → ℕ
shape_number Nothing = 0
shape_number Label = 1
shape_number Word = 2

-- 50 and 54 are the answers of a line; another refusal is told beyond them all, where no line's answer is
abbrev pub line_answer : Refusal → ℕ
line_answer refusal = let n = number refusal in cond (eqb n answer.no_line || eqb n answer.too_deep) n (100 + n)

abbrev pub seen_shape : Result Shape Refusal → ℕ
seen_shape (Ok shape) = shape_number shape
seen_shape (Err refusal) = line_answer refusal

-- and how many brackets are open
abbrev pub seen_level : Result ℕ Refusal → ℕ
seen_level (Ok depth) = depth
seen_level (Err refusal) = line_answer refusal

-- no answer is a number of brackets, or a shape
pub answer_large : (refusal : Refusal) → deepest < line_answer refusal
answer_large refusal = go (eqb n answer.no_line) refl (eqb n answer.too_deep) refl
  where
    n : ℕ
    n = number refusal

    go : (a : Bool) → eqb n answer.no_line ≡ a → (b : Bool) → eqb n answer.too_deep ≡ b → deepest < cond (a || b) n (100 + n)
    go true e b f = let k : n ≡ answer.no_line = eqb-true _ _ e in omega arith
    go false e true f = let k : n ≡ answer.too_deep = eqb-true _ _ f in omega arith
    go false e false f = omega arith

-- below them an answer is that of a refusal
pub answer_number : (refusal : Refusal) → line_answer refusal < 100 → number refusal ≡ line_answer refusal
answer_number refusal = go (eqb (number refusal) answer.no_line || eqb (number refusal) answer.too_deep)
  where
    go : (b : Bool) → cond b (number refusal) (100 + number refusal) < 100 → number refusal ≡ cond b (number refusal) (100 + number refusal)
    go true h = refl
    go false h = absurd (omega arith)

-- as each line's is
pub shape_below : (l : Answer Line) → shape_of l < 100
shape_below (got nothing) = omega arith
shape_below (got (labelled x)) = omega arith
shape_below (got (instruction i)) = omega arith
shape_below (got (value e)) = omega arith
shape_below fault = omega arith
shape_below deep = omega arith

-- ---- what is seen of a line is all that is told of it

abbrev told_by : ℕ → Result Shape Refusal
told_by n = cond (ltb n 3) (cond (eqb n 0) (Ok Nothing) (cond (eqb n 1) (Ok Label) (Ok Word))) (result_of (cond (leb 100 n) (n - 100) n) Nothing)

told_refusal : (refusal : Refusal) → told_by (line_answer refusal) ≡ Err refusal
told_refusal refusal = go (eqb n answer.no_line) refl (eqb n answer.too_deep) refl
  where
    n : ℕ
    n = number refusal

    by_number : (m : ℕ) → n ≡ m → result_of m Nothing ≡ Err refusal
    by_number m e = rw (← e) (result_of-number refusal Nothing)

    go : (a : Bool) → eqb n answer.no_line ≡ a → (b : Bool) → eqb n answer.too_deep ≡ b → told_by (cond (a || b) n (100 + n)) ≡ Err refusal
    go true e b f = let k : n ≡ answer.no_line = eqb-true _ _ e in rw k (by_number answer.no_line k)
    go false e true f = let k : n ≡ answer.too_deep = eqb-true _ _ f in rw k (by_number answer.too_deep k)
    go false e false f =
        let k : 100 + n - 100 ≡ n = omega arith in
        rw (le-ltb (100 + n) 3 (omega arith), le-leb 100 (100 + n) (omega arith)) (by_number (100 + n - 100) (sym k))

told_again : (line : Result Shape Refusal) → told_by (seen_shape line) ≡ line
told_again (Ok Nothing) = refl
told_again (Ok Label) = refl
told_again (Ok Word) = refl
told_again (Err refusal) = told_refusal refusal

pub one_shape : (a b : Result Shape Refusal) → seen_shape a ≡ seen_shape b → a ≡ b
one_shape a b e = sym (told_again a) ∙ ap told_by e ∙ told_again b
