-- What stands in the table: each entry is a row of it, a shape or 50.
use Rattle.std.specs.Prelude.{◌≡◌, Bool, true, ◌&&◌, ◌||◌, List, [], ◌≢◌, ◌⊎◌, ℕ, ◌<◌, eqb, ltb, get_or}
use Rattle.std.proofs.Math.Path.{refl}
use Rattle.std.proofs.Common.{ap, ◌∙◌, inl, inr, ⊎_elim, arith, eqb-true, ltb-true}
use Rattle.common.proofs.Laws.Tests.{both}
use Rattle.grammar.specs.Tokens.{Token, mnemonic, register, name, number, comma, colon, plus, minus, star, dot, left, right, stray, Nop, Halt, Const, Bnz, one, two, three}
use Rattle.grammar.specs.Reading.Kinds.{kind_of}
use Rattle.grammar.specs.Reading.Shapes.{no, rows, next_of}
use Rattle.grammar.proofs.Laws.Tables.{either, all_below, below}

-- as the code reads it
abbrev pub entry : List (List ℕ) → ℕ → ℕ → ℕ
entry table s k = get_or (get_or table s []) k 0

abbrev good : ℕ → ℕ → Bool
good s k = eqb (entry rows s k) (next_of s k) && (eqb (next_of s k) no || ltb (next_of s k) 20)

module _ (s k : ℕ) (h : s < 20) (l : k < 19) where
  good_here : good s k ≡ true
  good_here = below (good s) 19 (below (λ n. all_below (good n) 19) 20 all s h) k l
    where
      all : all_below (λ n. all_below (good n) 19) 20 ≡ true
      all = unfold rows in refl

  pub entry_next : (table : List (List ℕ)) → table ≡ rows → entry table s k ≡ next_of s k
  entry_next table e = ap (λ (t : List (List ℕ)). entry t s k) e ∙ eqb-true (entry rows s k) (next_of s k) (both _ _ good_here).0

  next_is : (next_of s k ≡ no) ⊎ (next_of s k < 20)
  next_is = ⊎_elim (λ e. inl (eqb-true (next_of s k) no e)) (λ e. inr (ltb-true (next_of s k) 20 e)) (either (eqb (next_of s k) no) (ltb (next_of s k) 20) (both (eqb (entry rows s k) (next_of s k)) _ good_here).1)

  pub entry_small : (table : List (List ℕ)) → table ≡ rows → entry table s k < 51
  entry_small table e = rw (entry_next table e) (⊎_elim (λ z. omega arith) (λ z. omega arith) next_is)

  pub entry_row : (table : List (List ℕ)) → table ≡ rows → entry table s k ≢ no → entry table s k < 20
  entry_row table e = rw (entry_next table e) (λ n. ⊎_elim (λ z. absurd (n z)) (λ z. z) next_is)

-- the line's end: a shape, or no line
pub end_shape : (s : ℕ) → s < 20 → (table : List (List ℕ)) → table ≡ rows → (entry table s 0 < 3) ⊎ (entry table s 0 ≡ no)
end_shape s h table e =
    rw e
    (⊎_elim (λ z. inl (ltb-true (entry rows s 0) 3 z)) (λ z. inr (eqb-true (entry rows s 0) no z))
    (either (ltb (entry rows s 0) 3) (eqb (entry rows s 0) no) (below (λ n. ltb (entry rows n 0) 3 || eqb (entry rows n 0) no) 20 all s h)))
  where
    all : all_below (λ n. ltb (entry rows n 0) 3 || eqb (entry rows n 0) no) 20 ≡ true
    all = unfold rows in refl

-- ---- kinds

pub kind_small : (t : Token) → kind_of t < 19
kind_small (mnemonic Nop) = omega arith
kind_small (mnemonic Halt) = omega arith
kind_small (mnemonic Const) = omega arith
kind_small (mnemonic Bnz) = omega arith
kind_small (mnemonic (one k)) = omega arith
kind_small (mnemonic (two k)) = omega arith
kind_small (mnemonic (three k)) = omega arith
kind_small (register r) = omega arith
kind_small (name x) = omega arith
kind_small (number n) = omega arith
kind_small comma = omega arith
kind_small colon = omega arith
kind_small plus = omega arith
kind_small minus = omega arith
kind_small star = omega arith
kind_small dot = omega arith
kind_small left = omega arith
kind_small right = omega arith
kind_small stray = omega arith
