-- How many brackets are open behind a token, as a number.
use Rattle.std.specs.Prelude.{◌≡◌, Bool, cond, ◌&&◌, ◌≢◌, eqb}
use Rattle.std.proofs.Math.Path.{refl}
use Rattle.std.proofs.Math.Bool.{true, false}
use Rattle.std.proofs.Math.Option.{Option, some}
use Prim.Native.Nat.{ℕ, zero, suc, ◌+◌, ◌-◌, ◌≤◌}
use Rattle.std.proofs.Common.{add-one, arith}
use borrow.Author.Tests.{eqb-false, ne_eqb}
use Rattle.common.specs.Answers as answer
use Rattle.grammar.specs.Tokens.{register, comma, colon, left, right}
use Rattle.grammar.specs.Grammar.{deepest}
use Rattle.grammar.specs.Reading.Reader.{Answer, got, deep, or_fault}
use Rattle.grammar.specs.Reading.Kinds as kind
use Rattle.grammar.specs.Reading.Kinds.{kind_of}
use Rattle.grammar.specs.Reading.Shapes.{numbered, lone, outside, closed, level}
use Rattle.grammar.proofs.Laws.Answers.{All}
use Rattle.grammar.proofs.Laws.Tables.{picks}

abbrev pub leveled : ℕ → ℕ → Answer ℕ
leveled k d = cond (eqb k (kind_of left) && eqb d deepest) deep (or_fault (level k d))

-- so many; or 50; or 54
unfoldable pub level_of : ℕ → ℕ → ℕ
level_of k d = numbered (λ n. n) (leveled k d)

-- never more than may be
abbrev Few : Answer ℕ → Type 0
Few = All (λ n. n ≤ deepest)

few_closed : (d : ℕ) → d ≤ deepest → Few (or_fault (closed d))
few_closed zero h = tt
few_closed (suc d) h = omega arith

few_outside : (d : ℕ) → Few (or_fault (outside d))
few_outside zero = omega arith
few_outside (suc d) = tt

pub few : (k d : ℕ) → d ≤ deepest → Few (leveled k d)
few k d h = go (eqb k (kind_of left))
  where
    inner : Option ℕ
    inner = cond (eqb k (kind_of right)) (closed d) (cond (lone k) (outside d) (some d))

    go : (b : Bool) → Few (cond (b && eqb d deepest) deep (or_fault (cond b (some (suc d)) inner)))
    go true = picks (eqb d deepest) deep (got (suc d)) Few (λ e. tt) (λ e. let n : d ≢ deepest = eqb-false d deepest e in omega arith)
    go false =
        picks (eqb k (kind_of right)) _ _ (λ (x : Option ℕ). Few (or_fault x)) (λ e. few_closed d h)
        (λ e. picks (lone k) _ _ (λ (x : Option ℕ). Few (or_fault x)) (λ f. few_outside d) (λ f. h))

-- ---- case by case, as the code comes to it

pub end_lone : (k : ℕ) → k ≢ kind_of (register 0) → k ≢ kind_of comma → k ≢ kind_of colon → eqb k kind.none ≡ lone k
end_lone k r m n = simp (ne_eqb k (kind_of (register 0)) r, ne_eqb k (kind_of comma) m, ne_eqb k (kind_of colon) n)

pub too_deep : (k d : ℕ) → k ≡ kind_of left → d ≡ deepest → answer.too_deep ≡ level_of k d
unfolding level_of
too_deep k d e f = rw (e, f) refl

pub deeper : (k d : ℕ) → k ≡ kind_of left → d ≢ deepest → d + 1 ≡ level_of k d
unfolding level_of
deeper k d e f = rw (e, ne_eqb d deepest f) (add-one d)

pub not_open : (k d : ℕ) → k ≡ kind_of right → d ≡ 0 → answer.no_line ≡ level_of k d
unfolding level_of
not_open k d e f = rw (e, f) refl

pub shallower : (k d : ℕ) → k ≡ kind_of right → d ≢ 0 → d - 1 ≡ level_of k d
unfolding level_of
shallower k zero e f = absurd (f refl)
shallower k (suc d) e f = rw e (omega arith)

module _ (k : ℕ) (l : k ≢ kind_of left) (r : k ≢ kind_of right) where
  pub at_none : (d : ℕ) → d ≡ 0 → 0 ≡ level_of k d
  unfolding level_of
  at_none d e = rw (e, ne_eqb k (kind_of left) l, ne_eqb k (kind_of right) r) (go (lone k))
    where
      go : (b : Bool) → 0 ≡ numbered (λ n. n) (or_fault (cond b (outside 0) (some 0)))
      go true = refl
      go false = refl

  pub not_outside : (d : ℕ) → d ≢ 0 → lone k ≡ true → answer.no_line ≡ level_of k d
  unfolding level_of
  not_outside zero n e = absurd (n refl)
  not_outside (suc d) n e = rw (ne_eqb k (kind_of left) l, ne_eqb k (kind_of right) r, e) refl

  pub same : (d : ℕ) → lone k ≡ false → d ≡ level_of k d
  unfolding level_of
  same d e = rw (ne_eqb k (kind_of left) l, ne_eqb k (kind_of right) r, e) refl
