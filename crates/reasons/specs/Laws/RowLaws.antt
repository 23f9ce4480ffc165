-- The row of an answer, and the condition that an answer shows to hold.
use Rattle.std.specs.Prelude.{◌≡◌, refl, Bool, true, false, ◌&&◌, ◌||◌, List, [], ◌∷◌, ℕ, eqb}
use Rattle.std.proofs.Common.{sym, ap, ◌∙◌, eqb-true, eq-eqb}
use Rattle.std.proofs.Math.Bool.{or-true}
use Rattle.common.specs.Tables.{Check, first_of}
use Rattle.rules.specs.State.{State}
use Rattle.rules.specs.Checks.{checks, verdict}
use Rattle.reasons.specs.Why.{Why, rows, row_of, why}

-- what is told where the answer is known
pub told_of : (s : State) (k : ℕ) → verdict s ≡ k → why s ≡ row_of k (rows s)
unfolding why
told_of s k e = ap (λ (a : ℕ). row_of a (rows s)) e

-- the answer is told
row_answer : (a : ℕ) (ws : List Why) → (row_of a ws).answer ≡ a
unfolding row_of
row_answer a [] = refl
row_answer a (w ∷ ws) = go (eqb a w.answer) refl (row_answer a ws)
  where
    go : (b : Bool) → eqb a w.answer ≡ b → (row_of a ws).answer ≡ a → (row_of a (w ∷ ws)).answer ≡ a
    go true e ih = simp e (sym (eqb-true a w.answer e))
    go false e ih = simp e ih

pub answered : (s : State) → (why s).answer ≡ verdict s
unfolding why
answered s = row_answer (verdict s) (rows s)

-- some check with number k holds
unfoldable pub holds_for : ℕ → List Check → Bool
holds_for k [] = false
holds_for k (c ∷ cs) = (eqb c.number k && c.holds) || holds_for k cs

holds_first : (k : ℕ) (cs : List Check) → (k ≡ 0 → ⊥) → first_of cs ≡ k → holds_for k cs ≡ true
unfolding holds_for first_of
holds_first k [] n h = absurd (n (sym h))
holds_first k (c ∷ cs) n h = go c.holds refl (holds_first k cs n)
  where
    go : (b : Bool) → c.holds ≡ b → (first_of cs ≡ k → holds_for k cs ≡ true) → holds_for k (c ∷ cs) ≡ true
    go true e ih = let z : c.number ≡ k = simp e at h in simp (e, eq-eqb c.number k z)
    go false e ih = let z : holds_for k cs ≡ true = ih (simp e at h) in simp (e, z, or-true)

pub holds_for_lem : (s : State) (k : ℕ) → (k ≡ 0 → ⊥) → verdict s ≡ k → holds_for k (checks s) ≡ true
unfolding verdict
holds_for_lem s k n h = holds_first k (checks s) n h
