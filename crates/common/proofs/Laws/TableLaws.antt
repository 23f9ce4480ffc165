-- What it means that a number is given exactly on its condition: one law for every table of checks.
use Rattle.std.specs.Prelude.{◌≡◌, refl, Bool, true, false, ◌&&◌, not, List, [], ◌∷◌, ◌↔◌, ℕ, eqb}
use Rattle.std.proofs.Common.{sym, ◌∙◌, inl, inr, ⊎_elim}
use Rattle.common.specs.Answers as answer
use Rattle.common.specs.Tables.{Check, first_of, Exactly, NoneHolds}
use Rattle.common.proofs.Laws.Tests.{both, clash}

first_exactly : (cs : List Check) (k : ℕ) → (k ≡ answer.done → ⊥) → (first_of cs ≡ k) ↔ Exactly cs k
unfolding first_of Exactly
first_exactly [] k n = (λ h. n (sym h), λ h. absurd h)
first_exactly (c ∷ cs) k n = (to c.holds refl (first_exactly cs k n).0, from c.holds refl (first_exactly cs k n).1)
  where
    to : (b : Bool) → c.holds ≡ b → (first_of cs ≡ k → Exactly cs k) → first_of (c ∷ cs) ≡ k → Exactly (c ∷ cs) k
    to true e ih h = inl (e, simp e at h)
    to false e ih h = inr (e, ih (simp e at h))

    from : (b : Bool) → c.holds ≡ b → (Exactly cs k → first_of cs ≡ k) → Exactly (c ∷ cs) k → first_of (c ∷ cs) ≡ k
    from true e ih h = ⊎_elim (λ (w : (c.holds ≡ true) × (c.number ≡ k)). simp e w.1) (λ (w : (c.holds ≡ false) × Exactly cs k). clash e w.0) h
    from false e ih h = ⊎_elim (λ (w : (c.holds ≡ true) × (c.number ≡ k)). clash w.0 e) (λ (w : (c.holds ≡ false) × Exactly cs k). simp e (ih w.1)) h

-- no check has the number 0
unfoldable pub nonzero : List Check → Bool
nonzero [] = true
nonzero (c ∷ cs) = not (eqb c.number answer.done) && nonzero cs

first_none : (cs : List Check) → nonzero cs ≡ true → (first_of cs ≡ answer.done) ↔ NoneHolds cs
unfolding first_of NoneHolds nonzero
first_none [] n = (λ h. record {}, λ h. refl)
first_none (c ∷ cs) n = (to c.holds refl (first_none cs parts.1).0, λ h. simp h.0 ((first_none cs parts.1).1 h.1))
  where
    parts : (not (eqb c.number answer.done) ≡ true) × (nonzero cs ≡ true)
    parts = both (not (eqb c.number answer.done)) _ n

    to : (b : Bool) → c.holds ≡ b → (first_of cs ≡ answer.done → NoneHolds cs) → first_of (c ∷ cs) ≡ answer.done → NoneHolds (c ∷ cs)
    to true e ih h = let z : c.number ≡ answer.done = simp e at h in let w : false ≡ true = simp z at parts.0 in clash w refl
    to false e ih h = (e, ih (simp e at h))

-- ---- an answer that is the number of the first check that holds

pub on_its_condition : (given : ℕ) (cs : List Check) → given ≡ first_of cs → (k : ℕ) → (k ≡ answer.done → ⊥) → (given ≡ k) ↔ Exactly cs k
on_its_condition given cs e k n = let f = first_exactly cs k n in (λ h. f.0 (sym e ∙ h), λ x. e ∙ f.1 x)

pub done_otherwise : (given : ℕ) (cs : List Check) → given ≡ first_of cs → nonzero cs ≡ true → (given ≡ answer.done) ↔ NoneHolds cs
done_otherwise given cs e n = let f = first_none cs n in (λ h. f.0 (sym e ∙ h), λ x. e ∙ f.1 x)
