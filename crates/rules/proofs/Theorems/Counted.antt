-- What the count of a run says: so many steps ran, and left that state; a budget that is used was used in steps.
use Rattle.std.specs.Prelude.{◌≡◌, refl, Bool, true, false, ℕ, zero, suc, ◌≤◌, eqb}
use Rattle.std.proofs.Common.{sym, ap, ◌∙◌, arith, eqb-true}
use Rattle.std.proofs.lemmas.Bool.{eqb-false}
use Rattle.rules.specs.State.{State}
use Rattle.rules.specs.Step.{step}
use Rattle.rules.specs.Run.{Ran, one_more, run}
use Rattle.rules.proofs.Laws.StepLaws.{run_goes_on, run_ends}
use Rattle.rules.proofs.Theorems.Stays.{stopped_stays}

pub counted : (budget : ℕ) (s : State)
    → ((run budget s).count ≤ budget)
    × (run (run budget s).count s ≡ record { answer = 0; state = (run budget s).state; count = (run budget s).count })
unfolding run
counted zero s = (omega arith, refl)
counted (suc k) s = go (eqb (step s).answer 0) refl (counted k (step s).state)
  where
    Counted : ℕ → Ran → Type 0
    Counted budget r = (r.count ≤ budget) × (run r.count s ≡ record { answer = 0; state = r.state; count = r.count })

    go : (b : Bool) → eqb (step s).answer 0 ≡ b
        → ((run k (step s).state).count ≤ k)
        × (run (run k (step s).state).count (step s).state ≡ record { answer = 0; state = (run k (step s).state).state; count = (run k (step s).state).count })
        → Counted (suc k) (run (suc k) s)
    go true e ih =
        let h = eqb-true _ _ e in
        let l : (run k (step s).state).count ≤ k = ih.0 in
        rw (run_goes_on k s h) (omega arith, run_goes_on (run k (step s).state).count s h ∙ ap one_more ih.1)
    go false e ih =
        let h = eqb-false _ _ e in
        rw (run_ends k s h) (omega arith, ap (λ (t : State). record { answer = 0; state = t; count = 0 }) (sym (stopped_stays s h)))

pub used : (budget : ℕ) (s : State) → (run budget s).answer ≡ 0 → (run budget s).count ≡ budget
unfolding run
used zero s h = refl
used (suc k) s h = go (eqb (step s).answer 0) refl (used k (step s).state)
  where
    go : (b : Bool) → eqb (step s).answer 0 ≡ b → ((run k (step s).state).answer ≡ 0 → (run k (step s).state).count ≡ k) → (run (suc k) s).count ≡ suc k
    go true e ih =
        let r = run_goes_on k s (eqb-true _ _ e) in
        ap (λ (o : Ran). o.count) r ∙ ap suc (ih (sym (ap (λ (o : Ran). o.answer) r) ∙ h))
    go false e ih = let n = eqb-false _ _ e in absurd (n (sym (ap (λ (o : Ran). o.answer) (run_ends k s n)) ∙ h))
