-- The steps of a session add up, and a word that a run changed was changed by one of its steps.
use Rattle.std.specs.Prelude.{◌≡◌, refl, Bool, true, false, List, [], ◌∷◌, ℕ, zero, suc, ◌+◌, ◌<◌, eqb, get_or}
use Rattle.std.proofs.Common.{sym, ap, ◌∙◌, subst, arith, eqb-true}
use Rattle.std.proofs.Math.Decide.{ℕ_discrete}
use Rattle.std.proofs.lemmas.Bool.{eqb-false}
use Rattle.rules.specs.State.{State}
use Rattle.rules.specs.Step.{step}
use Rattle.rules.specs.Run.{Ran, run}
use Rattle.rules.proofs.Laws.StepLaws.{run_goes_on, run_ends}
use Rattle.rules.proofs.Theorems.Additive.{run_zero, and_then, run_adds}
use Rattle.rules.proofs.Theorems.Counted as counts
use Rattle.rules.proofs.Theorems.Stays.{stopped_stays}
use Rattle.rules.proofs.BothMachines.Changes.{Changes}
use Rattle.claims.specs.Code.{Code}
use Rattle.claims.specs.Sessions.{budget_of, Call, left_by, steps_of, outcome_of, Called, Session, called}

-- ---- the steps of the calls add up

-- j steps that ran, then a run
pub then_run : (j k : ℕ) (s t : State) → run j s ≡ record { answer = 0; state = t; count = j }
    → run (j + k) s ≡ record { answer = (run k t).answer; state = (run k t).state; count = j + (run k t).count }
unfolding and_then
then_run j k s t e = run_adds j k s ∙ ap (λ (r : Ran). and_then r k) e

module _ (code : Code) where
  -- so many steps of the rules ran, and left what the calls left
  pub session_run : (s : State) (cs : List Call) → Session code s cs → run (steps_of cs) s ≡ record { answer = 0; state = left_by s cs; count = steps_of cs }
  session_run s [] h = run_zero s
  session_run s (c ∷ cs) h =
      let e : c.did ≡ run (budget_of c.asked) s = called code s c h.0 in
      let ran : run c.did.count s ≡ record { answer = 0; state = c.did.state; count = c.did.count } =
      subst (λ (o : Ran). run o.count s ≡ record { answer = 0; state = o.state; count = o.count }) (sym e) (counts.counted (budget_of c.asked) s).1 in
      then_run c.did.count (steps_of cs) s c.did.state ran
      ∙ ap (λ (r : Ran). record { answer = r.answer; state = r.state; count = c.did.count + r.count }) (session_run c.did.state cs h.1)

  -- and one more call is so many steps, and those that it was asked for
  pub call_run : (s : State) (cs : List Call) → Session code s cs → (c : Call) → Called code (left_by s cs) c
      → outcome_of cs c ≡ run (steps_of cs + budget_of c.asked) s
  call_run s cs h c k =
      ap (λ (r : Ran). record { answer = r.answer; state = r.state; count = steps_of cs + r.count }) (called code (left_by s cs) c k)
      ∙ sym (then_run (steps_of cs) (budget_of c.asked) s (left_by s cs) (session_run s cs h))

-- ---- a word that a run changed was changed by one of its steps

pub changing_step : (k : ℕ) (s : State) (x : ℕ) → (get_or (run k s).state.words x 0 ≡ get_or s.words x 0 → ⊥)
    → (j : ℕ) × (j < (run k s).count) × Changes (run j s).state x
unfolding run
changing_step zero s x d = absurd (d refl)
changing_step (suc k) s x d =
    go (eqb (step s).answer 0) refl (ℕ_discrete (get_or (step s).state.words x 0) (get_or s.words x 0)) (changing_step k (step s).state x)
  where
    Found : Type 0
    Found = (j : ℕ) × (j < (run (suc k) s).count) × Changes (run j s).state x

    go : (b : Bool) → eqb (step s).answer 0 ≡ b → Dec (get_or (step s).state.words x 0 ≡ get_or s.words x 0)
        → ((get_or (run k (step s).state).state.words x 0 ≡ get_or (step s).state.words x 0 → ⊥)
        → (j : ℕ) × (j < (run k (step s).state).count) × Changes (run j (step s).state).state x)
        → Found
    go true e (no n) ih =
        let r : (run (suc k) s).count ≡ suc (run k (step s).state).count = ap (λ (o : Ran). o.count) (run_goes_on k s (eqb-true _ _ e)) in
        (0, omega (arith, r), n)
    go true e (yes y) ih =
        let h = eqb-true _ _ e in
        let r : (run (suc k) s).count ≡ suc (run k (step s).state).count = ap (λ (o : Ran). o.count) (run_goes_on k s h) in
        let w : get_or (run (suc k) s).state.words x 0 ≡ get_or (run k (step s).state).state.words x 0 =
        ap (λ (o : Ran). get_or o.state.words x 0) (run_goes_on k s h) in
        let f = ih (λ z. d (w ∙ z ∙ y)) in
        let l : f.0 < (run k (step s).state).count = f.1 in
        (suc f.0, omega (arith, r, l), subst (λ (o : Ran). Changes o.state x) (sym (run_goes_on f.0 s h)) f.2)
    go false e q ih =
        let h = eqb-false _ _ e in
        absurd (d (ap (λ (o : Ran). get_or o.state.words x 0) (run_ends k s h) ∙ ap (λ (t : State). get_or t.words x 0) (stopped_stays s h)))
