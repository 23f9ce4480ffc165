-- A nonzero answer stays: the state is left as it was, and the next step, or the next run, gives the same answer.
use Rattle.std.specs.Prelude.{◌≡◌, refl, Bool, true, false, ℕ, zero, suc, eqb}
use Rattle.std.proofs.Common.{sym, ap, ◌∙◌, eqb-true}
use Rattle.std.proofs.lemmas.Bool.{eqb-false}
use Rattle.common.specs.Answers as answer
use Rattle.rules.specs.State.{State}
use Rattle.rules.specs.Step.{Stepped, step}
use Rattle.rules.specs.Run.{Ran, ended, run}
use Rattle.rules.proofs.Laws.StepLaws.{answer_is, step_stops, run_goes_on, run_ends}

-- ---- one step

pub stopped_stays : (s : State) → ((step s).answer ≡ answer.done → ⊥) → (step s).state ≡ s
stopped_stays s h = ap (λ (o : Stepped). o.state) (step_stops s (λ e. h (answer_is s ∙ e)))

-- "the next step gives the same number", and changes nothing either: of 1, 14 and 15 as of 2 to 13
pub stopped_again : (s : State) → ((step s).answer ≡ answer.done → ⊥) → step (step s).state ≡ step s
stopped_again s h = ap step (stopped_stays s h)

pub same_answer : (s : State) → ((step s).answer ≡ answer.done → ⊥) → (step (step s).state).answer ≡ (step s).answer
same_answer s h = ap (λ (o : Stepped). o.answer) (stopped_again s h)

-- ---- a run

-- where a run ended with a nonzero answer, that is the answer of a step there, and the step changes nothing
pub ended_at : (k : ℕ) (s : State) → ((run k s).answer ≡ answer.done → ⊥) → step (run k s).state ≡ record { answer = (run k s).answer; state = (run k s).state }
unfolding run
ended_at zero s h = absurd (h refl)
ended_at (suc k) s h = go (eqb (step s).answer answer.done) refl (ended_at k (step s).state)
  where
    At : Ran → Type 0
    At r = step r.state ≡ record { answer = r.answer; state = r.state }

    go : (b : Bool) → eqb (step s).answer answer.done ≡ b → (((run k (step s).state).answer ≡ answer.done → ⊥) → At (run k (step s).state)) → At (run (suc k) s)
    go true e ih =
        let r = run_goes_on k s (eqb-true _ _ e) in
        rw r (ih (λ z. h (ap (λ (x : Ran). x.answer) r ∙ z)))
    go false e ih =
        let n = eqb-false (step s).answer 0 e in
        rw (run_ends k s n) (stopped_again s n)

pub run_again : (k j : ℕ) (s : State) → ((run k s).answer ≡ answer.done → ⊥) → run (suc j) (run k s).state ≡ ended (run k s).answer (run k s).state
run_again k j s h =
    let e = ended_at k s h in
    let a : (step (run k s).state).answer ≡ (run k s).answer = ap (λ (o : Stepped). o.answer) e in
    run_ends j (run k s).state (λ z. h (sym a ∙ z)) ∙ ap (λ (o : Stepped). ended o.answer o.state) e
