-- "A run of m + n steps equals m, then n if the first answered 0, the counts added", in every component.
use Rattle.std.specs.Prelude.{◌≡◌, refl, Bool, true, false, cond, ℕ, zero, suc, ◌+◌, eqb}
use Rattle.std.proofs.Common.{sym, ap, ◌∙◌, zero-add, suc-add, eqb-true}
use Rattle.std.proofs.lemmas.Bool.{eqb-false}
use Rattle.common.specs.Answers as answer
use Rattle.rules.specs.State.{State}
use Rattle.rules.specs.Step.{step}
use Rattle.rules.specs.Run.{Ran, one_more, ended, run}
use Rattle.rules.proofs.Laws.StepLaws.{run_goes_on, run_ends}

-- "Budget 0 looks at nothing and answers 0 with count 0"
pub run_zero : (s : State) → run 0 s ≡ ended answer.done s
unfolding run
run_zero s = refl

abbrev pub added : Ran → Ran → Ran
added first rest = record { answer = rest.answer; state = rest.state; count = first.count + rest.count }

-- n steps more if the first ones answered 0
unfoldable pub and_then : Ran → ℕ → Ran
and_then first n = cond (eqb first.answer answer.done) (added first (run n first.state)) first

-- a step before the first ones is a step before all of them
one_more_then : (r : Ran) (n : ℕ) → one_more (and_then r n) ≡ and_then (one_more r) n
unfolding and_then
one_more_then r n = go (eqb r.answer answer.done)
  where
    go : (b : Bool) → one_more (cond b (added r (run n r.state)) r) ≡ cond b (added (one_more r) (run n r.state)) (one_more r)
    go true = simp suc-add
    go false = refl

pub run_adds : (m n : ℕ) (s : State) → run (m + n) s ≡ and_then (run m s) n
unfolding run and_then
run_adds zero n s = simp (zero-add, zero-add)
run_adds (suc m) n s = ap (λ (k : ℕ). run k s) (suc-add m n) ∙ go (eqb (step s).answer answer.done) refl (run_adds m n (step s).state)
  where
    go : (b : Bool) → eqb (step s).answer answer.done ≡ b → run (m + n) (step s).state ≡ and_then (run m (step s).state) n
        → run (suc (m + n)) s ≡ and_then (run (suc m) s) n
    go true e ih =
        let h : (step s).answer ≡ answer.done = eqb-true _ _ e in
        run_goes_on (m + n) s h ∙ ap one_more ih ∙ one_more_then (run m (step s).state) n ∙ ap (λ (r : Ran). and_then r n) (sym (run_goes_on m s h))
    go false e ih =
        let h = eqb-false (step s).answer 0 e in
        let mid : ended (step s).answer (step s).state ≡ and_then (ended (step s).answer (step s).state) n = simp e in
        run_ends (m + n) s h ∙ mid ∙ ap (λ (r : Ran). and_then r n) (sym (run_ends m s h))
