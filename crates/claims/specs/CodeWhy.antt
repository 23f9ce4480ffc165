-- Why, over the contracts of the calls: what a call tells shows the cause of the number that the step would answer.
use Rattle.std.specs.Prelude.{◌≡◌, ◌↔◌, ℕ}
use Rattle.std.proofs.Common.{sym, subst}
use Rattle.rules.specs.State.{State}
use Rattle.rules.specs.Step.{step}
use Rattle.reasons.specs.Why as reasons
use Rattle.reasons.specs.Theorems.Witness.{Shows, shows, told_exactly}
use Rattle.why.specs.Views.{state_by, why_of}
use Rattle.why.proofs.why.Reads as call

-- whatever is told, if it is what the definition says
module _ (s : State) (w : reasons.Why) (e : w ≡ reasons.why s) where
  pub told_shows : Shows s w
  told_shows = subst (Shows s) (sym e) (shows s)

  pub told_there : (k : ℕ) → (w.answer ≡ k) ↔ ((step s).answer ≡ k)
  told_there k = subst (λ (v : reasons.Why). (v.answer ≡ k) ↔ ((step s).answer ≡ k)) (sym e) (told_exactly s k)

-- the call by value: the cause is shown, and the number is told exactly where the step answers it
pub why_shows : (κs : _) (a : _) (r : _) (s : _) → call.Post κs a r s
    → Shows (state_by a.0 a.1.0.now) (why_of r)
why_shows κs a r s h = told_shows _ _ h

pub why_exactly : (κs : _) (a : _) (r : _) (s : _) → call.Post κs a r s → (k : ℕ)
    → ((why_of r).answer ≡ k) ↔ ((step (state_by a.0 a.1.0.now)).answer ≡ k)
why_exactly κs a r s h k = told_there _ _ h k
