-- Each number of a step is given exactly on its condition, the table of Checks; for every state whatever.
use Rattle.std.specs.Prelude.{◌≡◌, refl, ◌↔◌, ℕ}
use Rattle.common.specs.Answers as answer
use Rattle.common.specs.Tables.{Exactly, NoneHolds}
use Rattle.common.proofs.Laws.TableLaws.{nonzero, on_its_condition, done_otherwise}
use Rattle.rules.specs.State.{State}
use Rattle.rules.specs.Checks.{checks, verdict}
use Rattle.rules.specs.Step.{step}

pub step_number : (s : State) (k : ℕ) → (k ≡ answer.done → ⊥) → ((step s).answer ≡ k) ↔ Exactly (checks s) k
unfolding step verdict
step_number s = on_its_condition (step s).answer (checks s) refl

pub step_done : (s : State) → ((step s).answer ≡ answer.done) ↔ NoneHolds (checks s)
unfolding step verdict checks nonzero
step_done s = done_otherwise (step s).answer (checks s) refl refl
