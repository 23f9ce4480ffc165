-- No run of an image makes more than 64 compartments.
use Rattle.std.specs.Prelude.{◌≡◌, Bool, List, ℕ, ◌≤◌}
use Rattle.common.specs.Answers as answer
use Rattle.rules.specs.State.{State}
use Rattle.rules.specs.Images.{load}
use Rattle.rules.specs.Run.{run}
use Rattle.rules.proofs.Laws.FormLaws.{Numbered, numbers_good}
use Rattle.rules.proofs.Theorems.Formed.{run_formed}
use Rattle.rules.proofs.BothMachines.Agreement.{start_keeps}

pub run_numbered : (strict : Bool) (input : List ℕ) (old : State) → (load strict input old).answer ≡ answer.done → (k : ℕ)
    → Numbered (run k (load strict input old).state).state
run_numbered strict input old ok k = numbers_good _ (run_formed k _ (start_keeps strict input old ok).formed)

pub next_most : (strict : Bool) (input : List ℕ) (old : State) → (load strict input old).answer ≡ answer.done → (k : ℕ)
    → (run k (load strict input old).state).state.cpu.next ≤ 64
next_most strict input old ok k = (run_numbered strict input old ok k).high
