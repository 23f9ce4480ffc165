-- Each number of the loader and of the writer is given exactly on its condition, the sheet's order being that of the checks.
use Rattle.std.specs.Prelude.{◌≡◌, refl, Bool, true, false, List, ◌↔◌, ℕ, eqb}
use Rattle.std.proofs.Common.{sym, eqb-true}
use Rattle.common.specs.Answers as answer
use Rattle.common.specs.Tables.{first_of, Exactly, NoneHolds}
use Rattle.common.proofs.Laws.TableLaws.{nonzero, on_its_condition, done_otherwise}
use Rattle.rules.specs.State.{State}
use Rattle.rules.specs.Images.{entry_checks, register_checks, image_checks, load_checks, load_verdict, load, write_checks, write_verdict, write}

-- ---- the loader

pub load_number : (m : Bool) (bytes : List ℕ) (old : State) (k : ℕ) → (k ≡ answer.done → ⊥) → ((load m bytes old).answer ≡ k) ↔ Exactly (load_checks m bytes old) k
unfolding load load_verdict
load_number m bytes old = on_its_condition (load m bytes old).answer (load_checks m bytes old) refl

pub load_done : (m : Bool) (bytes : List ℕ) (old : State) → ((load m bytes old).answer ≡ answer.done) ↔ NoneHolds (load_checks m bytes old)
unfolding load load_verdict load_checks image_checks register_checks entry_checks nonzero
load_done m bytes old = done_otherwise (load m bytes old).answer (load_checks m bytes old) refl refl

-- ---- the writer

write_first : (words regs : List ℕ) (entry : ℕ) (out : List ℕ) → (write words regs entry out).answer ≡ first_of (write_checks words regs entry out)
unfolding write write_verdict
write_first words regs entry out = go (eqb (write_verdict words regs entry out) answer.done) refl
  where
    go : (b : Bool) → eqb (write_verdict words regs entry out) answer.done ≡ b → (write words regs entry out).answer ≡ write_verdict words regs entry out
    go true e = simp e (sym (eqb-true _ _ e))
    go false e = simp e

pub write_number : (words regs : List ℕ) (entry : ℕ) (out : List ℕ) (k : ℕ) → (k ≡ answer.done → ⊥)
    → ((write words regs entry out).answer ≡ k) ↔ Exactly (write_checks words regs entry out) k
write_number words regs entry out = on_its_condition (write words regs entry out).answer (write_checks words regs entry out) (write_first words regs entry out)

pub write_done : (words regs : List ℕ) (entry : ℕ) (out : List ℕ) → ((write words regs entry out).answer ≡ answer.done) ↔ NoneHolds (write_checks words regs entry out)
unfolding write_checks nonzero
write_done words regs entry out = done_otherwise (write words regs entry out).answer (write_checks words regs entry out) (write_first words regs entry out) refl
