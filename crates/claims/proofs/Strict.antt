-- Request 2026-07, what strict mode is for: of every outcome that the contract of step allows, by value or for C.
use Rattle.std.specs.Prelude.{◌≡◌, true, ◌||◌, ◌⊎◌, ℕ}
use Rattle.std.proofs.Common.{sym, ap, ◌∙◌, subst}
use Rattle.common.specs.Opcodes as is_op_lem
use Rattle.common.specs.Instructions.{reg}
use Rattle.common.specs.AddressSets.{in_set}
use Rattle.rules.specs.State.{State, in_memory, owner_at, owns, may_read}
use Rattle.rules.specs.Checks.{instruction_at, named, set_r}
use Rattle.rules.specs.Step.{step}
use Rattle.rules.specs.Run.{Ran}
use Rattle.claims.specs.Code.{Code, one_step}
use Rattle.claims.proofs.Calls.{run_one}
use Rattle.claims.specs.Strict.{load_read, new_reader}

-- ---- strict mode, of any outcome that the contract of step allows, by value or for C

module _ (code : Code) (s : State) (o : Ran) (h : code.Steps s o) where
  is : o ≡ one_step (step s)
  is = code.steps s o h ∙ sym (run_one s)

  pub code_load_read : s.cpu.strict ≡ true → o.answer ≡ 0 → in_memory s s.cpu.pc ≡ true → (instruction_at s).op ≡ is_op_lem.load
      → (in_memory s (named s) ≡ true)
      × ((owns s (owner_at s s.cpu.pc) (named s) || may_read s (owner_at s s.cpu.pc) (named s)) ≡ true)
  code_load_read m z = load_read s m (sym (ap (λ (x : Ran). x.answer) is) ∙ z)

  pub code_new_reader : (c x : ℕ) → may_read o.state c x ≡ true
      → (may_read s c x ≡ true)
      ⊎ (((c ≡ s.cpu.prev) × (x ≡ reg s.cpu.regs 1) × (owns s s.cpu.prev x ≡ true))
      ⊎ ((c ≡ s.cpu.next) × (in_set (set_r s) x ≡ true) × ((owns s s.cpu.prev x || may_read s s.cpu.prev x) ≡ true)))
  code_new_reader c x r = new_reader s c x (subst (λ (y : Ran). may_read y.state c x ≡ true) is r)
