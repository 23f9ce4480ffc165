-- Every step of the tagged machine keeps Inv: its form by Formed, its service sets by Grows, and good owners.
use Rattle.std.specs.Prelude.{◌≡◌, Bool, cond, ℕ, suc, ◌<◌}
use Rattle.std.proofs.Common.{sym, ap, arith}
use Rattle.std.proofs.Math.Path.{subst}
use Rattle.std.proofs.Math.Bool.{true, false, and-false}
use Rattle.std.proofs.lemmas.Bool.{lt-leb}
use Rattle.std.proofs.Math.ListN.{get_or}
use Rattle.common.specs.Services.{service_count, is_service_number}
use Rattle.common.specs.AddressSets.{in_set}
use Rattle.common.proofs.Laws.Tests.{clash}
use Rattle.rules.specs.State.{State, in_memory}
use Rattle.rules.specs.Checks.{set_a}
use Rattle.rules.specs.Step.{ran_instruction, owned, isolated, jump_added, store_added, read_added, step}
use Rattle.rules.proofs.Laws.FormLaws.{lent_memories, numbers_good, good_owner}
use Rattle.rules.proofs.Laws.StepLaws.{step_cases}
use Rattle.rules.proofs.Laws.JoinLaws.{owner_after}
use Rattle.rules.proofs.Theorems.Grows.{step_same_sizes}
use Rattle.rules.proofs.Theorems.Formed.{step_formed}
use Rattle.rules.proofs.BothMachines.Match.{Inv}

-- an owner that passes 15
abbrev Good : Bool → ℕ → ℕ → Type 0
Good m next owner = (is_service_number m owner ≡ false) × (owner < next)

-- what is left of Inv once the form and the service sets are kept
record Owned (s : State) : Type 0 where
  caller : in_memory s s.cpu.pc ≡ false → is_service_number s.cpu.strict s.cpu.prev ≡ false
  owner : (x : ℕ) → x < s.cpu.n → Good s.cpu.strict s.cpu.next (get_or s.owners x 0)

module _ (s : State) (inv : Inv s) where
  -- a word of A' gets the new number, which is no service's
  given : (x : ℕ) → x < s.cpu.n → Good s.cpu.strict (suc s.cpu.next) (get_or (owned s.cpu.n (set_a s) s.cpu.next s.owners) x 0)
  unfolding is_service_number
  given x h =
      let l = lent_memories s inv.formed in
      subst (Good s.cpu.strict (suc s.cpu.next))
      (sym (owner_after s.cpu.n (set_a s) s.cpu.next s.owners (omega (arith, l.owners, l.enough)) x h))
      (go (in_set (set_a s) x))
    where
      go : (b : Bool) → Good s.cpu.strict (suc s.cpu.next) (cond b s.cpu.next (get_or s.owners x 0))
      go true =
          let n : service_count s.cpu.strict < s.cpu.next = (numbers_good s inv.formed).low in
          (simp (lt-leb s.cpu.next (service_count s.cpu.strict) n, and-false), omega arith)
      go false =
          let o = inv.owner x h in
          let u : get_or s.owners x 0 < s.cpu.next = o.1 in
          (o.0, omega arith)

  step_owned : Owned (step s).state
  unfolding ran_instruction isolated jump_added store_added read_added in_memory
  step_owned =
      step_cases s Owned (record { caller = inv.caller; owner = inv.owner })
      (λ p m v. record { caller = λ z. (good_owner s m p.owner).plain; owner = inv.owner })
      (λ p m is. record { caller = λ z. clash is.back z; owner = given })
      (λ p m a. (
        record { caller = λ z. clash a.back z; owner = inv.owner },
        record { caller = λ z. clash a.back z; owner = inv.owner },
        λ y. record { caller = λ z. clash a.back z; owner = inv.owner },
      ))

  pub step_inv : Inv (step s).state
  step_inv =
      let z = step_same_sizes s in
      record {
        formed = step_formed s inv.formed;
        sets = omega (arith, z.services, ap service_count z.strict, inv.sets);
        caller = step_owned.caller;
        owner = step_owned.owner;
      }
