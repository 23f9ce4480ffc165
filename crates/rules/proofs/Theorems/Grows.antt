-- "Numbers are never used again": next never falls, and grows by one exactly at an isolate that ran; N, the registers and the services stay as many as they were, and the mode stays.
use Rattle.std.specs.Prelude.{◌≡◌, refl, Bool, true, false, cond, ◌&&◌, ◌↔◌, ℕ, suc, ◌≤◌, ◌<◌, eqb, length}
use Rattle.std.proofs.Common.{sym, ◌∙◌, arith, eqb-true, eq-eqb}
use Rattle.common.specs.Answers as answer
use Rattle.common.proofs.Laws.InstructionLaws.{regs_length}
use Rattle.common.specs.Services.{isolate, add_jump_target, add_store_target}
use Rattle.common.proofs.Laws.Tests.{both}
use Rattle.rules.specs.State.{State, in_memory}
use Rattle.rules.specs.Checks.{verdict}
use Rattle.rules.specs.Step.{ran_instruction, joined_services, isolated, jump_added, store_added, read_added, ran_service, commit, step}
use Rattle.rules.specs.Run.{run}
use Rattle.rules.proofs.Laws.FormLaws.{outside}
use Rattle.rules.proofs.Laws.Passed.{passes}
use Rattle.rules.proofs.Laws.StepLaws.{step_cases, run_keeps}
use Rattle.rules.proofs.Laws.TagLaws.{length-map}

-- ---- next

-- an isolate that ran
abbrev pub isolates : State → Bool
isolates s = eqb (step s).answer answer.done && eqb s.cpu.pc isolate

pub next_after : (s : State) → (step s).state.cpu.next ≡ cond (isolates s) (suc s.cpu.next) s.cpu.next
unfolding step commit ran_service ran_instruction isolated jump_added store_added read_added
next_after s = go (eqb (verdict s) answer.done) (eqb s.cpu.pc isolate) refl refl
  where
    go : (b d : Bool) → eqb (verdict s) answer.done ≡ b → eqb s.cpu.pc isolate ≡ d → (step s).state.cpu.next ≡ cond (isolates s) (suc s.cpu.next) s.cpu.next
    go false d p q = simp p
    go true true p q =
        let e : s.cpu.pc ≡ isolate = eqb-true _ _ q in
        let o = outside s (passes s (eqb-true _ _ p)).formed s.cpu.pc (omega arith) in
        simp (p, q, o)
    go true false p q = other (in_memory s s.cpu.pc) (eqb s.cpu.pc add_jump_target) (eqb s.cpu.pc add_store_target) refl refl refl
      where
        other : (c e o : Bool) → in_memory s s.cpu.pc ≡ c → eqb s.cpu.pc add_jump_target ≡ e → eqb s.cpu.pc add_store_target ≡ o
            → (step s).state.cpu.next ≡ cond (isolates s) (suc s.cpu.next) s.cpu.next
        other true e o m f g = simp (p, q, m)
        other false true o m f g = simp (p, q, m, f)
        other false false true m f g = simp (p, q, m, f, g)
        other false false false m f g = simp (p, q, m, f, g)

-- one more, or the same
grown : (b : Bool) (n : ℕ) → n ≤ cond b (suc n) n
grown true n = omega arith
grown false n = omega arith

grew : (b : Bool) (n : ℕ) → cond b (suc n) n ≡ suc n → b ≡ true
grew true n h = refl
grew false n h = absurd (omega arith)

pub next_grows_iff : (s : State) → ((step s).state.cpu.next ≡ suc s.cpu.next) ↔ (((step s).answer ≡ answer.done) × (s.cpu.pc ≡ isolate))
next_grows_iff s = (
  λ h. let t = both (eqb (step s).answer answer.done) (eqb s.cpu.pc isolate) (grew (isolates s) s.cpu.next (sym (next_after s) ∙ h)) in
      (eqb-true _ _ t.0, eqb-true _ _ t.1),
  λ h. next_after s ∙ simp (eq-eqb (step s).answer answer.done h.0, eq-eqb s.cpu.pc isolate h.1),
)

pub next_never_falls : (s : State) → s.cpu.next ≤ (step s).state.cpu.next
next_never_falls s = rw next_after (grown (isolates s) s.cpu.next)

pub run_next_never_falls : (k : ℕ) (s : State) → s.cpu.next ≤ (run k s).state.cpu.next
run_next_never_falls k s =
    run_keeps (λ (t : State). s.cpu.next ≤ t.cpu.next) (λ t h. let l : t.cpu.next ≤ (step t).state.cpu.next = next_never_falls t in omega arith) k s (omega arith)

-- the number that an isolate gave is below every number that is given after it
pub never_again : (s : State) → (step s).answer ≡ answer.done → s.cpu.pc ≡ isolate → (k : ℕ) → s.cpu.next < (run k (step s).state).state.cpu.next
never_again s h e k =
    let g : (step s).state.cpu.next ≡ suc s.cpu.next = (next_grows_iff s).1 (h, e) in
    let l : (step s).state.cpu.next ≤ (run k (step s).state).state.cpu.next = run_next_never_falls k (step s).state in
    omega arith

-- ---- what never changes

pub record SameSizes (s t : State) : Type 0 where
  pub n : t.cpu.n ≡ s.cpu.n
  pub registers : length t.cpu.regs ≡ length s.cpu.regs
  pub services : length t.cpu.services ≡ length s.cpu.services
  pub strict : t.cpu.strict ≡ s.cpu.strict

pub same_sizes : (s : State) → SameSizes s s
same_sizes s = record { n = refl; registers = refl; services = refl; strict = refl }

pub same_sizes_then : (s t u : State) → SameSizes s t → SameSizes t u → SameSizes s u
same_sizes_then s t u a b = record { n = b.n ∙ a.n; registers = b.registers ∙ a.registers; services = b.services ∙ a.services; strict = b.strict ∙ a.strict }

services_length : (s : State) → length (isolated s).cpu.services ≡ length s.cpu.services
unfolding isolated joined_services
services_length s = length-map _ 0 s.cpu.services

pub step_same_sizes : (s : State) → SameSizes s (step s).state
unfolding ran_instruction isolated jump_added store_added read_added
step_same_sizes s =
    step_cases s (SameSizes s) (same_sizes s) (λ p m v. record { n = refl; registers = regs_length _ s.cpu.pc s.cpu.regs s.words; services = refl; strict = refl })
    (λ p m v. record { n = refl; registers = refl; services = services_length s; strict = refl }) (λ p m a. (
      record { n = refl; registers = refl; services = refl; strict = refl },
      record { n = refl; registers = refl; services = refl; strict = refl },
      λ z. record { n = refl; registers = refl; services = refl; strict = refl },
    ))

pub run_same_sizes : (k : ℕ) (s : State) → SameSizes s (run k s).state
run_same_sizes k s = run_keeps (SameSizes s) (λ t h. same_sizes_then s t (step t).state h (step_same_sizes t)) k s (same_sizes s)
