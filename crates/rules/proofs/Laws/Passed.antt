-- What an answer of 0 says of the state before the step.
use Rattle.std.specs.Prelude.{◌≡◌, Bool, cond, ◌&&◌, ◌||◌, ℕ, ◌≤◌, ◌<◌}
use Rattle.std.proofs.Math.Path.{refl}
use Rattle.std.proofs.Common.{sym, ap, ◌∙◌, arith}
use Rattle.std.proofs.Math.Bool.{true, false, and-true}
use borrow.Author.Tests.{eqb-true, eq-eqb, not-true}
use Rattle.std.proofs.Math.Dec.{eqb}
use Rattle.common.specs.Answers as answer
use Rattle.common.specs.Opcodes as is
use Rattle.common.specs.Words.{Decoded}
use Rattle.common.specs.Instructions.{reg}
use Rattle.common.specs.Services.{is_service, service_at, is_service_number}
use Rattle.common.proofs.Laws.ServiceLaws.{service_number}
use Rattle.common.specs.AddressSets.{within}
use Rattle.common.proofs.Laws.Tests.{both, clash}
use Rattle.common.proofs.Laws.CheckLaws.{took, took_zero, passed, needs, eqb_cond, cond_same}
use Rattle.rules.specs.Compartments.{numbers}
use Rattle.rules.specs.State.{State, in_memory, has_owner, owner_at, owns, may_jump, may_store, may_read, reads}
use Rattle.rules.specs.Checks.{instruction_at, set_a, set_j, set_s, set_r, verdict, good_sets, sets_within, returns}
use Rattle.rules.specs.Laws.Tested.{seated, formed, bad_owner, arrives, target, store_verdict, load_verdict, instruction_verdict, word_verdict, isolate_verdict, add_verdict, service_verdict, tested}
use Rattle.rules.proofs.Laws.FormLaws.{is_formed, numbers_good, at_service}
use Rattle.rules.proofs.Laws.TestedRows.{verdict_tested}

-- a step that runs passed 14, 2, 15 and 4, and then its word's or its service's own checks
pub record Passes (s : State) : Type 0 where
  pub formed : formed s ≡ true
  pub place : has_owner s s.cpu.pc ≡ true
  pub owner : bad_owner s ≡ false
  pub arrives : arrives s ≡ true
  pub rest : cond (in_memory s s.cpu.pc) (word_verdict s (owner_at s s.cpu.pc) (instruction_at s)) (service_verdict s s.cpu.prev) ≡ answer.done

pub passes : (s : State) → verdict s ≡ answer.done → Passes s
unfolding tested
passes s h =
    let a = took (formed s) _ 13 (sym (verdict_tested s) ∙ h) in
    let b = took (has_owner s s.cpu.pc) _ 1 a.1 in
    let c = passed (bad_owner s) _ 14 b.1 in
    let d = took (arrives s) _ 3 c.1 in
    record { formed = a.0; place = b.0; owner = c.0; arrives = d.0; rest = d.1 }

-- ---- an instruction of compartment c

module _ (s : State) (c : ℕ) (i : Decoded) where
  pub record Loads : Type 0 where
    pub decodes : i.answer ≡ answer.done
    pub inside : in_memory s (target s i) ≡ true
    pub may : reads s c (target s i) ≡ true

  pub load_passed : word_verdict s c i ≡ answer.done → eqb i.op is.load ≡ true → Loads
  unfolding word_verdict instruction_verdict load_verdict
  load_passed h e =
      let t = took_zero i.answer _ h in
      let v : instruction_verdict s c i ≡ 0 = t.1 in
      let u = took (in_memory s (target s i)) _ 4 (simp e at v) in
      let w = took (reads s c (target s i)) 0 16 u.1 in
      record { decodes = t.0; inside = u.0; may = w.0 }

  pub load_inside : word_verdict s c i ≡ answer.done → eqb i.op is.load ≡ true → in_memory s (target s i) ≡ true
  load_inside h e = (load_passed h e).inside

  pub record Stores : Type 0 where
    pub decodes : i.answer ≡ answer.done
    pub inside : in_memory s (target s i) ≡ true
    pub may : (owns s c (target s i) || may_store s c (target s i)) ≡ true

  pub store_passed : word_verdict s c i ≡ answer.done → eqb i.op is.store ≡ true → Stores
  unfolding word_verdict instruction_verdict store_verdict
  store_passed h e =
      let t = took_zero i.answer _ h in
      let v : instruction_verdict s c i ≡ 0 = t.1 in
      let o : i.op ≡ is.store = eqb-true _ _ e in
      let u = took (in_memory s (target s i)) _ 5 (simp o at v) in
      let w = took (owns s c (target s i) || may_store s c (target s i)) 0 6 u.1 in
      record { decodes = t.0; inside = u.0; may = w.0 }

-- ---- a service

-- the registers that the checks of an add ask about name memory words, the first the caller's
pub record Adds (s : State) : Type 0 where
  pub mine : owns s s.cpu.prev (reg s.cpu.regs 1) ≡ true
  pub named : in_memory s (reg s.cpu.regs 1) ≡ true
  pub back : in_memory s (reg s.cpu.regs 15) ≡ true

module _ (s : State) (p : Passes s) (out : in_memory s s.cpu.pc ≡ false) where
  -- the caller is no service (14), so what it owns is in memory
  caller_plain : is_service_number s.cpu.strict s.cpu.prev ≡ false
  unfolding seated
  caller_plain =
      let h : (is_service_number s.cpu.strict s.cpu.prev && is_service s.cpu.strict s.cpu.pc) ≡ false = not-true _ (is_formed s p.formed).seated in
      simp (at_service s s.cpu.pc p.place out, and-true) at h

  pub owned_inside : (x : ℕ) → owns s s.cpu.prev x ≡ true → in_memory s x ≡ true
  unfolding owns owner_at
  owned_inside x h = go (in_memory s x) refl
    where
      go : (b : Bool) → in_memory s x ≡ b → in_memory s x ≡ true
      go true e = e
      go false e =
          let t = both (has_owner s x) (eqb (owner_at s x) s.cpu.prev) h in
          let q : owner_at s x ≡ s.cpu.prev = eqb-true _ _ t.1 in
          let o : service_at x ≡ s.cpu.prev = simp e at q in
          clash (service_number s.cpu.strict x (at_service s x t.0 e)) (ap (is_service_number s.cpu.strict) o ∙ caller_plain)

  pub add_inside : add_verdict s s.cpu.prev ≡ answer.done → Adds s
  unfolding add_verdict
  add_inside v =
      let a = took (owns s s.cpu.prev (reg s.cpu.regs 1)) _ 10 v in
      let b = took (owns s s.cpu.prev (reg s.cpu.regs 15)) 0 11 a.1 in
      record { mine = a.0; named = owned_inside (reg s.cpu.regs 1) a.0; back = owned_inside (reg s.cpu.regs 15) b.0 }

-- of an isolate, whatever the order of its checks
module _ (s : State) (c : ℕ) where
  pub record Isolates : Type 0 where
    pub good : good_sets s c ≡ true
    pub A : within (set_a s) (owns s c) ≡ true
    pub J : within (set_j s) (λ x. owns s c x || may_jump s c x) ≡ true
    pub S : within (set_s s) (λ x. owns s c x || may_store s c x) ≡ true
    pub R : within (set_r s) (λ x. owns s c x || may_read s c x) ≡ true
    pub back : in_memory s (reg s.cpu.regs 15) ≡ true
    pub free : s.cpu.next ≡ numbers → ⊥

  module _ (h : isolate_verdict s c ≡ answer.done) where
    good_there : good_sets s c ≡ true
    unfolding isolate_verdict
    good_there = needs (good_sets s c) (isolate_verdict s c) (λ e. simp e) h

    within_there : sets_within s c ≡ true
    unfolding isolate_verdict
    within_there = needs (sets_within s c) (isolate_verdict s c) (λ e. simp (e, eqb_cond, cond_same)) h

    back_there : in_memory s (reg s.cpu.regs 15) ≡ true
    unfolding isolate_verdict returns
    back_there = needs (in_memory s (reg s.cpu.regs 15)) (isolate_verdict s c) (λ e. simp (e, eqb_cond, cond_same)) h

    number_there : s.cpu.next ≡ numbers → ⊥
    unfolding isolate_verdict
    number_there e = let z : eqb (isolate_verdict s c) 0 ≡ false = simp (e, eqb_cond, cond_same) in clash (eq-eqb _ _ h) z

    pub isolate_passed : Isolates
    unfolding sets_within
    isolate_passed =
        let r = both _ _ within_there in
        let w = both _ _ r.0 in
        let a = both _ _ w.0 in
        record { good = good_there; A = a.0; J = a.1; S = w.1; R = r.1; back = back_there; free = number_there }

  -- 13 was passed, so one number more is still at most 64
  pub number_left : formed s ≡ true → Isolates → s.cpu.next < numbers
  number_left f is =
      let n : s.cpu.next ≤ 64 = (numbers_good s f).high in
      let e : s.cpu.next ≡ 64 → ⊥ = is.free in
      omega arith
