-- A step at a service is what `serving` says: 2, or arrival at a service and then its call.
use Rattle.std.specs.Prelude.{◌≡◌, ℕ, suc, ◌-◌, ◌≤◌, Bool, true, false, cond, not, ◌&&◌, ◌≢◌, List, [], get_or, ◌==◌, nat_eq, slice_index_or}
use Rattle.std.proofs.Math.Path.{refl, sym, ap}
use Rattle.std.proofs.Common.{◌∙◌, subst}
use native.Mathlib.Omega.{arith}
use borrow.Author.Tests.{le-ltb, eq-eqb, ne_eqb, eqb-true, eqb-false}
use Rattle.common.specs.Answers as answer
use Rattle.common.specs.Instructions.{reg, plus}
use Rattle.common.specs.Services.{isolate, add_jump_target, add_store_target, add_read_target, service_count, is_service, service_at, is_service_number}
use Rattle.common.proofs.Laws.ServiceLaws.{service_number, is_service_lem, other_place}
use Rattle.common.proofs.Laws.Tests.{both, clash}
use Rattle.rules.specs.Compartments.{member, empty}
use Rattle.rules.specs.State.{Processor, State, in_memory, has_owner, owner_at, jumpers_at, writers_at, readers_at, owns, may_jump, may_store, may_read, reads}
use Rattle.rules.specs.Checks.{set_a, set_j, set_s, set_r, verdict, good_sets, sets_within, returns}
use Rattle.rules.specs.Laws.Tested.{seated, formed, bad_owner, arrives, isolate_verdict, add_verdict, service_verdict, tested}
use Rattle.rules.proofs.Laws.TestedRows.{verdict_tested}
use Rattle.rules.specs.Step.{Stepped, owned, joined, joined_services, join_at, isolated, jump_added, store_added, read_added, ran_service, commit, step}
use Rattle.rules.proofs.Laws.FormLaws.{is_formed, is_numbered}
use Rattle.monitor.specs.Outcomes.{called, isolating, Adding, adding}
use Rattle.service.specs.Served.{isolated_by, added_by, grown, Serving, call_of, add_of, isolates, adds_jump, adds_store, adds_read, serving}

-- whether a call arrives: the flag is set, and the caller is in the service's set
abbrev pub arrives_by : Processor → ℕ → Bool
arrives_by p gate = p.jumped && member gate p.prev

module _ (s : State) (f : formed s ≡ true) (h : s.cpu.n ≤ s.cpu.pc) where
  pub not_inside : in_memory s s.cpu.pc ≡ false
  unfolding in_memory
  not_inside = le-ltb s.cpu.pc s.cpu.n h

  -- 2
  no_place : is_service s.cpu.strict s.cpu.pc ≡ false → record { answer = answer.no_place; state = s } ≡ step s
  unfolding step tested has_owner
  no_place k = let v : verdict s ≡ answer.no_place = verdict_tested s ∙ simp (f, not_inside, k) in simp v

  -- at the service whose set is `gate`
  module _ (k : is_service s.cpu.strict s.cpu.pc ≡ true) (gate : ℕ) (g : gate ≡ slice_index_or s.cpu.services (s.cpu.pc - isolate) empty) where
    -- no service calls, so its own number does not let it arrive
    not_own : nat_eq (service_at s.cpu.pc) s.cpu.prev ≡ false
    unfolding seated
    not_own = go (service_at s.cpu.pc == s.cpu.prev) refl
      where
        seat : not (is_service_number s.cpu.strict s.cpu.prev && is_service s.cpu.strict s.cpu.pc) ≡ true
        seat = (is_formed s f).seated

        go : (t : Bool) → (service_at s.cpu.pc == s.cpu.prev) ≡ t → (service_at s.cpu.pc == s.cpu.prev) ≡ false
        go false e = e
        go true e =
            let p : is_service_number s.cpu.strict s.cpu.prev ≡ true = ap (is_service_number s.cpu.strict) (sym (eqb-true _ _ e)) ∙ service_number s.cpu.strict s.cpu.pc k in
            let z : false ≡ true = simp (p, k) at seat in
            clash z refl

    pub arrives_is : arrives s ≡ arrives_by s.cpu gate
    unfolding arrives owner_at may_jump jumpers_at
    arrives_is = simp (not_inside, k, not_own, g)

    -- 4
    no_arrival_lem : arrives_by s.cpu gate ≡ false → record { answer = answer.no_arrival; state = s } ≡ step s
    unfolding step tested has_owner bad_owner
    no_arrival_lem e = let v : verdict s ≡ answer.no_arrival = verdict_tested s ∙ simp (f, not_inside, k, arrives_is ∙ e) in simp v

    module _ (e : arrives_by s.cpu gate ≡ true) where
      verdict_is : verdict s ≡ service_verdict s s.cpu.prev
      unfolding tested has_owner bad_owner
      verdict_is = verdict_tested s ∙ simp (f, not_inside, k, arrives_is ∙ e)

      -- the service refuses
      refuses : (a : ℕ) → a ≡ service_verdict s s.cpu.prev → a ≢ answer.done → record { answer = a; state = s } ≡ step s
      unfolding step
      refuses a v n = let w : verdict s ≡ a = verdict_is ∙ sym v in simp (w, ne_eqb a answer.done n)

      -- the service runs
      serves : service_verdict s s.cpu.prev ≡ answer.done → record { answer = answer.done; state = ran_service s } ≡ step s
      unfolding step commit
      serves v = let w : verdict s ≡ answer.done = verdict_is ∙ v in simp (w, not_inside)

-- ---- what each service leaves, and that it is the step

-- back at r15 with the service's number
abbrev pub back_with : Processor → ℕ → ℕ → List ℕ → Processor
back_with p number next services =
    record { n = p.n; regs = p.regs; pc = reg p.regs 15; prev = number; jumped = true; next = next; services = services; strict = p.strict }

-- the record and the memories as a service leaves them; a stop leaves the record as it was
abbrev pub leaves : State → Serving → Stepped
leaves s o =
    record {
      answer = o.answer;
      state =
          record {
            cpu = cond (o.answer == answer.done) (back_with s.cpu o.number o.next o.services) s.cpu;
            words = s.words;
            owners = o.owners;
            jumpers = o.jumpers;
            writers = o.writers;
            readers = o.readers;
          };
    }

-- isolate reads neither the flag nor pc
pub same_isolate : (s : State) → isolate_verdict (call_of s) s.cpu.prev ≡ isolate_verdict s s.cpu.prev
unfolding isolate_verdict good_sets sets_within returns owns has_owner owner_at in_memory may_jump jumpers_at may_store writers_at may_read readers_at reads
same_isolate s = refl

ran_isolate : (s : State) → s.cpu.pc ≡ isolate → ran_service s ≡ record {
  cpu = back_with s.cpu 1 (suc s.cpu.next) (joined_services (set_j s) s.cpu.next s.cpu.services);
  words = s.words;
  owners = owned s.cpu.n (set_a s) s.cpu.next s.owners;
  jumpers = joined s.cpu.n (set_j s) s.cpu.next s.jumpers;
  writers = joined s.cpu.n (set_s s) s.cpu.next s.writers;
  readers = cond s.cpu.strict (joined s.cpu.n (set_r s) s.cpu.next s.readers) s.readers;
}
unfolding ran_service isolated service_at
ran_isolate s at = simp at

pub same_add : (s : State) → add_verdict (called s.cpu.strict s.cpu.regs s.cpu.n s.cpu.prev 0 [] [] s.owners [] [] []) s.cpu.prev ≡ add_verdict s s.cpu.prev
unfolding add_verdict owns has_owner owner_at in_memory
same_add s = refl

ran_jump_added : (s : State) → s.cpu.pc ≡ add_jump_target → ran_service s ≡ record {
  cpu = back_with s.cpu 2 s.cpu.next s.cpu.services;
  words = s.words;
  owners = s.owners;
  jumpers = join_at s.jumpers (reg s.cpu.regs 1) s.cpu.prev;
  writers = s.writers;
  readers = s.readers;
}
unfolding ran_service jump_added service_at
ran_jump_added s at = simp at

ran_store_added : (s : State) → s.cpu.pc ≡ add_store_target → ran_service s ≡ record {
  cpu = back_with s.cpu 3 s.cpu.next s.cpu.services;
  words = s.words;
  owners = s.owners;
  jumpers = s.jumpers;
  writers = join_at s.writers (reg s.cpu.regs 1) s.cpu.prev;
  readers = s.readers;
}
unfolding ran_service store_added service_at
ran_store_added s at = simp at

ran_read_added : (s : State) → s.cpu.pc ≡ add_read_target → ran_service s ≡ record {
  cpu = back_with s.cpu 4 s.cpu.next s.cpu.services;
  words = s.words;
  owners = s.owners;
  jumpers = s.jumpers;
  writers = s.writers;
  readers = join_at s.readers (reg s.cpu.regs 1) s.cpu.prev;
}
unfolding ran_service read_added service_at
ran_read_added s at = simp at

module _ (s : State) (f : formed s ≡ true) (h : s.cpu.n ≤ s.cpu.pc) where
  next_grows : plus s.cpu.next 1 ≡ suc s.cpu.next
  next_grows = let l = (is_numbered s (is_formed s f).numbered).high in omega arith

  -- one of the first three services
  first_three : {x : ℕ} → s.cpu.pc ≡ x → (isolate ≤ x) × (x ≤ add_store_target) → is_service s.cpu.strict s.cpu.pc ≡ true
  first_three at l = is_service_lem s.cpu.strict s.cpu.pc (omega (arith, l.0)) (omega (arith, l.1))

  isolate_steps : s.cpu.pc ≡ isolate → leaves s (isolates s (isolated_by s.cpu.jumped (call_of s))) ≡ step s
  unfolding isolated_by isolating grown service_verdict
  isolate_steps at = go (arrives_by s.cpu gate) (isolate_verdict s s.cpu.prev == answer.done) refl refl
    where
      here : is_service s.cpu.strict s.cpu.pc ≡ true
      here = first_three at (omega arith, omega arith)

      gate : ℕ
      gate = slice_index_or s.cpu.services 0 empty

      go : (t b : Bool) → arrives_by s.cpu gate ≡ t → (isolate_verdict s s.cpu.prev == answer.done) ≡ b
          → leaves s (isolates s (isolated_by s.cpu.jumped (call_of s))) ≡ step s
      go false b e c = simp e (no_arrival_lem s f h here gate (simp at) e)
      go true false e c =
          simp (e, same_isolate s, c) (refuses s f h here gate (simp at) e (isolate_verdict s s.cpu.prev) (simp at) (λ q. eqb-false _ _ c q))
      go true true e c =
          simp (e, same_isolate s, c, next_grows) (ap (λ (x : State). record { answer = answer.done; state = x }) (sym (ran_isolate s at)) ∙ serves s f h here gate (simp at) e (simp at (eqb-true _ _ c)))

  -- an add, where `put` puts the record and the memory of sets in their places
  module _ (k : is_service s.cpu.strict s.cpu.pc ≡ true) (i number : ℕ) (g : s.cpu.pc - isolate ≡ i) (sets : List ℕ) (put : Processor → List ℕ → State) (was : put s.cpu sets ≡ s) (v : service_verdict s s.cpu.prev ≡ add_verdict s s.cpu.prev) (r : ran_service s ≡ put (back_with s.cpu number s.cpu.next s.cpu.services) (join_at sets (reg s.cpu.regs 1) s.cpu.prev)) where
    abbrev o : Adding
    o = add_of s i sets

    abbrev back : Processor
    back = cond (o.answer == answer.done) (back_with s.cpu number s.cpu.next s.cpu.services) s.cpu

    add_steps : record { answer = o.answer; state = put back o.sets } ≡ step s
    unfolding added_by adding
    add_steps = go (arrives_by s.cpu gate) (add_verdict s s.cpu.prev == answer.done) refl refl
      where
        gate : ℕ
        gate = slice_index_or s.cpu.services i empty

        gate_is : gate ≡ slice_index_or s.cpu.services (s.cpu.pc - isolate) empty
        gate_is = ap (λ (j : ℕ). get_or s.cpu.services j empty) (sym g)

        go : (t b : Bool) → arrives_by s.cpu gate ≡ t → (add_verdict s s.cpu.prev == answer.done) ≡ b → record { answer = o.answer; state = put back o.sets } ≡ step s
        go false b e c = simp (e, was) (no_arrival_lem s f h k gate gate_is e)
        go true false e c = simp (e, same_add s, c, was) (refuses s f h k gate gate_is e (add_verdict s s.cpu.prev) (sym v) (λ q. eqb-false _ _ c q))
        go true true e c = simp (e, same_add s, c) (ap (λ (x : State). record { answer = answer.done; state = x }) (sym r) ∙ serves s f h k gate gate_is e (v ∙ eqb-true _ _ c))

  jump_steps : s.cpu.pc ≡ add_jump_target → leaves s (adds_jump s (add_of s 1 s.jumpers)) ≡ step s
  unfolding service_verdict
  jump_steps at =
      add_steps (first_three at (omega arith, omega arith)) 1 2 (simp at) s.jumpers
      (λ p l. record { cpu = p; words = s.words; owners = s.owners; jumpers = l; writers = s.writers; readers = s.readers }) refl (simp at) (ran_jump_added s at)

  store_steps : s.cpu.pc ≡ add_store_target → leaves s (adds_store s (add_of s 2 s.writers)) ≡ step s
  unfolding service_verdict
  store_steps at =
      add_steps (first_three at (omega arith, omega arith)) 2 3 (simp at) s.writers
      (λ p l. record { cpu = p; words = s.words; owners = s.owners; jumpers = s.jumpers; writers = l; readers = s.readers }) refl (simp at) (ran_store_added s at)

  read_steps : s.cpu.pc ≡ add_read_target → s.cpu.strict ≡ true → leaves s (adds_read s (add_of s 3 s.readers)) ≡ step s
  unfolding service_verdict is_service service_count
  read_steps at m =
      add_steps (simp (at, m)) 3 4 (simp at) s.readers
      (λ p l. record { cpu = p; words = s.words; owners = s.owners; jumpers = s.jumpers; writers = s.writers; readers = l }) refl (simp at) (ran_read_added s at)

  -- the whole of it
  pub serving_steps : (o : Serving) → o ≡ serving s → leaves s o ≡ step s
  unfolding serving
  serving_steps o e =
      ap (leaves s) e
      ∙ go (s.cpu.pc == isolate) (s.cpu.pc == add_jump_target) (s.cpu.pc == add_store_target) (s.cpu.pc == add_read_target && s.cpu.strict) refl refl refl refl
    where
      go : (a b c d : Bool) → (s.cpu.pc == isolate) ≡ a → (s.cpu.pc == add_jump_target) ≡ b → (s.cpu.pc == add_store_target) ≡ c
          → (s.cpu.pc == add_read_target && s.cpu.strict) ≡ d → leaves s (serving s) ≡ step s
      go true b c d x y z w = simp x (isolate_steps (eqb-true _ _ x))
      go false true c d x y z w = simp (x, y) (jump_steps (eqb-true _ _ y))
      go false false true d x y z w = simp (x, y, z) (store_steps (eqb-true _ _ z))
      go false false false true x y z w =
          let t = both (s.cpu.pc == add_read_target) s.cpu.strict w in
          simp (x, y, z, w) (read_steps (eqb-true _ _ t.0) t.1)
      go false false false false x y z w =
          simp (x, y, z, w)
          (no_place s f h (other_place s.cpu.strict s.cpu.pc (eqb-false _ _ x) (eqb-false _ _ y) (eqb-false _ _ z)
          (λ q. ap (λ (t : Bool). t && s.cpu.strict) (sym (eq-eqb _ _ q)) ∙ w)))

  -- as the code comes to it
  module _ (o : Serving) (e : o ≡ serving s) where
    pub serving_stops : o.answer ≢ answer.done → record { answer = o.answer; state = record { cpu = s.cpu; words = s.words; owners = o.owners; jumpers = o.jumpers; writers = o.writers; readers = o.readers } } ≡ step s
    serving_stops n = subst (λ (t : Bool). record { answer = o.answer; state = record { cpu = cond t (back_with s.cpu o.number o.next o.services) s.cpu; words = s.words; owners = o.owners; jumpers = o.jumpers; writers = o.writers; readers = o.readers } } ≡ step s) (ne_eqb o.answer answer.done n) (serving_steps o e)

    pub serving_runs : o.answer ≡ answer.done → record { answer = o.answer; state = record { cpu = back_with s.cpu o.number o.next o.services; words = s.words; owners = o.owners; jumpers = o.jumpers; writers = o.writers; readers = o.readers } } ≡ step s
    serving_runs n = subst (λ (t : Bool). record { answer = o.answer; state = record { cpu = cond t (back_with s.cpu o.number o.next o.services) s.cpu; words = s.words; owners = o.owners; jumpers = o.jumpers; writers = o.writers; readers = o.readers } } ≡ step s) (eq-eqb o.answer answer.done n) (serving_steps o e)
