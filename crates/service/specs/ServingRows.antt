-- What a step at a service tells of gains moves the rows as the counts of the tags move.
use Rattle.std.specs.Prelude.{◌≡◌, ℕ, ◌+◌, ◌≤◌, Bool, true, false, ◌&&◌, ◌≢◌, List, ◌==◌, slice_index_or}
use Rattle.std.proofs.Math.Path.{refl}
use Rattle.std.proofs.Common.{sym, ap, ◌∙◌, subst, arith}
use borrow.Author.Tests.{eqb-true, eqb-false, eq-eqb, ne_eqb}
use Rattle.common.specs.Answers as answer
use Rattle.common.specs.Instructions.{reg, plus}
use Rattle.common.specs.Services.{isolate, add_jump_target, add_store_target, add_read_target, service_count}
use Rattle.common.proofs.Laws.ServiceLaws.{service_count_lem}
use Rattle.common.proofs.Laws.Tests.{both}
use Rattle.rules.specs.Compartments.{empty}
use Rattle.rules.specs.State.{State, in_memory}
use Rattle.rules.specs.Checks.{verdict}
use Rattle.rules.specs.Laws.Tested.{formed, isolate_verdict, add_verdict, service_verdict}
use Rattle.rules.proofs.Laws.FormLaws.{n_most}
use Rattle.rules.proofs.Laws.Passed.{Passes, passes, Adds, add_inside, Isolates, isolate_passed}
use Rattle.rules.specs.Laws.CountLaws.{differing, differing_most}
use Rattle.rules.specs.Laws.RowLaws.{settled, lost_none, gained_none}
use Rattle.rules.proofs.Laws.ServiceRows.{isolate_rows, jump_rows, store_rows, read_rows}
use Rattle.rules.specs.Rows.{Row, moved}
use Rattle.rules.specs.Step.{Stepped, isolated, jump_added, store_added, read_added, ran_service, commit, step}
use Rattle.rules.proofs.Theorems.Formed.{step_formed}
use Rattle.monitor.specs.Outcomes.{adding, isolating, joins_at}
use Rattle.service.specs.Served.{isolated_by, added_by, Serving, call_of, add_of, isolates, adds_jump, adds_store, adds_read, serving}
use Rattle.service.specs.ServiceLaws.{arrives_by, not_inside, same_isolate, same_add, serving_steps}

-- what compartments gain who came to an answer
abbrev Moves : State → Serving → State → Type 0
Moves s o t = (rows : List Row) → settled s.cpu.prev o.to o.owned o.jump o.store rows ≡ moved s t rows

module _ (s : State) (f : formed s ≡ true) (h : s.cpu.n ≤ s.cpu.pc) (v : verdict s ≡ answer.done) where
  p : Passes s
  p = passes s v

  out : in_memory s s.cpu.pc ≡ false
  out = not_inside s f h

  ran : (t : State) → ran_service s ≡ t → (step s).state ≡ t
  unfolding step commit
  ran t e = simp (v, out) e

  still_formed : (t : State) → ran_service s ≡ t → formed t ≡ true
  still_formed t e = subst (λ (u : State). formed u ≡ true) (ran t e) (step_formed s f)

  small : (a b : ℕ) → a ≤ s.cpu.n → b ≤ service_count s.cpu.strict → plus a b ≡ a + b
  small a b k l = let n = n_most s f in let m = service_count_lem s.cpu.strict in omega (arith, n, m.1)

  -- isolate
  module _ (at : s.cpu.pc ≡ isolate) where
    ran_isolated : ran_service s ≡ isolated s
    unfolding ran_service
    ran_isolated = simp at

    passes_isolate : Isolates s s.cpu.prev
    unfolding service_verdict
    passes_isolate = isolate_passed s s.cpu.prev (simp (out, eq-eqb s.cpu.pc isolate at) at p.rest)

    abbrev o : Serving
    o = isolates s (isolated_by s.cpu.jumped (call_of s))

    isolate_moves : o.answer ≡ answer.done → Moves s o (step s).state
    unfolding isolated_by isolating isolated
    isolate_moves d rows = go (arrives_by s.cpu (slice_index_or s.cpu.services 0 empty)) (isolate_verdict s s.cpu.prev == answer.done) refl refl
      where
        go : (t b : Bool) → arrives_by s.cpu (slice_index_or s.cpu.services 0 empty) ≡ t → (isolate_verdict s s.cpu.prev == answer.done) ≡ b → settled s.cpu.prev o.to o.owned o.jump o.store rows ≡ moved s (step s).state rows
        go false b e c = let z : ◌≡◌ {A = ℕ} 4 0 = simp e at d in absurd (omega arith)
        go true false e c = let z : isolate_verdict s s.cpu.prev ≡ answer.done = simp (e, same_isolate s, c) at d in absurd (eqb-false _ _ c z)
        go true true e c =
            simp (e, same_isolate s, c, ran (isolated s) ran_isolated, small (differing s.cpu.n s.jumpers (isolated s).jumpers) (differing (service_count s.cpu.strict) s.cpu.services (isolated s).cpu.services) (differing_most s.cpu.n s.jumpers (isolated s).jumpers) (differing_most (service_count s.cpu.strict) s.cpu.services (isolated s).cpu.services))
            (isolate_rows s p out passes_isolate (still_formed (isolated s) ran_isolated) rows)

  -- an add
  module _ (no : s.cpu.pc ≢ isolate) where
    passes_add : Adds s
    unfolding service_verdict
    passes_add = add_inside s p out (simp (out, ne_eqb s.cpu.pc isolate no) at p.rest)

    -- the caller joined, or the call stopped
    joins : (i : ℕ) (sets : List ℕ) → (add_of s i sets).answer ≡ answer.done → (add_of s i sets).joined ≡ joins_at sets (reg s.cpu.regs 1) s.cpu.prev
    unfolding added_by adding
    joins i sets d = go (arrives_by s.cpu (slice_index_or s.cpu.services i empty)) (add_verdict s s.cpu.prev == answer.done) refl refl
      where
        go : (t b : Bool) → arrives_by s.cpu (slice_index_or s.cpu.services i empty) ≡ t → (add_verdict s s.cpu.prev == answer.done) ≡ b → (add_of s i sets).joined ≡ joins_at sets (reg s.cpu.regs 1) s.cpu.prev
        go false b e c = let z : ◌≡◌ {A = ℕ} 4 0 = simp e at d in absurd (omega arith)
        go true false e c = let z : add_verdict s s.cpu.prev ≡ answer.done = simp (e, same_add s, c) at d in absurd (eqb-false _ _ c z)
        go true true e c = simp (e, same_add s, c)

    jump_moves : s.cpu.pc ≡ add_jump_target → (adds_jump s (add_of s 1 s.jumpers)).answer ≡ answer.done → Moves s (adds_jump s (add_of s 1 s.jumpers)) (step s).state
    unfolding ran_service
    jump_moves at d rows =
        let r : ran_service s ≡ jump_added s = simp at in
        simp (lost_none, joins 1 s.jumpers d, ran (jump_added s) r) (jump_rows s p out passes_add (still_formed (jump_added s) r) rows)

    store_moves : s.cpu.pc ≡ add_store_target → (adds_store s (add_of s 2 s.writers)).answer ≡ answer.done → Moves s (adds_store s (add_of s 2 s.writers)) (step s).state
    unfolding ran_service
    store_moves at d rows =
        let r : ran_service s ≡ store_added s = simp at in
        simp (lost_none, joins 2 s.writers d, ran (store_added s) r) (store_rows s p out passes_add (still_formed (store_added s) r) rows)

    read_moves : s.cpu.pc ≡ add_read_target → Moves s (adds_read s (add_of s 3 s.readers)) (step s).state
    unfolding ran_service
    read_moves at rows =
        let r : ran_service s ≡ read_added s = simp at in
        simp (lost_none, gained_none, ran (read_added s) r) (sym (read_rows s rows))

-- the whole of it
pub serving_rows : (s : State) (f : formed s ≡ true) (h : s.cpu.n ≤ s.cpu.pc) (o : Serving) → o ≡ serving s → o.answer ≡ answer.done → Moves s o (step s).state
unfolding serving step
serving_rows s f h o e d = subst (λ (x : Serving). Moves s x (step s).state) (sym e) (go (s.cpu.pc == isolate) (s.cpu.pc == add_jump_target) (s.cpu.pc == add_store_target) (s.cpu.pc == add_read_target && s.cpu.strict) refl refl refl refl)
  where
    d' : (serving s).answer ≡ answer.done
    d' = ap (λ (x : Serving). x.answer) (sym e) ∙ d

    v : verdict s ≡ answer.done
    v = ap (λ (x : Stepped). x.answer) (sym (serving_steps s f h o e)) ∙ d

    go : (a b c g : Bool) → (s.cpu.pc == isolate) ≡ a → (s.cpu.pc == add_jump_target) ≡ b → (s.cpu.pc == add_store_target) ≡ c
        → (s.cpu.pc == add_read_target && s.cpu.strict) ≡ g → Moves s (serving s) (step s).state
    go true b c g x y z w = simp x (isolate_moves s f h v (eqb-true _ _ x) (simp x at d'))
    go false true c g x y z w = simp (x, y) (jump_moves s f h v (eqb-false _ _ x) (eqb-true _ _ y) (simp (x, y) at d'))
    go false false true g x y z w = simp (x, y, z) (store_moves s f h v (eqb-false _ _ x) (eqb-true _ _ z) (simp (x, y, z) at d'))
    go false false false true x y z w = simp (x, y, z, w) (read_moves s f h v (eqb-false _ _ x) (eqb-true _ _ (both (s.cpu.pc == add_read_target) s.cpu.strict w).0))
    go false false false false x y z w = let q : ◌≡◌ {A = ℕ} 2 0 = simp (x, y, z, w) at d' in absurd (omega arith)
