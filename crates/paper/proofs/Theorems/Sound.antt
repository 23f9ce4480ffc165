-- The abstract machine's invariant: each address lies in exactly one compartment, after any number of steps.
use Rattle.std.specs.Prelude.{◌≡◌, Bool, cond, ◌&&◌, ◌||◌, List, ◌≢◌, eqb, set}
use Rattle.std.proofs.Math.Path.{refl, ap}
use Rattle.std.proofs.Common.{sym, ◌∙◌, subst, ltb-true, eqb-true, le-leb, lt-ltb, le-ltb, eq-eqb, ne_eqb}
use Rattle.std.proofs.Math.Bool.{true, false, or-true}
use Prim.Native.Nat.{ℕ, zero, suc, ◌+◌, ◌-◌, ◌≤◌, ◌<◌}
use native.Mathlib.Omega.{arith}
use Rattle.std.proofs.Math.Dec.{ltb}
use Rattle.std.proofs.Math.ListN.{length, length-set}
use Rattle.common.specs.Answers as answer
use Rattle.common.specs.Words.{Decoded}
use Rattle.common.specs.Instructions.{reg, words_after}
use Rattle.common.proofs.Laws.InstructionLaws.{words_length}
use Rattle.common.specs.Services.{isolate, add_jump_target, add_store_target, service_count, is_service}
use Rattle.common.proofs.Laws.ServiceLaws.{service_range}
use Rattle.common.specs.AddressSets.{is_empty, within}
use Rattle.common.proofs.Laws.AddressSetLaws.{within_at}
use Rattle.common.proofs.Laws.CheckLaws.{took, passed}
use Rattle.common.proofs.Laws.Tests.{both, clash, bool_ext}
use Rattle.paper.specs.Abstract.{Comp, State, comp, A-of, in_memory, initial_comps, initial, current, arrives, instruction_at, ran_instruction, set_a, good_sets, sets_within, returns, returned, more_j, more_s, more_r, split, described, isolated, jump_added, store_added, read_added, ran_service, verdict, commit, step, run}
use Rattle.paper.proofs.Laws.Tested.{word_verdict, isolate_verdict, add_verdict, service_verdict, tested, verdict_tested}
use Rattle.paper.proofs.Laws.CompLaws.{comp_none, holder_holds, changed_kept, split_length, split_gone, split_stays, service_comps_lem, at_service}
use Rattle.paper.proofs.Laws.RunLaws.{run_keeps}

-- a memory word or a service
abbrev pub defined : State → ℕ → Bool
defined a x = in_memory a x || is_service a.fenced x

-- x lies in one compartment, and in no other
abbrev pub InOne : List Comp → ℕ → Type 0
InOne C x = (c : ℕ) × (c < length C) × ((d : ℕ) → (comp C d).A x ≡ eqb c d)

-- what every step keeps
pub record Sound (a : State) : Type 0 where
  pub prev : a.prev < length a.comps
  pub one : (x : ℕ) → defined a x ≡ true → InOne a.comps x
  pub none : (x : ℕ) → defined a x ≡ false → (d : ℕ) → A-of a d x ≡ false
  -- no compartment has both a memory word and a service
  pub apart : (d x y : ℕ) → in_memory a x ≡ true → is_service a.fenced y ≡ true → A-of a d x ≡ true → A-of a d y ≡ false
  -- where pc is at a service, the previous compartment has none
  pub caller : in_memory a a.pc ≡ false → (y : ℕ) → is_service a.fenced y ≡ true → A-of a a.prev y ≡ false

-- ---- what an answer of 0 says

pub record Runs (a : State) : Type 0 where
  pub there : current a < length a.comps
  pub service : in_memory a a.pc ≡ false → is_service a.fenced a.pc ≡ true
  pub rest : cond (in_memory a a.pc) (word_verdict a (current a) (instruction_at a)) (service_verdict a a.prev) ≡ answer.done

pub runs : (a : State) → verdict a ≡ answer.done → Runs a
unfolding tested arrives
runs a h =
    let t = took (defined a a.pc) _ 1 (sym (verdict_tested a) ∙ h) in
    let u = took (arrives a) _ 3 t.1 in
    let v = both (ltb (current a) (length a.comps)) _ u.0 in
    record { there = ltb-true _ _ v.0; service = λ e. simp e at t.0; rest = u.1 }

-- the caller is left with r15, and isolate takes addresses of the caller's
isolate_passed : (a : State) (c : ℕ) → isolate_verdict a c ≡ answer.done → (within (set_a a) (A-of a c) ≡ true) × (in_memory a (reg a.regs 15) ≡ true)
unfolding isolate_verdict sets_within returns
isolate_passed a c h =
    let g = took (good_sets a c) _ 7 h in
    let k = passed (is_empty (set_a a)) _ 8 g.1 in
    let w = took (sets_within a c) _ 9 k.1 in
    let r = took (returns a c) 0 11 w.1 in
    let t = both _ _ (both _ _ w.0).0 in
    let q = both _ _ (both _ _ r.0).0 in
    ((both _ _ t.0).0, q.0)

add_passed : (a : State) (c : ℕ) → add_verdict a c ≡ answer.done → A-of a c (reg a.regs 15) ≡ true
unfolding add_verdict
add_passed a c h = (took (A-of a c (reg a.regs 15)) 0 11 (took (A-of a c (reg a.regs 1)) _ 10 h).1).0

-- ---- every step keeps it

module _ (a : State) (ok : Sound a) (r : Runs a) where
  abbrev C : List Comp
  C = a.comps

  held : A-of a (current a) a.pc ≡ true
  held = holder_holds C a.pc r.there

  instruction_sound : (i : Decoded) → in_memory a a.pc ≡ true → Sound (ran_instruction a i)
  unfolding ran_instruction in_memory
  instruction_sound i e =
      let l : length (words_after i a.regs a.words) ≡ length a.words = words_length i a.regs a.words in
      record {
        prev = r.there;
        one = λ x h. ok.one x (simp l at h);
        none = λ x h. ok.none x (simp l at h);
        apart = λ d x y h. ok.apart d x y (simp l at h);
        caller = λ z y s. ok.apart (current a) a.pc y e s held;
      }

  module _ (out : in_memory a a.pc ≡ false) where
    -- what the caller has is in memory
    mine : (x : ℕ) → A-of a a.prev x ≡ true → in_memory a x ≡ true
    mine x h = go (in_memory a x) (is_service a.fenced x) refl refl
      where
        go : (b c : Bool) → in_memory a x ≡ b → is_service a.fenced x ≡ c → in_memory a x ≡ true
        go true c e f = e
        go false true e f = clash h (ok.caller out x f)
        go false false e f = clash h (ok.none x (simp (e, f)) a.prev)

    -- the compartment of the service is not the caller's
    pub other : current a ≢ a.prev
    other e = clash (subst (λ (c : ℕ). A-of a c a.pc ≡ true) e held) (ok.caller out a.pc (r.service out))

    add_sound : (k : Comp) → k.A ≡ A-of a a.prev → A-of a a.prev (reg a.regs 15) ≡ true → Sound (returned a (set C a.prev k))
    unfolding in_memory
    add_sound k e back =
        let same : (d x : ℕ) → (comp (set C a.prev k) d).A x ≡ A-of a d x =
        λ d x. changed_kept C a.prev k ok.prev (λ (o : Comp). o.A x) (ap (λ (A : ℕ → Bool). A x) e) d in
        let l : length (set C a.prev k) ≡ length C = length-set C a.prev k in
        record {
          prev = rw l r.there;
          one = λ x h. let w = ok.one x h in (w.0, rw l w.1, λ d. same d x ∙ w.2 d);
          none = λ x h d. same d x ∙ ok.none x h d;
          apart = λ d x y h s v. same d y ∙ ok.apart d x y h s (sym (same d x) ∙ v);
          caller = λ z. clash (mine (reg a.regs 15) back) z;
        }

    isolate_sound : (child : Comp) → ((x : ℕ) → child.A x ≡ true → A-of a a.prev x ≡ true) → in_memory a (reg a.regs 15) ≡ true
        → Sound (returned a (split C a.prev child))
    unfolding in_memory
    isolate_sound child in-caller back =
        record {
          prev = omega (arith, len, r.there);
          one = λ x h. one x h (child.A x) refl;
          none = λ x h d. stays x d (not_given x (ok.none x h a.prev)) ∙ ok.none x h d;
          apart = λ d x y h s v. stays y d (not_given y (ok.caller out y s)) ∙ apart d x y h s v (child.A x) refl;
          caller = λ z. clash back z;
        }
      where
        len : length (split C a.prev child) ≡ suc (length C)
        len = split_length C a.prev child

        stays : (x d : ℕ) → child.A x ≡ false → (comp (split C a.prev child) d).A x ≡ A-of a d x
        stays x d e = split_stays C a.prev child ok.prev x e d

        not_given : (x : ℕ) → A-of a a.prev x ≡ false → child.A x ≡ false
        not_given x h = go (child.A x) refl
          where
            go : (b : Bool) → child.A x ≡ b → child.A x ≡ false
            go true e = clash (in-caller x e) h
            go false e = e

        gone : (x : ℕ) → child.A x ≡ true → (d : ℕ) → (comp (split C a.prev child) d).A x ≡ eqb (length C) d
        gone x e =
            let w = ok.one x (simp (mine x (in-caller x e))) in
            let p : w.0 ≡ a.prev = eqb-true _ _ (sym (w.2 a.prev) ∙ in-caller x e) in
            split_gone C a.prev child ok.prev x e (λ c q. w.2 c ∙ ne_eqb w.0 c (λ z. q (sym z ∙ p)))

        one : (x : ℕ) → defined a x ≡ true → (b : Bool) → child.A x ≡ b → InOne (split C a.prev child) x
        one x h true e = (length C, omega (arith, len), gone x e)
        one x h false e = let w = ok.one x h in let l : w.0 < length C = w.1 in (w.0, omega (arith, len), λ d. stays x d e ∙ w.2 d)

        apart : (d x y : ℕ) → in_memory a x ≡ true → is_service a.fenced y ≡ true → (comp (split C a.prev child) d).A x ≡ true → (b : Bool) → child.A x ≡ b → A-of a d y ≡ false
        apart d x y h s v true e =
            let q : length C ≡ d = eqb-true _ _ (sym (gone x e d) ∙ v) in
            ap (λ (k : Comp). k.A y) (comp_none C d (omega arith))
        apart d x y h s v false e = ok.apart d x y h s (sym (stays x d e) ∙ v)

    service_sound : Sound (ran_service a)
    unfolding ran_service service_verdict isolated jump_added store_added read_added
    service_sound = go (eqb a.pc isolate) (eqb a.pc add_jump_target) (eqb a.pc add_store_target) refl refl refl
      where
        v : service_verdict a a.prev ≡ answer.done
        v = simp out at r.rest

        go : (b c d : Bool) → eqb a.pc isolate ≡ b → eqb a.pc add_jump_target ≡ c → eqb a.pc add_store_target ≡ d → Sound (ran_service a)
        go true c d f g h =
            let w = isolate_passed a a.prev (simp f at v) in
            simp f
            (isolate_sound (described a)
            (λ x e. within_at (set_a a) (A-of a a.prev) x w.0 e) w.1)
        go false true d f g h = simp (f, g) (add_sound (more_j (comp C a.prev) (reg a.regs 1)) refl (add_passed a a.prev (simp f at v)))
        go false false true f g h = simp (f, g, h) (add_sound (more_s (comp C a.prev) (reg a.regs 1)) refl (add_passed a a.prev (simp f at v)))
        go false false false f g h = simp (f, g, h) (add_sound (more_r (comp C a.prev) (reg a.regs 1)) refl (add_passed a a.prev (simp f at v)))

  commit_sound : Sound (commit a)
  unfolding commit
  commit_sound = go (in_memory a a.pc) refl
    where
      go : (b : Bool) → in_memory a a.pc ≡ b → Sound (commit a)
      go true e = simp e (instruction_sound (instruction_at a) e)
      go false e = simp e (service_sound e)

step_sound : (a : State) → Sound a → Sound (step a).state
unfolding step
step_sound a ok = go (eqb (verdict a) answer.done) refl
  where
    go : (b : Bool) → eqb (verdict a) answer.done ≡ b → Sound (cond b (commit a) a)
    go true e = commit_sound a ok (runs a (eqb-true _ _ e))
    go false e = ok

-- ---- the start has it

module _ (m : Bool) (words regs : List ℕ) (entry : ℕ) (most : length words ≤ 2048) where
  abbrev n : ℕ
  n = length words

  abbrev start : List Comp
  start = initial_comps m n

  main : (x : ℕ) → (comp start 0).A x ≡ ltb x n
  unfolding initial_comps
  main x = refl

  service : (j x : ℕ) → (comp start (suc j)).A x ≡ (ltb j (service_count m) && eqb x (isolate + j))
  service j x = at_service m n j (λ k. k.A x) refl

  -- where a service compartment has an address
  service_has : (j x : ℕ) → (comp start (suc j)).A x ≡ true → (j < (service_count m)) × (x ≡ isolate + j)
  service_has j x h = let t = both (ltb j (service_count m)) (eqb x (isolate + j)) (sym (service j x) ∙ h) in (ltb-true _ _ t.0, eqb-true _ _ t.1)

  not_there : (b : Bool) → (b ≡ true → ⊥) → b ≡ false
  not_there true h = absurd (h refl)
  not_there false h = refl

  main_no_service : (y : ℕ) → is_service m y ≡ true → (comp start 0).A y ≡ false
  main_no_service y s = let r : (isolate ≤ y) × (y < isolate + (service_count m)) = service_range m y s in main y ∙ le-ltb y n (omega arith)

  in_main : (x : ℕ) → ltb x n ≡ true → (d : ℕ) → (comp start d).A x ≡ eqb 0 d
  in_main x e zero = main x ∙ e
  in_main x e (suc j) =
      let l : x < n = ltb-true _ _ e in
      not_there ((comp start (suc j)).A x) (λ h. let q : x ≡ isolate + j = (service_has j x h).1 in omega arith) ∙ sym (ne_eqb 0 (suc j) (λ z. omega arith))

  in_service : (x : ℕ) → is_service m x ≡ true → (d : ℕ) → (comp start d).A x ≡ eqb (suc (x - isolate)) d
  in_service x s zero = main_no_service x s ∙ sym (ne_eqb (suc (x - isolate)) 0 (λ z. omega arith))
  in_service x s (suc j) =
      let r : (isolate ≤ x) × (x < isolate + (service_count m)) = service_range m x s in
      bool_ext ((comp start (suc j)).A x) (eqb (suc (x - isolate)) (suc j))
      (λ h. let q : x ≡ isolate + j = (service_has j x h).1 in eq-eqb (suc (x - isolate)) (suc j) (omega arith))
      (λ h. let q : suc (x - isolate) ≡ suc j = eqb-true _ _ h in
      service j x ∙ simp (lt-ltb j (service_count m) (omega arith), eq-eqb x (isolate + j) (omega arith)))

  start_length : length start ≡ suc (service_count m)
  unfolding initial_comps
  start_length = ap suc (service_comps_lem n 0 (service_count m))

  start_sound : Sound (initial m words regs entry)
  unfolding initial in_memory is_service
  start_sound =
      let l : length start ≡ suc (service_count m) = start_length in
      record {
        prev = omega arith;
        one = λ x h. one x (ltb x n) refl h;
        none = none;
        apart = apart;
        caller = λ z y s. main_no_service y s;
      }
    where
      one : (x : ℕ) → (b : Bool) → ltb x n ≡ b → (ltb x n || is_service m x) ≡ true → InOne start x
      one x true e h = let l : length start ≡ suc (service_count m) = start_length in (0, omega arith, in_main x e)
      one x false e h =
          let s : is_service m x ≡ true = simp e at h in
          let r : (isolate ≤ x) × (x < isolate + (service_count m)) = service_range m x s in
          let l : length start ≡ suc (service_count m) = start_length in
          (suc (x - isolate), omega arith, in_service x s)

      none : (x : ℕ) → (ltb x n || is_service m x) ≡ false → (d : ℕ) → (comp start d).A x ≡ false
      none x h d = not_there ((comp start d).A x) (λ v. at d v)
        where
          at : (d : ℕ) → (comp start d).A x ≡ true → ⊥
          at zero v = let e : ltb x n ≡ true = sym (main x) ∙ v in clash (simp e) h
          at (suc j) v =
              let w = service_has j x v in
              let l : j < (service_count m) = w.0 in
              let q : x ≡ isolate + j = w.1 in
              let s : is_service m x ≡ true = simp (le-leb isolate x (omega arith), lt-ltb x (isolate + (service_count m)) (omega arith)) in
              clash (simp (s, or-true)) h

      apart : (d x y : ℕ) → ltb x n ≡ true → is_service m y ≡ true → (comp start d).A x ≡ true → (comp start d).A y ≡ false
      apart zero x y h s v = main_no_service y s
      apart (suc j) x y h s v =
          let l : x < n = ltb-true _ _ h in
          let q : x ≡ isolate + j = (service_has j x v).1 in
          absurd (omega arith)

  pub run_sound : (k : ℕ) → Sound (run k (initial m words regs entry)).state
  run_sound k = run_keeps Sound step_sound k (initial m words regs entry) start_sound
