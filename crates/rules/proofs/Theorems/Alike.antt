-- "No step reads a place from N on": states that agree below N give the same answers, and agree below N afterwards.
use Rattle.std.specs.Prelude.{◌≡◌, Bool, ◌&&◌, ◌||◌, not, ℕ, zero, suc, ◌≤◌, length, take}
use Rattle.std.proofs.Math.Path.{refl, sym, ap, fun_ext}
use Rattle.std.proofs.Common.{◌∙◌, subst, arith}
use Rattle.std.proofs.Math.Bool.{true, false, cond}
use mathlib.Core.List.{List, []}
use borrow.Author.Tests.{ltb-true, eqb-true}
use Rattle.std.proofs.Math.Dec.{ltb, eqb}
use Rattle.common.specs.Answers as answer
use Rattle.common.specs.Words.{Decoded, decode}
use Rattle.common.specs.Instructions.{reg, regs_after, words_after}
use Rattle.common.proofs.Laws.InstructionLaws.{words_take, regs_take}
use Rattle.common.specs.Services.{isolate, add_jump_target, add_store_target, is_service}
use Rattle.common.specs.AddressSets.{set_at, good_set}
use Rattle.common.proofs.Laws.AddressSetLaws.{good_take, good_set_take}
use Rattle.common.proofs.Laws.Tests.{both}
use Rattle.rules.specs.State.{Processor, State, in_memory, has_owner, owner_at, jumpers_at, writers_at, readers_at, owns, may_jump, may_store, may_read, reads}
use Rattle.rules.specs.Checks.{instruction_at, set_a, set_j, set_s, set_r, verdict, good_in, good_sets, sets_within, returns}
use Rattle.rules.specs.Laws.Tested.{numbered, seated, formed, bad_owner, arrives, store_verdict, load_verdict, instruction_verdict, word_verdict, isolate_verdict, add_verdict, service_verdict, tested}
use Rattle.rules.proofs.Laws.TestedRows.{verdict_tested}
use Rattle.rules.specs.Step.{ran_instruction, map_from, owned, joined, isolated, jump_added, store_added, read_added, ran_service, commit, step}
use Rattle.rules.specs.Run.{Ran, run}
use Rattle.rules.proofs.Laws.FormLaws.{Lent, sized_lent}
use Rattle.rules.proofs.Laws.StepLaws.{read_strict}
use Rattle.rules.proofs.Laws.Passed.{Passes, passes, load_inside, add_inside, isolate_passed}
use Rattle.rules.proofs.Laws.TagLaws.{take_map, same_at, same_joined}
use Rattle.rules.proofs.Theorems.Rest.{step_lent}

-- the same processor, and memories that agree below N; how long they are does not matter. In the sheet's mode the readers may be whatever
-- they are: they are not looked at
pub record Alike (s t : State) : Type 0 where
  pub cpu : s.cpu ≡ t.cpu
  pub words : take s.cpu.n s.words ≡ take s.cpu.n t.words
  pub owners : take s.cpu.n s.owners ≡ take s.cpu.n t.owners
  pub jumpers : take s.cpu.n s.jumpers ≡ take s.cpu.n t.jumpers
  pub writers : take s.cpu.n s.writers ≡ take s.cpu.n t.writers
  pub readers : s.cpu.strict ≡ true → take s.cpu.n s.readers ≡ take s.cpu.n t.readers

-- two states over one processor record
module _ (u : Processor) (w o j r d w' o' j' r' d' : List ℕ) where
  abbrev s : State
  s = record { cpu = u; words = w; owners = o; jumpers = j; writers = r; readers = d }

  abbrev t : State
  t = record { cpu = u; words = w'; owners = o'; jumpers = j'; writers = r'; readers = d' }

  module _ (ls : Lent s) (lt : Lent t) (al : Alike s t) where
    -- ---- what is read

    owner_eq : (x : ℕ) → owner_at s x ≡ owner_at t x
    unfolding owner_at in_memory
    owner_eq x = go (ltb x u.n) refl
      where
        go : (b : Bool) → ltb x u.n ≡ b → owner_at s x ≡ owner_at t x
        go true e = simp (e, same_at u.n o o' al.owners x e)
        go false e = simp e

    owns_eq : (c x : ℕ) → owns s c x ≡ owns t c x
    unfolding owns has_owner in_memory
    owns_eq c x = ap (λ (k : ℕ). (ltb x u.n || is_service u.strict x) && eqb k c) (owner_eq x)

    jump_eq : (c x : ℕ) → may_jump s c x ≡ may_jump t c x
    unfolding may_jump jumpers_at in_memory
    jump_eq c x = go (ltb x u.n) refl
      where
        go : (b : Bool) → ltb x u.n ≡ b → may_jump s c x ≡ may_jump t c x
        go true e = simp (e, same_at u.n j j' al.jumpers x e)
        go false e = simp e

    store_eq : (c x : ℕ) → may_store s c x ≡ may_store t c x
    unfolding may_store writers_at in_memory
    store_eq c x = go (ltb x u.n) refl
      where
        go : (b : Bool) → ltb x u.n ≡ b → may_store s c x ≡ may_store t c x
        go true e = simp (e, same_at u.n r r' al.writers x e)
        go false e = simp e

    may_read_eq : (c x : ℕ) → may_read s c x ≡ may_read t c x
    unfolding may_read readers_at in_memory
    may_read_eq c x = go u.strict (ltb x u.n) refl refl
      where
        go : (a b : Bool) → u.strict ≡ a → ltb x u.n ≡ b → may_read s c x ≡ may_read t c x
        go true true f e = simp (f, e, same_at u.n d d' (al.readers f) x e)
        go true false f e = simp (f, e)
        go false b f e = simp f

    read_eq : (c x : ℕ) → reads s c x ≡ reads t c x
    unfolding reads
    read_eq c x = simp (owns_eq, may_read_eq)

    good_eq : (p : ℕ → Bool) (q : ℕ) → good_set w u.n p q ≡ good_set w' u.n p q
    good_eq p q = sym (good_take w u.n p q) ∙ ap (λ (z : List ℕ). good_set z u.n p q) al.words ∙ good_take w' u.n p q

    set_eq : (p : ℕ → Bool) (q : ℕ) → good_set w u.n p q ≡ true → set_at w q ≡ set_at w' q
    set_eq p q h = sym (good_set_take w u.n p q h) ∙ ap (λ (z : List ℕ). set_at z q) al.words ∙ good_set_take w' u.n p q (sym (good_eq p q) ∙ h)

    -- ---- the checks

    -- 14 looks at the lengths only to compare them with one another and with N
    formed_eq : formed s ≡ formed t
    unfolding formed numbered seated
    formed_eq = simp (sized_lent s ls, sized_lent t lt)

    bad_eq : bad_owner s ≡ bad_owner t
    unfolding bad_owner in_memory
    bad_eq = simp owner_eq

    arrives_eq : arrives s ≡ arrives t
    unfolding arrives
    arrives_eq = simp (owner_eq, jump_eq)

    instruction_eq : ltb u.pc u.n ≡ true → instruction_at s ≡ instruction_at t
    unfolding instruction_at
    instruction_eq h = ap decode (same_at u.n w w' al.words u.pc h)

    word_eq : (c : ℕ) (i : Decoded) → word_verdict s c i ≡ word_verdict t c i
    unfolding word_verdict instruction_verdict store_verdict load_verdict in_memory
    word_eq c i = simp (owns_eq, store_eq, read_eq)

    add_eq : (c : ℕ) → add_verdict s c ≡ add_verdict t c
    unfolding add_verdict
    add_eq c = simp owns_eq

    good_sets_eq : (c : ℕ) → good_sets s c ≡ good_sets t c
    unfolding good_sets
    good_sets_eq c = let e : reads s c ≡ reads t c = fun_ext (read_eq c) in simp (e, good_eq)

    record Sets : Type 0 where
      A : set_a s ≡ set_a t
      J : set_j s ≡ set_j t
      S : set_s s ≡ set_s t
      R : set_r s ≡ set_r t

    sets : (c : ℕ) → good_sets s c ≡ true → Sets
    unfolding good_sets
    sets c h =
        let r = both _ (not u.strict || good_in s c 4) h in
        let a = both _ _ r.0 in
        let b = both _ _ a.0 in
        record { A = set_eq (reads s c) _ b.0; J = set_eq (reads s c) _ b.1; S = set_eq (reads s c) _ a.1; R = fourth u.strict r.1 }
      where
        fourth : (m : Bool) → (not m || good_in s c 4) ≡ true → cond m (set_at w (reg u.regs 4)) [] ≡ cond m (set_at w' (reg u.regs 4)) []
        fourth true g = set_eq (reads s c) _ g
        fourth false g = refl

    isolate_eq : (c : ℕ) → isolate_verdict s c ≡ isolate_verdict t c
    unfolding isolate_verdict sets_within returns in_memory
    isolate_eq c = go (good_sets s c) refl
      where
        go : (b : Bool) → good_sets s c ≡ b → isolate_verdict s c ≡ isolate_verdict t c
        go true e =
            let k = sets c e in
            let f : owns s c ≡ owns t c = fun_ext (owns_eq c) in
            simp (← good_sets_eq, e, k.A, k.J, k.S, k.R, f, owns_eq, jump_eq, store_eq, may_read_eq)
        go false e = simp (← good_sets_eq, e)

    verdict_eq : verdict s ≡ verdict t
    unfolding tested has_owner in_memory service_verdict
    verdict_eq = verdict_tested s ∙ go (ltb u.pc u.n) refl ∙ sym (verdict_tested t)
      where
        go : (b : Bool) → ltb u.pc u.n ≡ b → tested s ≡ tested t
        go true e = simp (e, formed_eq, bad_eq, arrives_eq, owner_eq, instruction_eq e, word_eq)
        go false e = simp (e, formed_eq, bad_eq, arrives_eq, isolate_eq, add_eq)

    -- ---- what is left

    regs_eq : (c : ℕ) (i : Decoded) → word_verdict s c i ≡ answer.done → regs_after i u.pc u.regs w ≡ regs_after i u.pc u.regs w'
    unfolding in_memory
    regs_eq c i v =
        sym (regs_take i u.n u.pc u.regs w (λ e. ltb-true _ _ (load_inside s c i v e)))
        ∙ ap (regs_after i u.pc u.regs) al.words
        ∙ regs_take i u.n u.pc u.regs w' (λ e. ltb-true _ _ (load_inside s c i v e))

    ran_alike : (c : ℕ) (i : Decoded) → word_verdict s c i ≡ answer.done → Alike (ran_instruction s c i) (ran_instruction t c i)
    unfolding ran_instruction
    ran_alike c i v =
        let e = regs_eq c i v in
        record {
          cpu = simp e;
          words = sym (words_take i u.n u.regs w ls.enough) ∙ ap (words_after i u.regs) al.words ∙ words_take i u.n u.regs w' lt.enough;
          owners = al.owners;
          jumpers = al.jumpers;
          writers = al.writers;
          readers = al.readers;
        }

    map_alike : (f : ℕ → ℕ → ℕ) (l m : List ℕ) → take u.n l ≡ take u.n m → take u.n (map_from f 0 l) ≡ take u.n (map_from f 0 m)
    map_alike f l m e = take_map f 0 u.n l ∙ ap (map_from f 0) e ∙ sym (take_map f 0 u.n m)

    isolated_alike : (c : ℕ) → good_sets s c ≡ true → Alike (isolated s) (isolated t)
    unfolding isolated owned joined
    isolated_alike c g =
        let k = sets c g in
        record {
          cpu = simp k.J;
          words = al.words;
          owners = simp k.A (map_alike _ o o' al.owners);
          jumpers = simp k.J (map_alike _ j j' al.jumpers);
          writers = simp k.S (map_alike _ r r' al.writers);
          readers = λ e.
              let z : set_at w (reg u.regs 4) ≡ set_at w' (reg u.regs 4) = simp e at k.R in
              simp (e, z) (map_alike _ d d' (al.readers e));
        }

    -- each memory is as long as the words, so N or longer
    long : (q : State) → Lent q → (l : List ℕ) → length l ≡ length q.words → q.cpu.n ≤ length l
    long q h l e = let m : q.cpu.n ≤ length q.words = h.enough in omega arith

    jump_added_alike : ltb (reg u.regs 1) u.n ≡ true → Alike (jump_added s) (jump_added t)
    unfolding jump_added
    jump_added_alike h =
        record {
          cpu = refl;
          words = al.words;
          owners = al.owners;
          jumpers = same_joined u.n j j' (reg u.regs 1) u.prev (long s ls j ls.jumpers) (long t lt j' lt.jumpers) al.jumpers h;
          writers = al.writers;
          readers = al.readers;
        }

    store_added_alike : ltb (reg u.regs 1) u.n ≡ true → Alike (store_added s) (store_added t)
    unfolding store_added
    store_added_alike h =
        record {
          cpu = refl;
          words = al.words;
          owners = al.owners;
          jumpers = al.jumpers;
          writers = same_joined u.n r r' (reg u.regs 1) u.prev (long s ls r ls.writers) (long t lt r' lt.writers) al.writers h;
          readers = al.readers;
        }

    read_added_alike : u.strict ≡ true → ltb (reg u.regs 1) u.n ≡ true → Alike (read_added s) (read_added t)
    unfolding read_added
    read_added_alike f h =
        record {
          cpu = refl;
          words = al.words;
          owners = al.owners;
          jumpers = al.jumpers;
          writers = al.writers;
          readers = λ e. same_joined u.n d d' (reg u.regs 1) u.prev (long s ls d (ls.readers f)) (long t lt d' (lt.readers f)) (al.readers f) h;
        }

    commit_alike : verdict s ≡ answer.done → Alike (commit s) (commit t)
    unfolding commit ran_service in_memory service_verdict
    commit_alike h = go (ltb u.pc u.n) (eqb u.pc isolate) refl refl
      where
        p : Passes s
        p = passes s h

        rest : cond (ltb u.pc u.n) (word_verdict s (owner_at s u.pc) (instruction_at s)) (service_verdict s u.prev) ≡ answer.done
        rest = p.rest

        go : (b c : Bool) → ltb u.pc u.n ≡ b → eqb u.pc isolate ≡ c → Alike (commit s) (commit t)
        go true c e f = simp (e, ← owner_eq, ← instruction_eq e) (ran_alike (owner_at s u.pc) (instruction_at s) (simp e at rest))
        go false true e f = simp (e, f) (isolated_alike u.prev (isolate_passed s u.prev (simp (e, f) at rest)).good)
        go false false e f = add (eqb u.pc add_jump_target) (eqb u.pc add_store_target) refl refl
          where
            l : ltb (reg u.regs 1) u.n ≡ true
            l = (add_inside s p e (simp (e, f) at rest)).named

            add : (a b : Bool) → eqb u.pc add_jump_target ≡ a → eqb u.pc add_store_target ≡ b → Alike (commit s) (commit t)
            add true b g k = simp (e, f, g) (jump_added_alike l)
            add false true g k = simp (e, f, g, k) (store_added_alike l)
            add false false g k = simp (e, f, g, k) (read_added_alike (read_strict s p e f g k) l)

    both_step : ((step s).answer ≡ (step t).answer) × Alike (step s).state (step t).state
    unfolding step
    both_step = (verdict_eq, go (eqb (verdict s) answer.done) refl)
      where
        go : (b : Bool) → eqb (verdict s) answer.done ≡ b → Alike (step s).state (step t).state
        go true e = simp (← verdict_eq, e) (commit_alike (eqb-true _ _ e))
        go false e = simp (← verdict_eq, e) al

-- ---- the theorem, of states whose memories 14's test of the lengths lets pass

pub step_alike : (s t : State) → Lent s → Lent t → Alike s t → ((step s).answer ≡ (step t).answer) × Alike (step s).state (step t).state
step_alike s t ls lt al =
    let t' : State = record { cpu = s.cpu; words = t.words; owners = t.owners; jumpers = t.jumpers; writers = t.writers; readers = t.readers } in
    let e : t ≡ t' =
    λ i. record { cpu = sym al.cpu i; words = t.words; owners = t.owners; jumpers = t.jumpers; writers = t.writers; readers = t.readers } in
    subst (λ (q : State). ((step s).answer ≡ (step q).answer) × Alike (step s).state (step q).state) (sym e)
    (both_step s.cpu s.words s.owners s.jumpers s.writers s.readers t.words t.owners t.jumpers t.writers t.readers ls (subst Lent e lt)
    (subst (Alike s) e al))

pub record AlikeRuns (a b : Ran) : Type 0 where
  pub answer : a.answer ≡ b.answer
  pub state : Alike a.state b.state
  pub count : a.count ≡ b.count

pub run_alike : (k : ℕ) (s t : State) → Lent s → Lent t → Alike s t → AlikeRuns (run k s) (run k t)
unfolding run
run_alike zero s t ls lt al = record { answer = refl; state = al; count = refl }
run_alike (suc k) s t ls lt al =
    let w = step_alike s t ls lt al in
    go (eqb (step s).answer answer.done) refl w (run_alike k (step s).state (step t).state (step_lent s ls) (step_lent t lt) w.1)
  where
    go : (b : Bool) → eqb (step s).answer answer.done ≡ b → ((step s).answer ≡ (step t).answer) × Alike (step s).state (step t).state
        → AlikeRuns (run k (step s).state) (run k (step t).state) → AlikeRuns (run (suc k) s) (run (suc k) t)
    go true e w ih = simp (← w.0, e) (record { answer = ih.answer; state = ih.state; count = ap suc ih.count })
    go false e w ih = simp (← w.0, e) (record { answer = refl; state = w.1; count = refl })
