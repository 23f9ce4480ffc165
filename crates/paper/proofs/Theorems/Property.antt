-- The paper's property of its machine: (a) pc leaves a compartment by its jump targets alone, (b) a word changes by its own compartment or its store targets alone; and where reading is fenced (c) a Load reads its own compartment or its read targets alone.
use Rattle.std.specs.Prelude.{◌≡◌, Bool, cond, ◌&&◌, ◌||◌, ◌⊎◌, ℕ, ◌<◌, ltb, eqb, get_or}
use Rattle.std.proofs.Math.Path.{refl}
use Rattle.std.proofs.Common.{ap, ◌∙◌, subst, inl, inr, ⊎_elim, arith, ltb-true, eqb-true, get_or-set_other}
use Rattle.std.proofs.Math.Bool.{true, false, or-true}
use Rattle.std.proofs.Math.Decide.{ℕ_discrete}
use Rattle.std.proofs.Math.ListN.{length}
use Rattle.common.specs.Answers as answer
use Rattle.common.specs.Opcodes as is
use Rattle.common.specs.Words.{Decoded}
use Rattle.common.specs.Instructions.{reg, words_after}
use Rattle.common.specs.Services.{isolate, add_jump_target, add_store_target}
use Rattle.common.proofs.Laws.CheckLaws.{took, took_zero}
use Rattle.common.proofs.Laws.Tests.{both}
use Rattle.paper.specs.Abstract.{Comp, State, comp, A-of, J-of, S-of, R-of, in_memory, reads, current, arrives, instruction_at, target, ran_instruction, more_j, more_s, more_r, described, isolated, jump_added, store_added, read_added, ran_service, verdict, commit, step}
use Rattle.paper.proofs.Laws.Tested.{load_verdict, store_verdict, instruction_verdict, word_verdict, tested, verdict_tested}
use Rattle.paper.proofs.Laws.CompLaws.{holder_holds, changed_other, split_other}
use Rattle.paper.proofs.Theorems.Sound.{defined, Sound, Runs, runs, other}

-- ---- property (a)

-- a state that stops neither for want of a place nor at arrival: pc is in the previous compartment or its jump targets
arrived : (b : State) → (verdict b ≡ answer.no_place) ⊎ ((verdict b ≡ answer.no_arrival) ⊎ ((A-of b b.prev b.pc || J-of b b.prev b.pc) ≡ true))
unfolding tested arrives
arrived b = go (defined b b.pc) (ltb (current b) (length b.comps)) (eqb (current b) b.prev) (b.jumped && J-of b b.prev b.pc) refl refl refl refl
  where
    go : (d l e j : Bool) → defined b b.pc ≡ d → ltb (current b) (length b.comps) ≡ l → eqb (current b) b.prev ≡ e → (b.jumped && J-of b b.prev b.pc) ≡ j
        → (verdict b ≡ answer.no_place) ⊎ ((verdict b ≡ answer.no_arrival) ⊎ ((A-of b b.prev b.pc || J-of b b.prev b.pc) ≡ true))
    go false l e j hd hl he hj = inl (verdict_tested b ∙ simp hd)
    go true false e j hd hl he hj = inr (inl (verdict_tested b ∙ simp (hd, hl)))
    go true true false false hd hl he hj = inr (inl (verdict_tested b ∙ simp (hd, hl, he, hj)))
    go true true true j hd hl he hj =
        let h : A-of b b.prev b.pc ≡ true = subst (λ (c : ℕ). A-of b c b.pc ≡ true) (eqb-true _ _ he) (holder_holds b.comps b.pc (ltb-true _ _ hl)) in
        inr (inr (simp h))
    go true true false true hd hl he hj = inr (inr (simp ((both b.jumped _ hj).1, or-true)))

-- the compartment of pc is the previous one after the step, with its sets as they were
module _ (a : State) (ok : Sound a) (r : Runs a) where
  then_prev : (commit a).prev ≡ current a
  unfolding commit ran_service ran_instruction isolated jump_added store_added read_added
  then_prev = go (in_memory a a.pc) (eqb a.pc isolate) (eqb a.pc add_jump_target) (eqb a.pc add_store_target)
    where
      go : (b c d e : Bool)
          → (cond b (ran_instruction a (instruction_at a)) (cond c (isolated a) (cond d (jump_added a) (cond e (store_added a) (read_added a))))).prev ≡ current a
      go true c d e = refl
      go false true d e = refl
      go false false true e = refl
      go false false false true = refl
      go false false false false = refl

  kept : comp (commit a).comps (current a) ≡ comp a.comps (current a)
  unfolding commit ran_service ran_instruction isolated jump_added store_added read_added
  kept = go (in_memory a a.pc) (eqb a.pc isolate) (eqb a.pc add_jump_target) (eqb a.pc add_store_target) refl
    where
      go : (b c d f : Bool) → in_memory a a.pc ≡ b
          → comp (cond b (ran_instruction a (instruction_at a)) (cond c (isolated a) (cond d (jump_added a) (cond f (store_added a) (read_added a))))).comps (current a)
          ≡ comp a.comps (current a)
      go true c d f e = refl
      go false true d f e =
          let l : current a < length a.comps = r.there in
          split_other a.comps a.prev (described a) ok.prev (current a) (other a ok r e) (λ q. omega arith)
      go false false true f e = changed_other a.comps a.prev (more_j (comp a.comps a.prev) (reg a.regs 1)) ok.prev (current a) (other a ok r e)
      go false false false true e = changed_other a.comps a.prev (more_s (comp a.comps a.prev) (reg a.regs 1)) ok.prev (current a) (other a ok r e)
      go false false false false e = changed_other a.comps a.prev (more_r (comp a.comps a.prev) (reg a.regs 1)) ok.prev (current a) (other a ok r e)

-- after a step that ran: the next answers 2 or 4, or the new pc is in the compartment of the old one or among its
-- jump targets, as these were before the step
abbrev pub Leaves : State → Type 0
Leaves a =
    ((step (step a).state).answer ≡ answer.no_place)
    ⊎ (((step (step a).state).answer ≡ answer.no_arrival) ⊎ ((A-of a (current a) (step a).state.pc || J-of a (current a) (step a).state.pc) ≡ true))

pub leaves : (a : State) → Sound a → (step a).answer ≡ answer.done → Leaves a
unfolding step
leaves a ok h =
    let r = runs a h in
    let b : State = commit a in
    let k : comp (commit a).comps (commit a).prev ≡ comp a.comps (current a) = ap (comp (commit a).comps) (then_prev a ok r) ∙ kept a ok r in
    simp h (⊎_elim inl (λ w. inr (⊎_elim inl (λ v. inr (subst (λ (o : Comp). (o.A (commit a).pc || o.J (commit a).pc) ≡ true) k v)) w)) (arrived (commit a)))

-- ---- property (b)

-- a Store that runs
store_passed : (a : State) (c : ℕ) (i : Decoded) → word_verdict a c i ≡ answer.done → i.op ≡ is.store → (A-of a c (target a i) || S-of a c (target a i)) ≡ true
unfolding word_verdict instruction_verdict store_verdict
store_passed a c i h e =
    let v : instruction_verdict a c i ≡ 0 = (took_zero i.answer _ h).1 in
    let u = took (in_memory a (target a i)) _ 5 (simp e at v) in
    (took (A-of a c (target a i) || S-of a c (target a i)) 0 6 u.1).0

-- the word at x after the step is not what it was
abbrev pub Changes : State → ℕ → Type 0
Changes a x = get_or (step a).state.words x 0 ≡ get_or a.words x 0 → ⊥

-- then x is in the compartment of pc or among its store targets, as these were before the step
pub changes : (a : State) (x : ℕ) → Changes a x → (A-of a (current a) x || S-of a (current a) x) ≡ true
unfolding step commit ran_service ran_instruction isolated jump_added store_added read_added words_after
changes a x d =
    go (eqb (verdict a) answer.done) (in_memory a a.pc) (eqb a.pc isolate) (eqb a.pc add_jump_target) (eqb a.pc add_store_target) refl refl refl refl refl
  where
    by_store : verdict a ≡ answer.done → in_memory a a.pc ≡ true → (b : Bool) → Dec (x ≡ target a (instruction_at a)) → eqb (instruction_at a).op is.store ≡ b
        → (A-of a (current a) x || S-of a (current a) x) ≡ true
    by_store h e false q g = absurd (d (simp (h, e, g)))
    by_store h e true (no q) g =
        absurd (d (simp (h, e, g) (get_or-set_other a.words (target a (instruction_at a)) x (reg a.regs (instruction_at a).b) 0 q)))
    by_store h e true (yes q) g = rw q (store_passed a (current a) (instruction_at a) (simp e at (runs a h).rest) (eqb-true _ _ g))

    go : (b c p q r : Bool) → eqb (verdict a) answer.done ≡ b → in_memory a a.pc ≡ c → eqb a.pc isolate ≡ p → eqb a.pc add_jump_target ≡ q
        → eqb a.pc add_store_target ≡ r → (A-of a (current a) x || S-of a (current a) x) ≡ true
    go false c p q r e f g h k = absurd (d (simp e))
    go true true p q r e f g h k = by_store (eqb-true _ _ e) f (eqb (instruction_at a).op is.store) (ℕ_discrete x (target a (instruction_at a))) refl
    go true false true q r e f g h k = absurd (d (simp (e, f, g)))
    go true false false true r e f g h k = absurd (d (simp (e, f, g, h)))
    go true false false false true e f g h k = absurd (d (simp (e, f, g, h, k)))
    go true false false false false e f g h k = absurd (d (simp (e, f, g, h, k)))

-- ---- (c), where reading is fenced

-- a Load that runs reads an address of the compartment of pc or one of its read targets, as these were before the step
pub reading : (a : State) → a.fenced ≡ true → verdict a ≡ answer.done → in_memory a a.pc ≡ true → (instruction_at a).op ≡ is.load
    → (A-of a (current a) (target a (instruction_at a)) || R-of a (current a) (target a (instruction_at a))) ≡ true
unfolding word_verdict instruction_verdict load_verdict reads
reading a f h e o =
    let w : word_verdict a (current a) (instruction_at a) ≡ 0 = simp e at (runs a h).rest in
    let v : instruction_verdict a (current a) (instruction_at a) ≡ 0 = (took_zero (instruction_at a).answer _ w).1 in
    let u = took (in_memory a (target a (instruction_at a))) _ 4 (simp o at v) in
    let t = took (reads a (current a) (target a (instruction_at a))) 0 16 u.1 in
    simp f at t.0
