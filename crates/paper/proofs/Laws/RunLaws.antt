-- What holds of every run of the abstract machine: its answers, compartments never fewer, memory as large as it was, reading fenced or not.
use Rattle.std.specs.Prelude.{◌≡◌, refl, Bool, true, false, cond, ◌&&◌, ◌||◌, not, ℕ, zero, suc, ◌+◌, ◌≤◌, leb, eqb, length}
use Rattle.std.proofs.Common.{ap, ◌∙◌, sym, subst, arith, le_trans, le_refl, zero-add, suc-add, eqb-true, ne_eqb, le-leb, length-set}
use Rattle.std.proofs.lemmas.Bool.{eqb-false}
use Rattle.common.specs.Answers as answer
use Rattle.common.proofs.Laws.CheckLaws.{cond_same}
use Rattle.common.proofs.Laws.InstructionLaws.{words_length}
use Rattle.common.proofs.Laws.WordLaws.{Decodes, runs, unknown_opcode, stray}
use Rattle.common.specs.Services.{isolate, add_jump_target, add_store_target}
use Rattle.common.proofs.Laws.Tests.{clash}
use Rattle.paper.specs.Abstract.{State, A-of, R-of, in_memory, reads, instruction_at, ran_instruction, described, isolated, jump_added, store_added, read_added, ran_service, verdict, commit, step, Ran, one_more, ended, run}
use Rattle.paper.proofs.Laws.Tested.{store_verdict, load_verdict, instruction_verdict, word_verdict, isolate_verdict, add_verdict, service_verdict, tested, instruction_answers, verdict_tested}
use Rattle.paper.proofs.Laws.CompLaws.{split_length}

-- ---- answers

-- 0 to 12, 16, and 17 where reading is fenced
abbrev pub given : Bool → ℕ → Bool
given fenced v = leb v answer.no_return || eqb v answer.stray_bit || (fenced && eqb v answer.load_forbidden)

pub not_thirteen : (m : Bool) (v : ℕ) → given m v ≡ true → v ≡ 13 → ⊥
not_thirteen true v h e = let z : given true 13 ≡ true = subst (λ (k : ℕ). given true k ≡ true) e h in clash z refl
not_thirteen false v h e = let z : given false 13 ≡ true = subst (λ (k : ℕ). given false k ≡ true) e h in clash z refl

-- a test that passes all of these passes the machine's answer
through : (t : ℕ → Bool) (b : Bool) (x y : ℕ) → t (cond b x y) ≡ cond b (t x) (t y)
through t true x y = refl
through t false x y = refl

passes_all : (a : State) (t : ℕ → Bool) → ((v : ℕ) → v ≤ 12 → t v ≡ true) → t (instruction_at a).answer ≡ true → ((c x : ℕ) → t (load_verdict a c x) ≡ true)
    → t (tested a) ≡ true
unfolding tested word_verdict instruction_verdict store_verdict service_verdict isolate_verdict add_verdict
passes_all a t h d l =
    simp (
      through t,
      d,
      l,
      h 0 (omega arith),
      h 1 (omega arith),
      h 2 (omega arith),
      h 4 (omega arith),
      h 6 (omega arith),
      h 7 (omega arith),
      h 8 (omega arith),
      h 9 (omega arith),
      h 10 (omega arith),
      h 11 (omega arith),
      h 12 (omega arith),
      cond_same,
    )

fence : (m b c : Bool) → given m (cond b (cond (not m || c) answer.done answer.load_forbidden) answer.load_outside) ≡ true
fence m false c = refl
fence true true true = refl
fence true true false = refl
fence false true c = refl

decoded : (m : Bool) (k : ℕ) → Decodes k → given m k ≡ true
decoded m k (runs e) = simp e
decoded m k (unknown_opcode e) = simp e
decoded m k (stray e) = simp e

pub abstract_answers : (a : State) → given a.fenced (verdict a) ≡ true
unfolding load_verdict reads
abstract_answers a =
    subst (λ (v : ℕ). given a.fenced v ≡ true) (sym (verdict_tested a))
    (passes_all a (given a.fenced) (λ v h. simp (le-leb v 12 h)) (decoded a.fenced (instruction_at a).answer (instruction_answers a)) (λ c x. fence a.fenced (in_memory a x) (A-of a c x || R-of a c x)))

-- ---- a run, one step after the other

module _ (k : ℕ) (a : State) where
  pub run_goes_on : (step a).answer ≡ answer.done → run (suc k) a ≡ one_more (run k (step a).state)
  unfolding run
  run_goes_on h = simp h

  pub run_ends : ((step a).answer ≡ answer.done → ⊥) → run (suc k) a ≡ ended (step a).answer (step a).state
  unfolding run
  run_ends h = simp (ne_eqb (step a).answer answer.done h)

-- j steps, then k more
pub run_on : (j k : ℕ) (a : State) → (run j a).answer ≡ answer.done → (run (j + k) a).state ≡ (run k (run j a).state).state
unfolding run
run_on zero k a h = ap (λ (n : ℕ). (run n a).state) (zero-add k)
run_on (suc j) k a h = go (eqb (step a).answer answer.done) refl (run_on j k (step a).state)
  where
    go : (b : Bool) → eqb (step a).answer answer.done ≡ b
        → ((run j (step a).state).answer ≡ answer.done → (run (j + k) (step a).state).state ≡ (run k (run j (step a).state).state).state)
        → (run (suc j + k) a).state ≡ (run k (run (suc j) a).state).state
    go true e ih =
        let g : (step a).answer ≡ 0 = eqb-true _ _ e in
        let f = run_goes_on j a g in
        let z : (run j (step a).state).answer ≡ 0 = sym (ap (λ (r : Ran). r.answer) f) ∙ h in
        ap (λ (n : ℕ). (run n a).state) (suc-add j k) ∙ ap (λ (r : Ran). r.state) (run_goes_on (j + k) a g) ∙ ih z
        ∙ ap (λ (r : Ran). (run k r.state).state) (sym f)
    go false e ih =
        let g : (step a).answer ≡ 0 → ⊥ = eqb-false _ _ e in
        absurd (g (sym (ap (λ (r : Ran). r.answer) (run_ends j a g)) ∙ h))

-- what every step keeps, a run keeps
pub run_keeps : (Q : State → Type 0) → ((a : State) → Q a → Q (step a).state) → (n : ℕ) (a : State) → Q a → Q (run n a).state
unfolding run
run_keeps Q keeps zero a q = q
run_keeps Q keeps (suc n) a q = go (eqb (step a).answer answer.done) (keeps a q) (run_keeps Q keeps n (step a).state)
  where
    go : (b : Bool) → Q (step a).state → (Q (step a).state → Q (run n (step a).state).state)
        → Q (cond b (one_more (run n (step a).state)) (ended (step a).answer (step a).state)).state
    go true h ih = ih h
    go false h ih = h

-- no step changes whether reading is fenced
pub step_fenced : (a : State) → (step a).state.fenced ≡ a.fenced
unfolding step commit ran_service ran_instruction isolated jump_added store_added read_added
step_fenced a = go (eqb (verdict a) answer.done) (in_memory a a.pc) (eqb a.pc isolate) (eqb a.pc add_jump_target) (eqb a.pc add_store_target)
  where
    go : (b c d e f : Bool) → (cond b (cond c (ran_instruction a (instruction_at a)) (cond d (isolated a) (cond e (jump_added a) (cond f (store_added a) (read_added a))))) a).fenced ≡ a.fenced
    go false c d e f = refl
    go true true d e f = refl
    go true false true e f = refl
    go true false false true f = refl
    go true false false false true = refl
    go true false false false false = refl

pub run_fenced : (n : ℕ) (a : State) → (run n a).state.fenced ≡ a.fenced
run_fenced n a = run_keeps (λ b. b.fenced ≡ a.fenced) (λ b h. step_fenced b ∙ h) n a refl

pub run_answers : (n : ℕ) (a : State) → given a.fenced (run n a).answer ≡ true
unfolding run step
run_answers zero a = refl
run_answers (suc n) a =
    go (eqb (verdict a) answer.done) (abstract_answers a)
    (subst (λ (m : Bool). given m (run n (step a).state).answer ≡ true) (step_fenced a) (run_answers n (step a).state))
  where
    go : (b : Bool) → given a.fenced (verdict a) ≡ true → given a.fenced (run n (step a).state).answer ≡ true
        → given a.fenced (cond b (one_more (run n (step a).state)) (ended (verdict a) (step a).state)).answer ≡ true
    go true h k = k
    go false h k = h

-- ---- compartments

pub isolated_more : (a : State) → length (isolated a).comps ≡ suc (length a.comps)
unfolding isolated
isolated_more a = split_length a.comps a.prev (described a)

step_grows : (a : State) → length a.comps ≤ length (step a).state.comps
unfolding step commit ran_service ran_instruction jump_added store_added read_added
step_grows a = go (eqb (verdict a) answer.done) (in_memory a a.pc) (eqb a.pc isolate) (eqb a.pc add_jump_target) (eqb a.pc add_store_target)
  where
    go : (b c d e f : Bool) → length a.comps ≤ length (cond b (cond c (ran_instruction a (instruction_at a)) (cond d (isolated a) (cond e (jump_added a) (cond f (store_added a) (read_added a))))) a).comps
    go false c d e f = le_refl (length a.comps)
    go true true d e f = le_refl (length a.comps)
    go true false true e f = let h : length (isolated a).comps ≡ suc (length a.comps) = isolated_more a in omega arith
    go true false false true f =
        let h : length (jump_added a).comps ≡ length a.comps = length-set a.comps a.prev _ in
        omega arith
    go true false false false true =
        let h : length (store_added a).comps ≡ length a.comps = length-set a.comps a.prev _ in
        omega arith
    go true false false false false =
        let h : length (read_added a).comps ≡ length a.comps = length-set a.comps a.prev _ in
        omega arith

pub run_grows : (n : ℕ) (a : State) → length a.comps ≤ length (run n a).state.comps
run_grows n a = run_keeps (λ b. length a.comps ≤ length b.comps) (λ b h. le_trans h (step_grows b)) n a (le_refl (length a.comps))

-- ---- memory stays as large as it was

step_words : (a : State) → length (step a).state.words ≡ length a.words
unfolding step commit ran_service ran_instruction isolated jump_added store_added read_added
step_words a = go (eqb (verdict a) answer.done) (in_memory a a.pc) (eqb a.pc isolate) (eqb a.pc add_jump_target) (eqb a.pc add_store_target)
  where
    go : (b c d e f : Bool) → length (cond b (cond c (ran_instruction a (instruction_at a)) (cond d (isolated a) (cond e (jump_added a) (cond f (store_added a) (read_added a))))) a).words ≡ length a.words
    go false c d e f = refl
    go true true d e f = words_length (instruction_at a) a.regs a.words
    go true false true e f = refl
    go true false false true f = refl
    go true false false false true = refl
    go true false false false false = refl

pub run_words : (n : ℕ) (a : State) → length (run n a).state.words ≡ length a.words
run_words n a = run_keeps (λ b. length b.words ≡ length a.words) (λ b h. step_words b ∙ h) n a refl
