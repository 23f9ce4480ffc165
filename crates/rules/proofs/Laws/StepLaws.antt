-- Laws of one step and of a run by cases, which the theorems about steps and runs lean on.
use Rattle.std.specs.Prelude.{◌≡◌, refl, Bool, true, false, cond, ℕ, zero, suc, eqb}
use Rattle.std.proofs.Common.{ne_eqb, eqb-true}
use Rattle.std.proofs.lemmas.Bool.{eqb-false}
use Rattle.common.specs.Answers as answer
use Rattle.common.specs.Services.{isolate, add_jump_target, add_store_target}
use Rattle.common.proofs.Laws.ServiceLaws.{fourth_strict}
use Rattle.rules.specs.State.{State, in_memory, owner_at}
use Rattle.rules.specs.Checks.{instruction_at, verdict}
use Rattle.rules.specs.Laws.Tested.{word_verdict, service_verdict}
use Rattle.rules.specs.Step.{ran_instruction, isolated, jump_added, store_added, read_added, ran_service, commit, step}
use Rattle.rules.specs.Run.{one_more, ended, run}
use Rattle.rules.proofs.Laws.FormLaws.{at_service}
use Rattle.rules.proofs.Laws.Passed.{Passes, passes, Adds, add_inside, Isolates, isolate_passed}

-- ---- a step

pub answer_is : (s : State) → (step s).answer ≡ verdict s
unfolding step
answer_is s = refl

pub step_runs : (s : State) → verdict s ≡ answer.done → step s ≡ record { answer = answer.done; state = commit s }
unfolding step
step_runs s h = simp h

pub step_stops : (s : State) → (verdict s ≡ answer.done → ⊥) → step s ≡ record { answer = verdict s; state = s }
unfolding step
step_stops s h = simp (ne_eqb (verdict s) 0 h)

-- ---- a run

pub run_goes_on : (k : ℕ) (s : State) → (step s).answer ≡ answer.done → run (suc k) s ≡ one_more (run k (step s).state)
unfolding run
run_goes_on k s h = simp h

pub run_ends : (k : ℕ) (s : State) → ((step s).answer ≡ answer.done → ⊥) → run (suc k) s ≡ ended (step s).answer (step s).state
unfolding run
run_ends k s h = simp (ne_eqb (step s).answer 0 h)

-- ---- what holds of the state that a step leaves: it holds of the state before, and of what each kind of step makes of it

-- a service that is none of the first three is there in strict mode alone
pub read_strict : (s : State) → Passes s → in_memory s s.cpu.pc ≡ false → eqb s.cpu.pc isolate ≡ false → eqb s.cpu.pc add_jump_target ≡ false
    → eqb s.cpu.pc add_store_target ≡ false → s.cpu.strict ≡ true
read_strict s p out a b c =
    fourth_strict s.cpu.strict s.cpu.pc (at_service s s.cpu.pc p.place out) (eqb-false _ _ a) (eqb-false _ _ b) (eqb-false _ _ c)

pub step_cases : (s : State) (P : State → Type 0) → P s
    → (Passes s → in_memory s s.cpu.pc ≡ true → word_verdict s (owner_at s s.cpu.pc) (instruction_at s) ≡ answer.done
    → P (ran_instruction s (owner_at s s.cpu.pc) (instruction_at s)))
    → (Passes s → in_memory s s.cpu.pc ≡ false → Isolates s s.cpu.prev → P (isolated s))
    → (Passes s → in_memory s s.cpu.pc ≡ false → Adds s → P (jump_added s) × P (store_added s) × (s.cpu.strict ≡ true → P (read_added s)))
    → P (step s).state
unfolding step commit ran_service service_verdict
step_cases s P kept word isolates adds = go (eqb (verdict s) answer.done) (in_memory s s.cpu.pc) (eqb s.cpu.pc isolate) refl refl refl
  where
    go : (b c d : Bool) → eqb (verdict s) answer.done ≡ b → in_memory s s.cpu.pc ≡ c → eqb s.cpu.pc isolate ≡ d → P (step s).state
    go false c d p q f = simp p kept
    go true true d p q f = let h = passes s (eqb-true _ _ p) in simp (p, q) (word h q (simp q at h.rest))
    go true false true p q f = let h = passes s (eqb-true _ _ p) in simp (p, q, f) (isolates h q (isolate_passed s s.cpu.prev (simp (q, f) at h.rest)))
    go true false false p q f =
        let h = passes s (eqb-true _ _ p) in
        add (eqb s.cpu.pc add_jump_target) (eqb s.cpu.pc add_store_target) refl refl (adds h q (add_inside s h q (simp (q, f) at h.rest)))
      where
        add : (e o : Bool) → eqb s.cpu.pc add_jump_target ≡ e → eqb s.cpu.pc add_store_target ≡ o
            → P (jump_added s) × P (store_added s) × (s.cpu.strict ≡ true → P (read_added s)) → P (step s).state
        add true o g k x = simp (p, q, f, g) x.0
        add false true g k x = simp (p, q, f, g, k) x.1
        add false false g k x = simp (p, q, f, g, k) (x.2 (read_strict s (passes s (eqb-true _ _ p)) q f g k))

-- what every step keeps, a run keeps
pub run_keeps : (P : State → Type 0) → ((s : State) → P s → P (step s).state) → (k : ℕ) (s : State) → P s → P (run k s).state
unfolding run
run_keeps P keeps zero s h = h
run_keeps P keeps (suc k) s h = go (eqb (step s).answer answer.done) (run_keeps P keeps k (step s).state (keeps s h))
  where
    go : (b : Bool) → P (run k (step s).state).state → P (cond b (one_more (run k (step s).state)) (ended (step s).answer (step s).state)).state
    go true ih = ih
    go false ih = keeps s h
