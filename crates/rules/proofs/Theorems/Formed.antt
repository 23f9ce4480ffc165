-- A step that runs leaves a state that 14 lets pass, so a run answers 14 at its first step or never.
use Rattle.std.specs.Prelude.{◌≡◌, true, false, ℕ, ◌≤◌, ◌<◌, eqb}
use Rattle.std.proofs.Common.{sym, ap, ◌∙◌, arith, ltb-true}
use Rattle.std.proofs.Math.Bool.{and-false}
use Rattle.std.proofs.lemmas.Bool.{eqb-false}
use Rattle.common.specs.Answers as answer
use Rattle.common.specs.Services.{is_service}
use Rattle.common.proofs.Laws.ServiceLaws.{no_service}
use Rattle.common.proofs.Laws.CheckLaws.{eqb_cond, cond_same}
use Rattle.common.proofs.Laws.WordLaws.{Decodes, runs, unknown_opcode, stray}
use Rattle.rules.specs.State.{State, in_memory}
use Rattle.rules.specs.Checks.{verdict}
use Rattle.rules.specs.Laws.Tested.{numbered, seated, formed, word_verdict, service_verdict, isolate_verdict, instruction_verdict, store_verdict, load_verdict, add_verdict, tested}
use Rattle.rules.specs.Step.{Stepped, ran_instruction, isolated, jump_added, store_added, read_added, step}
use Rattle.rules.specs.Run.{run}
use Rattle.rules.proofs.Laws.FormLaws.{numbered_is, is_formed, n_most, numbers_good, service_below, at_service, good_owner}
use Rattle.rules.proofs.Laws.TestedRows.{instruction_answers, verdict_tested}
use Rattle.rules.proofs.Laws.Passed.{number_left}
use Rattle.rules.proofs.Laws.StepLaws.{answer_is, step_cases, run_keeps}
use Rattle.rules.proofs.Theorems.Stays.{ended_at}
use Rattle.rules.proofs.Theorems.Rest.{step_sized}

-- the numbers of a state, and where its pc is
record Held (s : State) : Type 0 where
  numbers : numbered s ≡ true
  seat : seated s ≡ true

-- a memory word is no service
word_plain : (s : State) → formed s ≡ true → (x : ℕ) → in_memory s x ≡ true → is_service s.cpu.strict x ≡ false
unfolding in_memory
word_plain s h x m =
    let l : x < s.cpu.n = ltb-true _ _ m in
    let k : s.cpu.n ≤ 2048 = n_most s h in
    no_service s.cpu.strict x (omega arith)

step_held : (s : State) → formed s ≡ true → Held (step s).state
unfolding ran_instruction isolated jump_added store_added read_added seated
step_held s f =
    let form = is_formed s f in
    let num = numbers_good s f in
    step_cases s Held (record { numbers = form.numbered; seat = form.seated })
    (λ p m v. let o = good_owner s m p.owner in record {
      numbers = numbered_is (ran_instruction s _ _) (record { low = num.low; high = num.high; prev = o.below });
      seat = simp o.plain;
    })
    (λ p m is. let r = service_below s f _ (at_service s _ p.place m) in record {
      numbers = numbered_is (isolated s) (record { low = omega (arith, num.low); high = number_left s _ f is; prev = omega (arith, r) });
      seat = simp (word_plain s f _ is.back, and-false);
    })
    (λ p m a. let r = service_below s f _ (at_service s _ p.place m) in (
      record { numbers = numbered_is (jump_added s) (record { low = num.low; high = num.high; prev = r }); seat = simp (word_plain s f _ a.back, and-false) },
      record { numbers = numbered_is (store_added s) (record { low = num.low; high = num.high; prev = r }); seat = simp (word_plain s f _ a.back, and-false) },
      λ z. record { numbers = numbered_is (read_added s) (record { low = num.low; high = num.high; prev = r }); seat = simp (word_plain s f _ a.back, and-false) },
    ))

-- ---- the theorems

pub step_formed : (s : State) → formed s ≡ true → formed (step s).state ≡ true
unfolding formed
step_formed s f = let h = step_held s f in simp (step_sized s, (is_formed s f).sized, h.numbers, h.seat)

pub run_formed : (k : ℕ) (s : State) → formed s ≡ true → formed (run k s).state ≡ true
run_formed k s f = run_keeps (λ (t : State). formed t ≡ true) step_formed k s f

-- an answer of 14 is there only where the form is bad
bad_form_only : (s : State) → formed s ≡ true → eqb (verdict s) answer.bad_form ≡ false
unfolding tested word_verdict instruction_verdict store_verdict load_verdict service_verdict isolate_verdict add_verdict
bad_form_only s h = ap (λ (v : ℕ). eqb v answer.bad_form) (verdict_tested s) ∙ simp (h, decoded (instruction_answers s), eqb_cond, cond_same)
  where
    decoded : {k : ℕ} → Decodes k → eqb k answer.bad_form ≡ false
    decoded (runs e) = simp e
    decoded (unknown_opcode e) = simp e
    decoded (stray e) = simp e

pub run_no_bad_form : (k : ℕ) (s : State) → formed s ≡ true → (run k s).answer ≡ answer.bad_form → ⊥
run_no_bad_form k s f h =
    let e = ended_at k s (λ z. let y : ◌≡◌ {A = ℕ} 14 0 = sym h ∙ z in absurd (omega arith)) in
    let v : verdict (run k s).state ≡ answer.bad_form = sym (answer_is (run k s).state) ∙ ap (λ (o : Stepped). o.answer) e ∙ h in
    eqb-false _ _ (bad_form_only (run k s).state (run_formed k s f)) v
