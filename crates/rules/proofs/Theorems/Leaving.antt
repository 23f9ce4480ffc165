-- "Letting Bnz arrive as a jump: it never leaves its compartment": only a Jump, a Jal or a service leaves one.
use Rattle.std.specs.Prelude.{◌≡◌, refl, true, false, ℕ}
use Rattle.std.proofs.Common.{sym, ap, ◌∙◌, subst, eqb-true, ne_eqb}
use Rattle.std.proofs.Math.Bool.{or-false}
use Rattle.common.specs.Answers as answer
use Rattle.common.specs.Opcodes as is
use Rattle.common.specs.Words.{Decoded}
use Rattle.common.specs.Instructions.{jumps}
use Rattle.rules.specs.State.{State, in_memory, owner_at}
use Rattle.rules.specs.Checks.{instruction_at}
use Rattle.rules.specs.Laws.Tested.{arrives}
use Rattle.rules.specs.Step.{Stepped, ran_instruction, commit, step}
use Rattle.rules.proofs.Laws.StepLaws.{answer_is, step_runs}

instruction_ran : (s : State) → (step s).answer ≡ answer.done → in_memory s s.cpu.pc ≡ true → (step s).state ≡ ran_instruction s (owner_at s s.cpu.pc) (instruction_at s)
unfolding commit
instruction_ran s h m = ap (λ (o : Stepped). o.state) (step_runs s (sym (answer_is s) ∙ h)) ∙ simp m

-- with the flag cleared, only the owner may go on
owner_goes_on : (s : State) → s.cpu.jumped ≡ false → arrives s ≡ true → owner_at s s.cpu.pc ≡ s.cpu.prev
unfolding arrives
owner_goes_on s f a = eqb-true _ _ (simp (f, or-false) at a)

flag_cleared : (s : State) (c : ℕ) (i : Decoded) → (i.op ≡ is.jump → ⊥) → (i.op ≡ is.jal → ⊥) → (ran_instruction s c i).cpu.jumped ≡ false
unfolding ran_instruction jumps
flag_cleared s c i j l = simp (ne_eqb i.op is.jump j, ne_eqb i.op is.jal l)

number_moved : (s : State) (c : ℕ) (i : Decoded) → (ran_instruction s c i).cpu.prev ≡ c
unfolding ran_instruction
number_moved s c i = refl

-- whatever the word, Bnz and the step to the next word among them: where the next step arrives, it is the same owner's
pub stays_inside : (s : State) → (step s).answer ≡ answer.done → in_memory s s.cpu.pc ≡ true → ((instruction_at s).op ≡ is.jump → ⊥)
    → ((instruction_at s).op ≡ is.jal → ⊥) → arrives (step s).state ≡ true → owner_at (step s).state (step s).state.cpu.pc ≡ owner_at s s.cpu.pc
stays_inside s h m j l =
    let c : ℕ = owner_at s s.cpu.pc in
    let t : State = ran_instruction s c (instruction_at s) in
    subst (λ (t : State). arrives t ≡ true → owner_at t t.cpu.pc ≡ c) (sym (instruction_ran s h m))
    (λ a. owner_goes_on t (flag_cleared s c (instruction_at s) j l) a ∙ number_moved s c (instruction_at s))
