-- What strict mode is for, of every state: what a Load that ran may read, and who becomes a reader by whose call.
use Rattle.std.specs.Prelude.{◌≡◌, refl, Bool, true, false, ◌&&◌, ◌||◌, ◌⊎◌, ℕ, eqb}
use Rattle.std.proofs.Common.{sym, ap, ◌∙◌, subst, inl, inr, ⊎_elim, arith, ltb-true, eqb-true, eq-eqb}
use Rattle.common.specs.Answers as answer
use Rattle.common.specs.Opcodes as is
use Rattle.common.specs.Instructions.{reg}
use Rattle.common.specs.AddressSets.{in_set}
use Rattle.common.proofs.Laws.AddressSetLaws.{within_at}
use Rattle.common.proofs.Laws.Tests.{both}
use Rattle.rules.specs.Compartments.{empty}
use Rattle.rules.specs.State.{State, in_memory, owner_at, readers_at, owns, may_read, reads}
use Rattle.rules.specs.Checks.{instruction_at, set_r}
use Rattle.rules.specs.Laws.Tested.{target}
use Rattle.rules.specs.Step.{ran_instruction, jump_added, store_added, read_added, step}
use Rattle.rules.proofs.Laws.FormLaws.{lent_memories, numbers_good}
use Rattle.rules.proofs.Laws.Passed.{Passes, passes, load_passed, Adds}
use Rattle.rules.proofs.Laws.StepLaws.{answer_is, step_cases}
use Rattle.rules.proofs.Laws.JoinLaws.{join_one, read_strict}
use Rattle.rules.proofs.BothMachines.ReadTags.{read_tags}

-- ---- a Load that ran read a word that the instruction's owner owned, or was a reader of, before the step

pub load_read : (s : State) → s.cpu.strict ≡ true → (step s).answer ≡ answer.done → in_memory s s.cpu.pc ≡ true → (instruction_at s).op ≡ is.load
    → (in_memory s (target s (instruction_at s)) ≡ true)
    × ((owns s (owner_at s s.cpu.pc) (target s (instruction_at s)) || may_read s (owner_at s s.cpu.pc) (target s (instruction_at s))) ≡ true)
unfolding reads
load_read s e h m o =
    let p = passes s (sym (answer_is s) ∙ h) in
    let l = load_passed s (owner_at s s.cpu.pc) (instruction_at s) (simp m at p.rest) (eq-eqb _ _ o) in
    (l.inside, simp e at l.may)

-- ---- who becomes a reader

-- c may read x after the step and could not before: either c called add read target for a word of its own, or c is the compartment that an
-- isolate made, and its maker, who owned x or was a reader there, put x in R'
pub data NewReader (s : State) (c x : ℕ) : Type 0 where
  added : c ≡ s.cpu.prev → x ≡ reg s.cpu.regs 1 → owns s s.cpu.prev x ≡ true → NewReader s c x
  given : c ≡ s.cpu.next → in_set (set_r s) x ≡ true → (owns s s.cpu.prev x || may_read s s.cpu.prev x) ≡ true → NewReader s c x

abbrev pub Was : State → ℕ → ℕ → State → Type 0
Was s c x t = may_read t c x ≡ true → (may_read s c x ≡ true) ⊎ NewReader s c x

joins : (b t : Bool) → (b || t) ≡ true → (b ≡ true) ⊎ (t ≡ true)
joins true t h = inl refl
joins false t h = inr h

read_added_lem : (s : State) → Passes s → Adds s → s.cpu.strict ≡ true → (c x : ℕ)
    → may_read (read_added s) c x ≡ (may_read s c x || (eqb x (reg s.cpu.regs 1) && eqb c s.cpu.prev))
unfolding read_added in_memory
read_added_lem s p a z c x =
    let l = lent_memories s p.formed in
    let k = numbers_good s p.formed in
    read_strict (read_added s) c x z
    ∙ join_one s.cpu.n s.readers s.cpu.prev (omega (arith, l.readers z, l.enough)) (omega (arith, k.prev, k.high)) c x (reg s.cpu.regs 1) empty
    (ltb-true _ _ a.named)
    ∙ ap (λ (b : Bool). b || (eqb x (reg s.cpu.regs 1) && eqb c s.cpu.prev)) (sym (read_strict s c x z))

pub new_reader : (s : State) (c x : ℕ) → Was s c x (step s).state
unfolding ran_instruction jump_added store_added may_read readers_at in_memory
new_reader s c x =
    step_cases s (Was s c x) inl (λ p m v. inl)
    (λ p m is h. ⊎_elim inl
    (λ (b : (in_set (set_r s) x && eqb c s.cpu.next) ≡ true).
    let t = both (in_set (set_r s) x) _ b in
    inr (given (eqb-true _ _ t.1) t.0 (within_at (set_r s) (λ x. owns s s.cpu.prev x || may_read s s.cpu.prev x) x is.R t.0)))
    (joins _ _ (sym (read_tags s p m is c x) ∙ h)))
    (λ p m a. (
      inl,
      inl,
      λ z h. ⊎_elim inl
          (λ (b : (eqb x (reg s.cpu.regs 1) && eqb c s.cpu.prev) ≡ true).
          let t = both (eqb x (reg s.cpu.regs 1)) _ b in
          let e : x ≡ reg s.cpu.regs 1 = eqb-true _ _ t.0 in
          inr (added (eqb-true _ _ t.1) e (subst (λ (y : ℕ). owns s s.cpu.prev y ≡ true) (sym e) a.mine)))
          (joins _ _ (sym (read_added_lem s p a z c x) ∙ h)),
    ))
