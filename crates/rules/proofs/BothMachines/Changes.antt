-- A word that a step changes: who stored, and that the abstract sets before the step allow it.
use Rattle.std.specs.Prelude.{◌≡◌, Bool, ◌||◌, List, ℕ, ◌<◌, get_or}
use Rattle.std.proofs.Math.Path.{refl}
use Rattle.std.proofs.Common.{sym, ◌∙◌, subst, ltb-true, eqb-true, eq-eqb, get_or-set_other}
use Rattle.std.proofs.Math.Bool.{true, false}
use Rattle.std.proofs.Math.Decide.{ℕ_discrete}
use Rattle.std.proofs.Math.Dec.{eqb}
use Rattle.common.specs.Answers as answer
use Rattle.common.specs.Opcodes as is
use Rattle.common.specs.Words.{Decoded, decode}
use Rattle.common.specs.Instructions.{reg, words_after}
use Rattle.common.specs.Services.{isolate, add_jump_target, add_store_target}
use Rattle.common.proofs.Laws.Tests.{both}
use Rattle.paper.specs.Abstract as paper
use Rattle.rules.specs.State.{State, in_memory, has_owner, owner_at, owns, may_store}
use Rattle.rules.specs.Checks.{instruction_at, verdict}
use Rattle.rules.specs.Laws.Tested.{target, word_verdict}
use Rattle.rules.specs.Step.{ran_instruction, isolated, jump_added, store_added, read_added, ran_service, commit, step}
use Rattle.rules.proofs.BothMachines.Match.{Match, Inv, shadow, is_shadow}
use Rattle.rules.proofs.BothMachines.Verdicts.{current_is}
use Rattle.rules.proofs.Laws.Passed.{Passes, passes, store_passed}

-- the word at x after the step is not what it was
abbrev pub Changes : State → ℕ → Type 0
Changes s x = get_or (step s).state.words x 0 ≡ get_or s.words x 0 → ⊥

-- the word at pc is a Store to x, and the one compartment that holds pc has x among its addresses or its store
-- targets, all of this before the step
pub record Stored (s : State) (a : paper.State) (x : ℕ) : Type 0 where
  pub ran : (step s).answer ≡ answer.done
  pub at : s.cpu.pc < s.cpu.n
  pub decodes : (decode (get_or s.words s.cpu.pc 0)).answer ≡ answer.done
  pub store : (decode (get_or s.words s.cpu.pc 0)).op ≡ is.store
  pub target : reg s.cpu.regs (decode (get_or s.words s.cpu.pc 0)).a ≡ x
  pub inside : x < s.cpu.n
  pub holds : paper.A-of a (paper.current a) a.pc ≡ true
  pub one : (c : ℕ) → paper.A-of a c a.pc ≡ true → c ≡ paper.current a
  pub may : (paper.A-of a (paper.current a) x || paper.S-of a (paper.current a) x) ≡ true

module _ (s : State) (C : List paper.Comp) (m : Match s (shadow s C)) (inv : Inv s) (x : ℕ) where
  abbrev i : Decoded
  i = decode (get_or s.words s.cpu.pc 0)

  by_store : verdict s ≡ answer.done → in_memory s s.cpu.pc ≡ true → (get_or (words_after i s.cpu.regs s.words) x 0 ≡ get_or s.words x 0 → ⊥)
      → Stored s (shadow s C) x
  unfolding instruction_at words_after step in_memory owns
  by_store h e d = go (eqb i.op is.store) (ℕ_discrete x (target s i)) refl
    where
      r : Passes s
      r = passes s h

      v : word_verdict s (owner_at s s.cpu.pc) i ≡ answer.done
      v = simp e at r.rest

      c : paper.holder C s.cpu.pc ≡ owner_at s s.cpu.pc
      c = current_is s C m inv r.place

      go : (b : Bool) → Dec (x ≡ target s i) → eqb i.op is.store ≡ b → Stored s (shadow s C) x
      go false q g = absurd (d (simp g))
      go true (no q) g = absurd (d (simp g (get_or-set_other s.words (target s i) x (reg s.cpu.regs i.b) 0 q)))
      go true (yes q) g =
          let p = store_passed s (owner_at s s.cpu.pc) i v g in
          let may : (owns s (owner_at s s.cpu.pc) x || may_store s (owner_at s s.cpu.pc) x) ≡ true = rw q p.may in
          record {
            ran = h;
            at = ltb-true _ _ e;
            decodes = p.decodes;
            store = eqb-true _ _ g;
            target = sym q;
            inside = subst (λ (y : ℕ). y < s.cpu.n) (sym q) (ltb-true _ _ p.inside);
            holds = simp (c, m.A, r.place, eq-eqb (owner_at s s.cpu.pc) (owner_at s s.cpu.pc) refl);
            one = λ k z.
                let y : owns s k s.cpu.pc ≡ true = sym (m.A k s.cpu.pc) ∙ z in
                let t = both (has_owner s s.cpu.pc) (eqb (owner_at s s.cpu.pc) k) y in
                sym (eqb-true _ _ t.1) ∙ sym c;
            may = simp (c, m.A, m.S) may;
          }

  -- no service changes a word
  stored : Changes s x → Stored s (shadow s C) x
  unfolding step commit ran_service ran_instruction isolated jump_added store_added read_added instruction_at
  stored d =
      go (eqb (verdict s) answer.done) (in_memory s s.cpu.pc) (eqb s.cpu.pc isolate) (eqb s.cpu.pc add_jump_target) (eqb s.cpu.pc add_store_target) refl refl
      refl refl refl
    where
      go : (b c p q r : Bool) → eqb (verdict s) answer.done ≡ b → in_memory s s.cpu.pc ≡ c → eqb s.cpu.pc isolate ≡ p → eqb s.cpu.pc add_jump_target ≡ q
          → eqb s.cpu.pc add_store_target ≡ r → Stored s (shadow s C) x
      go false c p q r e f g h k = absurd (d (simp e))
      go true true p q r e f g h k = by_store (eqb-true _ _ e) f (λ z. d (simp (e, f) z))
      go true false true q r e f g h k = absurd (d (simp (e, f, g)))
      go true false false true r e f g h k = absurd (d (simp (e, f, g, h)))
      go true false false false true e f g h k = absurd (d (simp (e, f, g, h, k)))
      go true false false false false e f g h k = absurd (d (simp (e, f, g, h, k)))

pub changed : (s : State) (a : paper.State) → Match s a → Inv s → (x : ℕ) → Changes s x → Stored s a x
changed s a m inv x d =
    let e : a ≡ shadow s a.comps = is_shadow s a m in
    subst (λ (b : paper.State). Stored s b x) (sym e) (stored s a.comps (subst (λ (b : paper.State). Match s b) e m) inv x d)
