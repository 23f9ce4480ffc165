-- One step of both machines: the same, or the tagged one answers 13 where the abstract one makes a 65th compartment.
use Rattle.std.specs.Prelude.{◌≡◌, Bool, List, ◌⊎◌, suc, eqb, length}
use Rattle.std.proofs.Common.{sym, ap, ◌∙◌, subst, inl, inr, arith, eqb-true}
use Rattle.std.proofs.Math.Path.{refl}
use Rattle.std.proofs.Math.Bool.{true, false}
use Rattle.common.specs.Answers as answer
use Rattle.common.specs.Services.{isolate, add_jump_target, add_store_target}
use Rattle.common.proofs.Laws.Tests.{both}
use Rattle.paper.specs.Abstract as paper
use Rattle.paper.proofs.Laws.RunLaws.{abstract_answers, not_thirteen, isolated_more}
use Rattle.rules.specs.Compartments.{numbers}
use Rattle.rules.specs.State.{State, in_memory}
use Rattle.rules.specs.Checks.{instruction_at, verdict}
use Rattle.rules.specs.Laws.Tested.{service_verdict}
use Rattle.rules.specs.Step.{ran_service, commit, step}
use Rattle.rules.proofs.BothMachines.Match.{Match, Inv, shadow, is_shadow}
use Rattle.rules.proofs.BothMachines.Verdicts.{memory_is, word_is, last, parted, verdict_is}
use Rattle.rules.proofs.Laws.FormLaws.{outside}
use Rattle.rules.proofs.Laws.StepLaws.{read_strict}
use Rattle.rules.proofs.Laws.Passed.{Passes, passes, add_inside, isolate_passed}
use Rattle.rules.proofs.BothMachines.Keeps.{step_inv}
use Rattle.rules.proofs.BothMachines.Commits.{instruction_match, jump_match, store_match, read_match}
use Rattle.rules.proofs.BothMachines.Isolate.{isolate_match}

pub record Same (s : State) (a : paper.State) : Type 0 where
  pub answers : (step s).answer ≡ (paper.step a).answer
  pub not13 : (step s).answer ≡ answer.no_number → ⊥
  pub match : Match (step s).state (paper.step a).state
  pub inv : Inv (step s).state

pub record Parts (s : State) (a : paper.State) : Type 0 where
  pub stops : (step s).answer ≡ answer.no_number
  pub state : (step s).state ≡ s
  pub full : s.cpu.next ≡ numbers
  pub makes : (paper.step a).answer ≡ answer.done
  pub another : length (paper.step a).state.comps ≡ suc numbers

module _ (s : State) (C : List paper.Comp) (m : Match s (shadow s C)) (inv : Inv s) where
  abbrev a : paper.State
  a = shadow s C

  abbrev After : Type 0
  After = Match (commit s) (paper.commit a)

  instruction_commit : Passes s → in_memory s s.cpu.pc ≡ true → After
  unfolding commit paper.commit
  instruction_commit p e =
      let k : paper.in_memory a s.cpu.pc ≡ true = memory_is s C m inv s.cpu.pc ∙ e in
      simp (e, k, word_is s C m inv e) (instruction_match s C m inv (instruction_at s) p (simp e at p.rest))

  service_commit : Passes s → in_memory s s.cpu.pc ≡ false → After
  unfolding commit paper.commit ran_service paper.ran_service service_verdict
  service_commit p e = go (eqb s.cpu.pc isolate) (eqb s.cpu.pc add_jump_target) (eqb s.cpu.pc add_store_target) refl refl refl
    where
      k : paper.in_memory a s.cpu.pc ≡ false
      k = memory_is s C m inv s.cpu.pc ∙ e

      v : service_verdict s s.cpu.prev ≡ answer.done
      v = simp e at p.rest

      go : (b c d : Bool) → eqb s.cpu.pc isolate ≡ b → eqb s.cpu.pc add_jump_target ≡ c → eqb s.cpu.pc add_store_target ≡ d → After
      go true c d f g h = simp (e, k, f) (isolate_match s C m inv p e (isolate_passed s s.cpu.prev (simp f at v)))
      go false true d f g h = simp (e, k, f, g) (jump_match s C m inv p e (add_inside s p e (simp f at v)))
      go false false true f g h = simp (e, k, f, g, h) (store_match s C m inv p e (add_inside s p e (simp f at v)))
      go false false false f g h = simp (e, k, f, g, h) (read_match s C m inv p e (add_inside s p e (simp f at v)) (read_strict s p e f g h))

  commit_both : Passes s → After
  commit_both p = go (in_memory s s.cpu.pc) refl
    where
      go : (b : Bool) → in_memory s s.cpu.pc ≡ b → After
      go true e = instruction_commit p e
      go false e = service_commit p e

  step_shadow : Same s a ⊎ Parts s a
  unfolding step paper.step paper.commit paper.ran_service in_memory
  step_shadow = go (eqb (paper.verdict a) answer.done) (last s) refl refl
    where
      vi : verdict s ≡ parted (last s) (paper.verdict a)
      vi = verdict_is s C m inv

      go : (b c : Bool) → eqb (paper.verdict a) answer.done ≡ b → last s ≡ c → Same s a ⊎ Parts s a
      go false c e f =
          let q : verdict s ≡ paper.verdict a = vi ∙ simp e in
          inl record { answers = q; not13 = λ z. not_thirteen s.cpu.strict (paper.verdict a) (abstract_answers a) (sym q ∙ z); match = simp (q, e) m; inv = step_inv s inv }
      go true false e f =
          let q : verdict s ≡ paper.verdict a = vi ∙ simp (e, f) in
          let z : paper.verdict a ≡ 0 = eqb-true _ _ e in
          let w = commit_both (passes s (q ∙ z)) in
          inl record { answers = q; not13 = λ y. let y' : verdict s ≡ 13 = y in omega arith; match = simp (q, e) w; inv = step_inv s inv }
      go true true e f =
          let q : verdict s ≡ 13 = vi ∙ simp (e, f) in
          let t = both (eqb s.cpu.pc isolate) (eqb s.cpu.next numbers) f in
          let p : s.cpu.pc ≡ isolate = eqb-true _ _ t.0 in
          let n : s.cpu.next ≡ numbers = eqb-true _ _ t.1 in
          let o : paper.in_memory a s.cpu.pc ≡ false =
          memory_is s C m inv s.cpu.pc ∙ outside s inv.formed s.cpu.pc (omega arith) in
          let g : length (paper.commit a).comps ≡ suc numbers = simp (o, t.0) (isolated_more a ∙ ap suc (m.count ∙ n)) in
          inr record { stops = q; state = simp q; full = n; makes = eqb-true _ _ e; another = simp e g }

pub one_step_lem : (s : State) (a : paper.State) → Match s a → Inv s → Same s a ⊎ Parts s a
one_step_lem s a m inv =
    let e : a ≡ shadow s a.comps = is_shadow s a m in
    subst (λ (b : paper.State). Same s b ⊎ Parts s b) (sym e) (step_shadow s a.comps (subst (λ (b : paper.State). Match s b) e m) inv)
