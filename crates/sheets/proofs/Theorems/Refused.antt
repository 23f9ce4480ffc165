-- The target word of an answer 7: the instruction at pc is a Store, and its owner is not among the writers that are told.
use Rattle.std.specs.Prelude.{◌≡◌, refl, Bool, true, false, cond, ◌&&◌, ◌||◌, not, List, [], ◌∷◌, ℕ, eqb}
use Rattle.std.proofs.Common.{sym, ap, ◌∙◌, arith, eq-eqb}
use Rattle.std.proofs.Math.Bool.{or-true, or-false}
use Rattle.common.specs.Answers as answer
use Rattle.common.specs.Opcodes as is
use Rattle.common.specs.Tables.{Check, first_of}
use Rattle.common.proofs.Laws.Tests.{clash}
use Rattle.rules.specs.Compartments.{member}
use Rattle.rules.specs.State.{State}
use Rattle.rules.specs.Checks.{owner, is_op, named, store_forbidden, checks, verdict}
use Rattle.rules.specs.Step.{Stepped}
use Rattle.rules.specs.Run.{run}
use Rattle.rules.proofs.Laws.StepLaws.{answer_is}
use Rattle.rules.proofs.Theorems.Stays.{ended_at}
use Rattle.sheets.specs.Lines.{target_writers}

-- some check with this number holds
unfoldable some : ℕ → List Check → Bool
some k [] = false
some k (c ∷ cs) = (eqb c.number k && c.holds) || some k cs

first_holds : (k : ℕ) (cs : List Check) → (k ≡ answer.done → ⊥) → first_of cs ≡ k → some k cs ≡ true
unfolding first_of some
first_holds k [] n h = absurd (n (sym h))
first_holds k (c ∷ cs) n h = go c.holds refl h (first_holds k cs n)
  where
    go : (b : Bool) → c.holds ≡ b → cond c.holds c.number (first_of cs) ≡ k → (first_of cs ≡ k → some k cs ≡ true) → some k (c ∷ cs) ≡ true
    go true e g ih = let m : c.number ≡ k = simp e at g in simp (e, eq-eqb c.number k m)
    go false e g ih = let m : first_of cs ≡ k = simp e at g in simp (ih m, or-true)

forbidden : (s : State) → verdict s ≡ answer.store_forbidden → store_forbidden s ≡ true
unfolding verdict checks some
forbidden s h = let t = first_holds answer.store_forbidden (checks s) (λ z. absurd (omega arith)) h in simp or-false at t

split : (a x y : Bool) → (a && not (x || y)) ≡ true → (a ≡ true) × (y ≡ false)
split true false false h = (refl, refl)
split true true y h = clash h refl
split true false true h = clash h refl
split false x y h = clash h refl

asked : (s : State) → store_forbidden s ≡ true → (is_op s is.store ≡ true) × (member (target_writers s) (owner s s.cpu.pc) ≡ false)
unfolding target_writers store_forbidden
asked s h =
    split (is_op s is.store) (eqb (owner s (named s)) (owner s s.cpu.pc)) (member (target_writers s) (owner s s.cpu.pc)) h

pub refused_store : (k : ℕ) (s : State) → (run k s).answer ≡ answer.store_forbidden
    → (is_op (run k s).state is.store ≡ true) × (member (target_writers (run k s).state) (owner (run k s).state (run k s).state.cpu.pc) ≡ false)
refused_store k s h =
    let e = ended_at k s (λ z. let y : ◌≡◌ {A = ℕ} 7 0 = sym h ∙ z in absurd (omega arith)) in
    let v : verdict (run k s).state ≡ answer.store_forbidden = sym (answer_is (run k s).state) ∙ ap (λ (o : Stepped). o.answer) e ∙ h in
    asked (run k s).state (forbidden (run k s).state v)
