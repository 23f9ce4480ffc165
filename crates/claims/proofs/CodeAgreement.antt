-- Demand 3 of the code, by value or for C: of any session from an accepted load, and of any call after it.
use Rattle.std.specs.Prelude.{◌≡◌, refl, Bool, true, false, List, ◌↔◌, ℕ, ◌+◌, ◌≤◌, ◌<◌, leb, get_or, length}
use Rattle.std.proofs.Common.{sym, ap, ◌∙◌, subst, arith, leb-true, leb-false}
use Rattle.rules.specs.State.{State}
use Rattle.rules.specs.Run.{Ran, run}
use Rattle.rules.specs.Images.{Loaded, load}
use Rattle.rules.proofs.BothMachines.Runs.{Wants65}
use Rattle.rules.proofs.BothMachines.Changes.{Changes}
use Rattle.rules.proofs.BothMachines.Agreement.{BelowNext}
use Rattle.rules.proofs.BothMachines.Agreement as agreement
use Rattle.claims.specs.Demands as demands
use Rattle.claims.specs.Demands.{UpTo, start, abstract, Agreed, Parted}
use Rattle.claims.specs.Code.{Code}
use Rattle.claims.specs.Sessions.{budget_of, Call, left_by, steps_of, outcome_of, Called, called}
use Rattle.claims.proofs.Sessions.{then_run, session_run, call_run, changing_step}
use Rattle.claims.specs.CodeAgreement.{Begun, StoredBetween}

module _ (code : Code) (m : Bool) (bytes : List ℕ) (cs : List Call) (b : Begun code m bytes cs) where
  -- what the loader left, by the rules
  abbrev loaded : State
  loaded = (load m bytes b.old).state

  -- what the session left: a state, and the number of its steps
  abbrev left : State
  left = left_by b.outcome.state cs

  is_load : b.outcome ≡ load m bytes b.old
  is_load = code.loads m bytes b.old b.outcome b.loads

  ok : (load m bytes b.old).answer ≡ 0
  ok = sym (ap (λ (x : Loaded). x.answer) is_load) ∙ b.accepted

  -- the session's steps, so many as ran in its calls, are steps of the rules that all ran, and it left what they leave
  pub left_run : run (steps_of cs) loaded ≡ record { answer = 0; state = left; count = steps_of cs }
  left_run =
      subst (λ (x : Loaded). run (steps_of cs) x.state ≡ record { answer = 0; state = left; count = steps_of cs }) is_load
      (session_run code b.outcome.state cs b.calls)

  -- so many steps of the abstract machine ran too, and the two agree in words, registers, position and sets
  pub left_agrees : Agreed (record { answer = 0; state = left; count = steps_of cs }) (abstract m bytes (steps_of cs))
  left_agrees =
      subst (λ (x : Ran). Agreed x (abstract m bytes (steps_of cs))) left_run (go (leb (length (abstract m bytes (steps_of cs)).state.comps) 64) refl)
    where
      go : (t : Bool) → leb (length (abstract m bytes (steps_of cs)).state.comps) 64 ≡ t → Agreed (run (steps_of cs) loaded) (abstract m bytes (steps_of cs))
      go true e = demands.agree m bytes b.old ok (steps_of cs) (leb-true _ _ e)
      -- had they parted, these steps would have ended with 13
      go false e =
          let p = demands.part m bytes b.old ok (steps_of cs) (leb-false _ _ e) in
          let z : (run (steps_of cs) loaded).answer ≡ 0 = ap (λ (x : Ran). x.answer) left_run in
          let t : (run (steps_of cs) loaded).answer ≡ 13 = p.stops in
          absurd (omega (arith, z, t))

  -- no address has as its owner, in its I or W or among its readers a number that is not used
  pub left_numbers : BelowNext left
  left_numbers = subst (λ (x : Ran). BelowNext x.state) left_run (agreement.numbers_below_next m bytes b.old ok (steps_of cs))

  -- a step of the rules that changes a word, after j steps
  between : (from to j x : ℕ) → from ≤ j → j < to → Changes (run j loaded).state x → StoredBetween loaded (start m bytes) from to x
  between from to j x f t w = record { at = j; since = f; before = t; changes = w; stored = demands.changed_words m bytes b.old ok j x w }

  -- a word that is not what the loader left
  pub left_words : (x : ℕ) → (get_or left.words x 0 ≡ get_or loaded.words x 0 → ⊥) → StoredBetween loaded (start m bytes) 0 (steps_of cs) x
  left_words x d =
      let f = changing_step (steps_of cs) loaded x (λ z. d (sym (ap (λ (r : Ran). get_or r.state.words x 0) left_run) ∙ z)) in
      let l : f.0 < (run (steps_of cs) loaded).count = f.1 in
      let k : (run (steps_of cs) loaded).count ≡ steps_of cs = ap (λ (r : Ran). r.count) left_run in
      between 0 (steps_of cs) f.0 x (omega arith) (omega (arith, l, k)) f.2

  -- ---- one more call, with any budget

  module _ (c : Call) (h : Called code left c) where
    -- all the steps that were asked for
    abbrev n : ℕ
    n = steps_of cs + budget_of c.asked

    -- its answer, what it left, and how many steps ran in all
    abbrev o : Ran
    o = outcome_of cs c

    pub call_is : o ≡ run n loaded
    call_is = subst (λ (x : Loaded). o ≡ run n x.state) is_load (call_run code b.outcome.state cs b.calls c h)

    pub agree : length (abstract m bytes n).state.comps ≤ 64 → Agreed o (abstract m bytes n)
    agree f = subst (λ (x : Ran). Agreed x (abstract m bytes n)) (sym call_is) (demands.agree m bytes b.old ok n f)

    pub part : 64 < length (abstract m bytes n).state.comps → Parted o n (start m bytes)
    part f = subst (λ (x : Ran). Parted x n (start m bytes)) (sym call_is) (demands.part m bytes b.old ok n f)

    -- 13 exactly where the abstract machine, all 64 compartments being used, makes another within these steps
    pub thirteen : (c.did.answer ≡ 13) ↔ ((j : ℕ) × (j < n) × Wants65 j (start m bytes))
    thirteen = subst (λ (x : Ran). (x.answer ≡ 13) ↔ ((j : ℕ) × (j < n) × Wants65 j (start m bytes))) (sym call_is) (demands.thirteen m bytes b.old ok n)

    -- 14 and 15 never arise
    pub answers : UpTo 13 m c.did.answer
    answers = subst (λ (x : Ran). UpTo 13 m x.answer) (sym call_is) (demands.answers m bytes b.old ok n).0

    -- a word that is not what it was before the call
    pub changed_words : (x : ℕ) → (get_or c.did.state.words x 0 ≡ get_or left.words x 0 → ⊥)
        → StoredBetween loaded (start m bytes) (steps_of cs) (steps_of cs + c.did.count) x
    changed_words x d =
        let e : c.did ≡ run (budget_of c.asked) left = called code left c h in
        let f = changing_step (budget_of c.asked) left x (λ z. d (ap (λ (r : Ran). get_or r.state.words x 0) e ∙ z)) in
        let l : f.0 < (run (budget_of c.asked) left).count = f.1 in
        let k : c.did.count ≡ (run (budget_of c.asked) left).count = ap (λ (r : Ran). r.count) e in
        between (steps_of cs) (steps_of cs + c.did.count) (steps_of cs + f.0) x (omega arith) (omega (arith, l, k))
        (subst (λ (r : Ran). Changes r.state x) (sym (then_run (steps_of cs) f.0 loaded left left_run)) f.2)
