-- A session: calls of step and run with any budgets, each by its contract and over what the one before left.
use Rattle.std.specs.Prelude.{◌≡◌, List, [], ◌∷◌, ℕ, ◌+◌}
use Rattle.rules.specs.State.{State}
use Rattle.rules.specs.Run.{Ran, run}
use Rattle.claims.specs.Code.{Code}

-- what is asked for: one step by a step, any budget by a run
pub data Asked : Type 0 where
  one_step_lem : Asked
  steps : ℕ → Asked

abbrev pub budget_of : Asked → ℕ
budget_of one_step_lem = 1
budget_of (steps budget) = budget

-- a call: what was asked, and its answer, what it left and how many steps ran
pub record Call : Type 0 where
  pub asked : Asked
  pub did : Ran

-- what calls in a row leave, and how many steps ran in them all
abbrev pub left_by : State → List Call → State
left_by s [] = s
left_by s (c ∷ cs) = left_by c.did.state cs

abbrev pub steps_of : List Call → ℕ
steps_of [] = 0
steps_of (c ∷ cs) = c.did.count + steps_of cs

-- the outcome of one more call, with the steps before it counted
abbrev pub outcome_of : List Call → Call → Ran
outcome_of cs c = record { answer = c.did.answer; state = c.did.state; count = steps_of cs + c.did.count }

module _ (code : Code) where
  -- the contract allows it
  abbrev pub Allowed : Asked → State → Ran → Type 0
  Allowed one_step_lem s o = code.Steps s o
  Allowed (steps budget) s o = code.Runs budget s o

  abbrev pub Called : State → Call → Type 0
  Called s c = Allowed c.asked s c.did

  -- each call over what the one before left
  abbrev pub Session : State → List Call → Type 0
  Session s [] = Unit {0}
  Session s (c ∷ cs) = Called s c × Session c.did.state cs

  -- a call by its contract is a run of the rules
  pub called : (s : State) (c : Call) → Called s c → c.did ≡ run (budget_of c.asked) s
  called s c = go c.asked c.did
    where
      go : (q : Asked) (o : Ran) → Allowed q s o → o ≡ run (budget_of q) s
      go one_step_lem o = code.steps s o
      go (steps budget) o = code.runs budget s o
