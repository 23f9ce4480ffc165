-- Rows of the code, what is said of them: calls in a row, each lent the rows that the one before left, and such calls from an accepted load.
use Rattle.std.specs.Prelude.{◌≡◌, Bool, List, [], ◌∷◌, ℕ, length}
use Rattle.rules.specs.Compartments.{numbers}
use Rattle.rules.specs.State.{State}
use Rattle.rules.specs.Run.{Ran}
use Rattle.rules.specs.Images.{Loaded}
use Rattle.rules.specs.Rows.{Row, LentStepped, LentRan}
use Rattle.rules.proofs.Theorems.Rows.{told}
use Rattle.claims.specs.Lending.{Lending}
use Rattle.claims.specs.Lending as lending
use Rattle.claims.specs.Code.{Code}
use Rattle.claims.specs.Sessions.{Asked, one_step_lem, steps, Call}

-- a call with a table: what was asked, and its answer, what it left, the rows too, and how many steps ran
pub record LentCall : Type 0 where
  pub asked : Asked
  pub did : LentRan

-- the same calls seen without rows
abbrev pub seen : List LentCall → List Call
seen [] = []
seen (c ∷ cs) = record { asked = c.asked; did = told c.did } ∷ seen cs

-- the rows that calls in a row leave
abbrev pub left_rows : List Row → List LentCall → List Row
left_rows rows [] = rows
left_rows rows (c ∷ cs) = left_rows c.did.rows cs

module _ (l : Lending) where
  -- the contract allows it
  abbrev pub LentAllowed : Asked → State → List Row → LentRan → Type 0
  LentAllowed one_step_lem s rows o = l.Steps s rows o
  LentAllowed (steps budget) s rows o = l.Runs budget s rows o

  -- each call over the record, the memories and the rows that the one before left
  abbrev pub LentSession : State → List Row → List LentCall → Type 0
  LentSession s rows [] = Unit {0}
  LentSession s rows (c ∷ cs) = LentAllowed c.asked s rows c.did × LentSession c.did.state c.did.rows cs

  -- the loader was lent 64 rows and accepted the bytes in mode m, and then came the calls, each lent the memories and the rows that the load
  -- was lent; no one else touched them
  pub record LentBegun (m : Bool) (bytes : List ℕ) (cs : List LentCall) : Type 0 where
    pub old : State
    pub table : List Row
    pub all : length table ≡ numbers
    pub outcome : LentStepped
    pub loads : l.Loads m bytes old table outcome
    pub accepted : outcome.answer ≡ 0
    pub calls : LentSession outcome.state outcome.rows cs

-- a call that was lent 64 rows, seen without them, is a call of the code
pub record Sees (l : Lending) (code : Code) : Type 1 where
  pub load : (m : Bool) (bytes : List ℕ) (old : State) (o : Loaded) → lending.Loads l m bytes old o → code.Loads m bytes old o
  pub step : (s : State) (o : Ran) → lending.Steps l s o → code.Steps s o
  pub run : (budget : ℕ) (s : State) (o : Ran) → lending.Runs l budget s o → code.Runs budget s o
