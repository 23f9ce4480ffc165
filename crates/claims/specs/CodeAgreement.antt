-- Demand 3 of the code, what it speaks of: a session from an accepted load, and a word that was stored between two of its steps.
use Rattle.std.specs.Prelude.{◌≡◌, Bool, List, ℕ, ◌≤◌, ◌<◌}
use Rattle.paper.specs.Abstract as paper
use Rattle.rules.specs.State.{State}
use Rattle.rules.specs.Run.{run}
use Rattle.rules.specs.Images.{Loaded}
use Rattle.rules.proofs.BothMachines.Changes.{Changes, Stored}
use Rattle.claims.specs.Code.{Code}
use Rattle.claims.specs.Sessions.{Call, Session}

-- the loader accepted the bytes in mode m, over memories of any contents, and then came the calls; no one else touched the record and the
-- memories
pub record Begun (code : Code) (m : Bool) (bytes : List ℕ) (cs : List Call) : Type 0 where
  pub old : State
  pub outcome : Loaded
  pub loads : code.Loads m bytes old outcome
  pub accepted : outcome.answer ≡ 0
  pub calls : Session code outcome.state cs

-- the word at x was changed by the step after `at` steps, which are `from` or more and fewer than `to`: a Store, by the one compartment
-- that holds pc, to an address that it has in A or in S, before that step
pub record StoredBetween (s : State) (a : paper.State) (from to x : ℕ) : Type 0 where
  pub at : ℕ
  pub since : from ≤ at
  pub before : at < to
  pub changes : Changes (run at s).state x
  pub stored : Stored (run at s).state (paper.run at a).state x
