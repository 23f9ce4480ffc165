-- The code as a host sees it: what each call may do by its contract, and that it is what the rules say.
use Rattle.std.specs.Prelude.{◌≡◌, Bool, cond, List, ℕ, eqb}
use Rattle.common.specs.Words as words
use Rattle.rules.specs.State.{State}
use Rattle.rules.specs.Step as rules
use Rattle.rules.specs.Run.{Ran, run}
use Rattle.rules.specs.Images as images

-- what the contracts of load, check, step, run, decode, encode and write allow, and that each such outcome is what the rules say; a step is seen
-- as a run of one step
pub record Code : Type 1 where
  pub Loads : Bool → List ℕ → State → images.Loaded → Type 0
  pub Checks : List ℕ → images.Checked → Type 0
  pub Steps : State → Ran → Type 0
  pub Runs : ℕ → State → Ran → Type 0
  pub Decodes : ℕ → words.Decoded → Type 0
  pub Encodes : ℕ → ℕ → ℕ → ℕ → words.Encoded → Type 0
  pub Writes : List ℕ → List ℕ → ℕ → List ℕ → images.Written → Type 0
  pub loads : (m : Bool) (bytes : List ℕ) (old : State) (o : images.Loaded) → Loads m bytes old o → o ≡ images.load m bytes old
  pub checks : (bytes : List ℕ) (o : images.Checked) → Checks bytes o → o ≡ images.check bytes
  pub steps : (s : State) (o : Ran) → Steps s o → o ≡ run 1 s
  pub runs : (budget : ℕ) (s : State) (o : Ran) → Runs budget s o → o ≡ run budget s
  pub decodes : (word : ℕ) (o : words.Decoded) → Decodes word o → o ≡ words.decode word
  pub encodes : (op a b low : ℕ) (o : words.Encoded) → Encodes op a b low o → o ≡ words.encode op a b low
  pub writes : (ws regs : List ℕ) (entry : ℕ) (out : List ℕ) (o : images.Written) → Writes ws regs entry out o → o ≡ images.write ws regs entry out

-- a step as a run of one step
abbrev pub one_step : rules.Stepped → Ran
one_step o = record { answer = o.answer; state = o.state; count = cond (eqb o.answer 0) 1 0 }
