-- By which numbers a caller may give away in a set what it does not own.
use Rattle.std.specs.Prelude.{Bool, List, [], ℕ}
use Rattle.rules.specs.State.{State}
use Rattle.reach.specs.Called.{asked, reaches}
use Rattle.why.specs.declared.next_step.NewSet.{NewSet}
use Rattle.why.specs.declared.next_step.NewSet.TheVariants.{Owned, Jump, Store, Read}

-- the sets of numbers at words
abbrev pub words_open : NewSet → State → List ℕ
words_open Owned s = []
words_open Jump s = s.jumpers
words_open Store s = s.writers
words_open Read s = s.readers

-- and at services
abbrev pub services_open : NewSet → State → List ℕ
services_open Owned s = []
services_open Jump s = s.cpu.services
services_open Store s = []
services_open Read s = []

-- what is asked of them
abbrev pub open_in : NewSet → State → State
open_in set s = asked s.cpu.strict s.cpu.n s.owners (words_open set s) (services_open set s)

-- the addresses that the caller owns or that are open to it
abbrev pub gives : NewSet → State → ℕ → Bool
gives set s = reaches (open_in set s) s.cpu.prev
