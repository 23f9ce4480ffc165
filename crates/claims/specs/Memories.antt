-- The memories lent to a call, where they stand among its parameters, on entry or at exit.
use Rattle.std.specs.Prelude.{List, ℕ}
use Rattle.std.specs.Borrow.{MutBor}
use Rattle.rules.specs.State.{State}
use Rattle.machine.specs.declared.Processor.{Processor}
use Rattle.machine.specs.Views.{state_of}
use Rattle.loader.specs.Views.{lent}

-- owners, jumpers, writers and readers, and what follows them; the same behind words
abbrev pub Four : Type 0 → Type 0
Four More = MutBor (List ℕ) × (MutBor (List ℕ) × (MutBor (List ℕ) × (MutBor (List ℕ) × More)))

abbrev pub Five : Type 0 → Type 0
Five More = MutBor (List ℕ) × Four More

-- what stands in them
abbrev pub Tags : Type 0
Tags = List ℕ × List ℕ × List ℕ × List ℕ

abbrev pub Lists : Type 0
Lists = List ℕ × Tags

abbrev pub lists_of : State → Lists
lists_of s = (s.words, (s.owners, s.jumpers, s.writers, s.readers))

module _ {More : Type 0} where
  abbrev pub tags : Four More → Tags
  tags m = (m.0.now, m.1.0.now, m.1.1.0.now, m.1.1.1.0.now)

  abbrev pub lists : Five More → Lists
  lists m = (m.0.now, tags m.1)

  -- as a state, under a record; as what a load is lent
  abbrev pub over : Processor → Five More → State
  over cpu m = state_of cpu m.0.now m.1.0.now m.1.1.0.now m.1.1.1.0.now m.1.1.1.1.0.now

  abbrev pub memories : Five More → State
  memories m = lent m.0.now m.1.0.now m.1.1.0.now m.1.1.1.0.now m.1.1.1.1.0.now
