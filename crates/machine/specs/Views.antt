-- The code's processor record and lent memories, seen as the rules' state.
use Rattle.std.specs.Prelude.{List, ℕ}
use Rattle.rules.specs.State as rules
use Rattle.rules.specs.Step as step
use Rattle.rules.specs.Run as run
use Rattle.rules.specs.Rows as rows
use Rattle.rows.specs.declared.Row.{Row}
use Rattle.rows.specs.Views.{table}
use Rattle.machine.specs.declared.Processor.{Processor}
use Rattle.machine.specs.declared.Stepped.{Stepped}
use Rattle.machine.specs.declared.Ran.{Ran}

abbrev pub cpu_of : Processor → rules.Processor
cpu_of p = record { n = p.n; regs = p.regs; pc = p.pc; prev = p.prev; jumped = p.jumped; strict = p.strict; next = p.next; services = p.services }

abbrev pub processor_of : rules.Processor → Processor
processor_of p = record { n = p.n; regs = p.regs; pc = p.pc; prev = p.prev; jumped = p.jumped; strict = p.strict; next = p.next; services = p.services }

-- the record with the words, owners, jumpers, writers and readers lent to a call
abbrev pub state_of : Processor → List ℕ → List ℕ → List ℕ → List ℕ → List ℕ → rules.State
state_of p words owners jumpers writers readers = record { cpu = cpu_of p; words = words; owners = owners; jumpers = jumpers; writers = writers; readers = readers }

-- what a step and a run hand back, with what they leave in the memories
abbrev pub stepped_of : Stepped → List ℕ → List ℕ → List ℕ → List ℕ → List ℕ → step.Stepped
stepped_of r words owners jumpers writers readers = record { answer = r.answer; state = state_of r.cpu words owners jumpers writers readers }

abbrev pub ran_of : Ran → List ℕ → List ℕ → List ℕ → List ℕ → List ℕ → run.Ran
ran_of r words owners jumpers writers readers = record { answer = r.answer; state = state_of r.cpu words owners jumpers writers readers; count = r.count }

-- and in the table that they are lent
abbrev pub stepped_with : Stepped → List ℕ → List ℕ → List ℕ → List ℕ → List ℕ → List Row → rows.LentStepped
stepped_with r words owners jumpers writers readers lent = record { answer = r.answer; state = state_of r.cpu words owners jumpers writers readers; rows = table lent }

abbrev pub ran_with : Ran → List ℕ → List ℕ → List ℕ → List ℕ → List ℕ → List Row → rows.LentRan
ran_with r words owners jumpers writers readers lent = record { answer = r.answer; state = state_of r.cpu words owners jumpers writers readers; rows = table lent; count = r.count }
