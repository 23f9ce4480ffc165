-- `run_rows`, need by need: the invariant is the run at the place reached; inside, that the place is reached from wherever its begin was.
use Rattle.machine.specs.RunLaws.{Going, Reached, Home}
use Rattle.service.specs.Served.{state_from}
use Rattle.rights.specs.Arrivals.{prev_of, jumped_of}
use Rattle.rows.specs.Views.{table}
use mathlib.Core.Path.{◌≡◌}
use lib.ListN.{length}
use Prim.Native.Nat.{◌<◌, ◌≤◌, ◌-◌}
use Rattle.machine.proofs.Processor.run_rows.Given as goal

abbrev pub invariant-loop-pc : goal.invariant-loop-pc
invariant-loop-pc l =
    Reached (state_from l.strict l.initial.regs l.n l.initial.pc (prev_of l.initial.arrival) (jumped_of l.initial.arrival) l.next l.services l.initial.words l.owners l.jumpers l.writers l.readers) (state_from l.strict l.regs l.n l.pc (prev_of l.arrival) (jumped_of l.arrival) l.next l.services l.words l.owners l.jumpers l.writers l.readers) (table l.rows) l.budget l.initial.count l.count × Home l.strict l.arrival l.next × (l.initial.count ≤ l.count)

abbrev pub decreases-loop-pc : goal.decreases-loop-pc
decreases-loop-pc l =
    l.budget - l.count

abbrev pub invariant-loop-count : goal.invariant-loop-count
invariant-loop-count l =
    Going (state_from l.strict l.initial.regs l.n l.initial.pc l.prev l.jumped l.initial.next l.initial.services l.initial.words l.initial.owners l.initial.jumpers l.initial.writers l.initial.readers) (table l.initial.rows) (state_from l.strict l.regs l.n l.pc (prev_of l.arrival) (jumped_of l.arrival) l.next l.services l.words l.owners l.jumpers l.writers l.readers) (table l.rows) l.budget l.count × (l.budget < 4294967296) × Home l.strict l.arrival l.next × (length l.rows ≡ length l.initial.rows)

abbrev pub decreases-loop-count : goal.decreases-loop-count
decreases-loop-count l =
    l.budget - l.count
