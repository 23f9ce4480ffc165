-- What is seen of the loader's outcome.
use Rattle.std.specs.Prelude.{false, List, ℕ}
use Rattle.rules.specs.State.{State}
use Rattle.rules.specs.Images as meant
use Rattle.rules.specs.Rows as rows
use Rattle.rows.specs.declared.Row.{Row}
use Rattle.rows.specs.Views.{table}
use Rattle.machine.specs.Views.{state_of}
use Rattle.answers.specs.Numbers.{answer_of}
use Rattle.loader.specs.declared.Loaded.{Loaded}

-- the memories lent to the loader; the old processor record is not looked at
abbrev pub lent : List ℕ → List ℕ → List ℕ → List ℕ → List ℕ → State
lent words owners jumpers writers readers =
    record { cpu = meant.blank false; words = words; owners = owners; jumpers = jumpers; writers = writers; readers = readers }

abbrev pub loaded_of : Loaded → List ℕ → List ℕ → List ℕ → List ℕ → List ℕ → meant.Loaded
loaded_of r words owners jumpers writers readers = record { answer = answer_of r.answer; state = state_of r.cpu words owners jumpers writers readers }

abbrev pub loaded_with : Loaded → List ℕ → List ℕ → List ℕ → List ℕ → List ℕ → List Row → rows.LentStepped
loaded_with r words owners jumpers writers readers lent = record { answer = answer_of r.answer; state = state_of r.cpu words owners jumpers writers readers; rows = table lent }
