-- The state in which a service is called, of what the call is lent, and who reaches an address there.
use Rattle.std.specs.Prelude.{Bool, true, ◌||◌, List, [], ℕ}
use Rattle.common.specs.Services as service
use Rattle.rules.specs.State.{State, owns, may_jump}
use Rattle.memory.specs.declared.Memories.{Memories}
use Rattle.reach.specs.declared.Tags.{Tags}
use Rattle.reach.specs.declared.Caller.{Caller}
use Rattle.reach.specs.declared.Call.{Call}

-- the caller's numbers and the lent memories, at a service
abbrev pub called : Bool → List ℕ → ℕ → ℕ → ℕ → List ℕ → List ℕ → List ℕ → List ℕ → List ℕ → List ℕ → State
called strict regs n caller next services words owners jumpers writers readers =
    record {
      cpu = record { n = n; regs = regs; pc = service.isolate; prev = caller; jumped = true; next = next; services = services; strict = strict };
      words = words;
      owners = owners;
      jumpers = jumpers;
      writers = writers;
      readers = readers;
    }

-- the state of a call and of what it is lent: by lists, and for reading, with sets of the services of its own or with others
abbrev pub called_by : Call → List ℕ → List ℕ → List ℕ → List ℕ → List ℕ → State
called_by k = called k.caller.strict k.regs.now k.caller.n k.caller.number k.next k.services

abbrev pub lent_with : Call → List ℕ → Memories → State
lent_with k services lent =
    called k.caller.strict k.regs.now k.caller.n k.caller.number k.next services lent.words.now lent.owners.now lent.jumpers.now lent.writers.now lent.readers.now

abbrev pub lent_to : Call → Memories → State
lent_to k = lent_with k k.services

-- what the owners, and the sets at words and services, say
abbrev pub asked : Bool → ℕ → List ℕ → List ℕ → List ℕ → State
asked strict n owners sets services = called strict [] n 0 0 services [] owners sets [] []

-- what is asked of a caller's tags
abbrev pub asked_by : Caller → Tags → State
asked_by c t = asked c.strict c.n t.owners.now t.sets.now t.services.now

-- what the owners and the readers say
abbrev pub reading : Bool → ℕ → List ℕ → List ℕ → State
reading strict n owners readers = called strict [] n 0 0 [] [] owners [] [] readers

-- A or J of compartment c has x
abbrev pub reaches : State → ℕ → ℕ → Bool
reaches s c x = owns s c x || may_jump s c x
