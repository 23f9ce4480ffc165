-- What a call of a monitor service comes to, and what is seen of it.
use Rattle.std.specs.Prelude.{ℕ, cond, List, ◌==◌, slice_index, Result, Ok, Err}
use Rattle.common.specs.Answers as answer
use Rattle.common.specs.Instructions.{bit, reg, plus}
use Rattle.common.specs.Services.{service_count}
use Rattle.rules.specs.State.{State}
use Rattle.rules.specs.Checks.{set_a, set_j, set_s, set_r}
use Rattle.rules.specs.Laws.Tested.{isolate_verdict, add_verdict}
use Rattle.rules.specs.Laws.CountLaws.{differs, differing}
use Rattle.rules.specs.Step.{owned, joined, joined_services, join_at}
use Rattle.answers.specs.declared.Refusal.{Refusal}
use Rattle.answers.specs.Numbers.{number}
use Rattle.monitor.specs.declared.Isolated.{Isolated}
-- the caller's numbers and the lent memories, at a service
pub use Rattle.reach.specs.Called.{called, called_by, lent_with}

-- ---- isolate: the answer, the services' sets, the four memories of tags, and how many of the owners, the sets I and the sets W changed

pub record Isolating : Type 0 where
  pub answer : ℕ
  pub services : List ℕ
  pub owners : List ℕ
  pub jumpers : List ℕ
  pub writers : List ℕ
  pub readers : List ℕ
  pub owned : ℕ
  pub jump : ℕ
  pub store : ℕ

-- isolate stopped with this answer: the services' sets are as they were
abbrev pub not_isolated : ℕ → List ℕ → List ℕ → List ℕ → List ℕ → List ℕ → Isolating
not_isolated a services owners jumpers writers readers =
    record { answer = a; services = services; owners = owners; jumpers = jumpers; writers = writers; readers = readers; owned = 0; jump = 0; store = 0 }

-- where the checks answer 0 the tags change as the rules' `isolated` has it, and else nothing does
unfoldable pub isolating : State → Isolating
isolating s =
    cond (isolate_verdict s s.cpu.prev == answer.done)
    (record {
      answer = answer.done;
      services = joined_services (set_j s) s.cpu.next s.cpu.services;
      owners = owned s.cpu.n (set_a s) s.cpu.next s.owners;
      jumpers = joined s.cpu.n (set_j s) s.cpu.next s.jumpers;
      writers = joined s.cpu.n (set_s s) s.cpu.next s.writers;
      readers = cond s.cpu.strict (joined s.cpu.n (set_r s) s.cpu.next s.readers) s.readers;
      owned = differing s.cpu.n s.owners (owned s.cpu.n (set_a s) s.cpu.next s.owners);
      jump =
          plus (differing s.cpu.n s.jumpers (joined s.cpu.n (set_j s) s.cpu.next s.jumpers))
          (differing (service_count s.cpu.strict) s.cpu.services (joined_services (set_j s) s.cpu.next s.cpu.services));
      store = differing s.cpu.n s.writers (joined s.cpu.n (set_s s) s.cpu.next s.writers);
    })
    (not_isolated (isolate_verdict s s.cpu.prev) s.cpu.services s.owners s.jumpers s.writers s.readers)

-- of a call with these sets of the services
abbrev pub isolating_of : List ℕ → Result Isolated Refusal → List ℕ → List ℕ → List ℕ → List ℕ → Isolating
isolating_of services (Ok r) owners jumpers writers readers =
    record { answer = answer.done; services = r.services; owners = owners; jumpers = jumpers; writers = writers; readers = readers; owned = r.owned; jump = r.jump; store = r.store }
isolating_of services (Err refusal) owners jumpers writers readers = not_isolated (number refusal) services owners jumpers writers readers

-- ---- the adds: the answer, the memory of sets that the target's is in, and 1 where that set changed

pub record Adding : Type 0 where
  pub answer : ℕ
  pub sets : List ℕ
  pub joined : ℕ

abbrev pub joins_at : List ℕ → ℕ → ℕ → ℕ
joins_at sets x c = bit (differs (slice_index sets x) (slice_index (join_at sets x c) x))

unfoldable pub adding : State → List ℕ → Adding
adding s sets =
    cond (add_verdict s s.cpu.prev == answer.done)
    (record { answer = answer.done; sets = join_at sets (reg s.cpu.regs 1) s.cpu.prev; joined = joins_at sets (reg s.cpu.regs 1) s.cpu.prev })
    (record { answer = add_verdict s s.cpu.prev; sets = sets; joined = 0 })

abbrev pub adding_of : Result ℕ Refusal → List ℕ → Adding
adding_of (Ok joined) sets = record { answer = answer.done; sets = sets; joined = joined }
adding_of (Err refusal) sets = record { answer = number refusal; sets = sets; joined = 0 }
