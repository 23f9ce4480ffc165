-- What a step at a service comes to, and what is seen of it.
use Rattle.std.specs.Prelude.{ℕ, Bool, cond, ◌&&◌, List, [], ◌==◌, slice_index_or}
use Rattle.common.specs.Answers as answer
use Rattle.common.specs.Instructions.{plus}
use Rattle.common.specs.Services as service
use Rattle.rules.specs.Compartments.{member, empty}
use Rattle.rules.specs.State.{State}
use Rattle.answers.specs.Numbers.{answer_of}
use Rattle.reach.specs.declared.Call.{Call}
use Rattle.monitor.specs.Outcomes.{called, Isolating, not_isolated, isolating, Adding, adding}
use Rattle.service.specs.declared.Served.{Served}

-- the processor's numbers and the lent memories, as a state
abbrev pub state_from : Bool → List ℕ → ℕ → ℕ → ℕ → Bool → ℕ → List ℕ → List ℕ → List ℕ → List ℕ → List ℕ → List ℕ → State
state_from strict regs n pc prev jumped next services words owners jumpers writers readers =
    record {
      cpu = record { n = n; regs = regs; pc = pc; prev = prev; jumped = jumped; next = next; services = services; strict = strict };
      words = words;
      owners = owners;
      jumpers = jumpers;
      writers = writers;
      readers = readers;
    }

-- the state of a call at pc
abbrev pub state_by : Call → ℕ → Bool → List ℕ → List ℕ → List ℕ → List ℕ → List ℕ → State
state_by k pc jumped = state_from k.caller.strict k.regs.now k.caller.n pc k.caller.number jumped k.next k.services

-- isolate, where the caller arrives; s has the caller's numbers
unfoldable pub isolated_by : Bool → State → Isolating
isolated_by jumped s =
    cond (jumped && member (slice_index_or s.cpu.services 0 empty) s.cpu.prev) (isolating s)
    (not_isolated answer.no_arrival s.cpu.services s.owners s.jumpers s.writers s.readers)

-- an add over the sets, where the caller arrives
unfoldable pub added_by : Bool → List ℕ → ℕ → ℕ → Bool → ℕ → List ℕ → List ℕ → Adding
added_by strict regs n prev jumped gate owners sets =
    cond (jumped && member gate prev) (adding (called strict regs n prev 0 [] [] owners [] [] []) sets)
    (record { answer = answer.no_arrival; sets = sets; joined = 0 })

-- "next grows by 1"
unfoldable pub grown : ℕ → ℕ → ℕ
grown a next = cond (a == answer.done) (plus next 1) next

-- the answer, the service's number, next, the services' sets and the four memories of tags; and who gained how many addresses, jump
-- targets and store targets
pub record Serving : Type 0 where
  pub answer : ℕ
  pub number : ℕ
  pub next : ℕ
  pub services : List ℕ
  pub owners : List ℕ
  pub jumpers : List ℕ
  pub writers : List ℕ
  pub readers : List ℕ
  pub to : ℕ
  pub owned : ℕ
  pub jump : ℕ
  pub store : ℕ

abbrev pub served_of : Served → List ℕ → List ℕ → List ℕ → List ℕ → Serving
served_of r owners jumpers writers readers =
    record { answer = answer_of r.answer; number = r.number; next = r.next; services = r.services; owners = owners; jumpers = jumpers; writers = writers; readers = readers; to = r.to; owned = r.owned; jump = r.jump; store = r.store }

abbrev pub call_of : State → State
call_of s = called s.cpu.strict s.cpu.regs s.cpu.n s.cpu.prev s.cpu.next s.cpu.services s.words s.owners s.jumpers s.writers s.readers

abbrev pub add_of : State → ℕ → List ℕ → Adding
add_of s i sets = added_by s.cpu.strict s.cpu.regs s.cpu.n s.cpu.prev s.cpu.jumped (slice_index_or s.cpu.services i empty) s.owners sets

-- what each service leaves
abbrev pub isolates : State → Isolating → Serving
isolates s o =
    record {
      answer = o.answer;
      number = 1;
      next = grown o.answer s.cpu.next;
      services = o.services;
      owners = o.owners;
      jumpers = o.jumpers;
      writers = o.writers;
      readers = o.readers;
      to = s.cpu.next;
      owned = o.owned;
      jump = o.jump;
      store = o.store;
    }

-- an answer and a number, with these three memories, and what one compartment gained; next, the services' sets and the owners stay
abbrev pub kept : State → ℕ → ℕ → List ℕ → List ℕ → List ℕ → ℕ → ℕ → ℕ → Serving
kept s a number jumpers writers readers to jump store =
    record {
      answer = a;
      number = number;
      next = s.cpu.next;
      services = s.cpu.services;
      owners = s.owners;
      jumpers = jumpers;
      writers = writers;
      readers = readers;
      to = to;
      owned = 0;
      jump = jump;
      store = store;
    }

abbrev pub adds_jump : State → Adding → Serving
adds_jump s o = kept s o.answer 2 o.sets s.writers s.readers s.cpu.prev o.joined 0

abbrev pub adds_store : State → Adding → Serving
adds_store s o = kept s o.answer 3 s.jumpers o.sets s.readers s.cpu.prev 0 o.joined

-- readers are not counted
abbrev pub adds_read : State → Adding → Serving
adds_read s o = kept s o.answer 4 s.jumpers s.writers o.sets s.cpu.prev 0 0

abbrev pub nowhere : State → Serving
nowhere s = kept s answer.no_place 0 s.jumpers s.writers s.readers 0 0 0

unfoldable pub serving : State → Serving
serving s =
    cond (s.cpu.pc == service.isolate) (isolates s (isolated_by s.cpu.jumped (call_of s)))
    (cond (s.cpu.pc == service.add_jump_target) (adds_jump s (add_of s 1 s.jumpers))
    (cond (s.cpu.pc == service.add_store_target) (adds_store s (add_of s 2 s.writers))
    (cond (s.cpu.pc == service.add_read_target && s.cpu.strict) (adds_read s (add_of s 3 s.readers)) (nowhere s))))
