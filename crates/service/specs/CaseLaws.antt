-- The cases of a step at a service, each in the form in which the code comes to it.
use Rattle.std.specs.Prelude.{◌≡◌, refl, ℕ, true, false, ◌≢◌, List, Result, Ok, Err}
use Rattle.std.specs.Result.{result_and, result_unwrap_or}
use borrow.Author.Tests.{ne_eqb}
use Rattle.common.specs.Answers as answer
use Rattle.common.specs.Services as service
use Rattle.rules.specs.State.{State}
use Rattle.answers.specs.declared.Refusal.{Refusal}
use Rattle.answers.specs.Numbers.{number, answer_of}
use Rattle.answers.specs.Results.{number-not-0}
use Rattle.monitor.specs.Outcomes.{Isolating, not_isolated, Adding, adding_of}
use Rattle.service.specs.Served.{isolated_by, grown, call_of, add_of, isolates, adds_jump, adds_store, adds_read, nowhere, serving}

-- what an add comes to, by the parts of its result that `serve` hands on
pub added : {A : Type 0} (a : A) (r : Result ℕ Refusal) (sets : List ℕ) → record { answer = answer_of (result_and r (Ok a)); sets = sets; joined = result_unwrap_or r 0 } ≡ adding_of r sets
added a (Ok joined) sets = refl
added a (Err refusal) sets = refl

module _ (s : State) where
  -- ---- which service it is

  pub at_isolate_lem : s.cpu.pc ≡ service.isolate → (o : Isolating) → o ≡ isolated_by s.cpu.jumped (call_of s) → isolates s o ≡ serving s
  unfolding serving
  at_isolate_lem h o i = simp (h, ← i)

  -- next stays where isolate refuses
  pub refuses : s.cpu.pc ≡ service.isolate → (r : Refusal) (owners jumpers writers readers : List ℕ) → not_isolated (number r) s.cpu.services owners jumpers writers readers ≡ isolated_by s.cpu.jumped (call_of s)
      → record { answer = number r; number = 1; next = s.cpu.next; services = s.cpu.services; owners = owners; jumpers = jumpers; writers = writers; readers = readers; to = s.cpu.next; owned = 0; jump = 0; store = 0 } ≡ serving s
  unfolding serving grown
  refuses h r owners jumpers writers readers e = let n = ne_eqb (number r) answer.done (number-not-0 r) in simp (h, ← e, n)

  pub at_jump : s.cpu.pc ≡ service.add_jump_target → (o : Adding) → o ≡ add_of s 1 s.jumpers → adds_jump s o ≡ serving s
  unfolding serving
  at_jump h o i = simp (h, i)

  pub at_store : s.cpu.pc ≡ service.add_store_target → (o : Adding) → o ≡ add_of s 2 s.writers → adds_store s o ≡ serving s
  unfolding serving
  at_store h o i = simp (h, i)

  pub at_read : s.cpu.pc ≡ service.add_read_target → s.cpu.strict ≡ true → (o : Adding) → o ≡ add_of s 3 s.readers → adds_read s o ≡ serving s
  unfolding serving
  at_read h m o i = simp (h, m, i)

  -- there is no fourth in 01's mode
  pub at_closed : s.cpu.pc ≡ service.add_read_target → s.cpu.strict ≡ false → nowhere s ≡ serving s
  unfolding serving
  at_closed h m = simp (h, m)

  pub at_none : s.cpu.pc ≢ service.isolate → s.cpu.pc ≢ service.add_jump_target → s.cpu.pc ≢ service.add_store_target → s.cpu.pc ≢ service.add_read_target → nowhere s ≡ serving s
  unfolding serving
  at_none a b c d =
      simp (ne_eqb s.cpu.pc service.isolate a, ne_eqb s.cpu.pc service.add_jump_target b, ne_eqb s.cpu.pc service.add_store_target c, ne_eqb s.cpu.pc service.add_read_target d)
