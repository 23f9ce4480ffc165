-- Laws of isolate's outcome: a stop, from what the checks answered, and the work, from what each memory came to.
use Rattle.std.specs.Prelude.{◌≡◌, ℕ, Bool, true, false, cond, List, [], refl}
use borrow.Author.Tests.{ne_eqb}
use Rattle.common.specs.Answers as answer
use Rattle.common.specs.Instructions.{reg, plus}
use Rattle.common.specs.Services.{service_count}
use Rattle.common.specs.AddressSets.{Pair, set_at}
use Rattle.rules.specs.State.{State}
use Rattle.rules.specs.Checks.{set_a, set_j, set_s}
use Rattle.rules.specs.Laws.Tested.{isolate_verdict}
use Rattle.rules.specs.Laws.CountLaws.{differing}
use Rattle.rules.specs.Step.{owned, joined, joined_services}
use Rattle.answers.specs.declared.Refusal.{Refusal}
use Rattle.answers.specs.Numbers.{number}
use Rattle.answers.specs.Results.{number-not-0}
use Rattle.monitor.specs.Outcomes.{not_isolated, isolating}

-- R' is not looked at in 01's mode
fourth : (m : Bool) (n : ℕ) (ps : List Pair) (c : ℕ) (sets : List ℕ) → cond m (joined n ps c sets) sets ≡ cond m (joined n (cond m ps []) c sets) sets
fourth true n ps c sets = refl
fourth false n ps c sets = refl

module _ (s : State) where
  -- the checks refuse
  pub isolate_stops : (r : Refusal) → number r ≡ isolate_verdict s s.cpu.prev → not_isolated (number r) s.cpu.services s.owners s.jumpers s.writers s.readers ≡ isolating s
  unfolding isolating
  isolate_stops r e = simp (← e, ne_eqb (number r) answer.done (number-not-0 r))

  -- they pass, and the memories change at these sets
  module _ (e : answer.done ≡ isolate_verdict s s.cpu.prev) (a j w r : List Pair) (is_a : a ≡ set_a s) (is_j : j ≡ set_j s) (is_w : w ≡ set_s s) (is_r : r ≡ set_at s.words (reg s.cpu.regs 4)) where
    pub isolate_runs : (services owners jumpers writers readers : List ℕ) (a' j' g' w' r' : ℕ)
        → services ≡ joined_services j s.cpu.next s.cpu.services
        → (owners ≡ owned s.cpu.n a s.cpu.next s.owners) × (a' ≡ differing s.cpu.n s.owners owners)
        → (jumpers ≡ joined s.cpu.n j s.cpu.next s.jumpers) × (j' ≡ differing s.cpu.n s.jumpers jumpers)
        → (writers ≡ joined s.cpu.n w s.cpu.next s.writers) × (w' ≡ differing s.cpu.n s.writers writers)
        → readers ≡ cond s.cpu.strict (joined s.cpu.n r s.cpu.next s.readers) s.readers
        → g' ≡ differing (service_count s.cpu.strict) s.cpu.services services
        → r' ≡ plus j' g'
        → record { answer = answer.done; services = services; owners = owners; jumpers = jumpers; writers = writers; readers = readers; owned = a'; jump = r'; store = w' } ≡ isolating s
    unfolding isolating
    isolate_runs services owners jumpers writers readers a' j' g' w' r' p q f t u v z =
        simp (← e, z, v, p, q.1, q.0, f.1, f.0, t.1, t.0, u, is_a, is_j, is_w, is_r, fourth s.cpu.strict s.cpu.n (set_at s.words (reg s.cpu.regs 4)) s.cpu.next s.readers)
