-- A stop at a service leaves next and the services' sets as they were, and nobody gains.
use Rattle.std.specs.Prelude.{◌≡◌, refl, ℕ, Bool, true, false, ◌&&◌, List, [], ◌==◌, ◌≢◌, slice_index_or}
use Rattle.common.specs.Answers as answer
use Rattle.common.specs.Services as service
use Rattle.rules.specs.Compartments.{empty}
use Rattle.rules.specs.State.{State}
use Rattle.rules.specs.Laws.Tested.{isolate_verdict, add_verdict}
use Rattle.monitor.specs.Outcomes.{called, isolating, adding}
use Rattle.service.specs.Served.{isolated_by, added_by, grown, Serving, call_of, add_of, isolates, kept, serving}
use Rattle.service.specs.ServiceLaws.{arrives_by}

-- what is told of a stop, apart from its answer, its service, whom it was for and the memories
pub record Still (s : State) (o : Serving) : Type 0 where
  pub next : o.next ≡ s.cpu.next
  pub services : o.services ≡ s.cpu.services
  pub owned : o.owned ≡ 0
  pub jump : o.jump ≡ 0
  pub store : o.store ≡ 0

module _ (s : State) where
  isolate_still : (isolated_by s.cpu.jumped (call_of s)).answer ≢ answer.done → Still s (isolates s (isolated_by s.cpu.jumped (call_of s)))
  unfolding isolated_by isolating grown
  isolate_still n = go (arrives_by s.cpu (slice_index_or s.cpu.services 0 empty)) refl (isolate_verdict (call_of s) s.cpu.prev == answer.done) refl
    where
      go : (a : Bool) → arrives_by s.cpu (slice_index_or s.cpu.services 0 empty) ≡ a → (b : Bool) → (isolate_verdict (call_of s) s.cpu.prev == answer.done) ≡ b
          → Still s (isolates s (isolated_by s.cpu.jumped (call_of s)))
      go true x true y = absurd (n (simp (x, y)))
      go true x false y = record { next = simp (x, y); services = simp (x, y); owned = simp (x, y); jump = simp (x, y); store = simp (x, y) }
      go false x b y = record { next = simp x; services = simp x; owned = simp x; jump = simp x; store = simp x }

  add_still : (i : ℕ) (sets : List ℕ) → (add_of s i sets).answer ≢ answer.done → (add_of s i sets).joined ≡ 0
  unfolding added_by adding
  add_still i sets n = go (arrives_by s.cpu (slice_index_or s.cpu.services i empty)) refl (add_verdict caller s.cpu.prev == answer.done) refl
    where
      caller : State
      caller = called s.cpu.strict s.cpu.regs s.cpu.n s.cpu.prev 0 [] [] s.owners [] [] []

      go : (a : Bool) → arrives_by s.cpu (slice_index_or s.cpu.services i empty) ≡ a → (b : Bool) → (add_verdict caller s.cpu.prev == answer.done) ≡ b → (add_of s i sets).joined ≡ 0
      go true x true y = absurd (n (simp (x, y)))
      go true x false y = simp (x, y)
      go false x b y = simp x

  pub stop_stays : (serving s).answer ≢ answer.done → Still s (serving s)
  unfolding serving
  stop_stays n =
      go (s.cpu.pc == service.isolate) refl (s.cpu.pc == service.add_jump_target) refl (s.cpu.pc == service.add_store_target) refl
      (s.cpu.pc == service.add_read_target && s.cpu.strict) refl
    where
      kept_still : {a number to jump store : ℕ} {jumpers writers readers : List ℕ} → jump ≡ 0 → store ≡ 0 → Still s (kept s a number jumpers writers readers to jump store)
      kept_still e f = record { next = refl; services = refl; owned = refl; jump = e; store = f }

      go : (a : Bool) → (s.cpu.pc == service.isolate) ≡ a → (b : Bool) → (s.cpu.pc == service.add_jump_target) ≡ b
          → (c : Bool) → (s.cpu.pc == service.add_store_target) ≡ c → (d : Bool) → (s.cpu.pc == service.add_read_target && s.cpu.strict) ≡ d
          → Still s (serving s)
      go true x b y c z d w = simp x (isolate_still (λ q. n (simp x q)))
      go false x true y c z d w = simp (x, y) (kept_still (add_still 1 s.jumpers (λ q. n (simp (x, y) q))) refl)
      go false x false y true z d w = simp (x, y, z) (kept_still refl (add_still 2 s.writers (λ q. n (simp (x, y, z) q))))
      go false x false y false z true w = simp (x, y, z, w) (kept_still refl refl)
      go false x false y false z false w = simp (x, y, z, w) (kept_still refl refl)
