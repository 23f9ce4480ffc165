-- After an isolate that ran, in either mode: no set has an address that the caller may not name, so no service set past the services changes; who is a reader.
use Rattle.std.specs.Prelude.{◌≡◌, Bool, ◌&&◌, ◌||◌, List, ℕ, ◌+◌, drop}
use Rattle.std.proofs.Math.Path.{refl}
use Rattle.std.proofs.Common.{◌∙◌, arith}
use Rattle.std.proofs.Math.Bool.{true, false, or-false, and-false}
use borrow.Author.Tests.{le-ltb}
use Rattle.std.proofs.Math.Dec.{ltb, eqb}
use Rattle.common.specs.Instructions.{reg}
use Rattle.common.specs.Services.{isolate, service_count, is_service}
use Rattle.common.specs.AddressSets.{Pair, set_at, in_set, within}
use Rattle.common.proofs.Laws.AddressSetLaws.{within_at}
use Rattle.common.proofs.Laws.Tests.{clash}
use Rattle.rules.specs.Compartments.{empty}
use Rattle.rules.specs.Laws.CompartmentLaws.{member_empty}
use Rattle.rules.specs.State.{State, in_memory, jumpers_at, readers_at, owns, may_jump, may_read}
use Rattle.rules.specs.Checks.{set_j, set_r}
use Rattle.rules.specs.Step.{joined_services, isolated}
use Rattle.rules.proofs.Laws.FormLaws.{lent_memories, outside}
use Rattle.rules.proofs.Laws.Passed.{Passes, owned_inside, Isolates, number_left}
use Rattle.rules.proofs.Laws.TagLaws.{drop_map}
use Rattle.rules.proofs.Laws.JoinLaws.{join_all, read_strict}

module _ (s : State) (passes : Passes s) (out : in_memory s s.cpu.pc ≡ false) (is : Isolates s s.cpu.prev) where
  -- at an address outside memory that the caller may not name, no set has anything
  pub none : (ps : List Pair) (may : ℕ → Bool) (x : ℕ) → within ps (λ x. owns s s.cpu.prev x || may x) ≡ true → in_memory s x ≡ false → may x ≡ false → in_set ps x ≡ false
  none ps may x w e f = go (in_set ps x) refl
    where
      go : (b : Bool) → in_set ps x ≡ b → in_set ps x ≡ false
      go false g = g
      go true g =
          let o : owns s s.cpu.prev x ≡ true = simp (f, or-false) at (within_at ps (λ x. owns s s.cpu.prev x || may x) x w g) in
          clash (owned_inside s passes out x o) e

  R-within : s.cpu.strict ≡ true → within (set_at s.words (reg s.cpu.regs 4)) (λ x. owns s s.cpu.prev x || may_read s s.cpu.prev x) ≡ true
  R-within e = simp e at is.R

  R-none : (e : s.cpu.strict ≡ true) (x : ℕ) → in_memory s x ≡ false → in_set (set_at s.words (reg s.cpu.regs 4)) x ≡ false
  unfolding in_memory
  R-none e x f = none (set_at s.words (reg s.cpu.regs 4)) (may_read s s.cpu.prev) x (R-within e) f (read_strict s s.cpu.prev x e ∙ simp (f, member_empty))

  pub read_tags : (c x : ℕ) → may_read (isolated s) c x ≡ (may_read s c x || (in_set (set_r s) x && eqb c s.cpu.next))
  unfolding may_read isolated readers_at in_memory in_set
  read_tags c x = go s.cpu.strict refl
    where
      go : (b : Bool) → s.cpu.strict ≡ b → may_read (isolated s) c x ≡ (may_read s c x || (in_set (set_r s) x && eqb c s.cpu.next))
      go true e =
          simp e
          (join_all s.cpu.n s.readers s.cpu.next (omega (arith, (lent_memories s passes.formed).readers e, (lent_memories s passes.formed).enough)) (number_left s s.cpu.prev passes.formed is) c x (set_at s.words (reg s.cpu.regs 4)) empty empty
          (λ f. simp (R-none e x f, or-false)))
      go false e = simp (e, member_empty)

  -- J' names no place past the services
  pub no_more_sets : drop (service_count s.cpu.strict) (isolated s).cpu.services ≡ drop (service_count s.cpu.strict) s.cpu.services
  unfolding isolated joined_services may_jump jumpers_at is_service
  no_more_sets =
      drop_map _ 0 (service_count s.cpu.strict) s.cpu.services
      (λ i v h.
      let o : in_memory s (isolate + i) ≡ false = outside s passes.formed (isolate + i) (omega arith) in
      let l : ltb (isolate + i) (isolate + service_count s.cpu.strict) ≡ false = le-ltb (isolate + i) (isolate + service_count s.cpu.strict) (omega arith) in
      simp (none (set_j s) (may_jump s s.cpu.prev) (isolate + i) is.J o (simp (o, l, and-false, member_empty))))
