-- The answer of a step, as the code comes to it by reading.
use Rattle.std.specs.Prelude.{◌≡◌, Bool, true, cond, ◌&&◌, ◌||◌, ◌≢◌, ℕ, ◌-◌, ◌≤◌, ◌<◌, ltb, leb, eqb, get_or, not}
use Rattle.std.proofs.Math.Path.{refl, sym}
use Rattle.std.proofs.Common.{◌∙◌}
use Rattle.std.proofs.Math.Bool.{false}
use borrow.Author.Tests.{le-ltb, lt-ltb, eq-eqb, ne_eqb}
use Rattle.common.specs.Answers as answer
use Rattle.common.specs.Services.{isolate, is_service, is_service_number}
use Rattle.rights.specs.Rights.{free, may_use}
use Rattle.rules.specs.Compartments.{member, empty}
use Rattle.rules.specs.State.{State, in_memory, has_owner, owner_at, jumpers_at, may_jump, writers_at, readers_at, owns, may_store, may_read, reads}
use Rattle.rules.specs.Checks.{instruction_at, owner, verdict}
use Rattle.rules.specs.Laws.Tested.{formed, bad_owner, arrives, word_verdict, isolate_verdict, add_verdict, service_verdict, tested}
use Rattle.rules.proofs.Laws.TestedRows.{verdict_tested}
use Rattle.service.specs.ServiceLaws.{arrives_by, arrives_is}
use Rattle.form.specs.Form.{form_of, formed_by_lem}

-- ---- at a memory word, by the numbers that stand there

module _ (s : State) (c x : ℕ) (h : x < s.cpu.n) where
  below : ltb x s.cpu.n ≡ true
  below = lt-ltb x s.cpu.n h

  pub reads_word : reads s c x ≡ (not s.cpu.strict || may_use c (owner s x) (get_or s.readers x empty))
  unfolding reads owns has_owner owner_at may_read readers_at in_memory may_use
  reads_word = go s.cpu.strict refl
    where
      go : (b : Bool) → s.cpu.strict ≡ b → reads s c x ≡ (not s.cpu.strict || may_use c (owner s x) (get_or s.readers x empty))
      go true e = simp (e, below)
      go false e = simp e

  pub stores_word : (owns s c x || may_store s c x) ≡ may_use c (owner s x) (get_or s.writers x empty)
  unfolding owns has_owner owner_at may_store writers_at in_memory may_use
  stores_word = simp below

unfoldable pub place_answer : State → ℕ
place_answer s =
    cond (free s.cpu.strict (owner s s.cpu.pc) s.cpu.next)
    (cond (eqb (owner s s.cpu.pc) s.cpu.prev || (s.cpu.jumped && member (get_or s.jumpers s.cpu.pc empty) s.cpu.prev)) (word_verdict s (owner s s.cpu.pc) (instruction_at s)) answer.no_arrival)
    answer.bad_owner

-- ---- at a service

-- the set I of the service at pc
abbrev pub gate_of : State → ℕ
gate_of s = get_or s.cpu.services (s.cpu.pc - isolate) empty

unfoldable pub service_answer : State → ℕ
service_answer s =
    cond (is_service s.cpu.strict s.cpu.pc) (cond (arrives_by s.cpu (gate_of s)) (service_verdict s s.cpu.prev) answer.no_arrival) answer.no_place

-- an add or isolate
pub is_add_lem : (s : State) → s.cpu.pc ≢ isolate → add_verdict s s.cpu.prev ≡ service_verdict s s.cpu.prev
unfolding service_verdict
is_add_lem s h = sym (simp (ne_eqb s.cpu.pc isolate h))

pub is_isolate : (s : State) → s.cpu.pc ≡ isolate → isolate_verdict s s.cpu.prev ≡ service_verdict s s.cpu.prev
unfolding service_verdict
is_isolate s h = sym (simp (eq-eqb s.cpu.pc isolate h))

-- ---- the whole of it

not_in : (s : State) → s.cpu.n ≤ s.cpu.pc → in_memory s s.cpu.pc ≡ false
unfolding in_memory
not_in s l = le-ltb s.cpu.pc s.cpu.n l

module _ (s : State) where
  pub bad_form_lem : form_of s ≡ false → answer.bad_form ≡ verdict s
  unfolding tested
  bad_form_lem h = let f : formed s ≡ false = formed_by_lem s ∙ h in sym (verdict_tested s ∙ simp f)

  module _ (h : form_of s ≡ true) where
    is_formed : formed s ≡ true
    is_formed = formed_by_lem s ∙ h

    pub at_service : s.cpu.n ≤ s.cpu.pc → service_answer s ≡ verdict s
    unfolding service_answer tested has_owner bad_owner
    at_service l = sym (verdict_tested s ∙ go (is_service s.cpu.strict s.cpu.pc) refl)
      where
        out : in_memory s s.cpu.pc ≡ false
        out = not_in s l

        go : (b : Bool) → is_service s.cpu.strict s.cpu.pc ≡ b → tested s ≡ service_answer s
        go false k = simp (is_formed, out, k)
        go true k = simp (is_formed, out, k, arrives_is s is_formed l k (gate_of s) refl)

    pub at_word : s.cpu.pc < s.cpu.n → place_answer s ≡ verdict s
    unfolding place_answer tested free has_owner owner_at bad_owner arrives may_jump jumpers_at in_memory
    at_word l = sym (verdict_tested s ∙ go (is_service_number s.cpu.strict (owner s s.cpu.pc) || leb s.cpu.next (owner s s.cpu.pc)) refl)
      where
        below : ltb s.cpu.pc s.cpu.n ≡ true
        below = lt-ltb s.cpu.pc s.cpu.n l

        go : (b : Bool) → (is_service_number s.cpu.strict (owner s s.cpu.pc) || leb s.cpu.next (owner s s.cpu.pc)) ≡ b → tested s ≡ place_answer s
        go true k = simp (is_formed, below, k)
        go false k = simp (is_formed, below, k)
