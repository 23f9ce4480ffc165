-- Laws of who reaches an address: by owning it, or by the set of numbers there.
use Rattle.std.specs.Prelude.{◌≡◌, Bool, ◌&&◌, ◌||◌, ℕ, ◌-◌, ◌<◌, get_or}
use Rattle.std.proofs.Math.Path.{refl, ap, fun_ext}
use Rattle.std.proofs.Common.{sym, ◌∙◌}
use Rattle.std.proofs.Math.Bool.{true, false, cond, not, or-false}
use mathlib.Core.List.{List, []}
use borrow.Author.Tests.{lt-ltb, eq-eqb, ne_eqb}
use Rattle.std.proofs.Math.Dec.{ltb}
use Rattle.common.proofs.Laws.CheckLaws.{cond_same}
use Rattle.common.specs.Instructions.{reg}
use Rattle.common.specs.Services.{isolate, is_service}
use Rattle.common.specs.AddressSets.{Pair, set_at, in_set, within}
use Rattle.common.proofs.Laws.AddressSetLaws.{within_if}
use Rattle.rules.specs.Compartments.{member, empty}
use Rattle.rules.specs.Laws.CompartmentLaws.{member_empty}
use Rattle.rules.specs.State.{State, in_memory, has_owner, owner_at, jumpers_at, writers_at, readers_at, owns, may_jump, may_store, may_read, reads}
use Rattle.rules.specs.Checks.{set_a, set_j, set_s, good_sets, sets_within, returns}
use Rattle.rules.proofs.Laws.JoinLaws.{read_strict}
use Rattle.memory.specs.declared.Memories.{Memories}
use Rattle.reach.specs.declared.Call.{Call}
use Rattle.reach.specs.Called.{lent_to, lent_with, asked, reaches}

-- ---- owners and sets, apart from the rest of the state

pub same_owns : (s t : State) (c x : ℕ) → s.cpu.strict ≡ t.cpu.strict → s.cpu.n ≡ t.cpu.n → s.owners ≡ t.owners → owns s c x ≡ owns t c x
unfolding owns has_owner owner_at in_memory
same_owns s t c x g e f = simp (g, e, f)

-- the two returns of `reaches`, from what its callees say
module _ (m : Bool) (n : ℕ) (owners sets services : List ℕ) (c x : ℕ) (a : Bool) (own : a ≡ owns (asked m n owners [] []) c x) where
  owned : owns (asked m n owners sets services) c x ≡ a
  owned = same_owns (asked m n owners sets services) (asked m n owners [] []) c x refl refl refl ∙ sym own

  pub reached : a ≡ true → true ≡ reaches (asked m n owners sets services) c x
  reached h = let e : owns (asked m n owners sets services) c x ≡ true = owned ∙ h in simp e

  pub reached_by : a ≡ false → (set : ℕ) → set ≡ jumpers_at (asked m n [] sets services) x → (b : Bool) → b ≡ member set c
      → b ≡ reaches (asked m n owners sets services) c x
  unfolding may_jump jumpers_at in_memory
  reached_by h set f b g = let e : owns (asked m n owners sets services) c x ≡ false = owned ∙ h in g ∙ ap (λ (k : ℕ). member k c) f ∙ simp e

-- whether sets are good, and whether a call returns, does not hang on the sets of the services
module _ (k : Call) (services : List ℕ) (lent : Memories) where
  pub good_with : good_sets (lent_to k lent) k.caller.number ≡ good_sets (lent_with k services lent) k.caller.number
  unfolding good_sets reads owns has_owner owner_at in_memory may_read readers_at
  good_with = refl

  pub returns_with : returns (lent_to k lent) k.caller.number ≡ returns (lent_with k services lent) k.caller.number
  unfolding returns owns has_owner owner_at in_memory
  returns_with = refl

-- a word of which the owner is known, and its set
module _ (m : Bool) (n : ℕ) (owners sets services : List ℕ) (c x : ℕ) (h : x < n) where
  pub own_word : get_or owners x 0 ≡ c → reaches (asked m n owners sets services) c x ≡ true
  unfolding owns has_owner owner_at in_memory
  own_word e = simp (lt-ltb x n h, eq-eqb (get_or owners x 0) c e)

  pub word_by_set : (get_or owners x 0 ≡ c → ⊥) → (set : ℕ) → set ≡ get_or sets x 0 → (b : Bool) → b ≡ member set c
      → reaches (asked m n owners sets services) c x ≡ b
  unfolding owns has_owner owner_at in_memory may_jump jumpers_at
  word_by_set e set f b g = simp (lt-ltb x n h, ne_eqb (get_or owners x 0) c e, g, f)

module _ (s : State) (c : ℕ) where
  abbrev pub seen : List ℕ → List ℕ → State
  seen sets services = asked s.cpu.strict s.cpu.n s.owners sets services

  reaches_words : (sets : List ℕ) (x : ℕ) → reaches (seen sets []) c x ≡ (owns s c x || member (cond (ltb x s.cpu.n) (get_or sets x empty) empty) c)
  unfolding may_jump jumpers_at in_memory
  reaches_words sets x =
      ap (λ (b : Bool). b || may_jump (seen sets []) c x) (same_owns (seen sets []) s c x refl refl refl)
      ∙ ap (λ (set : ℕ). owns s c x || member set c) (go (ltb x s.cpu.n) (is_service s.cpu.strict x))
    where
      go : (a b : Bool) → cond a (get_or sets x empty) (cond b (get_or [] (x - isolate) empty) empty) ≡ cond a (get_or sets x empty) empty
      go true b = refl
      go false true = refl
      go false false = refl

  pub reaches_own : (x : ℕ) → reaches (seen [] []) c x ≡ owns s c x
  reaches_own x =
      reaches_words [] x ∙ ap (λ (set : ℕ). owns s c x || member set c) (cond_same (ltb x s.cpu.n) empty)
      ∙ ap (λ (b : Bool). owns s c x || b) (member_empty c)
      ∙ or-false (owns s c x)

  pub reaches_jump : (x : ℕ) → reaches (seen s.jumpers s.cpu.services) c x ≡ (owns s c x || may_jump s c x)
  unfolding may_jump jumpers_at in_memory
  reaches_jump x = ap (λ (b : Bool). b || may_jump s c x) (same_owns (seen s.jumpers s.cpu.services) s c x refl refl refl)

  pub reaches_store : (x : ℕ) → reaches (seen s.writers []) c x ≡ (owns s c x || may_store s c x)
  unfolding may_store writers_at in_memory
  reaches_store x = reaches_words s.writers x

  pub reaches_read : s.cpu.strict ≡ true → (x : ℕ) → reaches (seen s.readers []) c x ≡ (owns s c x || may_read s c x)
  reaches_read e x = reaches_words s.readers x ∙ ap (λ (b : Bool). owns s c x || b) (sym (read_strict s c x e))

  -- a set that is there in strict mode alone
  fourth_same : (m : Bool) (ps : List Pair) (t u : ℕ → Bool) → (m ≡ true → (x : ℕ) → t x ≡ u x) → (not m || within ps t) ≡ within (cond m ps []) u
  fourth_same true ps t u e = ap (within ps) (fun_ext (e refl))
  fourth_same false ps t u e = sym (within_if false ps u)

  -- each of the sets is within what c reaches by the sets of numbers that count for it
  pub sets_within_lem : (r : Bool)
      → r ≡ (within (set_a s) (reaches (seen [] []) c) && within (set_j s) (reaches (seen s.jumpers s.cpu.services) c) && within (set_s s) (reaches (seen s.writers []) c)
      && (not s.cpu.strict || within (set_at s.words (reg s.cpu.regs 4)) (reaches (seen s.readers []) c)))
      → r ≡ sets_within s c
  unfolding sets_within
  sets_within_lem r e =
      e ∙ simp (fun_ext reaches_own, fun_ext reaches_jump, fun_ext reaches_store)
      (ap (λ (b : Bool). within (set_a s) (owns s c) && within (set_j s) (λ x. owns s c x || may_jump s c x) && within (set_s s) (λ x. owns s c x || may_store s c x) && b)
      (fourth_same s.cpu.strict (set_at s.words (reg s.cpu.regs 4)) (reaches (seen s.readers []) c) (λ x. owns s c x || may_read s c x) reaches_read))

  -- r15 is a word that c owns and that is not in A'
  pub leaves : (r : Bool) → r ≡ (ltb (reg s.cpu.regs 15) s.cpu.n && owns (seen [] []) c (reg s.cpu.regs 15) && not (in_set (set_a s) (reg s.cpu.regs 15)))
      → r ≡ returns s c
  unfolding returns in_memory
  leaves r e =
      e ∙ ap (λ (b : Bool). ltb (reg s.cpu.regs 15) s.cpu.n && b && not (in_set (set_a s) (reg s.cpu.regs 15)))
      (same_owns (seen [] []) s c (reg s.cpu.regs 15) refl refl refl)
