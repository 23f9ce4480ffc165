-- Laws of the sets that a caller points at: inside memory, in order, and in strict mode readable by the caller, word for word.
use Rattle.std.specs.Prelude.{◌≡◌, Bool, true, false, ◌&&◌, ◌||◌, not, List, [], ltb}
use Rattle.std.proofs.Math.Path.{sym, ap, fun_ext}
use Rattle.std.proofs.Common.{◌∙◌, leb-true}
use Prim.Native.Nat.{ℕ, suc, ◌+◌, ◌-◌, ◌*◌, ◌≤◌}
use native.Mathlib.Omega.{arith}
use Rattle.std.proofs.Math.ListN.{get_or}
use Rattle.common.proofs.Laws.Tests.{both}
use Rattle.common.specs.Instructions.{reg}
use Rattle.common.specs.AddressSets.{inside, good_set, all_from}
use Rattle.common.proofs.Laws.Meaning.{good_free}
use Rattle.rules.specs.State.{State, in_memory, has_owner, owner_at, readers_at, owns, may_read, reads}
use Rattle.rules.proofs.Theorems.Sheet.{free}
use Rattle.address_sets.specs.SetLaws.{in_order}
use Rattle.reach.specs.Called.{reading, reaches}
use Rattle.reach.specs.ReachLaws.{seen, reaches_read}

-- the words of a set that is in order are counted without wrapping
pub order_fits : (words : List ℕ) (n q : ℕ) → in_order words n q ≡ true → q + 1 + 2 * get_or words q 0 ≤ n
unfolding inside
order_fits words n q h = leb-true _ _ (both (ltb q n) _ (both (inside words n q) _ h).0).1

-- ---- the returns of `good`

pub not_in_order : (words : List ℕ) (n q : ℕ) (reads : ℕ → Bool) → in_order words n q ≡ false → false ≡ good_set words n reads q
unfolding good_set
not_in_order words n q reads h = simp h

module _ (words : List ℕ) (n q : ℕ) (h : in_order words n q ≡ true) (s : State) (c : ℕ) where
  pub all_read : s.cpu.strict ≡ false → true ≡ good_set words n (reads s c) q
  all_read e = sym (good_free words n (reads s c) q (free s e c) ∙ h)

  fenced : s.cpu.strict ≡ true → (x : ℕ) → reads s c x ≡ (owns s c x || may_read s c x)
  unfolding reads
  fenced e x = simp e

  -- k is the count, as the code read it
  pub reads_all : s.cpu.strict ≡ true → (k : ℕ) → k ≡ get_or words q 0 → (r : Bool)
      → r ≡ all_from (reaches (seen s c s.readers []) c) q (q + 1 + 2 * k - q) → r ≡ good_set words n (reads s c) q
  unfolding good_set
  reads_all e k g r f =
      let l : q + 1 + 2 * k - q ≡ suc (2 * get_or words q 0) = omega arith in
      f ∙ ap (all_from (reaches (seen s c s.readers []) c) q) l
      ∙ ap (λ (t : ℕ → Bool). all_from t q (suc (2 * get_or words q 0))) (fun_ext (λ x. reaches_read s c e x ∙ sym (fenced e x)))
      ∙ sym (ap (λ (b : Bool). b && all_from (reads s c) q (suc (2 * get_or words q 0))) h)
