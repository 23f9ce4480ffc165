-- What `widest` means: how many compartments may store to the most widely writable word, its owner counted once; no word has more, and one has so many.
use Rattle.std.specs.Prelude.{◌≡◌, Bool, ◌||◌, leb, eqb, get_or, length}
use Rattle.std.proofs.Math.Path.{refl, ap}
use Rattle.std.proofs.Common.{sym, ap₂, ◌∙◌, zero-add}
use Rattle.std.proofs.Math.Bool.{true, false, or_comm}
use Prim.Native.Nat.{ℕ, zero, suc, ◌+◌, ◌-◌, ◌≤◌, ◌<◌, min, max}
use native.Mathlib.Omega.{arith}
use Rattle.std.proofs.Math.Decide.{ℕ_discrete}
use borrow.Author.Tests.{ltb-true, ltb-false, lt-ltb, ne_eqb}
use Rattle.std.proofs.Math.Dec.{ltb}
use Rattle.common.specs.Instructions.{bit}
use Rattle.rules.specs.Compartments.{numbers, member, insert, size_below}
use Rattle.rules.specs.State.{State, in_memory, has_owner, owner_at, writers_at, owns, may_store}
use Rattle.rules.specs.Counts.{count_from, writer_count, most_below, widest}
use Rattle.rules.specs.Laws.CompartmentLaws.{eqb_swap, member_insert}
use Rattle.rules.specs.Laws.Tested.{sized}
use Rattle.rules.proofs.Laws.FormLaws.{is_sized}

-- ---- the writers of one word

-- the numbers that may store to x: "the owner of the instruction owns the target or is in the target's W"; and one more for an owner that is no number of a set
abbrev pub writing : State → ℕ → ℕ
writing s x = count_from (λ c. owns s c x || may_store s c x) 0 numbers + bit (leb numbers (get_or s.owners x 0))

-- the owner joined W, number by number
joined : (owner set k : ℕ) → k ≤ numbers → size_below k (insert set owner) ≡ count_from (λ c. eqb owner c || member set c) 0 k
unfolding size_below count_from insert
joined owner set zero h = refl
joined owner set (suc k) h =
    ap₂ (λ (m : ℕ) (b : Bool). m + bit b) (joined owner set k (omega arith))
    (one ∙ ap (λ (c : ℕ). eqb owner c || member set c) (sym (zero-add k)))
  where
    go : (t : Bool) → ltb owner numbers ≡ t → member (insert set owner) k ≡ (eqb owner k || member set k)
    go true e = member_insert set owner k (ltb-true owner numbers e) ∙ or_comm (member set k) (eqb k owner) ∙ ap (λ (b : Bool). b || member set k) (eqb_swap k owner)
    go false e = let l = ltb-false owner numbers e in simp (e, ne_eqb owner k (λ f. omega arith))

    one : member (insert set owner) k ≡ (eqb owner k || member set k)
    one = go (ltb owner numbers) refl

writers_counted : (s : State) (x : ℕ) → x < s.cpu.n → writer_count (get_or s.owners x 0) (get_or s.writers x 0) ≡ writing s x
unfolding writer_count owns has_owner owner_at may_store writers_at in_memory
writers_counted s x h = simp (lt-ltb x s.cpu.n h, joined (get_or s.owners x 0) (get_or s.writers x 0) numbers (omega arith))

-- ---- the most of them

module _ (f : ℕ → ℕ) where
  most_at : (k x : ℕ) → x < k → f x ≤ most_below k f
  unfolding most_below
  most_at zero x h = absurd (omega arith)
  most_at (suc k) x h = go (ℕ_discrete x k) (most_at k x)
    where
      go : Dec (x ≡ k) → (x < k → f x ≤ most_below k f) → f x ≤ max (most_below k f) (f k)
      go (yes e) ih = let g : f x ≡ f k = ap f e in omega arith
      go (no e) ih = let i = ih (omega arith) in omega arith

  -- a place where f gives it
  record Given (k most : ℕ) : Type 0 where
    place : ℕ
    below : place < k
    gives : f place ≡ most

  most_given : (k : ℕ) → Given (suc k) (most_below (suc k) f)
  unfolding most_below
  most_given zero = record { place = 0; below = omega arith; gives = omega arith }
  most_given (suc k) = go (ltb (most_below (suc k) f) (f (suc k))) refl (most_given k)
    where
      go : (b : Bool) → ltb (most_below (suc k) f) (f (suc k)) ≡ b → Given (suc k) (most_below (suc k) f) → Given (suc (suc k)) (max (most_below (suc k) f) (f (suc k)))
      go true e m = let l : most_below (suc k) f < f (suc k) = ltb-true _ _ e in record { place = suc k; below = omega arith; gives = omega arith }
      go false e m =
          let l : f (suc k) ≤ most_below (suc k) f = ltb-false _ _ e in
          let b : m.place < suc k = m.below in
          record { place = m.place; below = omega arith; gives = m.gives ∙ omega arith }

-- ---- what it means in a state whose sizes pass 14

-- a word that so many may store to
pub record Met (s : State) (most : ℕ) : Type 0 where
  pub place : ℕ
  pub below : place < s.cpu.n
  pub writers : writing s place ≡ most

module _ (s : State) (ok : sized s ≡ true) where
  abbrev at : ℕ → ℕ
  at x = writer_count (get_or s.owners x 0) (get_or s.writers x 0)

  all_places : min s.cpu.n (min (length s.owners) (length s.writers)) ≡ s.cpu.n
  all_places =
      let z = is_sized s ok in
      let l : s.cpu.n ≤ length s.words = z.lent.enough in
      let o : length s.owners ≡ length s.words = z.lent.owners in
      let w : length s.writers ≡ length s.words = z.lent.writers in
      omega arith

  is_most : widest s ≡ most_below s.cpu.n at
  unfolding widest
  is_most = ap (λ (k : ℕ). most_below k at) all_places

  pub widest_most : (x : ℕ) → x < s.cpu.n → writing s x ≤ widest s
  widest_most x h =
      let e = writers_counted s x h in
      let w = is_most in
      let m = most_at at s.cpu.n x h in
      omega arith

  pub widest_met : Met s (widest s)
  widest_met =
      let n : 1 ≤ s.cpu.n = (is_sized s ok).some in
      let e : s.cpu.n ≡ suc (s.cpu.n - 1) = omega arith in
      let m = most_given at (s.cpu.n - 1) in
      let b : m.place < suc (s.cpu.n - 1) = m.below in
      let l : m.place < s.cpu.n = omega arith in
      record { place = m.place; below = l; writers = sym (writers_counted s m.place l) ∙ m.gives ∙ ap (λ (k : ℕ). most_below k at) (sym e) ∙ sym is_most }

-- no word at all
pub widest_none : (s : State) → s.cpu.n ≡ 0 → widest s ≡ 0
unfolding widest most_below
widest_none s h =
    let z : min s.cpu.n (min (length s.owners) (length s.writers)) ≡ 0 = omega arith in
    ap (λ (k : ℕ). most_below k (λ x. writer_count (get_or s.owners x 0) (get_or s.writers x 0))) z
