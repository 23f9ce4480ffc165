-- Walks that stop at the first address or pair that does not pass, in the forms in which the code comes to them.
use Rattle.std.specs.Prelude.{◌≡◌, unwrap_or, Option, Some, None, MatchOption, Bool, List, get_or}
use Rattle.std.proofs.Math.Path.{refl, sym, ap}
use Rattle.std.proofs.Common.{◌∙◌, not-suc-le-zero}
use Rattle.std.proofs.Math.Bool.{true, false}
use Prim.Native.Nat.{ℕ, zero, suc, ◌+◌, ◌-◌, ◌<◌, ◌≤◌}
use native.Mathlib.Omega.{arith}
use Rattle.std.proofs.Math.Decide.{ℕ_discrete}
use Rattle.common.specs.AddressSets.{Pair, pairs_at, set_at, all_from}
use Rattle.common.proofs.Laws.Tests.{clash}
use Rattle.address_sets.specs.SetLaws.{pair_at, Every}
use Rattle.reasons.specs.First.{first_not, first_pair}
use Rattle.reasons.specs.Laws.FirstLaws.{first_fails, pairs_length}

-- ---- addresses

-- what a walk from `first` on and before `past` finds: the first address that does not pass, or none
abbrev pub IsFirstNot : (ℕ → Bool) → ℕ → ℕ → Option ℕ → Type 0
IsFirstNot test first past found =
    MatchOption found (all_from test first (past - first) ≡ true)
    (λ x. (all_from test first (past - first) ≡ false) × (x ≡ first_not test first (past - first)))

module _ (test : ℕ → Bool) where
  -- i does not pass, and all before it do
  first_at : (i k y : ℕ) → y ≤ i → i < y + k → test i ≡ false → ((z : ℕ) → y ≤ z → z < i → test z ≡ true) → (all_from test y k ≡ false) × (i ≡ first_not test y k)
  unfolding all_from first_not
  first_at i zero y a b e f = absurd (omega arith)
  first_at i (suc k) y a b e f = go (ℕ_discrete y i) (first_at i k (suc y))
    where
      go : Dec (y ≡ i) → (suc y ≤ i → i < suc y + k → test i ≡ false → ((z : ℕ) → suc y ≤ z → z < i → test z ≡ true) → (all_from test (suc y) k ≡ false) × (i ≡ first_not test (suc y) k))
          → (all_from test y (suc k) ≡ false) × (i ≡ first_not test y (suc k))
      go (yes s) ih = let z : test y ≡ false = ap test s ∙ e in (simp z, simp z (sym s))
      go (no s) ih =
          let z : test y ≡ true = f y (omega arith) (omega arith) in
          let r = ih (omega arith) (omega arith) e (λ z l u. f z (omega arith) u) in
          (simp z r.0, simp z r.1)

  none_fails : (x k : ℕ) → ((z : ℕ) → x ≤ z → z < x + k → test z ≡ true) → all_from test x k ≡ true
  none_fails x k f = go (all_from test x k) refl
    where
      go : (b : Bool) → all_from test x k ≡ b → all_from test x k ≡ true
      go true e = e
      go false e = let i = first_fails test k x e in clash (f (first_not test x k) i.from i.below) i.fails

  -- what `find` over the addresses says
  pub found_first : (first past : ℕ) (r : Option ℕ)
      → MatchOption r ((k : ℕ) → first ≤ k → k < past → test k ≡ true) (λ i. (first ≤ i) × (i < past) × (test i ≡ false) × ((k : ℕ) → first ≤ k → k < i → test k ≡ true))
      → IsFirstNot test first past r
  found_first first past None h = none_fails first (past - first) (λ z l u. h z l (omega arith))
  found_first first past (Some i) h = let l = h.0 in let u = h.1 in first_at i (past - first) first l (omega arith) h.2 h.3

-- ---- pairs: those before j pass, and pair j does not

module _ {every : List Pair → Bool} {each : Pair → Bool} (law : Every every each) (tell : Pair → ℕ → ℕ) (words : List ℕ) (q : ℕ) where
  first_is : (j k : ℕ) → j < k → every (pairs_at words (q + 1) j) ≡ true → each (pair_at words (q + 1) j) ≡ false
      → (first_pair every tell (pairs_at words (q + 1) k) ≡ tell (pair_at words (q + 1) j) j) × (every (pairs_at words (q + 1) k) ≡ false)
  unfolding pairs_at first_pair
  first_is j zero h e f = absurd (not-suc-le-zero h)
  first_is j (suc k) h e f = go (ℕ_discrete j k) (first_is j k)
    where
      go : Dec (j ≡ k)
          → (j < k → every (pairs_at words (q + 1) j) ≡ true → each (pair_at words (q + 1) j) ≡ false
          → (first_pair every tell (pairs_at words (q + 1) k) ≡ tell (pair_at words (q + 1) j) j) × (every (pairs_at words (q + 1) k) ≡ false))
          → (first_pair every tell (pairs_at words (q + 1) (suc k)) ≡ tell (pair_at words (q + 1) j) j) × (every (pairs_at words (q + 1) (suc k)) ≡ false)
      go (yes s) ih =
          let a : every (pairs_at words (q + 1) k) ≡ true = ap (λ (m : ℕ). every (pairs_at words (q + 1) m)) (sym s) ∙ e in
          let b : each (pair_at words (q + 1) k) ≡ false = ap (λ (m : ℕ). each (pair_at words (q + 1) m)) (sym s) ∙ f in
          (simp (a, pairs_length words (q + 1) k, s), law.more (pair_at words (q + 1) k) (pairs_at words (q + 1) k) ∙ simp (a, b))
      go (no s) ih =
          let i = ih (omega arith) e f in
          (simp i.1 i.0, law.more (pair_at words (q + 1) k) (pairs_at words (q + 1) k) ∙ simp i.1)

  pub first_pair_lem : (j : ℕ) (p : Pair) → p ≡ pair_at words (q + 1) j → j < get_or words q 0 → every (pairs_at words (q + 1) j) ≡ true → each p ≡ false
      → tell p j ≡ first_pair every tell (set_at words q)
  unfolding set_at
  first_pair_lem j p e h t f = ap (λ (r : Pair). tell r j) e ∙ sym (first_is j (get_or words q 0) h t (ap each (sym e) ∙ f)).0

  -- the pairs before j pass
  every_below : (j : ℕ) → ((k : ℕ) → k < j → each (pair_at words (q + 1) k) ≡ true) → every (pairs_at words (q + 1) j) ≡ true
  unfolding pairs_at
  every_below zero f = law.none
  every_below (suc j) f =
      let t : every (pairs_at words (q + 1) j) ≡ true = every_below j (λ k l. f k (omega arith)) in
      let h : each (pair_at words (q + 1) j) ≡ true = f j (omega arith) in
      law.more (pair_at words (q + 1) j) (pairs_at words (q + 1) j) ∙ simp (t, h)

  -- what `find` over the numbers of the pairs says of a set that does not pass
  pub found_pair : every (set_at words q) ≡ false → (r : Option ℕ)
      → MatchOption r ((k : ℕ) → 0 ≤ k → k < get_or words q 0 → each (pair_at words (q + 1) k) ≡ true)
      (λ i. (0 ≤ i) × (i < get_or words q 0) × (each (pair_at words (q + 1) i) ≡ false) × ((k : ℕ) → 0 ≤ k → k < i → each (pair_at words (q + 1) k) ≡ true))
      → tell (pair_at words (q + 1) (unwrap_or r 0)) (unwrap_or r 0) ≡ first_pair every tell (set_at words q)
  unfolding set_at
  found_pair h None f = clash (every_below (get_or words q 0) (λ k l. f k (omega arith) l)) h
  found_pair h (Some i) f = first_pair_lem i (pair_at words (q + 1) i) refl f.1 (every_below i (λ k l. f.3 k (omega arith) l)) f.2
