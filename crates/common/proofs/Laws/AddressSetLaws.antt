-- A set of addresses read from the first n words, and what being within a set of addresses says.
use Rattle.std.specs.Prelude.{◌≡◌, Bool, cond, ◌&&◌, ◌||◌, not, List, [], ◌∷◌, take}
use Rattle.std.proofs.Math.Path.{refl, ap}
use Rattle.std.proofs.Common.{◌∙◌, subst, arith}
use Rattle.std.proofs.Math.Bool.{true, false}
use Prim.Native.Nat.{ℕ, zero, suc, ◌+◌, ◌-◌, ◌*◌, ◌≤◌, ◌<◌}
use Rattle.std.proofs.Math.Decide.{ℕ_discrete}
use borrow.Author.Tests.{ltb-true, leb-true}
use Rattle.std.proofs.Math.Dec.{ltb, leb}
use Rattle.std.proofs.Math.ListN.{get_or}
use Rattle.std.proofs.Math.Seq.{get_or-take}
use Rattle.common.specs.AddressSets.{Pair, pairs_at, set_at, inside, ordered, good_set, in_pair, in_set, all_from, within}
use Rattle.common.proofs.Laws.Tests.{both, clash}

module _ (ws : List ℕ) (n : ℕ) where
  pairs_take : (p k : ℕ) → p + 2 * k ≤ n → pairs_at (take n ws) p k ≡ pairs_at ws p k
  unfolding pairs_at
  pairs_take p zero h = refl
  pairs_take p (suc k) h =
      let a : get_or (take n ws) (p + 2 * k) 0 ≡ get_or ws (p + 2 * k) 0 = get_or-take n ws (p + 2 * k) 0 (omega arith) in
      let b : get_or (take n ws) (p + 2 * k + 1) 0 ≡ get_or ws (p + 2 * k + 1) 0 = get_or-take n ws (p + 2 * k + 1) 0 (omega arith) in
      let c : pairs_at (take n ws) p k ≡ pairs_at ws p k = pairs_take p k (omega arith) in
      simp (a, b, c)

  inside_take : (q : ℕ) → inside (take n ws) n q ≡ inside ws n q
  unfolding inside
  inside_take q = go (ltb q n) refl
    where
      go : (b : Bool) → ltb q n ≡ b → (ltb q n && leb (q + 1 + 2 * get_or (take n ws) q 0) n) ≡ (ltb q n && leb (q + 1 + 2 * get_or ws q 0) n)
      go true e = simp (get_or-take n ws q 0 (ltb-true q n e))
      go false e = simp e

  set_take : (q : ℕ) → inside ws n q ≡ true → set_at (take n ws) q ≡ set_at ws q
  unfolding inside set_at
  set_take q h =
      let t = both (ltb q n) (leb (q + 1 + 2 * get_or ws q 0) n) h in
      let hq : q < n = ltb-true q n t.0 in
      let hk : q + 1 + 2 * get_or ws q 0 ≤ n = leb-true (q + 1 + 2 * get_or ws q 0) n t.1 in
      ap (pairs_at (take n ws) (q + 1)) (get_or-take n ws q 0 hq) ∙ pairs_take (q + 1) (get_or ws q 0) hk

  count_take : (q : ℕ) → inside ws n q ≡ true → get_or (take n ws) q 0 ≡ get_or ws q 0
  unfolding inside
  count_take q h = get_or-take n ws q 0 (ltb-true q n (both (ltb q n) _ h).0)

  pub good_take : (t : ℕ → Bool) (q : ℕ) → good_set (take n ws) n t q ≡ good_set ws n t q
  unfolding good_set
  good_take t q = go (inside ws n q) refl
    where
      go : (b : Bool) → inside ws n q ≡ b → good_set (take n ws) n t q ≡ good_set ws n t q
      go true e = simp (inside_take q, set_take q e, count_take q e)
      go false e = simp (inside_take q, e)

  -- a set that passes 8 is read below n alone
  pub good_set_take : (t : ℕ → Bool) (q : ℕ) → good_set ws n t q ≡ true → set_at (take n ws) q ≡ set_at ws q
  unfolding good_set
  good_set_take t q h = set_take q (both (inside ws n q) (ordered (set_at ws q)) (both _ _ h).0).0

-- ---- what is within t passes t

pub all_at : (t : ℕ → Bool) (k x y : ℕ) → all_from t x k ≡ true → x ≤ y → y < x + k → t y ≡ true
unfolding all_from
all_at t zero x y h l u = absurd (omega arith)
all_at t (suc k) x y h l u = go (ℕ_discrete x y) (both (t x) (all_from t (suc x) k) h) (all_at t k (suc x) y)
  where
    go : Dec (x ≡ y) → (t x ≡ true) × (all_from t (suc x) k ≡ true) → (all_from t (suc x) k ≡ true → suc x ≤ y → y < suc x + k → t y ≡ true) → t y ≡ true
    go (yes e) w ih = subst (λ (z : ℕ). t z ≡ true) e w.0
    go (no e) w ih = ih w.1 (omega arith) (omega arith)

pub in_pair_lem : (p : Pair) (x : ℕ) → in_pair p x ≡ true → (p.first ≤ x) × (x < p.past)
in_pair_lem p x h = let v = both (leb p.first x) (ltb x p.past) h in (leb-true _ _ v.0, ltb-true _ _ v.1)

pub within_at : (ps : List Pair) (t : ℕ → Bool) (x : ℕ) → within ps t ≡ true → in_set ps x ≡ true → t x ≡ true
unfolding within in_set
within_at [] t x h e = clash e refl
within_at (p ∷ ps) t x h e = go (in_set ps x) refl (both (within ps t) (all_from t p.first (p.past - p.first)) h) (within_at ps t x)
  where
    go : (b : Bool) → in_set ps x ≡ b → (within ps t ≡ true) × (all_from t p.first (p.past - p.first) ≡ true)
        → (within ps t ≡ true → in_set ps x ≡ true → t x ≡ true) → t x ≡ true
    go true g w ih = ih w.0 g
    go false g w ih =
        let r = in_pair_lem p x (simp g at e) in
        let l : p.first ≤ x = r.0 in
        let u : x < p.past = r.1 in
        all_at t (p.past - p.first) p.first x w.1 l (omega arith)

-- a set that is there in one mode alone, and has nothing in the other
pub within_if : (m : Bool) (ps : List Pair) (t : ℕ → Bool) → within (cond m ps []) t ≡ (not m || within ps t)
unfolding within
within_if true ps t = refl
within_if false ps t = refl
