-- The first that does not pass: it does not, and all before it do.
use Rattle.std.specs.Prelude.{◌≡◌, Bool, cond, ◌&&◌, ◌||◌, not, ltb, get_or, length}
use Rattle.std.proofs.Math.Path.{refl, subst}
use Rattle.std.proofs.Common.{ap, ◌∙◌, add-one, arith}
use Rattle.std.proofs.Math.Bool.{true, false}
use mathlib.Core.List.{List, [], ◌∷◌}
use Prim.Native.Nat.{ℕ, zero, suc, ◌+◌, ◌-◌, ◌*◌, ◌≤◌, ◌<◌}
use Rattle.std.proofs.Math.Decide.{ℕ_discrete}
use borrow.Author.Tests.{ltb-true, ltb-false, le-leb, lt-ltb}
use Rattle.common.specs.AddressSets.{Pair, pairs_at, ordered, in_pair, in_set, all_from, within}
use Rattle.common.proofs.Laws.Tests.{both, clash}
use Rattle.reasons.specs.First.{first_not, first_pair, first_out, first_disordered, first_set}

-- ---- of the addresses from x on

pub record First (test : ℕ → Bool) (x past y : ℕ) : Type 0 where
  pub from : x ≤ y
  pub below : y < past
  pub fails : test y ≡ false
  pub before : (z : ℕ) → x ≤ z → z < y → test z ≡ true

module _ (test : ℕ → Bool) where
  pub first_fails : (k x : ℕ) → all_from test x k ≡ false → First test x (x + k) (first_not test x k)
  unfolding all_from first_not
  first_fails zero x h = clash refl h
  first_fails (suc k) x h = go (test x) refl (first_fails k (suc x))
    where
      go : (b : Bool) → test x ≡ b → (all_from test (suc x) k ≡ false → First test (suc x) (suc x + k) (first_not test (suc x) k)) → First test x (x + suc k) (first_not test x (suc k))
      go true e ih =
          let i = ih (simp e at h) in
          let f : suc x ≤ first_not test (suc x) k = i.from in
          let b : first_not test (suc x) k < suc x + k = i.below in
          let at : (z : ℕ) → x ≤ z → z < first_not test (suc x) k → test z ≡ true = λ z l u. here z l u (ℕ_discrete x z) (i.before z) in
          simp e (record { from = omega arith; below = omega arith; fails = i.fails; before = at })
        where
          here : (z : ℕ) → x ≤ z → z < first_not test (suc x) k → Dec (x ≡ z) → (suc x ≤ z → z < first_not test (suc x) k → test z ≡ true) → test z ≡ true
          here z l u (yes q) f = subst (λ (y : ℕ). test y ≡ true) q e
          here z l u (no q) f = f (omega arith) u
      go false e ih = simp e (record { from = omega arith; below = omega arith; fails = e; before = λ z l u. absurd (omega arith) })

-- ---- of the pairs of a set

-- it is in the set, and does not pass
module _ (test : ℕ → Bool) where
  pub out_fails : (ps : List Pair) → within ps test ≡ false → (in_set ps (first_out test ps) ≡ true) × (test (first_out test ps) ≡ false)
  unfolding within in_set first_pair
  out_fails [] h = clash refl h
  out_fails (p ∷ ps) h = go (within ps test) refl (out_fails ps)
    where
      go : (b : Bool) → within ps test ≡ b → (within ps test ≡ false → (in_set ps (first_out test ps) ≡ true) × (test (first_out test ps) ≡ false))
          → (in_set (p ∷ ps) (first_out test (p ∷ ps)) ≡ true) × (test (first_out test (p ∷ ps)) ≡ false)
      go true e ih =
          let f = first_fails test (p.past - p.first) p.first (simp e at h) in
          let x = first_not test p.first (p.past - p.first) in
          let l : p.first ≤ first_not test p.first (p.past - p.first) = f.from in
          let u : first_not test p.first (p.past - p.first) < p.first + (p.past - p.first) = f.below in
          let i : in_pair p (first_not test p.first (p.past - p.first)) ≡ true = simp (le-leb _ _ l, lt-ltb (first_not test p.first (p.past - p.first)) p.past (omega arith)) in
          simp e (or_right (in_set ps (first_not test p.first (p.past - p.first))) _ i, f.fails)
        where
          or_right : (a b : Bool) → b ≡ true → (a || b) ≡ true
          or_right true b q = refl
          or_right false b q = q
      go false e ih = let i = ih e in simp e (or_left (in_set ps (first_out test ps)) _ i.0, i.1)
        where
          or_left : (a b : Bool) → a ≡ true → (a || b) ≡ true
          or_left true b q = refl
          or_left false b q = clash q refl

pub pairs_length : (words : List ℕ) (p k : ℕ) → length (pairs_at words p k) ≡ k
unfolding pairs_at
pairs_length words p zero = refl
pairs_length words p (suc k) = ap suc (pairs_length words p k)

-- pair i of those at place p is the first that has first >= past
pub record Disordered (words : List ℕ) (p k i : ℕ) : Type 0 where
  pub counted : i < k
  pub wrong : get_or words (p + 2 * i + 1) 0 ≤ get_or words (p + 2 * i) 0
  pub before : (j : ℕ) → j < i → get_or words (p + 2 * j) 0 < get_or words (p + 2 * j + 1) 0

ordered_below : (words : List ℕ) (p k : ℕ) → ordered (pairs_at words p k) ≡ true → (j : ℕ) → j < k → get_or words (p + 2 * j) 0 < get_or words (p + 2 * j + 1) 0
unfolding ordered pairs_at
ordered_below words p zero h j l = absurd (omega arith)
ordered_below words p (suc k) h j l = go (ℕ_discrete j k) (both (ordered (pairs_at words p k)) _ h) (ordered_below words p k)
  where
    go : Dec (j ≡ k) → (ordered (pairs_at words p k) ≡ true) × (ltb (get_or words (p + 2 * k) 0) (get_or words (p + 2 * k + 1) 0) ≡ true)
        → (ordered (pairs_at words p k) ≡ true → (j : ℕ) → j < k → get_or words (p + 2 * j) 0 < get_or words (p + 2 * j + 1) 0)
        → get_or words (p + 2 * j) 0 < get_or words (p + 2 * j + 1) 0
    go (yes e) w ih = rw e (ltb-true _ _ w.1)
    go (no e) w ih = ih w.0 j (omega arith)

pub first_disordered_lem : (words : List ℕ) (p k : ℕ) → ordered (pairs_at words p k) ≡ false → Disordered words p k (first_disordered (pairs_at words p k))
unfolding ordered pairs_at first_pair
first_disordered_lem words p zero h = clash refl h
first_disordered_lem words p (suc k) h = go (ordered (pairs_at words p k)) refl (first_disordered_lem words p k)
  where
    go : (b : Bool) → ordered (pairs_at words p k) ≡ b → (ordered (pairs_at words p k) ≡ false → Disordered words p k (first_disordered (pairs_at words p k)))
        → Disordered words p (suc k) (first_disordered (pairs_at words p (suc k)))
    go true e ih =
        let w = ltb-false (get_or words (p + 2 * k) 0) (get_or words (p + 2 * k + 1) 0) (simp e at h) in
        simp (e, pairs_length words p k) (record { counted = omega arith; wrong = w; before = ordered_below words p k e })
    go false e ih =
        let i = ih e in
        let c : first_disordered (pairs_at words p k) < k = i.counted in
        simp e (record { counted = omega arith; wrong = i.wrong; before = i.before })

-- ---- of the four sets

pub record Failing (m : Bool) (test : ℕ → Bool) (r : ℕ) : Type 0 where
  pub fails : test r ≡ false
  pub first : 1 ≤ r
  pub last : r ≤ 4
  pub fourth : r ≡ 4 → m ≡ true
  pub before : (q : ℕ) → 1 ≤ q → q < r → test q ≡ true

-- the fourth is asked where m is true alone
pub set_fails : (m : Bool) (test : ℕ → Bool) → (test 1 && test 2 && test 3 && (not m || test 4)) ≡ false → Failing m test (first_set test)
unfolding first_set
set_fails m test h = go (test 1) (test 2) (test 3) m refl refl refl refl
  where
    up : (q r : ℕ) → q ≡ r → test r ≡ true → test q ≡ true
    up q r e t = ap test e ∙ t

    go : (a b c d : Bool) → test 1 ≡ a → test 2 ≡ b → test 3 ≡ c → m ≡ d → Failing m test (first_set test)
    go false b c d x y z w = simp x (record { fails = x; first = omega arith; last = omega arith; fourth = λ e. absurd (omega arith); before = λ q l u. absurd (omega arith) })
    go true false c d x y z w =
        simp (x, y) (record { fails = y; first = omega arith; last = omega arith; fourth = λ e. absurd (omega arith); before = λ q l u. up q 1 (omega arith) x })
    go true true false d x y z w =
        simp (x, y, z) (record { fails = z; first = omega arith; last = omega arith; fourth = λ e. absurd (omega arith); before = two })
      where
        two : (q : ℕ) → 1 ≤ q → q < 3 → test q ≡ true
        two q l u = at (ℕ_discrete q 1)
          where
            at : Dec (q ≡ 1) → test q ≡ true
            at (yes e) = up q 1 e x
            at (no e) = up q 2 (omega arith) y
    go true true true true x y z w =
        simp (x, y, z) (record { fails = simp (x, y, z, w) at h; first = omega arith; last = omega arith; fourth = λ e. w; before = three })
      where
        three : (q : ℕ) → 1 ≤ q → q < 4 → test q ≡ true
        three q l u = at (ℕ_discrete q 1) (ℕ_discrete q 2)
          where
            at : Dec (q ≡ 1) → Dec (q ≡ 2) → test q ≡ true
            at (yes e) f = up q 1 e x
            at (no e) (yes f) = up q 2 f y
            at (no e) (no f) = up q 3 (omega arith) z
    go true true true false x y z w = let n : true ≡ false = simp (x, y, z, w) at h in clash refl n
