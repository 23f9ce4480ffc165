-- What the tests on sets of pairs mean: membership is the union, `within` is "each address passes", no pair is no address, and what 8 asks for.
use Rattle.std.specs.Prelude.{◌≡◌, refl, Bool, true, false, ◌&&◌, List, [], ◌∷◌, ◌↔◌, ℕ, zero, suc, ◌+◌, ◌-◌, ◌*◌, ◌≤◌, ◌<◌, ltb, leb, get_or}
use Rattle.std.proofs.Common.{subst, arith, ltb-true, leb-true, le-leb, lt-ltb}
use Rattle.std.proofs.Math.Bool.{or-true, and-true}
use Rattle.std.proofs.Math.Decide.{ℕ_discrete}
use Rattle.common.proofs.Laws.Tests.{both, clash}
use Rattle.common.proofs.Laws.AddressSetLaws.{all_at, in_pair_lem, within_at}
use Rattle.common.specs.AddressSets.{Pair, pairs_at, set_at, inside, ordered, good_set, is_empty, in_set, all_from, within}

-- ---- one pair, and the pairs after it

in_first : (p : Pair) (ps : List Pair) (x : ℕ) → p.first ≤ x → x < p.past → in_set (p ∷ ps) x ≡ true
unfolding in_set
in_first p ps x l u = simp (le-leb p.first x l, lt-ltb x p.past u, or-true)

in_rest : (p : Pair) (ps : List Pair) (x : ℕ) → in_set ps x ≡ true → in_set (p ∷ ps) x ≡ true
unfolding in_set
in_rest p ps x h = simp h

-- ---- a set in memory

-- pair i of those at place p has x
pub record Among (words : List ℕ) (p k x : ℕ) : Type 0 where
  pub index : ℕ
  pub counted : index < k
  pub from : get_or words (p + 2 * index) 0 ≤ x
  pub below : x < get_or words (p + 2 * index + 1) 0

among_pairs : (words : List ℕ) (p k x : ℕ) → in_set (pairs_at words p k) x ≡ true → Among words p k x
unfolding in_set pairs_at
among_pairs words p zero x h = clash h refl
among_pairs words p (suc k) x h = go (in_set (pairs_at words p k) x) refl (among_pairs words p k x)
  where
    pair : Pair
    pair = record { first = get_or words (p + 2 * k) 0; past = get_or words (p + 2 * k + 1) 0 }

    go : (b : Bool) → in_set (pairs_at words p k) x ≡ b → (in_set (pairs_at words p k) x ≡ true → Among words p k x) → Among words p (suc k) x
    go true e ih = let a = ih e in record { index = a.index; counted = omega arith; from = a.from; below = a.below }
    go false e ih = let r = in_pair_lem pair x (simp e at h) in record { index = k; counted = omega arith; from = r.0; below = r.1 }

pairs_among : (words : List ℕ) (p k x : ℕ) → Among words p k x → in_set (pairs_at words p k) x ≡ true
unfolding pairs_at
pairs_among words p zero x a = let c : a.index < 0 = a.counted in absurd (omega arith)
pairs_among words p (suc k) x a = go (ℕ_discrete a.index k) (pairs_among words p k x)
  where
    go : Dec (a.index ≡ k) → (Among words p k x → in_set (pairs_at words p k) x ≡ true) → in_set (pairs_at words p (suc k)) x ≡ true
    go (yes e) ih =
        let f : get_or words (p + 2 * k) 0 ≤ x = subst (λ (i : ℕ). get_or words (p + 2 * i) 0 ≤ x) e a.from in
        let l : x < get_or words (p + 2 * k + 1) 0 = subst (λ (i : ℕ). x < get_or words (p + 2 * i + 1) 0) e a.below in
        in_first _ (pairs_at words p k) x f l
    go (no e) ih =
        let c : a.index < suc k = a.counted in
        in_rest _ (pairs_at words p k) x (ih (record { index = a.index; counted = omega arith; from = a.from; below = a.below }))

-- "A set is a count k, then k pairs (first, past); it means the union of first .. past-1"
pub in_set_iff : (words : List ℕ) (q x : ℕ) → (in_set (set_at words q) x ≡ true) ↔ Among words (q + 1) (get_or words q 0) x
unfolding set_at
in_set_iff words q x = (among_pairs words (q + 1) (get_or words q 0) x, pairs_among words (q + 1) (get_or words q 0) x)

-- ---- within

at_all : (test : ℕ → Bool) (k x : ℕ) → ((y : ℕ) → x ≤ y → y < x + k → test y ≡ true) → all_from test x k ≡ true
unfolding all_from
at_all test zero x h = refl
at_all test (suc k) x h =
    let a : test x ≡ true = h x (omega arith) (omega arith) in
    let b : all_from test (suc x) k ≡ true = at_all test k (suc x) (λ y l u. h y (omega arith) (omega arith)) in
    simp (a, b)

at_within : (ps : List Pair) (test : ℕ → Bool) → ((x : ℕ) → in_set ps x ≡ true → test x ≡ true) → within ps test ≡ true
unfolding within
at_within [] test h = refl
at_within (p ∷ ps) test h =
    let a : within ps test ≡ true = at_within ps test (λ x e. h x (in_rest p ps x e)) in
    let b : all_from test p.first (p.past - p.first) ≡ true = at_all test (p.past - p.first) p.first (λ y l u. h y (in_first p ps y l (omega arith))) in
    simp (a, b)

pub within_iff : (ps : List Pair) (test : ℕ → Bool) → (within ps test ≡ true) ↔ ((x : ℕ) → in_set ps x ≡ true → test x ≡ true)
within_iff ps test = (λ h x e. within_at ps test x h e, at_within ps test)

-- ---- empty

-- of a set that passed 8: there is no pair exactly where there is no address
pub empty_iff : (ps : List Pair) → ordered ps ≡ true → (is_empty ps ≡ true) ↔ ((x : ℕ) → in_set ps x ≡ false)
unfolding is_empty in_set ordered
empty_iff [] o = (λ h x. refl, λ h. refl)
empty_iff (p ∷ ps) o = (
  λ h. clash h refl,
  λ h. let u : p.first < p.past = ltb-true _ _ (both (ordered ps) (ltb p.first p.past) o).1 in
      clash (in_first p ps p.first (omega arith) u) (h p.first),
)

-- ---- good

ordered_at : (words : List ℕ) (p k : ℕ) → ordered (pairs_at words p k) ≡ true → (i : ℕ) → i < k → get_or words (p + 2 * i) 0 < get_or words (p + 2 * i + 1) 0
unfolding ordered pairs_at
ordered_at words p zero h i l = absurd (omega arith)
ordered_at words p (suc k) h i l = go (ℕ_discrete i k) (both (ordered (pairs_at words p k)) _ h) (ordered_at words p k)
  where
    go : Dec (i ≡ k) → (ordered (pairs_at words p k) ≡ true) × (ltb (get_or words (p + 2 * k) 0) (get_or words (p + 2 * k + 1) 0) ≡ true)
        → (ordered (pairs_at words p k) ≡ true → (j : ℕ) → j < k → get_or words (p + 2 * j) 0 < get_or words (p + 2 * j + 1) 0)
        → get_or words (p + 2 * i) 0 < get_or words (p + 2 * i + 1) 0
    go (yes e) w ih = rw e (ltb-true _ _ w.1)
    go (no e) w ih = ih w.0 i (omega arith)

at_ordered : (words : List ℕ) (p k : ℕ) → ((i : ℕ) → i < k → get_or words (p + 2 * i) 0 < get_or words (p + 2 * i + 1) 0) → ordered (pairs_at words p k) ≡ true
unfolding ordered pairs_at
at_ordered words p zero h = refl
at_ordered words p (suc k) h = simp (at_ordered words p k (λ i l. h i (omega arith)), lt-ltb _ _ (h k (omega arith)))

-- not 8: the pointer, the count and every pair are inside the n words, each pair has first < past, and the count and every word of a
-- pair pass the test of what may be read
pub good_set_iff : (words : List ℕ) (n : ℕ) (reads : ℕ → Bool) (q : ℕ)
    → (good_set words n reads q ≡ true)
    ↔ ((q < n) × (q + 1 + 2 * get_or words q 0 ≤ n)
    × ((i : ℕ) → i < get_or words q 0 → get_or words (q + 1 + 2 * i) 0 < get_or words (q + 1 + 2 * i + 1) 0)
    × ((x : ℕ) → q ≤ x → x < q + 1 + 2 * get_or words q 0 → reads x ≡ true))
unfolding good_set inside set_at
good_set_iff words n reads q = (
  λ h. let c = both _ (all_from reads q (suc (2 * get_or words q 0))) h in
      let a = both (ltb q n && leb (q + 1 + 2 * get_or words q 0) n) _ c.0 in
      let b = both (ltb q n) _ a.0 in (
        ltb-true _ _ b.0,
        leb-true _ _ b.1,
        ordered_at words (q + 1) (get_or words q 0) a.1,
        λ x l u. all_at reads (suc (2 * get_or words q 0)) q x c.1 l (omega arith),
      ),
  λ h. simp (
    lt-ltb _ _ h.0,
    le-leb _ _ h.1,
    at_ordered words (q + 1) (get_or words q 0) h.2,
    at_all reads (suc (2 * get_or words q 0)) q (λ y l u. h.3 y l (omega arith)),
  ),
)

-- where all may be read, the set's place and order alone count
pub good_free : (words : List ℕ) (n : ℕ) (reads : ℕ → Bool) (q : ℕ) → ((x : ℕ) → reads x ≡ true)
    → good_set words n reads q ≡ (inside words n q && ordered (set_at words q))
unfolding good_set
good_free words n reads q h = simp (at_all reads (suc (2 * get_or words q 0)) q (λ y l u. h y), and-true)

-- a good set's pairs are in order
pub good_ordered : (words : List ℕ) (n : ℕ) (reads : ℕ → Bool) (q : ℕ) → good_set words n reads q ≡ true → ordered (set_at words q) ≡ true
unfolding good_set
good_ordered words n reads q h = (both (inside words n q) _ (both (inside words n q && ordered (set_at words q)) _ h).0).1
