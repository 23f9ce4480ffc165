-- Laws of the lists of tags, each changed at the places of a set: `owned` and `joined` are one change by place.
use Rattle.std.specs.Prelude.{◌≡◌, ◌≢◌, ◌⊎◌, Bool, not, ◌&&◌, ◌||◌, leb, ltb, length, set}
use Rattle.std.proofs.Math.Path.{refl, sym, ap}
use Rattle.std.proofs.Common.{ap₂, ◌∙◌, subst, inl, inr, le_of_suc-le-suc, not-suc-le-zero, suc-add, add-suc, add-zero, zero-add, add-one, length-set, ext_get_or, get_or-set_same, get_or-set_other}
use Rattle.std.proofs.Math.Bool.{true, false, cond, and-false}
use mathlib.Core.List.{List, [], ◌∷◌}
use Prim.Native.Nat.{ℕ, zero, suc, ◌+◌, ◌<◌, ◌≤◌, min, max}
use Rattle.std.proofs.Math.Decide.{ℕ_discrete}
use native.Mathlib.Omega.{arith}
use borrow.Author.Tests.{not-true, not-false, eq-eqb, le-leb, lt-ltb, leb-true, ltb-true, ltb-false}
use Rattle.std.proofs.Math.ListN.{get_or}
use Rattle.std.proofs.Math.Seq.{set_out}
use Rattle.common.proofs.Laws.Tests.{both, bool_ext}
use Rattle.common.specs.Instructions.{bit}
use Rattle.common.specs.Services.{isolate, service_count}
use Rattle.common.specs.AddressSets.{Pair, pairs_at, set_at, in_pair, in_set}
use Rattle.rules.specs.Compartments.{insert}
use Rattle.rules.specs.Counts.{count_from}
use Rattle.rules.specs.Laws.CountLaws.{differs, differing, differing_none, differing_most, differing_set, differing_then}
use Rattle.rules.proofs.Laws.TagLaws.{beyond}
use Rattle.rules.specs.Step.{map_from, below}
use Rattle.address_sets.specs.SetLaws.{pair_at}

-- one set, in which a number joins or not
abbrev pub joined_if : Bool → ℕ → ℕ → ℕ
joined_if joins set c = cond joins (insert set c) set

-- ---- a change by place

length_from : (f : ℕ → ℕ → ℕ) (k : ℕ) (l : List ℕ) → length (map_from f k l) ≡ length l
unfolding map_from
length_from f k [] = refl
length_from f k (x ∷ xs) = ap suc (length_from f (suc k) xs)

get_d_from : (f : ℕ → ℕ → ℕ) (k : ℕ) (l : List ℕ) (i : ℕ) → i < length l → get_or (map_from f k l) i 0 ≡ f (k + i) (get_or l i 0)
unfolding map_from
get_d_from f k [] i h = absurd (not-suc-le-zero h)
get_d_from f k (x ∷ xs) zero h = rw add-zero
get_d_from f k (x ∷ xs) (suc i) h = get_d_from f (suc k) xs i (le_of_suc-le-suc h) ∙ ap (λ (m : ℕ). f m (get_or xs i 0)) (suc-add k i ∙ sym (add-suc k i))

-- g v in place of v where the test passes
abbrev change_at : (ℕ → Bool) → (ℕ → ℕ) → ℕ → ℕ → ℕ
change_at t g x v = cond (t x) (g v) v

abbrev changed : (ℕ → Bool) → (ℕ → ℕ) → List ℕ → List ℕ
changed t g l = map_from (change_at t g) 0 l

module _ (g : ℕ → ℕ) (l : List ℕ) where
  length_changed : (t : ℕ → Bool) → length (changed t g l) ≡ length l
  length_changed t = length_from (change_at t g) 0 l

  get_d_changed : (t : ℕ → Bool) (i : ℕ) → i < length l → get_or (changed t g l) i 0 ≡ change_at t g i (get_or l i 0)
  get_d_changed t i h = get_d_from (change_at t g) 0 l i h ∙ ap (λ (m : ℕ). change_at t g m (get_or l i 0)) (zero-add i)

  -- a list is the changed one where it is so at each place
  is_changed : (t : ℕ → Bool) (m : List ℕ) → length m ≡ length l → ((i : ℕ) → i < length l → get_or m i 0 ≡ change_at t g i (get_or l i 0))
      → m ≡ changed t g l
  is_changed t m e h =
      ext_get_or 0 m (changed t g l) (e ∙ sym (length_changed t))
      (λ i hi. let j : i < length l = subst (λ (x : ℕ). i < x) e hi in h i j ∙ sym (get_d_changed t i j))

  changed_none : (t : ℕ → Bool) → ((i : ℕ) → t i ≡ false) → l ≡ changed t g l
  changed_none t h = is_changed t l refl (λ i hi. sym (ap (λ (b : Bool). cond b (g (get_or l i 0)) (get_or l i 0)) (h i)))

  -- tests that agree at the list's places
  changed_same : (t u : ℕ → Bool) → ((i : ℕ) → i < length l → t i ≡ u i) → changed t g l ≡ changed u g l
  changed_same t u h =
      is_changed u (changed t g l) (length_changed t)
      (λ i hi. get_d_changed t i hi ∙ ap (λ (b : Bool). cond b (g (get_or l i 0)) (get_or l i 0)) (h i hi))

  -- at one place more
  changed_set : (t u : ℕ → Bool) (a : ℕ) → a < length l → t a ≡ false → u a ≡ true → ((i : ℕ) → i ≢ a → u i ≡ t i)
      → set (changed t g l) a (g (get_or (changed t g l) a 0)) ≡ changed u g l
  changed_set t u a h e f k =
      is_changed u (set (changed t g l) a v) (length-set (changed t g l) a v ∙ length_changed t) (λ i hi. go i hi (ℕ_discrete i a))
    where
      v : ℕ
      v = g (get_or (changed t g l) a 0)

      go : (i : ℕ) → i < length l → Dec (i ≡ a) → get_or (set (changed t g l) a v) i 0 ≡ change_at u g i (get_or l i 0)
      go i hi (yes q) =
          subst (λ (m : ℕ). get_or (set (changed t g l) a v) m 0 ≡ change_at u g m (get_or l m 0)) (sym q)
          (let w : get_or (changed t g l) a 0 ≡ get_or l a 0 = get_d_changed t a h ∙ ap (λ (b : Bool). cond b (g (get_or l a 0)) (get_or l a 0)) e in
          get_or-set_same (changed t g l) a v 0 (subst (λ (x : ℕ). a < x) (sym (length_changed t)) h) ∙ ap g w ∙ simp f)
      go i hi (no q) = get_or-set_other (changed t g l) a i v 0 q ∙ get_d_changed t i hi ∙ simp (k i q)

-- ---- one pair, walked from its first place on

-- the places below n from first on, before x
abbrev walked : ℕ → ℕ → ℕ → ℕ → Bool
walked n first x = below n (record { first = first; past = x } ∷ [])

is_walked : (n first x i : ℕ) → i < n → first ≤ i → i < x → walked n first x i ≡ true
unfolding in_set
is_walked n first x i h k l = simp (lt-ltb i n h, le-leb first i k, lt-ltb i x l)

record Walked (n first x i : ℕ) : Type 0 where
  inside : i < n
  from : first ≤ i
  before : i < x

of_walked : (n first x i : ℕ) → walked n first x i ≡ true → Walked n first x i
unfolding in_set
of_walked n first x i h =
    let a = both (ltb i n) (leb first i && ltb i x) h in
    let b = both (leb first i) (ltb i x) a.1 in
    record { inside = ltb-true i n a.0; from = leb-true first i b.0; before = ltb-true i x b.1 }

not_walked : (n first x i : ℕ) → (Walked n first x i → ⊥) → walked n first x i ≡ false
not_walked n first x i h = go (walked n first x i) refl
  where
    go : (b : Bool) → walked n first x i ≡ b → walked n first x i ≡ false
    go true e = absurd (h (of_walked n first x i e))
    go false e = e

-- two walks agree at a place that both have passed, or neither
same_walked : (n first x y i : ℕ) → (i < n → first ≤ i → i < x → i < y) → (i < n → first ≤ i → i < y → i < x) → walked n first x i ≡ walked n first y i
same_walked n first x y i f g =
    bool_ext (walked n first x i) (walked n first y i)
    (λ h. let w = of_walked n first x i h in is_walked n first y i w.inside w.from (f w.inside w.from w.before))
    (λ h. let w = of_walked n first y i h in is_walked n first x i w.inside w.from (g w.inside w.from w.before))

-- a loop over a pair's places below end, at x: l is changed at those before x, and so many of them are not as they were
pub record Walking (g : ℕ → ℕ) (l : List ℕ) (n first end : ℕ) (m : List ℕ) (x changes : ℕ) : Type 0 where
  pub from : first ≤ x
  pub most : x ≤ max first end
  pub long : length m ≡ length l
  pub same : m ≡ changed (walked n first x) g l
  pub counted : changes ≡ differing n l m

module _ (g : ℕ → ℕ) (l : List ℕ) (n first end : ℕ) where
  pub walk_starts : Walking g l n first end l first 0
  walk_starts =
      record { from = omega arith; most = omega arith; long = refl; same = changed_none g l (walked n first first) (λ i. not_walked n first first i (λ w. omega arith)); counted = sym (differing_none n l) }

  module _ (m : List ℕ) (x v changes d : ℕ) (w : Walking g l n first end m x changes) (h : x < end) (k : end ≤ n) (a : end ≤ length l) (f : d ≡ bit (differs (get_or m x 0) v)) where
    -- the place was not walked over before
    still : get_or m x 0 ≡ get_or l x 0
    still =
        ap (λ (z : List ℕ). get_or z x 0) w.same ∙ get_d_changed g l (walked n first x) x (omega arith)
        ∙ ap (λ (b : Bool). cond b (g (get_or l x 0)) (get_or l x 0)) (not_walked n first x x (λ w. omega arith))

    more_counted : changes + d ≡ differing n l (set m x v)
    more_counted = ap₂ (λ (a b : ℕ). a + b) w.counted f ∙ sym (differing_set n l m x v (omega arith) (omega (arith, w.long)) still)

    pub walk_fits : changes + d ≤ n
    walk_fits = let e = more_counted in let z = differing_most n l (set m x v) in omega arith

    pub walk_goes : v ≡ g (get_or m x 0) → Walking g l n first end (set m x v) (x + 1) (changes + d)
    walk_goes e =
        let f = w.from in
        record {
          from = omega arith;
          most = omega arith;
          long = length-set m x v ∙ w.long;
          same = ap (set m x) e ∙ ap (λ (m : List ℕ). set m x (g (get_or m x 0))) w.same
              ∙ changed_set g l (walked n first x) (walked n first (x + 1)) x (omega arith) (not_walked n first x x (λ w. omega arith)) (is_walked n first (x + 1) x (omega arith) f (omega arith))
              (λ i ne. same_walked n first (x + 1) x i (λ p q r. omega arith) (λ p q r. omega arith));
          counted = more_counted;
        }

  -- past the clipped end the walk has been over the whole pair
  pub walk_ends : (m : List ℕ) (x past changes : ℕ) → Walking g l n first end m x changes → end ≤ x → end ≡ min (min past n) (length l)
      → (m ≡ changed (walked n first past) g l) × (changes ≡ differing n l m)
  walk_ends m x past changes w h e = (
    w.same ∙ changed_same g l (walked n first x) (walked n first past)
        (λ i hi. same_walked n first x past i (λ p q r. omega arith) (λ p q r. omega arith)),
    w.counted,
  )

-- ---- pair by pair

module _ (g : ℕ → ℕ) (twice : (v : ℕ) → g (g v) ≡ g v) (l : List ℕ) (n : ℕ) where
  pair_more : (p : Pair) (ps : List Pair) → changed (below n (p ∷ [])) g (changed (below n ps) g l) ≡ changed (below n (p ∷ ps)) g l
  unfolding in_set
  pair_more p ps =
      is_changed g l (below n (p ∷ ps)) (changed (below n (p ∷ [])) g (changed (below n ps) g l)) (length_changed g (changed (below n ps) g l) (below n (p ∷ [])) ∙ length_changed g l (below n ps))
      (λ i hi.
      get_d_changed g (changed (below n ps) g l) (below n (p ∷ [])) i (subst (λ (x : ℕ). i < x) (sym (length_changed g l (below n ps))) hi)
      ∙ ap (change_at (below n (p ∷ [])) g i) (get_d_changed g l (below n ps) i hi)
      ∙ go (ltb i n) (in_set ps i) (in_pair p i) (get_or l i 0))
    where
      go : (m a b : Bool) (v : ℕ) → cond (m && b) (g (cond (m && a) (g v) v)) (cond (m && a) (g v) v) ≡ cond (m && (a || b)) (g v) v
      go false a b v = refl
      go true true true v = twice v
      go true true false v = refl
      go true false true v = refl
      go true false false v = refl

  -- a place that the pairs before had is not changed again
  no_place_twice : (p : Pair) (ps : List Pair) (x : ℕ) → (get_or (changed (below n ps) g l) x 0 ≡ get_or l x 0) ⊎ (get_or (changed (below n (p ∷ ps)) g l) x 0 ≡ get_or (changed (below n ps) g l) x 0)
  unfolding in_set
  no_place_twice p ps x = go (ltb x (length l)) refl
    where
      m : List ℕ
      m = changed (below n ps) g l

      o : List ℕ
      o = changed (below n (p ∷ ps)) g l

      at : (a b : Bool) → below n ps x ≡ a → below n (p ∷ ps) x ≡ b → (a ≡ true → b ≡ true) → x < length l → (get_or m x 0 ≡ get_or l x 0) ⊎ (get_or o x 0 ≡ get_or m x 0)
      at false b e f i h = inl (get_d_changed g l (below n ps) x h ∙ simp e)
      at true b e f i h = inr (get_d_changed g l (below n (p ∷ ps)) x h ∙ simp (f ∙ i refl) (sym (get_d_changed g l (below n ps) x h ∙ simp e)))

      grows : below n ps x ≡ true → below n (p ∷ ps) x ≡ true
      grows e = let t = both (ltb x n) (in_set ps x) e in simp (t.0, t.1)

      go : (b : Bool) → ltb x (length l) ≡ b → (get_or m x 0 ≡ get_or l x 0) ⊎ (get_or o x 0 ≡ get_or m x 0)
      go true e = at (below n ps x) (below n (p ∷ ps) x) refl refl grows (ltb-true _ _ e)
      go false e =
          let out : length l ≤ x = ltb-false _ _ e in
          let same : length m ≡ length l = length_changed g l (below n ps) in
          inl (beyond m x (omega arith) ∙ sym (beyond l x out))

-- a loop over the k pairs of the set at q, at pair j: l is changed at those before j, and so many places are not as they were
pub record Pairing (g : ℕ → ℕ) (l : List ℕ) (n : ℕ) (words : List ℕ) (q k : ℕ) (m : List ℕ) (j changes : ℕ) : Type 0 where
  pub most : j ≤ k
  pub long : length m ≡ length l
  pub same : m ≡ changed (below n (pairs_at words (q + 1) j)) g l
  pub counted : changes ≡ differing n l m

module _ (g : ℕ → ℕ) (twice : (v : ℕ) → g (g v) ≡ g v) (l : List ℕ) (n : ℕ) (words : List ℕ) (q k : ℕ) where
  pub set_starts : Pairing g l n words q k l 0 0
  unfolding pairs_at in_set
  set_starts = record { most = omega arith; long = refl; same = changed_none g l (below n []) (λ i. and-false (ltb i n)); counted = sym (differing_none n l) }

  module _ (m : List ℕ) (j changes : ℕ) (w : Pairing g l n words q k m j changes) (h : j < k) (p : Pair) (e : p ≡ pair_at words (q + 1) j) (m' : List ℕ) (a : length m' ≡ length m) (b : m' ≡ changed (below n (p ∷ [])) g m) (d : ℕ) (f : d ≡ differing n m m') where
    next_is : m' ≡ changed (below n (p ∷ pairs_at words (q + 1) j)) g l
    next_is = b ∙ ap (changed (below n (p ∷ [])) g) w.same ∙ pair_more g twice l n p (pairs_at words (q + 1) j)

    all_counted : changes + d ≡ differing n l m'
    all_counted =
        ap₂ (λ (a b : ℕ). a + b) w.counted f
        ∙ sym (differing_then n l m m' (λ x i. simp (w.same, next_is) (no_place_twice g twice l n p (pairs_at words (q + 1) j) x)))

    pub set_fits : changes + d ≤ n
    set_fits = let e = all_counted in let z = differing_most n l m' in omega arith

    pub set_goes : Pairing g l n words q k m' (j + 1) (changes + d)
    unfolding pairs_at
    set_goes =
        record {
          most = omega arith;
          long = a ∙ w.long;
          same = next_is ∙ ap (λ (r : Pair). changed (below n (r ∷ pairs_at words (q + 1) j)) g l) e
              ∙ ap (λ (i : ℕ). changed (below n (pairs_at words (q + 1) i)) g l) (sym (add-one j));
          counted = all_counted;
        }

  pub set_ends : (m : List ℕ) (j changes : ℕ) → Pairing g l n words q k m j changes → k ≤ j → k ≡ get_or words q 0
      → (m ≡ changed (below n (set_at words q)) g l) × (changes ≡ differing n l m)
  unfolding set_at
  set_ends m j changes w h e =
      let o = w.most in
      let z : j ≡ get_or words q 0 = omega arith in (w.same ∙ ap (λ (i : ℕ). changed (below n (pairs_at words (q + 1) i)) g l) z, w.counted)

-- ---- the services

pub four_services : (has : ℕ → Bool) (c : ℕ) (sets : List ℕ) → length sets ≡ 4
    → (joined_if (has 4096) (get_or sets 0 0) c ∷ joined_if (has 4097) (get_or sets 1 0) c ∷ joined_if (has 4098) (get_or sets 2 0) c ∷ joined_if (has 4099) (get_or sets 3 0) c ∷ [])
    ≡ map_from (λ i set. cond (has (isolate + i)) (insert set c) set) 0 sets
unfolding map_from
four_services has c [] e = absurd (omega arith)
four_services has c (x ∷ []) e = absurd (omega arith)
four_services has c (x ∷ y ∷ []) e = absurd (omega arith)
four_services has c (x ∷ y ∷ z ∷ []) e = absurd (omega arith)
four_services has c (x ∷ y ∷ z ∷ w ∷ []) e = refl
four_services has c (x ∷ y ∷ z ∷ w ∷ v ∷ vs) e = absurd (omega arith)

-- ---- counts of changes

-- at how many of the mode's services two lists of four sets differ
module _ (m : Bool) (before after : List ℕ) (a b c : ℕ) (e : a ≡ bit (differs (get_or before 0 0) (get_or after 0 0))) (f : b ≡ bit (differs (get_or before 1 0) (get_or after 1 0))) (g : c ≡ bit (differs (get_or before 2 0) (get_or after 2 0))) where
  pub three_differ : not m ≡ true → a + b + c ≡ differing (service_count m) before after
  unfolding differing service_count count_from
  three_differ h = simp (e, f, g, not-true m h, zero-add)

  pub four_differ : not m ≡ false → (d : ℕ) → d ≡ bit (differs (get_or before 3 0) (get_or after 3 0)) → a + b + c + d ≡ differing (service_count m) before after
  unfolding differing service_count count_from
  four_differ h d k = simp (e, f, g, k, not-false m h, zero-add)

-- one set written over
pub one_changed : (l : List ℕ) (x c v d : ℕ) → x < length l → v ≡ insert (get_or l x 0) c → d ≡ bit (differs (get_or l x 0) v)
    → (set l x v ≡ set l x (insert (get_or l x 0) c)) × (d ≡ bit (differs (get_or l x 0) (get_or (set l x v) x 0)))
one_changed l x c v d h e f = (ap (set l x) e, f ∙ ap (λ (w : ℕ). bit (differs (get_or l x 0) w)) (sym (get_or-set_same l x v 0 h)))

-- there is none to write
pub none_changed : (l : List ℕ) (x c : ℕ) → length l ≤ x → (l ≡ set l x (insert (get_or l x 0) c)) × (0 ≡ bit (differs (get_or l x 0) (get_or l x 0)))
none_changed l x c h = (sym (set_out l x _ h), simp (eq-eqb (get_or l x 0) (get_or l x 0) refl))
