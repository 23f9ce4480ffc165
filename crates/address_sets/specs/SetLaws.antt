-- Laws of sets of addresses by which the code reads them, pair by pair.
use Rattle.std.specs.Prelude.{◌≡◌, refl, Bool, true, ◌&&◌, ◌||◌, not, List, [], ◌∷◌, ltb, eqb, get_or}
use Rattle.std.specs.List.{list_all, list_any, range_with_len}
use Rattle.std.proofs.Common.{sym, ◌∙◌, not-suc-le-zero, add-one, add-zero, zero-add, arith, lt-ltb, le-ltb, le-leb, ne_eqb}
use Rattle.std.proofs.Math.Path.{ap}
use Rattle.std.proofs.Math.Bool.{false, and-true, and-false, and_assoc}
use Prim.Native.Nat.{ℕ, zero, suc, ◌+◌, ◌-◌, ◌*◌, ◌/◌, ◌<◌, ◌≤◌}
use Rattle.std.proofs.Math.Decide.{ℕ_discrete}
use Rattle.std.proofs.lemmas.Bool.{lt-leb}
use Rattle.common.specs.AddressSets.{Pair, pairs_at, set_at, inside, ordered, is_empty, in_pair, in_set}
use Rattle.address_sets.specs.declared.Pair as code
use Rattle.address_sets.specs.declared.AddressSet.{AddressSet}

abbrev pub pair_of : code.Pair → Pair
pair_of p = record { first = p.first; past = p.past }

abbrev pub set_of : AddressSet → List Pair
set_of s = set_at s.words.now s.at

-- pair k of those from place p on
abbrev pub pair_at : List ℕ → ℕ → ℕ → Pair
pair_at words p k = record { first = get_or words (p + 2 * k) 0; past = get_or words (p + 2 * k + 1) 0 }

-- ---- a test of sets that is a test of each pair

pub record Every (every : List Pair → Bool) (each : Pair → Bool) : Type 0 where
  pub none : every [] ≡ true
  pub more : (p : Pair) (ps : List Pair) → every (p ∷ ps) ≡ (every ps && each p)

module _ {every : List Pair → Bool} {each : Pair → Bool} (law : Every every each) (words : List ℕ) (q : ℕ) where
  pub every_none : every (pairs_at words (q + 1) 0) ≡ true
  unfolding pairs_at
  every_none = law.none

  pub every_more : (j : ℕ) (p : Pair) → p ≡ pair_at words (q + 1) j → each p ≡ true → every (pairs_at words (q + 1) j) ≡ true
      → every (pairs_at words (q + 1) (j + 1)) ≡ true
  unfolding pairs_at
  every_more j p e t h =
      ap (λ (k : ℕ). every (pairs_at words (q + 1) k)) (add-one j)
      ∙ law.more (pair_at words (q + 1) j) (pairs_at words (q + 1) j)
      ∙ simp (h, ← e, t)

  -- the end is reached
  pub every_all : (j : ℕ) → j ≡ get_or words q 0 → every (pairs_at words (q + 1) j) ≡ true → every (set_at words q) ≡ true
  unfolding set_at
  every_all j e h = ap (λ (k : ℕ). every (pairs_at words (q + 1) k)) (sym e) ∙ h

abbrev pub is_ordered : Pair → Bool
is_ordered p = ltb p.first p.past

pub every_ordered : Every ordered is_ordered
unfolding ordered
every_ordered = record { none = refl; more = λ p ps. refl }

not_or : (a b : Bool) → not (a || b) ≡ (not a && not b)
not_or true b = refl
not_or false b = refl

-- x is in no pair
pub every_misses : (x : ℕ) → Every (λ ps. not (in_set ps x)) (λ p. not (in_pair p x))
unfolding in_set
every_misses x = record { none = refl; more = λ p ps. not_or (in_set ps x) (in_pair p x) }

-- ---- the pairs in order, as a walk over their numbers from 0 on comes to them

module _ (each : Pair → Bool) (words : List ℕ) (q : ℕ) where
  abbrev pub passes_at : ℕ → Bool
  passes_at j = each (pair_at words (q + 1) j)

  -- one number more
  all_more : (a n : ℕ) → list_all passes_at (range_with_len a (suc n)) ≡ (list_all passes_at (range_with_len a n) && passes_at (a + n))
  all_more a zero = rw add-zero (and-true (passes_at a))
  all_more a (suc n) =
      ap (λ (b : Bool). passes_at a && b) (all_more (a + 1) n) ∙ sym (and_assoc (passes_at a) (list_all passes_at (range_with_len (a + 1) n)) (passes_at (a + 1 + n)))
      ∙ ap (λ (m : ℕ). list_all passes_at (range_with_len a (suc n)) && passes_at m) (omega arith)

  pub every_of_all : {every : List Pair → Bool} → Every every each → (r : Bool) → r ≡ list_all passes_at (range_with_len 0 (get_or words q 0)) → r ≡ every (set_at words q)
  unfolding set_at pairs_at
  every_of_all {every} law r e = e ∙ go (get_or words q 0)
    where
      go : (k : ℕ) → list_all passes_at (range_with_len 0 k) ≡ every (pairs_at words (q + 1) k)
      go zero = sym law.none
      go (suc k) =
          all_more 0 k ∙ ap (λ (b : Bool). b && passes_at (0 + k)) (go k) ∙ ap (λ (m : ℕ). every (pairs_at words (q + 1) k) && passes_at m) (zero-add k)
          ∙ sym (law.more (pair_at words (q + 1) k) (pairs_at words (q + 1) k))

-- some pair has x
pub in_of_any : (words : List ℕ) (q x : ℕ) (r : Bool) → r ≡ list_any (passes_at (λ p. in_pair p x) words q) (range_with_len 0 (get_or words q 0)) → r ≡ in_set (set_at words q) x
in_of_any words q x r e =
    e ∙ sym (not_not (list_any (passes_at (λ p. in_pair p x) words q) (range_with_len 0 (get_or words q 0))))
    ∙ ap not (none_all (range_with_len 0 (get_or words q 0)) ∙ every_of_all (λ p. not (in_pair p x)) words q (every_misses x) _ refl) ∙ not_not (in_set (set_at words q) x)
  where
    not_not : (b : Bool) → not (not b) ≡ b
    not_not true = refl
    not_not false = refl

    none_all : (js : List ℕ) → not (list_any (passes_at (λ p. in_pair p x) words q) js) ≡ list_all (passes_at (λ p. not (in_pair p x)) words q) js
    none_all [] = refl
    none_all (j ∷ js) = not_or (in_pair (pair_at words (q + 1) j) x) (list_any (passes_at (λ p. in_pair p x) words q) js) ∙ ap (λ (b : Bool). not (in_pair (pair_at words (q + 1) j) x) && b) (none_all js)

-- ---- the set as a whole

-- what 8 asks of a set besides that the caller may read its words
abbrev pub in_order : List ℕ → ℕ → ℕ → Bool
in_order words n q = inside words n q && ordered (set_at words q)

pub order_outside : (words : List ℕ) (n q : ℕ) → n ≤ q → in_order words n q ≡ false
unfolding inside
order_outside words n q h = simp (le-ltb q n h)

pub order_long : (words : List ℕ) (n q : ℕ) → q < n → (n - q - 1) / 2 < get_or words q 0 → in_order words n q ≡ false
unfolding inside
order_long words n q h l = let e = lt-leb (q + 1 + 2 * get_or words q 0) n (omega arith) in simp (e, lt-ltb q n h)

pub order_inside : (words : List ℕ) (n q : ℕ) → q < n → get_or words q 0 ≤ (n - q - 1) / 2 → in_order words n q ≡ ordered (set_at words q)
unfolding inside
order_inside words n q h l = let e = le-leb (q + 1 + 2 * get_or words q 0) n (omega arith) in simp (e, lt-ltb q n h)

-- a set of no pairs is the empty one
pub empty_count : (words : List ℕ) (q : ℕ) → is_empty (set_at words q) ≡ eqb (get_or words q 0) 0
unfolding set_at pairs_at is_empty
empty_count words q = go (get_or words q 0)
  where
    go : (k : ℕ) → is_empty (pairs_at words (q + 1) k) ≡ eqb k 0
    go zero = refl
    go (suc k) = sym (ne_eqb (suc k) 0 (λ e. omega arith))
