-- The parts of a record and what is asked of it, as the code comes to them.
use Rattle.std.specs.Prelude.{◌≡◌, Bool, true, false, not, List, eqb, get_or, length, drop, Option, None, Some, IfSome}
use Rattle.std.specs.Option.{unwrap_or, is_some}
use Rattle.std.proofs.Math.Path.{refl, sym, ap}
use Prim.Native.Nat.{ℕ, suc, ◌+◌, ◌-◌, ◌*◌, ◌%◌, ◌<◌, ◌≤◌}
use Rattle.std.proofs.Common.{zero-add, add-one, drop_of_length-le, ◌∙◌}
use native.Mathlib.Omega.{arith}
use borrow.Author.Tests.{lt-ltb}
use Rattle.grammar.specs.Laws.Runs.{front}
use Rattle.importer.specs.Views.{digit_by}
use Rattle.intel_hex.specs.Records.{digit_of, all_digits, octet, octets, count, sum, sums_up}

-- ---- a digit, by what is seen of it

worth_is : (o : Option ℕ) (d k : ℕ) → digit_by o ≡ k → IfSome o (λ x. x < 16) → d ≡ unwrap_or o 16 → (d ≡ k) × (d ≤ 16)
worth_is None d k e f g = (g ∙ e, omega arith)
worth_is (Some x) d k e f g = (g ∙ e, omega (arith, f))

pub worth : (o : Option ℕ) (d b c : ℕ) → digit_by o ≡ digit_of b → b ≡ c → IfSome o (λ x. x < 16) → d ≡ unwrap_or o 16 → (d ≡ digit_of c) × (d ≤ 16)
worth o d b c e q f g = worth_is o d (digit_of c) (e ∙ ap digit_of q) f g

pub no_digit : (o : Option ℕ) (k : ℕ) (b : Bool) → digit_by o ≡ k → is_some o ≡ not b → b ≡ true → k ≡ 16
no_digit None k b e f t = sym e
no_digit (Some x) k b e f t = let z : true ≡ false = f ∙ ap not t in absurd (cc)

pub some_digit : (o : Option ℕ) (k : ℕ) (b : Bool) → digit_by o ≡ k → IfSome o (λ x. x < 16) → is_some o ≡ not b → b ≡ false → k < 16
some_digit None k b e l f t = let z : false ≡ true = f ∙ ap not t in absurd (cc)
some_digit (Some x) k b e l f t = omega (arith, e, l)

-- ---- pairs

module _ (r : List ℕ) where
  pub pair : (i h l : ℕ) → (h ≡ digit_of (get_or r (2 * i + 1) 0)) × (h ≤ 16) → (l ≡ digit_of (get_or r (2 * i + 2) 0)) × (l ≤ 16)
      → (16 * h + l ≡ octet r i) × (16 * h + l ≤ 272)
  unfolding octet
  pair i h l e f = (simp (← e.0, ← f.0), let a = e.1 in let b = f.1 in omega (arith, a, b))

  -- digits from a place on
  module _ (i : ℕ) (within : i < length r) (d : ℕ) (e : d ≡ digit_of (get_or r i 0)) where
    pub digits_stop : d ≡ 16 → false ≡ all_digits (drop i r)
    unfolding all_digits
    digits_stop z = rw (front r i within, sym e, z) refl

    pub digits_turn : d < 16 → all_digits (drop i r) ≡ all_digits (drop (i + 1) r)
    unfolding all_digits
    digits_turn l = rw (front r i within, sym e, lt-ltb d 16 l) refl

  pub digits_end : (i : ℕ) → length r ≤ i → true ≡ all_digits (drop i r)
  unfolding all_digits
  digits_end i h = rw (drop_of_length-le r h) refl

  -- ---- the sum

  pub sum_start : (n : ℕ) → 0 + sum (octets r 0 (n - 0)) ≡ sum (octets r 0 n)
  sum_start n =
      let k : n - 0 ≡ n = omega arith in
      rw (k, zero-add (sum (octets r 0 n))) refl

  pub sum_turn : (i n x o : ℕ) → i < n → o ≡ octet r i → x + o + sum (octets r (i + 1) (n - (i + 1))) ≡ x + sum (octets r i (n - i))
  unfolding octets sum
  sum_turn i n x o h e =
      let k : n - i ≡ suc (n - (i + 1)) = omega arith in
      rw (k, e, add-one i) (omega arith)

  pub sum_ends : (i n x : ℕ) → n ≤ i → x + sum (octets r i (n - i)) ≡ x
  unfolding octets sum
  sum_ends i n x h = let k : n - i ≡ 0 = omega arith in rw k (omega arith)

  pub summed : (n x : ℕ) → n ≡ count r + 5 → x ≡ sum (octets r 0 n) → eqb (x % 256) 0 ≡ sums_up r
  unfolding sums_up
  summed n x e f = rw (f, e) refl
