-- What a field holds is what the source's definitions say of the value's whole number.
use Rattle.std.specs.Prelude.{◌≡◌, Bool, leb, Result, Ok, Err}
use Rattle.std.proofs.Math.Path.{refl, ap}
use Rattle.std.proofs.Common.{◌∙◌, mod-eq_of_lt, arith, lt-ltb}
use Rattle.std.proofs.Math.Bool.{true, false, cond}
use Prim.Native.Nat.{ℕ, zero, suc, ◌-◌, ◌≤◌}
use Rattle.answers.specs.declared.Refusal.{Refusal}
use Rattle.answers.specs.declared.Refusal.TheVariants.{UnknownLabel, ValueOutside}
use Rattle.sources.specs.Values.{Valued, is, unknown, outside, lies, after}
use Rattle.sources.specs.Words.{in_field}
use Rattle.values.specs.Values.{complement, under, is_unknown, held, fit}
use Rattle.values.specs.Integers.{integer}
use Rattle.values.specs.Meaning.{meant}
use Rattle.values.specs.declared.Value.{Value}

module _ {F : Type 0} (fault : Refusal → F) where
  abbrev pub fitted_of : Valued ℕ → Result ℕ F
  fitted_of (is n) = Ok n
  fitted_of unknown = Err (fault UnknownLabel)
  fitted_of outside = Err (fault ValueOutside)

  held_means : (b : Bool) (n : ℕ) → cond b (Ok n) (Err (fault ValueOutside)) ≡ fitted_of (cond b (is n) outside)
  held_means true n = refl
  held_means false n = refl

  -- a field of at most 32 bits
  module _ (below above size : ℕ) (small : size ≤ 4294967296) where
    field_means : (n : Bool) (m : ℕ)
        → cond (under n m) (held fault m below (complement size m)) (held fault m above m) ≡ fitted_of (in_field below above size (integer n m))
    unfolding in_field lies
    field_means false m = held_means (leb m above) m
    field_means true zero = held_means (leb 0 above) 0
    field_means true (suc m) =
        simp (lt-ltb 0 (suc m) (omega arith))
        (ap (held fault (suc m) below) (mod-eq_of_lt (omega arith)) ∙ held_means (leb (suc m) below) (size - suc m))

    module _ (numbered : F → ℕ) where
      pub fit_means : (v : Result Value F) → fit numbered fault v below above size ≡ fitted_of (after (in_field below above size) (meant numbered v))
      unfolding fit meant
      fit_means (Ok a) = field_means a.negative a.magnitude
      fit_means (Err f) = go (is_unknown numbered f)
        where
          go : (u : Bool) → Err (fault (cond u UnknownLabel ValueOutside)) ≡ fitted_of (after (in_field below above size) (cond u unknown outside))
          go true = refl
          go false = refl
