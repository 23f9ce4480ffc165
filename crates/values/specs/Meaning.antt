-- What a value means in whole numbers, and that every operation means what the source's definitions say.
use Rattle.std.specs.Prelude.{◌≡◌, refl, Bool, true, false, cond, not, ℕ, zero, suc, ◌+◌, ◌-◌, ◌*◌, leb, ℤ, neg_ℤ, ◌+ℤ◌, ◌-ℤ◌, ◌*ℤ◌, Result, Ok, Err}
use Rattle.std.proofs.Math.Path.{ap}
use Rattle.std.proofs.Common.{◌∙◌, leb-true, leb-false}
use Rattle.answers.specs.Numbers as refusal
use Rattle.answers.specs.declared.Refusal.{Refusal}
use Rattle.answers.specs.declared.Refusal.TheVariants.{UnknownLabel, ValueOutside}
use Rattle.sources.specs.Values.{Valued, is, unknown, outside, lies, bounded, both, after}
use Rattle.sources.specs.Values as source
use Rattle.values.specs.Values.{value, opposite, then, limit, judge, same, sum, is_unknown, plus, minus, times, negated}
use Rattle.values.specs.Values as said
use Rattle.values.specs.Integers.{integer, together, first_more, second_more, product}
use Rattle.values.specs.Integers as integers
use Rattle.values.specs.declared.Value.{Value}

abbrev pub integer_of : Value → ℤ
integer_of a = integer a.negative a.magnitude

-- a fault has a number
module _ {F : Type 0} (numbered : F → ℕ) where
  -- what a fault leaves
  abbrev pub told : {A : Type 0} → F → Valued A
  told f = cond (is_unknown numbered f) unknown outside

  unfoldable pub meant : Result Value F → Valued ℤ
  meant (Ok a) = is (integer_of a)
  meant (Err f) = told f

  -- ---- a fault goes on

  pub after_told : {A B : Type 0} (g : A → Valued B) (f : F) → told f ≡ after g (told f)
  after_told g f = go (is_unknown numbered f)
    where
      go : (u : Bool) → cond u unknown outside ≡ after g (cond u unknown outside)
      go true = refl
      go false = refl

  then_meant : (h : Value → Result Value F) (g : ℤ → Valued ℤ) → ((a : Value) → meant (h a) ≡ g (integer_of a))
      → (v : Result Value F) → meant (then v h) ≡ after g (meant v)
  unfolding meant
  then_meant h g e (Ok a) = e a
  then_meant h g e (Err f) = after_told g f

  both_meant : (h : Value × Value → Result Value F) (g : ℤ → ℤ → Valued ℤ) → ((a b : Value) → meant (h (a, b)) ≡ g (integer_of a) (integer_of b))
      → (v w : Result Value F) → meant (then (said.both numbered v w) h) ≡ both g (meant v) (meant w)
  unfolding meant
  both_meant h g e (Ok a) (Ok b) = e a b
  both_meant h g e (Ok a) (Err f) = go (is_unknown numbered f)
    where
      go : (u : Bool) → cond u unknown outside ≡ both g (is (integer_of a)) (cond u unknown outside)
      go true = refl
      go false = refl
  both_meant h g e (Err f) (Ok b) = go (is_unknown numbered f)
    where
      go : (u : Bool) → cond u unknown outside ≡ both g (cond u unknown outside) (is (integer_of b))
      go true = refl
      go false = refl
  both_meant h g e (Err f) (Err k) = go (is_unknown numbered k) refl (is_unknown numbered f) refl
    where
      go : (w : Bool) → is_unknown numbered k ≡ w → (u : Bool) → is_unknown numbered f ≡ u
          → meant (Err (cond w k f)) ≡ both g (cond u unknown outside) (cond w unknown outside)
      go true d true t = simp d
      go true d false t = simp d
      go false d true t = simp t
      go false d false t = simp t

  -- and it may be that of a refusal
  module _ (fault : Refusal → F) (kept : (refused : Refusal) → numbered (fault refused) ≡ refusal.number refused) where
    -- ---- a sign and a magnitude, judged

    judged : (n : Bool) (m : ℕ) {z : ℤ} → integer n m ≡ z → meant (judge fault n m) ≡ bounded z
    unfolding meant bounded lies
    judged n m h = good n m ∙ ap bounded h
      where
        within : (b n : Bool) (m : ℕ) → meant (cond b (Ok (value n m)) (Err (fault ValueOutside))) ≡ cond b (is (integer n m)) outside
        within true n m = refl
        within false n m = rw (kept ValueOutside) refl

        good : (n : Bool) (m : ℕ) → meant (judge fault n m) ≡ bounded (integer n m)
        good false m = within (leb m (limit false)) false m
        good true zero = refl
        good true (suc m) = within (leb (suc m) (limit true)) true (suc m)

    -- of two signs
    differs : (a : Bool) (m n : ℕ)
        → meant (cond (leb n m) (judge fault a (m - n)) (judge fault (not a) (n - m))) ≡ bounded (integer a m +ℤ integer (not a) n)
    differs a m n = go (leb n m) refl
      where
        go : (t : Bool) → leb n m ≡ t → meant (cond t (judge fault a (m - n)) (judge fault (not a) (n - m))) ≡ bounded (integer a m +ℤ integer (not a) n)
        go true e = judged a (m - n) (first_more a m n (leb-true n m e))
        go false e = judged (not a) (n - m) (second_more a m n (leb-false n m e))

    summed : (a : Bool) (m : ℕ) (b : Bool) (n : ℕ) → meant (sum fault (value a m) (value b n)) ≡ bounded (integer a m +ℤ integer b n)
    summed false m false n = judged false (m + n) (together false m n)
    summed true m true n = judged true (m + n) (together true m n)
    summed false m true n = differs false m n
    summed true m false n = differs true m n

    -- ---- the operations

    pub number_means : (n : ℕ) → meant (said.number fault n) ≡ source.number n
    number_means n = judged false n refl

    pub unknown_means : meant (said.unknown fault) ≡ unknown
    unfolding meant
    unknown_means = rw (kept UnknownLabel) refl

    module _ (v w : Result Value F) where
      pub plus_means : meant (plus numbered fault v w) ≡ both (λ a b. bounded (a +ℤ b)) (meant v) (meant w)
      unfolding plus
      plus_means =
          both_meant (λ p. sum fault p.0 p.1) (λ a b. bounded (a +ℤ b)) (λ a b. summed a.negative a.magnitude b.negative b.magnitude) v w

      pub minus_means : meant (minus numbered fault v w) ≡ both (λ a b. bounded (a -ℤ b)) (meant v) (meant w)
      unfolding minus
      minus_means =
          both_meant (λ p. sum fault p.0 (opposite p.1)) (λ a b. bounded (a -ℤ b))
          (λ a b. summed a.negative a.magnitude (not b.negative) b.magnitude ∙ ap (λ (z : ℤ). bounded (integer_of a +ℤ z)) (integers.opposite b.negative b.magnitude))
          v w

      pub times_means : meant (times numbered fault v w) ≡ both (λ a b. bounded (a *ℤ b)) (meant v) (meant w)
      unfolding times
      times_means =
          both_meant (λ p. said.product fault p.0 p.1) (λ a b. bounded (a *ℤ b))
          (λ a b. judged (not (same a.negative b.negative)) (a.magnitude * b.magnitude) (product a.negative a.magnitude b.negative b.magnitude))
          v w

    pub negated_means : (v : Result Value F) → meant (negated fault v) ≡ after (λ a. bounded (neg_ℤ a)) (meant v)
    unfolding negated
    negated_means v =
        then_meant (λ a. judge fault (not a.negative) a.magnitude) (λ a. bounded (neg_ℤ a))
        (λ a. judged (not a.negative) a.magnitude (integers.opposite a.negative a.magnitude)) v
