-- Values as a sign and a magnitude, or why there is none; and the field that a value goes to.
use Rattle.std.specs.Prelude.{Bool, false, cond, not, ℕ, ◌+◌, ◌-◌, ◌*◌, ◌%◌, eqb, leb, ltb, Result, Ok, Err}
use Rattle.common.specs.Answers as answer
use Rattle.answers.specs.declared.Refusal.{Refusal}
use Rattle.answers.specs.declared.Refusal.TheVariants.{UnknownLabel, ValueOutside}
use Rattle.values.specs.declared.Value.{Value}

abbrev pub value : Bool → ℕ → Value
value negative magnitude = record { negative = negative; magnitude = magnitude }

abbrev pub opposite : Value → Value
opposite a = value (not a.negative) a.magnitude

-- the bounds are -2,147,483,648 and 4,294,967,295
abbrev pub limit : Bool → ℕ
limit negative = cond negative 2147483648 4294967295

abbrev pub same : Bool → Bool → Bool
same a b = cond a b (not b)

-- two's complement in `size` values; the lowest 32 bits of it, where it has more
abbrev pub complement : ℕ → ℕ → ℕ
complement size magnitude = (size - magnitude) % 4294967296

-- a sign and a magnitude say a number below zero
abbrev pub under : Bool → ℕ → Bool
under negative magnitude = cond negative (ltb 0 magnitude) false

-- ---- a value, or why there is none: a fault of any type F

-- what comes of what is there
abbrev pub then : {F A B : Type 0} → Result A F → (A → Result B F) → Result B F
then (Ok a) f = f a
then (Err e) f = Err e

-- `fault`: the fault that a refusal is
module _ {F : Type 0} (fault : Refusal → F) where
  abbrev pub judge : Bool → ℕ → Result Value F
  judge negative magnitude = cond (leb magnitude (limit negative)) (Ok (value negative magnitude)) (Err (fault ValueOutside))

  abbrev pub sum : Value → Value → Result Value F
  sum a b =
      cond (same a.negative b.negative) (judge a.negative (a.magnitude + b.magnitude))
      (cond (leb b.magnitude a.magnitude) (judge a.negative (a.magnitude - b.magnitude)) (judge b.negative (b.magnitude - a.magnitude)))

  abbrev pub number : ℕ → Result Value F
  number n = judge false n

  abbrev pub unknown : Result Value F
  unknown = Err (fault UnknownLabel)

  abbrev pub product : Value → Value → Result Value F
  product a b = judge (not (same a.negative b.negative)) (a.magnitude * b.magnitude)

  unfoldable pub negated : Result Value F → Result Value F
  negated v = then v (λ a. judge (not a.negative) a.magnitude)

  abbrev pub held : ℕ → ℕ → ℕ → Result ℕ F
  held magnitude most low = cond (leb magnitude most) (Ok low) (Err (fault ValueOutside))

-- `numbered`: the number of a fault
module _ {F : Type 0} (numbered : F → ℕ) where
  abbrev pub is_unknown : F → Bool
  is_unknown f = eqb (numbered f) answer.unknown_label

  -- two values, or why there are not two: an unknown label is told before a value outside its bounds
  abbrev pub both : Result Value F → Result Value F → Result (Value × Value) F
  both (Ok a) (Ok b) = Ok (a, b)
  both (Ok a) (Err f) = Err f
  both (Err e) (Ok b) = Err e
  both (Err e) (Err f) = Err (cond (is_unknown f) f e)

  module _ (fault : Refusal → F) where
    unfoldable pub plus : Result Value F → Result Value F → Result Value F
    plus v w = then (both v w) (λ p. sum fault p.0 p.1)

    unfoldable pub minus : Result Value F → Result Value F → Result Value F
    minus v w = then (both v w) (λ p. sum fault p.0 (opposite p.1))

    unfoldable pub times : Result Value F → Result Value F → Result Value F
    times v w = then (both v w) (λ p. product fault p.0 p.1)

    -- ---- the field that a value goes to

    abbrev pub refused : F → F
    refused f = fault (cond (is_unknown f) UnknownLabel ValueOutside)

    unfoldable pub fit : Result Value F → ℕ → ℕ → ℕ → Result ℕ F
    fit (Ok a) below above size =
        cond (under a.negative a.magnitude) (held fault a.magnitude below (complement size a.magnitude)) (held fault a.magnitude above a.magnitude)
    fit (Err f) below above size = Err (refused f)
