-- The value of an expression: whole numbers with sign, and bounds on the way.
use Rattle.std.specs.Prelude.{Bool, cond, List, ℕ, suc, leb, ℤ, pos, negsuc, neg_ℤ, ◌+ℤ◌, ◌-ℤ◌, ◌*ℤ◌}
use Rattle.std.proofs.Math.Option.{Option, none, some}
use Rattle.grammar.specs.Trees.{Sign, adding, taking, Expr, product, negative, more, Product, factor, times, Factor, literal, label, here, group}

-- a value, or why there is none
pub data Valued (A : Type 0) : Type 0 where
  is : A → Valued A
  unknown : Valued A  -- a label that no line defines
  outside : Valued A  -- a value on the way, or the last, is outside its bounds

-- z lies from -below to above
unfoldable pub lies : ℕ → ℕ → ℤ → Bool
lies below above (pos n) = leb n above
lies below above (negsuc n) = leb (suc n) below

-- "from -2,147,483,648 to 4,294,967,295"
unfoldable pub bounded : ℤ → Valued ℤ
bounded z = cond (lies 2147483648 4294967295 z) (is z) outside

-- what follows a value; an unknown label is told before a value outside its bounds, wherever the two stand
abbrev pub both : {A B C : Type 0} → (A → B → Valued C) → Valued A → Valued B → Valued C
both f (is a) (is b) = f a b
both f (is a) unknown = unknown
both f (is a) outside = outside
both f unknown w = unknown
both f outside (is b) = outside
both f outside unknown = unknown
both f outside outside = outside

abbrev pub after : {A B : Type 0} → (A → Valued B) → Valued A → Valued B
after f (is a) = f a
after f unknown = unknown
after f outside = outside

-- "sums and differences of products"
abbrev pub by_sign : Sign → ℤ → ℤ → ℤ
by_sign adding a b = a +ℤ b
by_sign taking a b = a -ℤ b

abbrev pub number : ℕ → Valued ℤ
number n = bounded (pos n)

-- a label's number, where some line defines it
abbrev pub known : Option ℕ → Valued ℤ
known (some n) = number n
known none = unknown

-- `labels` tells the number of each label; `dot` is the line's own address
module _ (labels : List ℕ → Option ℕ) (dot : ℕ) where
  abbrev mutual
    pub value_e : Expr → Valued ℤ
    value_e (product p) = value_p p
    value_e (negative p) = after (λ a. bounded (neg_ℤ a)) (value_p p)
    value_e (more e s p) = both (λ a b. bounded (by_sign s a b)) (value_e e) (value_p p)

    pub value_p : Product → Valued ℤ
    value_p (factor f) = value_f f
    value_p (times p f) = both (λ a b. bounded (a *ℤ b)) (value_p p) (value_f f)

    pub value_f : Factor → Valued ℤ
    value_f (literal n) = number n
    value_f (label x) = known (labels x)
    value_f here = number dot
    value_f (group e) = value_e e
