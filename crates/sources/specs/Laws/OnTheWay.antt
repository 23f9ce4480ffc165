-- What an expression uses and passes through, told apart from its valuing: its names, and the plain value of each of its parts.
use Rattle.std.specs.Prelude.{◌≡◌, ℕ, suc, ◌≤◌, ℤ, pos, negsuc, neg_ℤ, ◌*ℤ◌}
use mathlib.Core.List.{List, [], ◌∷◌, ◌++◌, Memᴰ}
use Rattle.std.proofs.Math.Option.{Option, none, some, get_or}
use Rattle.grammar.specs.Trees.{Expr, product, negative, more, Product, factor, times, Factor, literal, label, here, group}
use Rattle.sources.specs.Values.{by_sign}

-- the names that an expression uses
abbrev mutual
  pub names_e : Expr → List (List ℕ)
  names_e (product p) = names_p p
  names_e (negative p) = names_p p
  names_e (more e s p) = names_e e ++ names_p p

  pub names_p : Product → List (List ℕ)
  names_p (factor f) = names_f f
  names_p (times p f) = names_p p ++ names_f f

  pub names_f : Factor → List (List ℕ)
  names_f (literal n) = []
  names_f (label x) = x ∷ []
  names_f here = []
  names_f (group e) = names_e e

-- z lies from -below to above
abbrev pub Within : ℕ → ℕ → ℤ → Type 0
Within below above (pos n) = n ≤ above
Within below above (negsuc n) = suc n ≤ below

-- "from -2,147,483,648 to 4,294,967,295"
abbrev pub InBounds : ℤ → Type 0
InBounds z = Within 2147483648 4294967295 z

-- `labels` tells the number of each label
module _ (labels : List ℕ → Option ℕ) where
  -- each name that it uses has a number
  abbrev pub Known : Expr → Type 0
  Known e = (x : List ℕ) → Memᴰ x (names_e e) → (n : ℕ) × (labels x ≡ some n)

  -- one has none
  pub record Unknown (e : Expr) : Type 0 where
    pub name : List ℕ
    pub used : Memᴰ name (names_e e)
    pub no_number : labels name ≡ none

-- `dot` is the line's own address
module _ (labels : List ℕ → Option ℕ) (dot : ℕ) where
  -- the plain value: a whole number with sign and without bounds (0 for a label without a number, where none is asked for)
  abbrev mutual
    pub plain_e : Expr → ℤ
    plain_e (product p) = plain_p p
    plain_e (negative p) = neg_ℤ (plain_p p)
    plain_e (more e s p) = by_sign s (plain_e e) (plain_p p)

    pub plain_p : Product → ℤ
    plain_p (factor f) = plain_f f
    plain_p (times p f) = plain_p p *ℤ plain_f f

    pub plain_f : Factor → ℤ
    plain_f (literal n) = pos n
    plain_f (label x) = pos (get_or (labels x) 0)
    plain_f here = pos dot
    plain_f (group e) = plain_e e

  -- the plain values of all parts, from left to right: each number, label, dot, product, sum and negation; a bracket's is the last inside it
  abbrev mutual
    pub way_e : Expr → List ℤ
    way_e (product p) = way_p p
    way_e (negative p) = way_p p ++ plain_e (negative p) ∷ []
    way_e (more e s p) = way_e e ++ way_p p ++ plain_e (more e s p) ∷ []

    pub way_p : Product → List ℤ
    way_p (factor f) = way_f f
    way_p (times p f) = way_p p ++ way_f f ++ plain_p (times p f) ∷ []

    pub way_f : Factor → List ℤ
    way_f (literal n) = plain_f (literal n) ∷ []
    way_f (label x) = plain_f (label x) ∷ []
    way_f here = plain_f here ∷ []
    way_f (group e) = way_e e

  -- each value on the way is within its bounds
  abbrev pub Stays : Expr → Type 0
  Stays e = (z : ℤ) → Memᴰ z (way_e e) → InBounds z

  -- one is not
  pub record Leaves (e : Expr) : Type 0 where
    pub at : ℤ
    pub reached : Memᴰ at (way_e e)
    pub beyond : InBounds at → ⊥
