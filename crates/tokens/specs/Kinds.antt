-- Kinds as the numbers of crates/grammar/specs/Reading/Kinds.antt, and a token as the specs speak of it.
use Rattle.std.specs.Prelude.{◌≡◌, refl, Bool, true, false, not, [], ◌∷◌, ◌≢◌, ℕ, eqb, get_or}
use Rattle.std.proofs.Common.{sym, ap, ◌∙◌, eqb-true}
use Rattle.std.proofs.lemmas.Bool.{eqb-false}
use Rattle.tokens.specs.declared.Kind.{Kind}
use Rattle.tokens.specs.declared.Kind.TheVariants.{None, Plain, Const, Bnz, One, Two, Three, Register, Name, Number, Comma, Colon, Plus, Minus, Star, Dot, Left, Right, Stray}
use borrow.Author.Tests.{not-true, not-false}
use denote.Enum.Bare.{sameb}
use denote.Enum.Declared.{tag_of}
use Rattle.tokens.specs.contracts.Kind.{the_type}
use Rattle.tokens.specs.Streams.{Handed, handed}
use Rattle.tokens.specs.declared.Taken.{Taken}

abbrev pub kind_number : Kind → ℕ
kind_number None = 0
kind_number Plain = 1
kind_number Const = 2
kind_number Bnz = 3
kind_number One = 4
kind_number Two = 5
kind_number Three = 6
kind_number Register = 7
kind_number Name = 8
kind_number Number = 9
kind_number Comma = 10
kind_number Colon = 11
kind_number Plus = 12
kind_number Minus = 13
kind_number Star = 14
kind_number Dot = 15
kind_number Left = 16
kind_number Right = 17
kind_number Stray = 18

-- as the code hands it out
abbrev pub seen : Taken → Handed
seen t = handed (kind_number t.kind) t.value t.place t.next

-- ---- each number is that of one kind

abbrev kind_at : ℕ → Kind
kind_at n =
    get_or
    (None
    ∷ Plain
    ∷ Const
    ∷ Bnz
    ∷ One
    ∷ Two
    ∷ Three
    ∷ Register
    ∷ Name
    ∷ Number
    ∷ Comma
    ∷ Colon
    ∷ Plus
    ∷ Minus
    ∷ Star
    ∷ Dot
    ∷ Left
    ∷ Right
    ∷ [])
    n
    Stray

kind_back : (k : Kind) → kind_at (kind_number k) ≡ k
kind_back None = refl
kind_back Plain = refl
kind_back Const = refl
kind_back Bnz = refl
kind_back One = refl
kind_back Two = refl
kind_back Three = refl
kind_back Register = refl
kind_back Name = refl
kind_back Number = refl
kind_back Comma = refl
kind_back Colon = refl
kind_back Plus = refl
kind_back Minus = refl
kind_back Star = refl
kind_back Dot = refl
kind_back Left = refl
kind_back Right = refl
kind_back Stray = refl

pub one_kind : (j k : Kind) → kind_number j ≡ kind_number k → j ≡ k
one_kind j k e = sym (kind_back j) ∙ ap kind_at e ∙ kind_back k

-- and so another kind has another number
pub other_kind : (j k : Kind) → j ≢ k → kind_number j ≢ kind_number k
other_kind j k n e = n (one_kind j k e)

-- what is seen of a token is all of it
pub one_taken : (a b : Taken) → seen a ≡ seen b → a ≡ b
one_taken a b e = ap (again a.kind) e ∙ ap (λ (k : Kind). again k (seen b)) (one_kind a.kind b.kind (ap (λ (t : Handed). t.kind) e))
  where
    again : Kind → Handed → Taken
    again k t = record { kind = k; value = t.value; place = t.place; next = t.next }

-- ---- by a test of the code

-- the order in which kinds are declared is that of their numbers
pub tag_number : (k : Kind) → tag_of the_type k ≡ kind_number k
tag_number None = refl
tag_number Plain = refl
tag_number Const = refl
tag_number Bnz = refl
tag_number One = refl
tag_number Two = refl
tag_number Three = refl
tag_number Register = refl
tag_number Name = refl
tag_number Number = refl
tag_number Comma = refl
tag_number Colon = refl
tag_number Plus = refl
tag_number Minus = refl
tag_number Star = refl
tag_number Dot = refl
tag_number Left = refl
tag_number Right = refl
tag_number Stray = refl

-- what `==` says of two kinds
module _ (j k : Kind) (b : Bool) (e : b ≡ sameb the_type j k) where
  pub same_kind : b ≡ eqb (kind_number j) (kind_number k)
  same_kind = e ∙ ap (λ (n : ℕ). eqb n (tag_of the_type k)) (tag_number j) ∙ ap (eqb (kind_number j)) (tag_number k)

  pub is_kind : b ≡ true → kind_number j ≡ kind_number k
  is_kind h = eqb-true _ _ (sym same_kind ∙ h)

  pub no_kind : b ≡ false → kind_number j ≢ kind_number k
  no_kind h = eqb-false _ _ (sym same_kind ∙ h)

-- and `!=`
module _ (j k : Kind) (b : Bool) (e : b ≡ not (sameb the_type j k)) where
  pub are_other : b ≡ true → kind_number j ≢ kind_number k
  are_other h = no_kind j k _ refl (not-true _ (sym e ∙ h))

  pub are_same : b ≡ false → kind_number j ≡ kind_number k
  are_same h = is_kind j k _ refl (not-false _ (sym e ∙ h))
