-- Bytes as the code tells them apart.
use Rattle.std.specs.Prelude.{◌≡◌, refl, Bool, cond, ◌&&◌, ◌||◌, [], ◌∷◌, ◌⊎◌, ◌≢◌, ℕ, ◌+◌, ◌-◌, ◌<◌, ◌≤◌, eqb, leb}
use Rattle.std.proofs.Math.Path.{sym}
use Rattle.std.proofs.Common.{◌∙◌, inl, inr, arith}
use Rattle.std.proofs.Math.Bool.{true, false}
use Rattle.std.specs.Prelude.{Option, None, Some, not}
use Rattle.std.specs.Option.{is_some}
use borrow.Author.Tests.{eqb-true, eqb-false, le-leb, lt-leb, leb-true, lt-ltb, le-ltb}
use Rattle.std.proofs.Math.Dec.{ltb}
use Rattle.common.proofs.Laws.Tests.{both}
use Rattle.grammar.specs.Spelling.{between, digit, capital, small, in_word, lower, hex, digit_value, signs}
use Rattle.grammar.specs.Reading.Lexer.{find}
use Rattle.grammar.proofs.Laws.Tables.{either}
use Rattle.grammar.specs.Reading.Kinds.{kind_of}
use Rattle.tokens.specs.Streams.{ends, or_stray}

-- n, unless it is the number that stands for none
abbrev pub unless : ℕ → ℕ → Option ℕ
unless z n = cond (eqb n z) None (Some n)

pub unless_some : (z n x : ℕ) → Some x ≡ unless z n → (x ≡ n) × (x ≢ z)
unless_some z n x = go (eqb n z) refl
  where
    go : (t : Bool) → eqb n z ≡ t → Some x ≡ cond t None (Some n) → (x ≡ n) × (x ≢ z)
    go true e h = absurd (cc)
    go false e h = let k : x ≡ n = cc in (k, λ w. eqb-false n z e (sym k ∙ w))

pub unless_none : (z n : ℕ) → None ≡ unless z n → n ≡ z
unless_none z n = go (eqb n z) refl
  where
    go : (t : Bool) → eqb n z ≡ t → None ≡ cond t None (Some n) → n ≡ z
    go true e h = eqb-true n z e
    go false e h = absurd (cc)

-- what `is_none` says of it
module _ (z n : ℕ) (o : Option ℕ) (e : o ≡ unless z n) (b : Bool) (h : is_some o ≡ not b) where
  pub none_tells : b ≡ eqb n z
  none_tells = go b (eqb n z) (rw e at h)
    where
      go : (b t : Bool) → is_some (cond t None (Some n)) ≡ not b → b ≡ t
      go true true k = refl
      go true false k = k
      go false true k = k
      go false false k = refl

  pub is_gone : b ≡ true → n ≡ z
  is_gone k = eqb-true n z (sym none_tells ∙ k)

  pub is_there : b ≡ false → n ≢ z
  is_there k = eqb-false n z (sym none_tells ∙ k)

-- a byte of a word, its letter made small; and 0 for any other byte
unfoldable pub folded_of : ℕ → ℕ
folded_of b = cond (in_word b) (lower b) 0

-- the number of a digit whose letter is small; and 16 for any other byte
unfoldable pub digit_of : ℕ → ℕ
digit_of b = cond (digit b) (b - 48) (cond (between 97 102 b) (b - 87) 16)

-- the kind of a byte that is in no word
unfoldable pub mark_of : ℕ → ℕ
mark_of b = cond (ends b) 0 (kind_of (or_stray (find signs (b ∷ []))))

-- ---- ranges of bytes

pub inside : (a c b : ℕ) → a ≤ b → b ≤ c → between a c b ≡ true
inside a c b h k = simp (le-leb a b h, le-leb b c k)

pub under : (a c b : ℕ) → b < a → between a c b ≡ false
under a c b h = simp (lt-leb a b h)

pub over : (a c b : ℕ) → c < b → between a c b ≡ false
over a c b h = go (leb a b)
  where
    go : (t : Bool) → (t && leb b c) ≡ false
    go true = lt-leb b c h
    go false = refl

pub bounds : (a c b : ℕ) → between a c b ≡ true → (a ≤ b) × (b ≤ c)
bounds a c b h = let k = both (leb a b) (leb b c) h in (leb-true a b k.0, leb-true b c k.1)

-- ---- bytes of words

lower_capital : (b : ℕ) → capital b ≡ true → lower b ≡ b + 32
unfolding lower
lower_capital b e = simp e

lower_other : (b : ℕ) → capital b ≡ false → lower b ≡ b
unfolding lower
lower_other b e = simp e

-- what holds of b in each of the cases holds of it
by_case : (P : ℕ → Type 0) (b : ℕ) → (65 ≤ b → b ≤ 90 → P (b + 32)) → (capital b ≡ false → P b) → P (lower b)
unfolding capital
by_case P b f g = go (capital b) refl
  where
    go : (t : Bool) → capital b ≡ t → P (lower b)
    go true e = let k = bounds 65 90 b e in rw (lower_capital b e) (f k.0 k.1)
    go false e = rw (lower_other b e) (g e)

pub in_word_bounds : (b : ℕ) → in_word b ≡ true → (48 ≤ b) × (b ≤ 122)
unfolding in_word digit capital small
in_word_bounds b h = go (either (digit b || capital b || small b) (eqb b 95) h)
  where
    first : (digit b ≡ true) ⊎ (capital b ≡ true) → (48 ≤ b) × (b ≤ 122)
    first (inl e) = let k = bounds 48 57 b e in (omega arith, omega arith)
    first (inr e) = let k = bounds 65 90 b e in (omega arith, omega arith)

    two : ((digit b || capital b) ≡ true) ⊎ (small b ≡ true) → (48 ≤ b) × (b ≤ 122)
    two (inl e) = first (either (digit b) (capital b) e)
    two (inr e) = let k = bounds 97 122 b e in (omega arith, omega arith)

    go : ((digit b || capital b || small b) ≡ true) ⊎ (eqb b 95 ≡ true) → (48 ≤ b) × (b ≤ 122)
    go (inl e) = two (either (digit b || capital b) (small b) e)
    go (inr e) = let k : b ≡ 95 = eqb-true b 95 e in (omega arith, omega arith)

pub lower_bounds : (b : ℕ) → in_word b ≡ true → (48 ≤ lower b) × (lower b ≤ 122)
lower_bounds b h = by_case (λ x. (48 ≤ x) × (x ≤ 122)) b (λ l m. (omega arith, omega arith)) (λ e. in_word_bounds b h)

pub folded_in : (b : ℕ) → in_word b ≡ true → folded_of b ≡ lower b
unfolding folded_of
folded_in b e = simp e

pub folded_out : (b : ℕ) → in_word b ≡ false → folded_of b ≡ 0
unfolding folded_of
folded_out b e = simp e

pub in_folded : (b : ℕ) → in_word b ≡ true → folded_of b ≡ 0 → ⊥
in_folded b e h = let k : folded_of b ≡ lower b = folded_in b e in let l = lower_bounds b e in omega arith

pub none_folded : (b : ℕ) → folded_of b ≡ 0 → in_word b ≡ false
none_folded b h = go (in_word b) refl
  where
    go : (t : Bool) → in_word b ≡ t → in_word b ≡ false
    go true e = absurd (in_folded b e h)
    go false e = e

pub some_folded : (b : ℕ) → (folded_of b ≡ 0 → ⊥) → in_word b ≡ true
some_folded b h = go (in_word b) refl
  where
    go : (t : Bool) → in_word b ≡ t → in_word b ≡ true
    go true e = e
    go false e = absurd (h (folded_out b e))

-- ---- digits

-- a byte is a digit of a base
abbrev pub in_base : ℕ → ℕ → Bool
in_base base b = ltb (digit_of (lower b)) base

digit_lower : (b : ℕ) → digit (lower b) ≡ digit b
unfolding digit
digit_lower b = by_case (λ x. digit x ≡ digit b) b (λ l m. over 48 57 (b + 32) (omega arith) ∙ sym (over 48 57 b (omega arith))) (λ e. refl)

-- by the two tests of a byte
digit_by : (b : ℕ) (d l : Bool) → digit b ≡ d → between 97 102 (lower b) ≡ l → digit_of (lower b) ≡ cond d (lower b - 48) (cond l (lower b - 87) 16)
unfolding digit_of
digit_by b d l e f = simp (digit_lower b, e, f)

digit_bounds : (b : ℕ) → digit b ≡ true → (48 ≤ b) × (b ≤ 57)
unfolding digit
digit_bounds b e = bounds 48 57 b e

digit_same : (b : ℕ) → digit b ≡ true → lower b ≡ b
unfolding capital
digit_same b e = let k = digit_bounds b e in lower_other b (under 65 90 b (omega arith))

module _ (b : ℕ) where
  abbrev letter : Bool
  letter = between 97 102 (lower b)

  -- what holds of the number of a decimal digit, of a letter and of another byte
  by_digit : (P : ℕ → Type 0) → (digit b ≡ true → b - 48 < 10 → P (b - 48)) → (digit b ≡ false → letter ≡ true → 97 ≤ lower b → lower b ≤ 102 → P (lower b - 87)) → (digit b ≡ false → letter ≡ false → P 16) → P (digit_of (lower b))
  by_digit P f g h = go (digit b) refl letter refl
    where
      go : (d : Bool) → digit b ≡ d → (l : Bool) → letter ≡ l → P (digit_of (lower b))
      go true e l k = let z = digit_bounds b e in rw (digit_by b true l e k, digit_same b e) (f e (omega arith))
      go false e true k = let z = bounds 97 102 (lower b) k in rw (digit_by b false true e k) (g e k z.0 z.1)
      go false e false k = rw (digit_by b false false e k) (h e k)

  pub base_ten : in_base 10 b ≡ digit b
  base_ten = by_digit (λ n. ltb n 10 ≡ digit b) (λ e k. lt-ltb (b - 48) 10 k ∙ sym e) (λ e k l m. le-ltb (lower b - 87) 10 (omega arith) ∙ sym e) (λ e k. sym e)

  pub base_sixteen : in_base 16 b ≡ hex b
  unfolding hex
  base_sixteen =
      by_digit (λ n. ltb n 16 ≡ hex b)
      (λ e k. lt-ltb (b - 48) 16 (omega arith) ∙ simp e)
      (λ e k l m. lt-ltb (lower b - 87) 16 (omega arith) ∙ simp (e, k))
      (λ e k. simp (e, k))

  -- the number of a digit is the value that it stands for
  pub digit_worth : digit_of (lower b) < 16 → digit_of (lower b) ≡ digit_value b
  unfolding digit_value
  digit_worth =
      by_digit (λ n. n < 16 → n ≡ digit_value b)
      (λ e k h. simp e)
      (λ e k l m h. simp e)
      (λ e k h. absurd (omega arith))
