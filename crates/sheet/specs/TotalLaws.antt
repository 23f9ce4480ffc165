-- A line counted and the totals put stop by stop, as the code comes to it.
use Rattle.std.specs.Prelude.{◌≡◌, ℕ, suc, ◌+◌, ◌-◌, ◌*◌, ◌<◌, ◌≤◌, Bool, true, false, cond, not, ◌&&◌, ◌≢◌, List, [], ◌∷◌, ◌++◌, length, slice_index}
use Rattle.std.proofs.Math.Path.{refl, sym}
use Rattle.std.proofs.Common.{ap, ◌∙◌, subst, length-append}
use Rattle.std.proofs.Math.Bool.{and-false, or-true}
use native.Mathlib.Omega.{arith}
use borrow.Author.Tests.{eq-eqb, ne_eqb, le-leb, lt-leb}
use Rattle.common.proofs.Laws.Tests.{clash}
use Rattle.numerals.specs.Bytes.{bytes}
use Rattle.numerals.specs.Writing.{put}
use Rattle.text.specs.Puts.{put_of}
use Rattle.printed.specs.Text.{field}
use Rattle.sheets.specs.Totals.{Totals, halted, used, is_stop, stops_from, stops, stops_text, totals_text}
use Rattle.sheets.proofs.Theorems.Lengths.{two_digits}
use Rattle.sheet.specs.LineLaws.{Partly, further, all_put}

-- ---- which answers are stops

module _ (strict : Bool) (a : ℕ) where
  pub stop_below : a < 2 → false ≡ is_stop strict a
  unfolding is_stop
  stop_below h = sym (simp (lt-leb 2 a h, ne_eqb a 16 (λ e. omega arith), ne_eqb a 17 (λ e. omega arith), and-false))

  pub stop_listed : 2 ≤ a → a ≤ 13 → true ≡ is_stop strict a
  unfolding is_stop
  stop_listed h k = sym (simp (le-leb 2 a h, le-leb a 13 k))

  pub stop_stray : a ≡ 16 → true ≡ is_stop strict a
  unfolding is_stop
  stop_stray e = sym (simp (eq-eqb a 16 e, or-true))

  pub stop_strict : a ≡ 17 → strict ≡ is_stop strict a
  unfolding is_stop
  stop_strict e = sym (simp (lt-leb a 13 (omega arith), and-false, ne_eqb a 16 (λ q. omega arith), eq-eqb a 17 e) (and-true strict))
    where
      and-true : (b : Bool) → (b && true) ≡ b
      and-true true = refl
      and-true false = refl

  pub stop_above : 13 < a → a ≢ 16 → a ≢ 17 → false ≡ is_stop strict a
  unfolding is_stop
  stop_above h m n = sym (simp (lt-leb a 13 h, and-false, ne_eqb a 16 m, ne_eqb a 17 n))

-- ---- the stops from a on

unfoldable pub stop_text : Bool → ℕ → ℕ → List ℕ
stop_text strict a n = cond (is_stop strict a) (field (bytes " ") a ++ field (bytes " ") n) []

module _ (strict : Bool) (a n : ℕ) where
  pub no_stop : (f : Bool) → f ≡ is_stop strict a → not f ≡ true → stop_text strict a n ≡ []
  unfolding stop_text
  no_stop true e h = clash h refl
  no_stop false e h = simp (sym e)

  pub some_stop : (f : Bool) → f ≡ is_stop strict a → not f ≡ false → stop_text strict a n ≡ field (bytes " ") a ++ field (bytes " ") n
  unfolding stop_text
  some_stop true e h = simp (sym e)
  some_stop false e h = clash refl h

module _ (strict : Bool) (ended : List ℕ) where
  abbrev pub stops_left : ℕ → List ℕ
  stops_left a = stops_text (stops_from strict (18 - a) a) ended

  next_stop : (k a : ℕ) → stops_text (stops_from strict (suc k) a) ended ≡ stop_text strict a (slice_index ended a) ++ stops_text (stops_from strict k (suc a)) ended
  unfolding stops_text stops_from stop_text
  next_stop k a = go (is_stop strict a)
    where
      go : (b : Bool) → stops_text (cond b (a ∷ stops_from strict k (suc a)) (stops_from strict k (suc a))) ended
          ≡ cond b (field (bytes " ") a ++ field (bytes " ") (slice_index ended a)) [] ++ stops_text (stops_from strict k (suc a)) ended
      go true = refl
      go false = refl

  stop_next : (a : ℕ) → a < 18 → (n : ℕ) → n ≡ slice_index ended a → stops_left a ≡ stop_text strict a n ++ stops_left (a + 1)
  stop_next a h n e =
      let k : 18 - a ≡ suc (18 - (a + 1)) = omega arith in
      let s : suc a ≡ a + 1 = omega arith in
      ap (λ (x : ℕ). stops_text (stops_from strict x a) ended) k ∙ next_stop (18 - (a + 1)) a
      ∙ (λ i. stop_text strict a (sym e i) ++ stops_text (stops_from strict (18 - (a + 1)) (s i)) ended)

  -- ---- how long

  abbrev pub Short : ℕ → Type 0
  Short a = length (stops_text (stops strict) ended) ≤ 14 * a + length (stops_left a)

  pub short_more : (a : ℕ) → a < 18 → Short a → (n : ℕ) → n ≡ slice_index ended a → length (stop_text strict a n) ≤ 14 → Short (a + 1)
  short_more a h d n e l =
      let t = ap length (stop_next a h n e) ∙ length-append (stop_text strict a n) (stops_left (a + 1)) in omega arith

  none_left : length (stops_left 18) ≡ 0
  unfolding stops_text stops_from
  none_left = refl

  pub short_all : (a : ℕ) → a ≡ 18 → Short a → length (stops_text (stops strict) ended) ≤ 252
  short_all a e d = let l = subst Short e d in let z = none_left in omega arith

  module _ (out₀ : List ℕ) (at : ℕ) where
    abbrev pub Stops : ℕ → List ℕ → ℕ → Type 0
    Stops p out a = Partly (stops_text (stops strict) ended) (stops_left a) out₀ at p out

    pub stop_more : (p : ℕ) (out : List ℕ) (a : ℕ) → a < 18 → Stops p out a → (n : ℕ) → n ≡ slice_index ended a
        → (r : ℕ) (new : List ℕ) → put_of r new ≡ put (stop_text strict a n) p out → Stops r new (a + 1)
    stop_more p out a h d n e r new q =
        further (stops_text (stops strict) ended) (stop_text strict a n) (stops_left (a + 1)) out₀ at p out
        (subst (λ (x : List ℕ). Partly (stops_text (stops strict) ended) x out₀ at p out) (stop_next a h n e) d) r new q

    pub stops_put : (p : ℕ) (out : List ℕ) (a : ℕ) → 18 ≤ a → Stops p out a → put_of p out ≡ put (stops_text (stops strict) ended) at out₀
    unfolding stops_text stops_from
    stops_put p out a h d =
        let z : 18 - a ≡ 0 = omega arith in
        all_put (stops_text (stops strict) ended) out₀ at p out
        (subst (λ (k : ℕ). Partly (stops_text (stops strict) ended) (stops_text (stops_from strict k a) ended) out₀ at p out) z d)

-- a stop's two fields
pub fields_short : (strict : Bool) (a n : ℕ) → a < 18 → stop_text strict a n ≡ field (bytes " ") a ++ field (bytes " ") n
    → length (field (bytes " ") n) ≤ 11 → length (stop_text strict a n) ≤ 14
fields_short strict a n h e l =
    let f = two_digits (bytes " ") a (omega arith) in
    let m = ap length e ∙ length-append (field (bytes " ") a) (field (bytes " ") n) in
    omega arith

pub nothing_short : (strict : Bool) (a n : ℕ) → stop_text strict a n ≡ [] → length (stop_text strict a n) ≤ 14
nothing_short strict a n e = let m = ap length e in omega arith

-- ---- the whole line

pub totals_short : (strict : Bool) (t : Totals) → length (field (bytes "images ") t.images) ≤ 17
    → length (field (bytes " refused ") t.refused) ≤ 19 → length (field (bytes " halted ") (halted t)) ≤ 18
    → length (stops_text (stops strict) t.ended) ≤ 252 → length (field (bytes " budget ") (used t)) ≤ 18
    → length (field (bytes " steps ") t.steps) ≤ 17 → length (totals_text strict t) ≤ 350
unfolding totals_text
totals_short strict t a b c d e f = simp length-append (omega arith)
