-- Numbers as the code reads them, digit by digit.
use Rattle.std.proofs.Math.Path.{◌≡◌, refl, sym, ap}
use Rattle.std.proofs.Common.{◌∙◌}
use Rattle.std.specs.Prelude.{Bool, ◌&&◌, eqb}
use Rattle.std.proofs.Math.Bool.{true, false, cond}
use mathlib.Core.List.{List, [], ◌∷◌}
use Prim.Native.Nat.{ℕ, suc, ◌+◌, ◌*◌, ◌<◌, ◌≤◌}
use native.Mathlib.Omega.{arith}
use borrow.Author.Tests.{lt-ltb, le-ltb, ne_eqb}
use Rattle.std.proofs.Math.Dec.{ltb}
use Rattle.std.proofs.Math.ListN.{length, get_or}
use Rattle.grammar.specs.Tokens.{number, stray}
use Rattle.grammar.specs.Tokens as grammar
use Rattle.grammar.specs.Spelling.{digit, capital, small, in_word, every, hex, lower, digit_value, value}
use Rattle.grammar.specs.Reading.Lexer.{hexadecimal_of, number_of_lem}
use Rattle.grammar.specs.Laws.Runs.{name_at}
use Rattle.grammar.specs.Reading.Kinds.{clip}
use Rattle.tokens.specs.Streams.{Handed, handed}
use Rattle.tokens.specs.Bytes.{folded_of, folded_in, none_folded, some_folded, digit_of, in_base, base_ten, base_sixteen, digit_worth}
use Rattle.tokens.specs.Worth.{worth_value, held, held_small, held_again, clip_held}
use Rattle.tokens.specs.Names.{name_more, name_none, name_past, by_name}
use Rattle.tokens.specs.Words.{placed, spelled_on, spelled_at}
use Rattle.tokens.specs.declared.words.Spelling.{Spelling}

-- the word is made of digits of a base, behind the number n; or it is stray
abbrev numeral_by : ℕ → ℕ → List ℕ → grammar.Token
numeral_by base n w = cond (every (in_base base) w) (number (value base n w)) stray

-- the word from p on, as digits behind n; the token begins at a place of its own
unfoldable pub numeral_on : List ℕ → ℕ → ℕ → ℕ → ℕ → Handed
numeral_on text place p base n = placed (numeral_by base n (name_at text p)) place (p + length (name_at text p))

abbrev pub numeral_at : List ℕ → ℕ → ℕ → ℕ → Handed
numeral_at text place from base = numeral_on text place from base 0

-- a word that begins with a digit
unfoldable pub number_at : List ℕ → ℕ → Handed
number_at text place = let w = name_at text place in placed (number_of_lem w) place (place + length w)

-- ---- one turn

abbrev pub most : ℕ
most = 4294967296

clip_again : (base n : ℕ) → 0 < base → (w : List ℕ) → clip (value base n w) ≡ clip (value base (held most n) w)
clip_again base n h w =
    clip_held (value base n w) ∙ ap (held most) (sym (worth_value base n w))
    ∙ held_again most digit_value base h w n
    ∙ ap (held most) (worth_value base (held most n) w) ∙ sym (clip_held (value base (held most n) w))

-- a number counts by what it is held at
clip_same : (x : Bool) (v u place next : ℕ) → clip v ≡ clip u → placed (cond x (number v) stray) place next ≡ placed (cond x (number u) stray) place next
clip_same true v u place next e = ap (λ (y : ℕ). handed 9 y place next) e
clip_same false v u place next e = refl

module _ (text : List ℕ) (place p base n : ℕ) where
  stops : name_at text p ≡ [] → n ≤ most → handed 9 n place p ≡ numeral_on text place p base n
  unfolding numeral_on
  stops e h =
      let z : p + 0 ≡ p = omega arith in
      let k : clip n ≡ n = clip_held n ∙ held_small most n h in
      rw (e, k, z) refl

  pub numeral_past : length text ≤ p → n ≤ most → handed 9 n place p ≡ numeral_on text place p base n
  numeral_past h = stops (name_past text p h)

  module _ (c : ℕ) (e : c ≡ folded_of (get_or text p 0)) where
    pub numeral_ends : c ≡ 0 → n ≤ most → handed 9 n place p ≡ numeral_on text place p base n
    numeral_ends z = stops (name_none text p (none_folded (get_or text p 0) (sym e ∙ z)))

    module _ (o : c ≡ 0 → ⊥) (d : ℕ) (f : d ≡ digit_of c) where
      inner : in_word (get_or text p 0) ≡ true
      inner = some_folded (get_or text p 0) (λ z. o (e ∙ z))

      here : d ≡ digit_of (lower (get_or text p 0))
      here = f ∙ ap digit_of (e ∙ folded_in (get_or text p 0) inner)

      pub numeral_turn : d < base → base ≤ 16 → (k : ℕ) → k ≡ held most (n * base + d) → numeral_on text place p base n ≡ numeral_on text place (p + 1) base k
      unfolding numeral_on
      numeral_turn l m k ek =
          let b = get_or text p 0 in
          let w = name_at text (p + 1) in
          let g : in_base base b ≡ true = ap (λ (x : ℕ). ltb x base) (sym here) ∙ lt-ltb d base l in
          let v : d ≡ digit_value b = here ∙ digit_worth b (rw (← here) (omega arith)) in
          let j : p + suc (length w) ≡ p + 1 + length w = omega arith in
          let q : clip (value base (n * base + digit_value b) w) ≡ clip (value base k w) = clip_again base (n * base + digit_value b) (omega arith) w ∙ ap (λ (x : ℕ). clip (value base x w)) (ap (λ (x : ℕ). held most (n * base + x)) (sym v) ∙ sym ek) in
          ap (λ (u : List ℕ). placed (numeral_by base n u) place (p + length u)) (name_more text p inner)
          ∙ ap (λ (x : Bool). placed (cond (x && every (in_base base) w) (number (value base (n * base + digit_value b) w)) stray) place (p + suc (length w))) g
          ∙ clip_same (every (in_base base) w) (value base (n * base + digit_value b) w) (value base k w) place (p + suc (length w)) q
          ∙ ap (placed (numeral_by base k w) place) j

      pub numeral_stray : base ≤ d → (s : Spelling) → s ≡ spelled_at text p → handed 18 0 place s.next ≡ numeral_on text place p base n
      unfolding numeral_on spelled_on
      numeral_stray l s es =
          let b = get_or text p 0 in
          let w = name_at text (p + 1) in
          let g : in_base base b ≡ false = ap (λ (x : ℕ). ltb x base) (sym here) ∙ le-ltb d base l in
          ap (λ (x : Spelling). handed 18 0 place x.next) es
          ∙ sym
          (ap (λ (u : List ℕ). placed (numeral_by base n u) place (p + length (name_at text p))) (name_more text p inner)
          ∙ ap (λ (x : Bool). placed (cond (x && every (in_base base) w) (number (value base (n * base + digit_value b) w)) stray) place (p + length (name_at text p))) g)

-- ---- which digits a word has

every_same : (t u : ℕ → Bool) → ((b : ℕ) → t b ≡ u b) → (w : List ℕ) → every t w ≡ every u w
every_same t u h [] = refl
every_same t u h (b ∷ w) = rw (h b, every_same t u h w) refl

-- without 0x in front, a word is decimal or stray
decimal_of : (w : List ℕ) → hexadecimal_of w ≡ stray → numeral_by 10 0 w ≡ number_of_lem w
unfolding number_of_lem
decimal_of w e = rw (every_same (in_base 10) digit base_ten w, e) refl

no_prefix : (z x : ℕ) (v : List ℕ) → (eqb z 48 && eqb x 120) ≡ false → hexadecimal_of (z ∷ x ∷ v) ≡ stray
unfolding hexadecimal_of
no_prefix z x [] e = refl
no_prefix z x (b ∷ h) e = rw e refl

module _ (text : List ℕ) (place z : ℕ) (ez : z ≡ get_or text place 0) where
  no_hexadecimal : ((x : ℕ) → x ≡ get_or text (place + 1) 0 → (eqb z 48 && eqb x 120) ≡ false) → hexadecimal_of (name_at text place) ≡ stray
  unfolding hexadecimal_of
  no_hexadecimal h =
      by_name text place (λ w. hexadecimal_of w ≡ stray) (λ e. refl)
      (λ e. by_name text (place + 1) (λ w. hexadecimal_of (get_or text place 0 ∷ w) ≡ stray) (λ f. refl)
      (λ f. no_prefix (get_or text place 0) (get_or text (place + 1) 0) (name_at text (place + 1 + 1)) (rw ez at (h (get_or text (place + 1) 0) refl))))

  plain : ((x : ℕ) → x ≡ get_or text (place + 1) 0 → (eqb z 48 && eqb x 120) ≡ false) → numeral_at text place place 10 ≡ number_at text place
  unfolding numeral_on number_at
  plain h = ap (λ (t : grammar.Token). placed t place (place + length (name_at text place))) (decimal_of (name_at text place) (no_hexadecimal h))

  pub number_plain : (z ≡ 48 → ⊥) → (r : Handed) → r ≡ numeral_at text place place 10 → r ≡ number_at text place
  number_plain n r e = e ∙ plain (λ x ex. rw (ne_eqb z 48 n) refl)

  pub number_other : z ≡ 48 → (x : ℕ) → x ≡ get_or text (place + 1) 0 → (x ≡ 120 → ⊥) → (r : Handed) → r ≡ numeral_at text place place 10 → r ≡ number_at text place
  number_other e x ex n r er = er ∙ plain (λ y ey. rw (e, ne_eqb y 120 (λ k. n (ex ∙ sym ey ∙ k))) refl)

  module _ (e : z ≡ 48) (x : ℕ) (ex : x ≡ get_or text (place + 1) 0) (f : x ≡ 120) where
    prefix : name_at text place ≡ 48 ∷ 120 ∷ name_at text (place + 2)
    unfolding in_word digit capital small
    prefix =
        let a : get_or text place 0 ≡ 48 = sym ez ∙ e in
        let b : get_or text (place + 1) 0 ≡ 120 = sym ex ∙ f in
        let c : place + 1 + 1 ≡ place + 2 = omega arith in
        name_more text place (ap in_word a)
        ∙ ap (λ (w : List ℕ). get_or text place 0 ∷ w) (name_more text (place + 1) (ap in_word b))
        ∙ ap (λ (y : ℕ). y ∷ get_or text (place + 1) 0 ∷ name_at text (place + 1 + 1)) a
        ∙ ap (λ (y : ℕ). 48 ∷ y ∷ name_at text (place + 1 + 1)) b
        ∙ ap (λ (y : ℕ). 48 ∷ 120 ∷ name_at text y) c

    module _ (h : ℕ) (eh : h ≡ get_or text (place + 2) 0) (c : ℕ) (ec : c ≡ folded_of h) where
      -- no digit behind 0x
      pub number_bare : c ≡ 0 → handed 18 0 place (place + 2) ≡ number_at text place
      unfolding number_at number_of_lem hexadecimal_of digit
      number_bare k =
          let v : name_at text (place + 2) ≡ [] = name_none text (place + 2) (none_folded (get_or text (place + 2) 0) (ap folded_of (sym eh) ∙ sym ec ∙ k)) in
          let w : name_at text place ≡ 48 ∷ 120 ∷ [] = prefix ∙ ap (λ (u : List ℕ). 48 ∷ 120 ∷ u) v in
          sym (ap (λ (u : List ℕ). placed (number_of_lem u) place (place + length u)) w)

      pub number_hexadecimal : (c ≡ 0 → ⊥) → (r : Handed) → r ≡ numeral_at text place (place + 2) 16 → r ≡ number_at text place
      unfolding number_at number_of_lem hexadecimal_of digit numeral_on
      number_hexadecimal n r er =
          let i : in_word (get_or text (place + 2) 0) ≡ true = some_folded (get_or text (place + 2) 0) (λ k. n (ec ∙ ap folded_of eh ∙ k)) in
          let v = name_at text (place + 2) in
          let j : place + 2 + length v ≡ place + suc (suc (length v)) = omega arith in
          er ∙ ap (λ (b : Bool). placed (cond b (number (value 16 0 v)) stray) place (place + 2 + length v)) (every_same (in_base 16) hex base_sixteen v)
          ∙ ap (placed (cond (every hex v) (number (value 16 0 v)) stray) place) j
          ∙ ap (λ (t : grammar.Token). placed t place (place + suc (suc (length v)))) (hexes v (name_more text (place + 2) i))
          ∙ sym (ap (λ (u : List ℕ). placed (number_of_lem u) place (place + length u)) prefix)
        where
          hexes : (v : List ℕ) {b : ℕ} {w : List ℕ} → v ≡ b ∷ w → cond (every hex v) (number (value 16 0 v)) stray ≡ hexadecimal_of (48 ∷ 120 ∷ v)
          hexes [] k = let y : ◌≡◌ {A = ℕ} 0 1 = cc in absurd (omega arith)
          hexes (b ∷ w) k = refl
