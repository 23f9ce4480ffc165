-- The word at a place, byte by byte.
use Rattle.std.specs.Prelude.{◌≡◌, refl, Bool, true, false, List, [], ◌∷◌, ℕ, ◌+◌, ◌<◌, ◌≤◌, eqb, ltb, length, get_or}
use Rattle.std.proofs.Common.{sym, ap, ◌∙◌, ltb-true, ltb-false, eq-eqb, ne_eqb}
use Rattle.std.proofs.Math.ListN.{get_or-eq_default}
use Rattle.common.proofs.Laws.Tests.{clash}
use Rattle.grammar.specs.Spelling.{digit, capital, small, in_word}
use Rattle.grammar.specs.Reading.Lexer.{same}
use Rattle.grammar.specs.Laws.Runs.{name_at, reach_none, reach_end, run_more, run_empty}
use Rattle.tokens.specs.Bytes.{folded_of, folded_out, in_folded, none_folded, some_folded}

-- past the end stands 0, which is in no word
no_word : in_word 0 ≡ false
unfolding in_word digit capital small
no_word = refl

module _ (text : List ℕ) (p : ℕ) where
  abbrev here : ℕ
  here = get_or text p 0

  pub word_within : in_word here ≡ true → p < length text
  word_within e = go (ltb p (length text)) refl
    where
      go : (t : Bool) → ltb p (length text) ≡ t → p < length text
      go true h = ltb-true p (length text) h
      go false h = clash e (ap in_word (get_or-eq_default text 0 (ltb-false p (length text) h)) ∙ no_word)

  pub name_more : in_word here ≡ true → name_at text p ≡ here ∷ name_at text (p + 1)
  name_more e = run_more in_word text p (word_within e) e

  pub name_past : length text ≤ p → name_at text p ≡ []
  name_past h = run_empty in_word text p (reach_end in_word text p h)

  pub name_none : in_word here ≡ false → name_at text p ≡ []
  name_none e = go (ltb p (length text)) refl
    where
      go : (t : Bool) → ltb p (length text) ≡ t → name_at text p ≡ []
      go true h = run_empty in_word text p (reach_none in_word text p (ltb-true p (length text) h) e)
      go false h = name_past (ltb-false p (length text) h)

  -- what holds of no bytes, and of a byte with the word behind it
  pub by_name : (P : List ℕ → Type 0) → (in_word here ≡ false → P []) → (in_word here ≡ true → P (here ∷ name_at text (p + 1))) → P (name_at text p)
  by_name P f g = go (in_word here) refl
    where
      go : (t : Bool) → in_word here ≡ t → P (name_at text p)
      go true e = rw (name_more e) (g e)
      go false e = rw (name_none e) (f e)

-- ---- two words

module _ (text : List ℕ) (p q x y : ℕ) (ex : x ≡ get_or text p 0) (ey : y ≡ get_or text q 0) where
  -- the word at q ends exactly where its byte folds to 0
  second : name_at text p ≡ [] → eqb (folded_of y) 0 ≡ same (name_at text p) (name_at text q)
  second e =
      rw e
      (by_name text q (λ w. eqb (folded_of y) 0 ≡ same [] w)
      (λ n. eq-eqb (folded_of y) 0 (folded_out y (ap in_word ey ∙ n)))
      (λ n. ne_eqb (folded_of y) 0 (in_folded y (ap in_word ey ∙ n))))

  pub names_end : (f : ℕ) → f ≡ folded_of x → f ≡ 0 → (g : ℕ) → g ≡ folded_of y → eqb g 0 ≡ same (name_at text p) (name_at text q)
  names_end f ef z g eg = ap (λ (n : ℕ). eqb n 0) eg ∙ second (name_none text p (ap in_word (sym ex) ∙ none_folded x (sym ef ∙ z)))

  module _ (f : ℕ) (ef : f ≡ folded_of x) (n : f ≡ 0 → ⊥) where
    first : name_at text p ≡ x ∷ name_at text (p + 1)
    first = name_more text p (ap in_word (sym ex) ∙ some_folded x (λ z. n (ef ∙ z))) ∙ ap (λ (b : ℕ). b ∷ name_at text (p + 1)) (sym ex)

    pub names_differ : (x ≡ y → ⊥) → false ≡ same (name_at text p) (name_at text q)
    names_differ o =
        rw first
        (by_name text q (λ w. false ≡ same (x ∷ name_at text (p + 1)) w)
        (λ e. refl)
        (λ e. rw (← ey, ne_eqb x y o) refl))

    pub names_agree : x ≡ y → same (name_at text p) (name_at text q) ≡ same (name_at text (p + 1)) (name_at text (q + 1))
    names_agree e = rw (first, name_more text q inner, ← ey, eq-eqb x y e) refl
      where
        inner : in_word (get_or text q 0) ≡ true
        inner = ap in_word (sym ey ∙ sym e) ∙ some_folded x (λ z. n (ef ∙ z))

    pub second_within : x ≡ y → q < length text
    second_within e = word_within text q (ap in_word (sym ey ∙ sym e) ∙ some_folded x (λ z. n (ef ∙ z)))

pub names_past : (text : List ℕ) (p q y : ℕ) → length text ≤ p → y ≡ get_or text q 0 → (g : ℕ) → g ≡ folded_of y → eqb g 0 ≡ same (name_at text p) (name_at text q)
names_past text p q y h ey g eg = ap (λ (n : ℕ). eqb n 0) eg ∙ second text p q (get_or text p 0) y refl ey (name_past text p h)
