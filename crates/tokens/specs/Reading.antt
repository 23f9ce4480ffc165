-- The token at a place, as the code comes to it.
use Rattle.std.specs.Prelude.{◌≡◌, Bool, ◌&&◌, List, [], ◌∷◌, map, ◌⊎◌, ℕ, suc, ◌+◌, ◌<◌, ◌≤◌, eqb, get_or, drop}
use Rattle.std.proofs.Math.Path.{refl, sym, ap}
use Rattle.std.proofs.Common.{◌∙◌, inl, inr, arith, eqb-true, lt-ltb, le-ltb, ltb-false}
use Rattle.std.proofs.Math.Bool.{true, false, cond, not}
use Rattle.std.proofs.Math.Option.{Option, none, some}
use Rattle.std.proofs.Math.ListN.{length, length-drop}
use Rattle.std.specs.Prelude.{Some, None, max, ltb}
use Rattle.std.specs.List.{position, position_or_len}
use Rattle.std.proofs.lemmas.List.Recursion.{is_position_or_len}
use Rattle.common.proofs.Laws.Tests.{clash}
use Rattle.grammar.specs.Tokens as grammar
use Rattle.grammar.specs.Spelling.{digit, capital, small, in_word, lower, words, signs, Row, digit_first}
use Rattle.grammar.specs.Reading.Lexer.{find, or_label, number_of_lem, token_of}
use Rattle.grammar.proofs.Laws.Tables.{either, find_at, each, at_each}
use Rattle.grammar.specs.Laws.Runs.{leading, name_at, line_of, line_end}
use Rattle.grammar.specs.Reading.Kinds.{kind_of, number_of}
use Rattle.tokens.specs.KindLaws.{some_kind}
use Rattle.tokens.specs.Streams.{ends, skipped, more, or_stray, token_in, width_in, Handed, handed, token_at}
use Rattle.tokens.specs.Bytes.{folded_of, in_word_bounds, none_folded, some_folded, mark_of, inside, over}
use Rattle.tokens.specs.Names.{name_more}
use Rattle.tokens.specs.Words.{placed, word_at}
use Rattle.tokens.specs.Numerals.{number_at}

-- ---- where a run ends

pub leading_within : (t : ℕ → Bool) (bs : List ℕ) → leading t bs ≤ length bs
unfolding leading
leading_within t [] = omega arith
leading_within t (b ∷ bs) = go (t b) refl (leading_within t bs)
  where
    go : (x : Bool) → t b ≡ x → leading t bs ≤ length bs → leading t (b ∷ bs) ≤ length (b ∷ bs)
    go true e ih = rw e (omega arith)
    go false e ih = rw e (omega arith)

-- a run ends where the first byte stands that does not pass, or at the end
module _ (t p : ℕ → Bool) (e : (b : ℕ) → p b ≡ not (t b)) where
  run_position : (l : List ℕ) → leading t l ≡ position_or_len p l
  unfolding leading
  run_position l = is_position_or_len (leading t) p refl (λ x xs. rw (e x) (step (t x) (leading t xs))) l
    where
      step : (b : Bool) (n : ℕ) → cond b (suc n) 0 ≡ cond (not b) 0 (1 + n)
      step true n = omega arith
      step false n = refl

  module _ (text : List ℕ) (at : ℕ) where
    pub run_found : (n : ℕ) → Some n ≡ position p (drop at text) → at + n ≡ at + leading t (drop at text)
    run_found n h = go (ltb (position_or_len p (drop at text)) (length (drop at text))) h
      where
        go : (b : Bool) → Some n ≡ cond b (Some (position_or_len p (drop at text))) None → at + n ≡ at + leading t (drop at text)
        go true k = let m : n ≡ position_or_len p (drop at text) = cc in ap (λ (x : ℕ). at + x) (m ∙ sym (run_position (drop at text)))
        go false k = absurd (cc)

    pub run_whole : None ≡ position p (drop at text) → max at (length text) ≡ at + leading t (drop at text)
    run_whole h = go (ltb (position_or_len p (drop at text)) (length (drop at text))) refl h
      where
        go : (b : Bool) → ltb (position_or_len p (drop at text)) (length (drop at text)) ≡ b → None ≡ cond b (Some (position_or_len p (drop at text))) None → max at (length text) ≡ at + leading t (drop at text)
        go true q k = absurd (cc)
        go false q k =
            let l : length (drop at text) ≤ position_or_len p (drop at text) = ltb-false _ _ q in
            omega (arith, l, run_position (drop at text), leading_within t (drop at text), length-drop at text)

-- the end of a line is the end of a run too
abbrev pub no_feed : ℕ → Bool
no_feed b = not (eqb b 10)

pub feed_ends : (b : ℕ) → eqb b 10 ≡ not (no_feed b)
feed_ends b = go (eqb b 10)
  where
    go : (x : Bool) → x ≡ not (not x)
    go true = refl
    go false = refl

line_length : (l : List ℕ) → length (line_of l) ≡ leading no_feed l
unfolding line_of leading
line_length [] = refl
line_length (b ∷ l) = go (eqb b 10) refl (line_length l)
  where
    go : (x : Bool) → eqb b 10 ≡ x → length (line_of l) ≡ leading no_feed l → length (line_of (b ∷ l)) ≡ leading no_feed (b ∷ l)
    go true e ih = rw e refl
    go false e ih = rw e (ap suc ih)

pub line_run : (text : List ℕ) (at : ℕ) → line_end text at ≡ at + leading no_feed (drop at text)
line_run text at = ap (λ (n : ℕ). at + n) (line_length (drop at text))

-- ---- bytes of one class are not of another

at_once : (P : ℕ → Type 0) (n b : ℕ) → P n → eqb b n ≡ true → P b
at_once P n b h e = rw (eqb-true b n e) h

pub end_no_word : (b : ℕ) → ends b ≡ true → in_word b ≡ false
unfolding in_word digit capital small
end_no_word b h = go (either (eqb b 10) (eqb b 59) h)
  where
    go : (eqb b 10 ≡ true) ⊎ (eqb b 59 ≡ true) → in_word b ≡ false
    go (inl e) = at_once (λ n. in_word n ≡ false) 10 b refl e
    go (inr e) = at_once (λ n. in_word n ≡ false) 59 b refl e

-- a test that no end passes
pub not_an_end : (t : ℕ → Bool) → ((b : ℕ) → ends b ≡ true → t b ≡ false) → (b : ℕ) → t b ≡ true → ends b ≡ false
not_an_end t k b h = go (ends b) refl
  where
    go : (x : Bool) → ends b ≡ x → ends b ≡ false
    go true e = clash h (k b e)
    go false e = e

-- ---- signs

-- no number goes with a sign
abbrev bare : Row → Bool
bare r = eqb (number_of r.token) 0

signs_bare : each bare signs ≡ true
unfolding signs
signs_bare = refl

sign_number : (b : ℕ) → number_of (or_stray (find signs (b ∷ []))) ≡ 0
sign_number b = go (find signs (b ∷ [])) refl
  where
    go : (x : Option grammar.Token) → find signs (b ∷ []) ≡ x → number_of (or_stray x) ≡ 0
    go (some t) e = eqb-true (number_of t) 0 (at_each bare signs (b ∷ []) t signs_bare (find_at signs (b ∷ []) t e))
    go none e = refl

mark_end : (b : ℕ) → mark_of b ≡ 0 → ends b ≡ true
unfolding mark_of
mark_end b h = go (ends b) refl
  where
    go : (x : Bool) → ends b ≡ x → ends b ≡ true
    go true e = e
    go false e = absurd (some_kind (or_stray (find signs (b ∷ []))) (rw e at h))

mark_sign : (b : ℕ) → (mark_of b ≡ 0 → ⊥) → (ends b ≡ false) × (mark_of b ≡ kind_of (or_stray (find signs (b ∷ []))))
unfolding mark_of
mark_sign b h = go (ends b) refl
  where
    go : (x : Bool) → ends b ≡ x → (ends b ≡ false) × (mark_of b ≡ kind_of (or_stray (find signs (b ∷ []))))
    go true e = absurd (h (rw e refl))
    go false e = (e, rw e refl)

-- ---- the token from a place on

abbrev token_from : List ℕ → ℕ → Handed
token_from text p = cond (more text p) (placed (token_in text p) p (p + width_in text p)) (handed 0 0 p p)

module _ (text : List ℕ) (at p : ℕ) (ep : p ≡ skipped text at) where
  there : token_from text p ≡ token_at text at
  unfolding token_at
  there = ap (token_from text) ep

  pub none_past : length text ≤ p → handed 0 0 p p ≡ token_at text at
  unfolding more
  none_past h = sym (ap (λ (x : Bool). cond (x && not (ends (get_or text p 0))) (placed (token_in text p) p (p + width_in text p)) (handed 0 0 p p)) (le-ltb p (length text) h)) ∙ there

  module _ (h : p < length text) (b : ℕ) (eb : b ≡ get_or text p 0) where
    more_here : more text p ≡ not (ends b)
    unfolding more
    more_here = rw (lt-ltb p (length text) h, eb) refl

    ended : ends b ≡ true → handed 0 0 p p ≡ token_at text at
    ended e =
        sym (ap (λ (x : Bool). cond x (placed (token_in text p) p (p + width_in text p)) (handed 0 0 p p)) (more_here ∙ ap not e)) ∙ there

    goes_on : ends b ≡ false → placed (token_in text p) p (p + width_in text p) ≡ token_at text at
    goes_on e =
        sym (ap (λ (x : Bool). cond x (placed (token_in text p) p (p + width_in text p)) (handed 0 0 p p)) (more_here ∙ ap not e)) ∙ there

    module _ (c : ℕ) (ec : c ≡ folded_of b) where
      module _ (k : ℕ) (ek : k ≡ mark_of b) where
        pub none_there : k ≡ 0 → handed 0 0 p p ≡ token_at text at
        none_there z = ended (mark_end b (sym ek ∙ z))

        pub sign_there : c ≡ 0 → (k ≡ 0 → ⊥) → handed k 0 p (p + 1) ≡ token_at text at
        unfolding token_in width_in
        sign_there z n =
            let m = mark_sign b (λ y. n (ek ∙ y)) in
            let o : in_word (get_or text p 0) ≡ false = ap in_word (sym eb) ∙ none_folded b (sym ec ∙ z) in
            let t = or_stray (find signs (get_or text p 0 ∷ [])) in
            let f : k ≡ kind_of t = ek ∙ m.1 ∙ ap (λ (x : ℕ). kind_of (or_stray (find signs (x ∷ [])))) eb in
            ap (λ (x : ℕ). handed x 0 p (p + 1)) f ∙ ap (λ (x : ℕ). handed (kind_of t) x p (p + 1)) (sym (sign_number (get_or text p 0)))
            ∙ sym (ap (λ (x : Bool). placed (cond x (token_of (name_at text p)) t) p (p + cond x (length (name_at text p)) 1)) o)
            ∙ goes_on m.0

      module _ (n : c ≡ 0 → ⊥) where
        inner : in_word b ≡ true
        inner = some_folded b (λ z. n (ec ∙ z))

        word_here : (d : Bool) → digit b ≡ d
            → placed (cond d (number_of_lem (name_at text p)) (or_label (name_at text p) (find words (map lower (name_at text p))))) p (p + length (name_at text p)) ≡ token_at text at
        unfolding token_in width_in token_of
        word_here d e =
            let i : in_word (get_or text p 0) ≡ true = ap in_word (sym eb) ∙ inner in
            let w = name_at text p in
            let f : digit_first w ≡ d = ap digit_first (name_more text p i) ∙ ap digit (sym eb) ∙ e in
            ap (λ (x : Bool). placed (cond x (number_of_lem w) (or_label w (find words (map lower w)))) p (p + length w)) (sym f)
            ∙ sym (ap (λ (x : Bool). placed (cond x (token_of w) (or_stray (find signs (get_or text p 0 ∷ [])))) p (p + cond x (length w) 1)) i)
            ∙ goes_on (not_an_end in_word end_no_word b inner)

        pub number_there : b ≤ 57 → (r : Handed) → r ≡ number_at text p → r ≡ token_at text at
        unfolding number_at digit
        number_there l r er = er ∙ word_here true (inside 48 57 b (in_word_bounds b inner).0 l)

        pub word_there : 57 < b → (r : Handed) → r ≡ word_at text p → r ≡ token_at text at
        unfolding word_at digit
        word_there l r er = er ∙ word_here false (over 48 57 b l)
