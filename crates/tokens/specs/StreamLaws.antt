-- The token from a place on is the first of the line's tokens from there, and reading goes on behind it.
use Rattle.std.specs.Prelude.{◌≡◌, Bool, ◌&&◌, ◌||◌, eqb, get_or, take}
use Rattle.std.proofs.Math.Path.{refl, ap}
use Rattle.std.proofs.Common.{sym, ◌∙◌, drop_of_length-le, drop-drop, length-take-le}
use Rattle.std.proofs.Math.Bool.{true, false, cond, not}
use mathlib.Core.List.{List, [], ◌∷◌, ◌++◌, map}
use Rattle.std.proofs.Math.Option.{Option, none, some}
use Prim.Native.Nat.{ℕ, suc, ◌+◌, ◌-◌, ◌<◌, ◌≤◌}
use native.Mathlib.Omega.{arith}
use borrow.Author.Tests.{eqb-true, ltb-true, ltb-false, not-true, not-false}
use Rattle.std.proofs.Math.Dec.{ltb}
use Rattle.std.proofs.Math.ListN.{length, drop, length-drop}
use Rattle.common.proofs.Laws.Tests.{clash, both}
use Rattle.grammar.specs.Tokens as grammar
use Rattle.grammar.specs.Spelling.{digit, in_word, blank, lower, hex, every, value, Row, words, signs, digit_first, Apart, uncommented}
use Rattle.grammar.specs.Reading.Lexer.{find, hexadecimal_of, number_of_lem, or_label, token_of, class, marked, put, lex, tokens}
use Rattle.grammar.proofs.Laws.Tables.{find_at, each, at_each}
use Rattle.grammar.proofs.Laws.LexLaws.{next_blank, next_word}
use Rattle.grammar.specs.Laws.Runs.{leading, name_at, line_of, line_at, front, reach_more}
use Rattle.grammar.specs.Reading.Kinds.{kind_of, number_of}
use Rattle.tokens.specs.KindLaws.{name_of, some_kind}
use Rattle.tokens.specs.Streams.{ends, code, stream, skipped, more, or_stray, token_in, width_in, handed, token_at}
use Rattle.tokens.specs.Words.{run_every}
use Rattle.tokens.specs.Reading.{leading_within, end_no_word, not_an_end}

-- ---- runs at the front of a list

-- behind a run no byte passes
abbrev Stops : (ℕ → Bool) → List ℕ → Type 0
Stops t [] = Unit {0}
Stops t (b ∷ bs) = t b ≡ false

leading_stops : (t : ℕ → Bool) (bs : List ℕ) → Stops t (drop (leading t bs) bs)
unfolding leading
leading_stops t [] = tt
leading_stops t (b ∷ bs) = go (t b) refl (leading_stops t bs)
  where
    go : (x : Bool) → t b ≡ x → Stops t (drop (leading t bs) bs) → Stops t (drop (leading t (b ∷ bs)) (b ∷ bs))
    go true e ih = rw e ih
    go false e ih = rw e e

-- ---- what is read of a line

code_more : (b : ℕ) (bs : List ℕ) → ends b ≡ false → code (b ∷ bs) ≡ b ∷ code bs
unfolding code
code_more b bs e = rw e refl

code_ends : (b : ℕ) (bs : List ℕ) → ends b ≡ true → code (b ∷ bs) ≡ []
unfolding code
code_ends b bs e = rw e refl

end_no_blank : (b : ℕ) → ends b ≡ true → blank b ≡ false
unfolding blank
end_no_blank b e = go (eqb b 10) refl (eqb b 59) refl e
  where
    go : (x : Bool) → eqb b 10 ≡ x → (y : Bool) → eqb b 59 ≡ y → (x || y) ≡ true → (eqb b 32 || eqb b 9 || eqb b 13) ≡ false
    go true f y g h = rw (eqb-true b 10 f) refl
    go false f true g h = rw (eqb-true b 59 g) refl
    go false f false g h = clash h refl

-- blanks in front are passed over
lex_skip : (bs : List ℕ) → lex [] (code bs) ≡ lex [] (code (drop (leading blank bs) bs))
unfolding leading
lex_skip [] = refl
lex_skip (b ∷ bs) = go (blank b) refl (lex_skip bs)
  where
    go : (x : Bool) → blank b ≡ x → lex [] (code bs) ≡ lex [] (code (drop (leading blank bs) bs)) → lex [] (code (b ∷ bs)) ≡ lex [] (code (drop (leading blank (b ∷ bs)) (b ∷ bs)))
    go true e ih = rw e (ap (lex []) (code_more b bs (not_an_end blank end_no_blank b e)) ∙ next_blank b (code bs) e ∙ ih)
    go false e ih = rw e refl

-- a word in front is read whole
code_word : (bs : List ℕ) → code bs ≡ take (leading in_word bs) bs ++ code (drop (leading in_word bs) bs)
unfolding leading
code_word [] = refl
code_word (b ∷ bs) = go (in_word b) refl (code_word bs)
  where
    go : (x : Bool) → in_word b ≡ x → code bs ≡ take (leading in_word bs) bs ++ code (drop (leading in_word bs) bs)
        → code (b ∷ bs) ≡ take (leading in_word (b ∷ bs)) (b ∷ bs) ++ code (drop (leading in_word (b ∷ bs)) (b ∷ bs))
    go true e ih = rw e (code_more b bs (not_an_end in_word end_no_word b e) ∙ ap (λ (l : List ℕ). b ∷ l) ih)
    go false e ih = rw e refl

apart_code : (bs : List ℕ) → Stops in_word bs → Apart (code bs)
unfolding code
apart_code [] h = tt
apart_code (b ∷ bs) h = go (ends b) refl
  where
    go : (x : Bool) → ends b ≡ x → Apart (cond x [] (b ∷ code bs))
    go true e = tt
    go false e = h

lex_word : (b : ℕ) (bs : List ℕ) → in_word b ≡ true
    → lex [] (code (b ∷ bs)) ≡ token_of (take (leading in_word (b ∷ bs)) (b ∷ bs)) ∷ lex [] (code (drop (leading in_word (b ∷ bs)) (b ∷ bs)))
lex_word b bs e =
    ap (lex []) (code_word (b ∷ bs))
    ∙ whole (take (leading in_word (b ∷ bs)) (b ∷ bs)) (code (drop (leading in_word (b ∷ bs)) (b ∷ bs))) some (run_every in_word (b ∷ bs)) (apart_code _ (leading_stops in_word (b ∷ bs)))
  where
    some : 0 < length (take (leading in_word (b ∷ bs)) (b ∷ bs))
    some = unfold leading in rw e (omega arith)

    whole : (w rest : List ℕ) → 0 < length w → every in_word w ≡ true → Apart rest → lex [] (w ++ rest) ≡ token_of w ∷ lex [] rest
    whole [] rest l h a = absurd (omega arith)
    whole (c ∷ w) rest l h a = next_word c w rest h a

-- a sign, or what is none
lex_sign : (b : ℕ) (bs : List ℕ) → ends b ≡ false → in_word b ≡ false → blank b ≡ false → lex [] (code (b ∷ bs)) ≡ or_stray (find signs (b ∷ [])) ∷ lex [] (code bs)
lex_sign b bs e w s = ap (lex []) (code_more b bs e) ∙ ap (λ c. put c [] b (λ v. lex v (code bs))) which ∙ go (find signs (b ∷ []))
  where
    which : class b ≡ marked (find signs (b ∷ []))
    which = unfold class in rw (w, s) refl

    go : (o : Option grammar.Token) → put (marked o) [] b (λ v. lex v (code bs)) ≡ or_stray o ∷ lex [] (code bs)
    go (some t) = refl
    go none = refl

-- ---- which tokens are names

abbrev unnamed : Row → Bool
unnamed r = not (eqb (kind_of r.token) 8)

unnamed_signs : each unnamed signs ≡ true
unfolding signs
unnamed_signs = refl

unnamed_words : each unnamed words ≡ true
unfolding words
unnamed_words = refl

-- tokens of another kind are no names
other : {A : Type 0} (t : grammar.Token) (x : List ℕ) → (kind_of t ≡ 8 → ⊥) → t ≡ grammar.name x → A
other t x n e = absurd (n (ap kind_of e))

hex_kind : (v : List ℕ) → kind_of (hexadecimal_of v) ≡ 8 → ⊥
unfolding hexadecimal_of
hex_kind [] h = omega arith
hex_kind (z ∷ []) h = omega arith
hex_kind (z ∷ y ∷ []) h = omega arith
hex_kind (z ∷ y ∷ b ∷ v) h = go (eqb z 48 && eqb y 120 && every hex (b ∷ v)) h
  where
    go : (c : Bool) → kind_of (cond c (grammar.number (value 16 0 (b ∷ v))) grammar.stray) ≡ 8 → ⊥
    go true k = omega arith
    go false k = omega arith

number_kind : (v : List ℕ) → kind_of (number_of_lem v) ≡ 8 → ⊥
unfolding number_of_lem
number_kind v h = go (every digit v) h
  where
    go : (c : Bool) → kind_of (cond c (grammar.number (value 10 0 v)) (hexadecimal_of v)) ≡ 8 → ⊥
    go true k = omega arith
    go false k = hex_kind v k

-- what a table has is no name
no_name : {A : Type 0} (rows : List Row) → each unnamed rows ≡ true → (k : List ℕ) (x : List ℕ) → find rows k ≡ some (grammar.name x) → A
no_name rows h k x e = clash (at_each unnamed rows k (grammar.name x) h (find_at rows k (grammar.name x) e)) refl

sign_name : {A : Type 0} (k : List ℕ) (x : List ℕ) → or_stray (find signs k) ≡ grammar.name x → A
sign_name k x e = go (find signs k) refl e
  where
    go : {A : Type 0} (o : Option grammar.Token) → find signs k ≡ o → or_stray o ≡ grammar.name x → A
    go (some t) f h = no_name signs unnamed_signs k x (f ∙ ap some h)
    go none f h = other grammar.stray x (omega arith) h

word_name : (w x : List ℕ) → token_of w ≡ grammar.name x → x ≡ w
unfolding token_of
word_name w x e = go (digit_first w) e
  where
    told : (o : Option grammar.Token) → find words (map lower w) ≡ o → or_label w o ≡ grammar.name x → x ≡ w
    told (some t) f h = no_name words unnamed_words (map lower w) x (f ∙ ap some h)
    told none f h = sym (ap name_of h)

    go : (b : Bool) → cond b (number_of_lem w) (or_label w (find words (map lower w))) ≡ grammar.name x → x ≡ w
    go true h = other (number_of_lem w) x (number_kind w) h
    go false h = told (find words (map lower w)) refl h

-- ---- by places

module _ (text : List ℕ) where
  stream_skip : (at : ℕ) → stream text at ≡ stream text (skipped text at)
  unfolding stream skipped
  stream_skip at = lex_skip (drop at text) ∙ ap (λ (l : List ℕ). lex [] (code l)) (drop-drop (leading blank (drop at text)) at text)

  module _ (p : ℕ) where
    -- no token is left
    none_there : more text p ≡ false → stream text p ≡ []
    unfolding stream more
    none_there h = go (ltb p (length text)) refl h
      where
        go : (x : Bool) → ltb p (length text) ≡ x → (x && not (ends (get_or text p 0))) ≡ false → lex [] (code (drop p text)) ≡ []
        go true l e = rw (front text p (ltb-true p (length text) l)) (ap (lex []) (code_ends (get_or text p 0) (drop (p + 1) text) (not-false (ends (get_or text p 0)) e)))
        go false l e = rw (drop_of_length-le text (ltb-false p (length text) l)) (unfold code in refl)

    module _ (m : more text p ≡ true) where
      inside : p < length text
      inside = unfold more in ltb-true p (length text) (both (ltb p (length text)) (not (ends (get_or text p 0))) m).0

      goes : ends (get_or text p 0) ≡ false
      goes = unfold more in not-true (ends (get_or text p 0)) (both (ltb p (length text)) (not (ends (get_or text p 0))) m).1

      name_length : length (name_at text p) ≡ leading in_word (drop p text)
      name_length = length-take-le (leading in_word (drop p text)) (drop p text) (leading_within in_word (drop p text))

      -- the first token, and what follows it
      one_there : blank (get_or text p 0) ≡ false → stream text p ≡ token_in text p ∷ stream text (p + width_in text p)
      unfolding stream token_in width_in
      one_there s = go (in_word (get_or text p 0)) refl
        where
          go : (x : Bool) → in_word (get_or text p 0) ≡ x
              → lex [] (code (drop p text)) ≡ cond x (token_of (name_at text p)) (or_stray (find signs (get_or text p 0 ∷ []))) ∷ lex [] (code (drop (p + cond x (length (name_at text p)) 1) text))
          go true e =
              ap (λ (l : List ℕ). lex [] (code l)) (front text p inside) ∙ lex_word (get_or text p 0) (drop (p + 1) text) e
              ∙ ap (λ (l : List ℕ). token_of (take (leading in_word l) l) ∷ lex [] (code (drop (leading in_word l) l))) (sym (front text p inside))
              ∙ ap (λ (l : List ℕ). token_of (name_at text p) ∷ lex [] (code l)) (drop-drop (leading in_word (drop p text)) p text ∙ ap (λ (n : ℕ). drop (p + n) text) (sym name_length))
          go false e = ap (λ (l : List ℕ). lex [] (code l)) (front text p inside) ∙ lex_sign (get_or text p 0) (drop (p + 1) text) goes e s

      width_within : (0 < width_in text p) × (p + width_in text p ≤ length text)
      unfolding width_in
      width_within = go (in_word (get_or text p 0)) refl
        where
          go : (x : Bool) → in_word (get_or text p 0) ≡ x → (0 < cond x (length (name_at text p)) 1) × (p + cond x (length (name_at text p)) 1 ≤ length text)
          go true e =
              let i : p < length text = inside in
              let l : leading in_word (drop p text) ≤ length (drop p text) = leading_within in_word (drop p text) in
              let d : length (drop p text) ≡ length text - p = length-drop p text in
              let k : leading in_word (drop p text) ≡ suc (leading in_word (drop (p + 1) text)) = reach_more in_word text p inside e in
              let n : length (name_at text p) ≡ leading in_word (drop p text) = name_length in
              (omega arith, omega arith)
          go false e = let i : p < length text = inside in (omega arith, omega arith)

  skipped_on : (at : ℕ) → at ≤ skipped text at
  unfolding skipped
  skipped_on at = omega arith

  -- behind the blanks stands no blank
  past_blanks : (at : ℕ) → skipped text at < length text → blank (get_or text (skipped text at) 0) ≡ false
  unfolding skipped
  past_blanks at h = rw (drop-drop (leading blank (drop at text)) at text ∙ front text (at + leading blank (drop at text)) h) at (leading_stops blank (drop at text))

  -- ---- the token from a place on

  module _ (at : ℕ) where
    abbrev p : ℕ
    p = skipped text at

    pub place_on : at ≤ (token_at text at).place
    unfolding token_at
    place_on = go (more text p)
      where
        go : (x : Bool) → at ≤ (cond x (handed (kind_of (token_in text p)) (number_of (token_in text p)) p (p + width_in text p)) (handed 0 0 p p)).place
        go true = skipped_on at
        go false = skipped_on at

    pub next_on : at ≤ (token_at text at).next
    unfolding token_at
    next_on = go (more text p)
      where
        go : (x : Bool) → at ≤ (cond x (handed (kind_of (token_in text p)) (number_of (token_in text p)) p (p + width_in text p)) (handed 0 0 p p)).next
        go true = let h : at ≤ p = skipped_on at in omega arith
        go false = skipped_on at

    -- what is told of a token that is there
    pub record There : Type 0 where
      pub first : stream text at ≡ token_in text (token_at text at).place ∷ stream text (token_at text at).next
      pub kind : (token_at text at).kind ≡ kind_of (token_in text (token_at text at).place)
      pub number : (token_at text at).value ≡ number_of (token_in text (token_at text at).place)
      pub onward : at < (token_at text at).next
      pub within : (token_at text at).next ≤ length text

    pub stream_ends : (token_at text at).kind ≡ 0 → stream text at ≡ []
    unfolding token_at
    stream_ends h = go (more text p) refl h
      where
        go : (x : Bool) → more text p ≡ x → (cond x (handed (kind_of (token_in text p)) (number_of (token_in text p)) p (p + width_in text p)) (handed 0 0 p p)).kind ≡ 0 → stream text at ≡ []
        go true e k = absurd (some_kind (token_in text p) k)
        go false e k = stream_skip at ∙ none_there p e

    pub there : ((token_at text at).kind ≡ 0 → ⊥) → There
    unfolding token_at
    there h = go (more text p) refl
      where
        go : (x : Bool) → more text p ≡ x → There
        go true e =
            let w = width_within p e in
            let a : 0 < width_in text p = w.0 in
            let b : p + width_in text p ≤ length text = w.1 in
            let s : at ≤ p = skipped_on at in
            record {
              first = rw e (stream_skip at ∙ one_there p e (past_blanks at (inside p e)));
              kind = rw e refl;
              number = rw e refl;
              onward = rw e (omega arith);
              within = rw e (omega arith);
            }
        go false e = absurd (h (rw e refl))

  -- ---- names

  -- a name is the word that stands there
  pub name_is : (q : ℕ) (x : List ℕ) → token_in text q ≡ grammar.name x → x ≡ name_at text q
  unfolding token_in
  name_is q x e = go (in_word (get_or text q 0)) e
    where
      go : (b : Bool) → cond b (token_of (name_at text q)) (or_stray (find signs (get_or text q 0 ∷ []))) ≡ grammar.name x → x ≡ name_at text q
      go true f = word_name (name_at text q) x f
      go false f = sign_name (get_or text q 0 ∷ []) x f

-- ---- whole lines

-- what is read of the first line of a text is what is read of that line without its comment
pub code_line : (bs : List ℕ) → code bs ≡ uncommented (line_of bs)
unfolding code line_of
code_line [] = refl
code_line (b ∷ bs) = go (eqb b 10) refl (eqb b 59) refl (code_line bs)
  where
    go : (x : Bool) → eqb b 10 ≡ x → (y : Bool) → eqb b 59 ≡ y → code bs ≡ uncommented (line_of bs) → code (b ∷ bs) ≡ uncommented (line_of (b ∷ bs))
    go true e y f ih = rw e refl
    go false e true f ih = rw (e, f) refl
    go false e false f ih = rw (e, f) (ap (λ (l : List ℕ). b ∷ l) ih)

pub stream_line : (text : List ℕ) (at : ℕ) → stream text at ≡ tokens (line_at text at)
unfolding stream
stream_line text at = ap (lex []) (code_line (drop at text))
