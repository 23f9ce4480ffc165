-- Bytes are read as the tokens that they spell.
use Rattle.std.specs.Prelude.{◌≡◌, refl, Bool, true, false, cond, not, ◌&&◌, ◌||◌, List, [], ◌∷◌, ◌++◌, map, ◌↔◌, ◌⊎◌, ℕ, ◌+◌, ◌≤◌, eqb, leb}
use Rattle.std.proofs.Common.{sym, ap, ◌∙◌, subst, append_assoc, append-nil, inl, inr, arith, eqb-true, leb-true}
use Rattle.std.proofs.Math.Option.{Option, none, some}
use Rattle.std.proofs.lemmas.Bool.{lt-leb, not-true}
use Rattle.grammar.specs.Tokens.{Token, mnemonic, register, name, number, comma, colon, plus, minus, star, dot, left, right, stray}
use Rattle.grammar.specs.Spelling.{digit, capital, small, in_word, blank, lower, hex, every, value, Row, words, signs, At, digit_first, Spells, known, labels, decimal, hexadecimal, Apart, Text, ends, gap, sign, word, uncommented, Source}
use Rattle.grammar.specs.Reading.Lexer.{find, hexadecimal_of, number_of_lem, or_label, token_of, Class, inner, space, mark, odd, marked, class, flush, put, lex, tokens}
use Rattle.common.proofs.Laws.Tests.{clash, both}
use Rattle.grammar.proofs.Laws.Tables.{either, every_snoc, none_not_some, picks, find_at, distinct, at_find, each, at_each}

-- ---- the class of a byte

abbrev pub Means : Class → ℕ → Type 0
Means inner b = in_word b ≡ true
Means space b = (in_word b ≡ false) × (blank b ≡ true)
Means (mark t) b = (in_word b ≡ false) × At signs (b ∷ []) t
Means odd b = in_word b ≡ false

pub class_means : (b : ℕ) → Means (class b) b
unfolding class
class_means b =
    picks (in_word b) inner _ (λ (c : Class). Means c b) (λ e. e)
    (λ e. picks (blank b) space _ (λ (c : Class). Means c b) (λ f. (e, f)) (λ f. marks e (find signs (b ∷ [])) refl))
  where
    marks : in_word b ≡ false → (x : Option Token) → find signs (b ∷ []) ≡ x → Means (marked x) b
    marks e (some t) f = (e, find_at signs (b ∷ []) t f)
    marks e none f = e

inner_class : (b : ℕ) → in_word b ≡ true → class b ≡ inner
unfolding class
inner_class b e = ap (λ (x : Bool). cond x inner (cond (blank b) space (marked (find signs (b ∷ []))))) e

blank_class : (b : ℕ) → blank b ≡ true → class b ≡ space
unfolding class blank in_word digit capital small
blank_class b h = go (either (eqb b 32 || eqb b 9) (eqb b 13) h)
  where
    at : (n : ℕ) → class n ≡ space → eqb b n ≡ true → class b ≡ space
    at n k e = ap class (eqb-true b n e) ∙ k

    two : (eqb b 32 ≡ true) ⊎ (eqb b 9 ≡ true) → class b ≡ space
    two (inl e) = at 32 refl e
    two (inr e) = at 9 refl e

    go : ((eqb b 32 || eqb b 9) ≡ true) ⊎ (eqb b 13 ≡ true) → class b ≡ space
    go (inl e) = two (either (eqb b 32) (eqb b 9) e)
    go (inr e) = at 13 refl e

-- a sign is neither in a word nor a blank
abbrev lone : List ℕ → Bool
lone [] = false
lone (b ∷ bs) = not (in_word b) && not (blank b)

signs_lone : each (λ r. lone r.key) signs ≡ true
unfolding signs blank in_word digit capital small
signs_lone = refl

signs_distinct : distinct signs ≡ true
unfolding signs
signs_distinct = refl

sign_class : (b : ℕ) (t : Token) → At signs (b ∷ []) t → class b ≡ mark t
unfolding class
sign_class b t a =
    let h = both (not (in_word b)) (not (blank b)) (at_each (λ r. lone r.key) signs (b ∷ []) t signs_lone a) in
    ap (λ (x : Bool). cond x inner (cond (blank b) space (marked (find signs (b ∷ []))))) (not-true (in_word b) h.0)
    ∙ ap (λ (x : Bool). cond x space (marked (find signs (b ∷ [])))) (not-true (blank b) h.1)
    ∙ ap marked (at_find signs (b ∷ []) t signs_distinct a)

-- ---- words

words_distinct : distinct words ≡ true
unfolding words
words_distinct = refl

abbrev no_digit_first : Row → Bool
no_digit_first r = not (digit_first r.key)

words_no_digit : each no_digit_first words ≡ true
unfolding words digit
words_no_digit = refl

-- a digit has no small letter
lower_digit : (b : ℕ) → digit b ≡ true → lower b ≡ b
unfolding digit lower capital
lower_digit b h =
    let most : b ≤ 57 = leb-true b 57 (both (leb 48 b) (leb b 57) h).1 in
    ap (λ (x : Bool). cond (x && leb b 90) (b + 32) b) (lt-leb 65 b (omega arith))

known_no_digit : (b : ℕ) (w : List ℕ) (t : Token) → At words (map lower (b ∷ w)) t → digit b ≡ false
known_no_digit b w t a = go (digit b) refl
  where
    small_no_digit : digit (lower b) ≡ false
    small_no_digit = not-true (digit (lower b)) (at_each no_digit_first words (map lower (b ∷ w)) t words_no_digit a)

    go : (x : Bool) → digit b ≡ x → digit b ≡ false
    go true e = clash e (ap digit (sym (lower_digit b e)) ∙ small_no_digit)
    go false e = e

-- where the first byte is no digit, and where it is
token_word : (b : ℕ) (w : List ℕ) → digit b ≡ false → token_of (b ∷ w) ≡ or_label (b ∷ w) (find words (map lower (b ∷ w)))
unfolding token_of
token_word b w e = ap (λ (x : Bool). cond x (number_of_lem (b ∷ w)) (or_label (b ∷ w) (find words (map lower (b ∷ w))))) e

token_number : (b : ℕ) (w : List ℕ) → digit b ≡ true → token_of (b ∷ w) ≡ number_of_lem (b ∷ w)
unfolding token_of
token_number b w e = ap (λ (x : Bool). cond x (number_of_lem (b ∷ w)) (or_label (b ∷ w) (find words (map lower (b ∷ w))))) e

spelled_token : (b : ℕ) (w : List ℕ) (t : Token) → Spells t (b ∷ w) → token_of (b ∷ w) ≡ t
unfolding number_of_lem hexadecimal_of digit
spelled_token b w t (known a) =
    token_word b w (known_no_digit b w t a) ∙ ap (or_label (b ∷ w)) (at_find words (map lower (b ∷ w)) t words_distinct a)
spelled_token b w t (labels e n f) = token_word b w e ∙ go (find words (map lower (b ∷ w))) refl ∙ sym f
  where
    go : (x : Option Token) → find words (map lower (b ∷ w)) ≡ x → or_label (b ∷ w) x ≡ name (b ∷ w)
    go (some u) g = absurd (n u (find_at words (map lower (b ∷ w)) u g))
    go none g = refl
spelled_token b w t (decimal e f) =
    token_number b w (both (digit b) (every digit w) e).0
    ∙ ap (λ (x : Bool). cond x (number (value 10 0 (b ∷ w))) (hexadecimal_of (b ∷ w))) e ∙ sym f
spelled_token b w t (hexadecimal c h e g f) =
    ap token_of e ∙ token_number 48 (120 ∷ c ∷ h) refl ∙ ap (λ (x : Bool). cond x (number (value 16 0 (c ∷ h))) stray) g ∙ sym f

pub token_spelled : (b : ℕ) (w : List ℕ) → (token_of (b ∷ w) ≡ stray → ⊥) → Spells (token_of (b ∷ w)) (b ∷ w)
unfolding token_of number_of_lem hexadecimal_of
token_spelled b w =
    picks (digit b) _ _ P
    (λ e. picks (every digit (b ∷ w)) _ _ P (λ f n. decimal f refl) (λ f. hexes w))
    (λ e. others e (find words (map lower (b ∷ w))) refl)
  where
    P : Token → Type 0
    P t = (t ≡ stray → ⊥) → Spells t (b ∷ w)

    others : digit b ≡ false → (x : Option Token) → find words (map lower (b ∷ w)) ≡ x → P (or_label (b ∷ w) x)
    others e (some u) f n = known (find_at words (map lower (b ∷ w)) u f)
    others e none f n = labels e (λ u a. none_not_some f (at_find words (map lower (b ∷ w)) u words_distinct a)) refl

    hexes : (v : List ℕ) → (hexadecimal_of (b ∷ v) ≡ stray → ⊥) → Spells (hexadecimal_of (b ∷ v)) (b ∷ v)
    hexes [] = λ n. absurd (n refl)
    hexes (x ∷ []) = λ n. absurd (n refl)
    hexes (x ∷ c ∷ h) =
        picks (eqb b 48 && eqb x 120 && every hex (c ∷ h)) _ _ (λ (t : Token). (t ≡ stray → ⊥) → Spells t (b ∷ x ∷ c ∷ h))
        (λ e n.
        let k = both (eqb b 48 && eqb x 120) (every hex (c ∷ h)) e in
        let z = both (eqb b 48) (eqb x 120) k.0 in
        hexadecimal c h (ap (λ (y : ℕ). y ∷ x ∷ c ∷ h) (eqb-true b 48 z.0) ∙ ap (λ (y : ℕ). 48 ∷ y ∷ c ∷ h) (eqb-true x 120 z.1)) k.1 refl)
        (λ e n. absurd (n refl))

-- ---- texts

-- a word that does not run on is read whole
lex_apart : (u rest : List ℕ) → Apart rest → lex u rest ≡ flush u (lex [] rest)
lex_apart u [] a = refl
lex_apart u (b ∷ bs) a = go (class b) (class_means b)
  where
    go : (c : Class) → Means c b → put c u b (λ v. lex v bs) ≡ flush u (put c [] b (λ v. lex v bs))
    go inner m = clash m a
    go space m = refl
    go (mark t) m = refl
    go odd m = refl

lex_word : (w u rest : List ℕ) → every in_word w ≡ true → Apart rest → lex u (w ++ rest) ≡ flush (u ++ w) (lex [] rest)
lex_word [] u rest h a = lex_apart u rest a ∙ ap (λ (x : List ℕ). flush x (lex [] rest)) (sym (append-nil u))
lex_word (b ∷ w) u rest h a =
    let k = both (in_word b) (every in_word w) h in
    ap (λ (c : Class). put c u b (λ v. lex v (w ++ rest))) (inner_class b k.0) ∙ lex_word w (u ++ b ∷ []) rest k.1 a
    ∙ ap (λ (x : List ℕ). flush x (lex [] rest)) (append_assoc u (b ∷ []) w)

-- ---- the next token

pub next_blank : (b : ℕ) (bs : List ℕ) → blank b ≡ true → lex [] (b ∷ bs) ≡ lex [] bs
next_blank b bs e = ap (λ (c : Class). put c [] b (λ v. lex v bs)) (blank_class b e)

next_sign : (b : ℕ) (bs : List ℕ) (t : Token) → At signs (b ∷ []) t → lex [] (b ∷ bs) ≡ t ∷ lex [] bs
next_sign b bs t a = ap (λ (c : Class). put c [] b (λ v. lex v bs)) (sign_class b t a)

pub next_word : (b : ℕ) (w rest : List ℕ) → every in_word (b ∷ w) ≡ true → Apart rest → lex [] (b ∷ w ++ rest) ≡ token_of (b ∷ w) ∷ lex [] rest
next_word b w rest h a = lex_word (b ∷ w) [] rest h a

-- ---- whole texts

pub text_lex : {ts : List Token} {bs : List ℕ} → Text ts bs → lex [] bs ≡ ts
text_lex ends = refl
text_lex (gap {b = b} {bs = bs} e k) = next_blank b bs e ∙ text_lex k
text_lex (sign {b = b} {t = t} {bs = bs} a k) = next_sign b bs t a ∙ ap (λ (l : List Token). t ∷ l) (text_lex k)
text_lex (word {t = t} b w rest e h s a k) =
    ap (lex []) e ∙ next_word b w rest h a
    ∙ ap (λ (x : Token). x ∷ lex [] rest) (spelled_token b w t s) ∙ ap (λ (l : List Token). t ∷ l) (text_lex k)

-- ---- what is read without a stray token is spelled so

abbrev pub Clean : List Token → Type 0
Clean [] = Unit {0}
Clean (t ∷ ts) = (t ≡ stray → ⊥) × Clean ts

flush_text : (w : List ℕ) (ts : List Token) (rest : List ℕ) → every in_word w ≡ true → Apart rest → (Clean ts → Text ts rest) → Clean (flush w ts) → Text (flush w ts) (w ++ rest)
flush_text [] ts rest h a k c = k c
flush_text (b ∷ w) ts rest h a k c = word b w rest refl h (token_spelled b w c.0) a (k c.1)

lex_text : (bs w : List ℕ) → every in_word w ≡ true → Clean (lex w bs) → Text (lex w bs) (w ++ bs)
lex_text [] w h c = flush_text w [] [] h tt (λ k. ends) c
lex_text (b ∷ bs) w h c = go (class b) (class_means b) (λ v. lex_text bs v) c
  where
    go : (x : Class) → Means x b → ((v : List ℕ) → every in_word v ≡ true → Clean (lex v bs) → Text (lex v bs) (v ++ bs))
        → Clean (put x w b (λ v. lex v bs)) → Text (put x w b (λ v. lex v bs)) (w ++ b ∷ bs)
    go inner m ih k = rw (append_assoc w (b ∷ []) bs) at (ih (w ++ b ∷ []) (every_snoc in_word w b h m) k)
    go space m ih k = flush_text w (lex [] bs) (b ∷ bs) h m.0 (λ j. gap m.1 (ih [] refl j)) k
    go (mark t) m ih k = flush_text w (t ∷ lex [] bs) (b ∷ bs) h m.0 (λ j. sign m.1 (ih [] refl j.1)) k
    go odd m ih k = flush_text w (stray ∷ lex [] bs) (b ∷ bs) h m (λ j. absurd (j.0 refl)) k

-- ---- no text has a stray token

abbrev is_stray : Token → Bool
is_stray (mnemonic m) = false
is_stray (register r) = false
is_stray (name x) = false
is_stray (number n) = false
is_stray comma = false
is_stray colon = false
is_stray plus = false
is_stray minus = false
is_stray star = false
is_stray dot = false
is_stray left = false
is_stray right = false
is_stray stray = true

abbrev meant : Row → Bool
meant r = not (is_stray r.token)

words_meant : each meant words ≡ true
unfolding words
words_meant = refl

signs_meant : each meant signs ≡ true
unfolding signs
signs_meant = refl

spells_meant : (t : Token) (w : List ℕ) → Spells t w → is_stray t ≡ false
spells_meant t w (known a) = not-true (is_stray t) (at_each meant words (map lower w) t words_meant a)
spells_meant t w (labels d n e) = ap is_stray e
spells_meant t w (decimal d e) = ap is_stray e
spells_meant t w (hexadecimal b h d n e) = ap is_stray e

meant_clean : (t : Token) → is_stray t ≡ false → t ≡ stray → ⊥
meant_clean t h e = clash (ap is_stray e) h

text_clean : {ts : List Token} {bs : List ℕ} → Text ts bs → Clean ts
text_clean ends = tt
text_clean (gap e k) = text_clean k
text_clean (sign {b = b} {t = t} a k) = (meant_clean t (not-true (is_stray t) (at_each meant signs (b ∷ []) t signs_meant a)), text_clean k)
text_clean (word {t = t} b w rest e h s a k) = (meant_clean t (spells_meant t (b ∷ w) s), text_clean k)

-- ---- lines with their comments

pub spelled_tokens : (bs : List ℕ) (ts : List Token) → Source ts bs → tokens bs ≡ ts
spelled_tokens bs ts s = text_lex s

pub tokens_spelled : (bs : List ℕ) → Clean (tokens bs) → Source (tokens bs) bs
tokens_spelled bs c = lex_text (uncommented bs) [] refl c

pub tokens_exactly : (bs : List ℕ) (ts : List Token) → Source ts bs ↔ ((tokens bs ≡ ts) × Clean ts)
tokens_exactly bs ts = (
  λ s. (spelled_tokens bs ts s, text_clean s),
  λ h. subst (λ (us : List Token). Source us bs) h.0 (tokens_spelled bs (subst Clean (sym h.0) h.1)),
)

pub one_reading : (bs : List ℕ) (ts us : List Token) → Source ts bs → Source us bs → ts ≡ us
one_reading bs ts us s u = sym (spelled_tokens bs ts s) ∙ spelled_tokens bs us u
