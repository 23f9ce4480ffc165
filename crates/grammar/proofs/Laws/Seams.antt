-- Tokens up to an opening bracket are those of the bytes up to it.
use Rattle.std.specs.Prelude.{◌≡◌, Bool, true, not, ◌||◌, List, [], ◌∷◌, ◌++◌, map, ℕ, eqb}
use Rattle.std.proofs.Math.Path.{refl}
use Rattle.std.proofs.Common.{sym, ap, ◌∙◌, subst, append_assoc, arith, eqb-true}
use Rattle.common.proofs.Laws.Tests.{both}
use Rattle.grammar.specs.Tokens.{Token, left, stray}
use Rattle.grammar.specs.Grammar.{shift}
use Rattle.grammar.specs.Spelling.{digit, capital, small, in_word, blank, lower, every, Row, words, signs, At, Spells, known, labels, decimal, hexadecimal, Apart, Text, ends, gap, sign, word}
use Rattle.grammar.specs.Reading.Lexer.{same, token_of, Class, inner, space, mark, odd, class, flush, put, lex}
use Rattle.grammar.proofs.Laws.Tables.{every_snoc, each, at_each}
use Rattle.grammar.specs.Sources.{bracket}
use Rattle.grammar.proofs.Laws.LexLaws.{Means, class_means, token_spelled, Clean}

bracket_class : class bracket ≡ mark left
unfolding class blank in_word digit capital small signs
bracket_class = refl

flush_append : (w : List ℕ) (ts us : List Token) → flush w ts ++ us ≡ flush w (ts ++ us)
flush_append [] ts us = refl
flush_append (b ∷ w) ts us = refl

pub lex_bracket : (before w after : List ℕ) → lex w (before ++ bracket ∷ after) ≡ lex w before ++ left ∷ lex [] after
lex_bracket [] w after =
    ap (λ (c : Class). put c w bracket (λ v. lex v after)) bracket_class ∙ sym (flush_append w [] (left ∷ lex [] after))
lex_bracket (b ∷ before) w after = go (class b) (λ v. lex_bracket before v after)
  where
    go : (c : Class) → ((v : List ℕ) → lex v (before ++ bracket ∷ after) ≡ lex v before ++ left ∷ lex [] after)
        → put c w b (λ v. lex v (before ++ bracket ∷ after)) ≡ put c w b (λ v. lex v before) ++ left ∷ lex [] after
    go inner ih = ih (w ++ b ∷ [])
    go space ih = ap (flush w) (ih []) ∙ sym (flush_append w (lex [] before) (left ∷ lex [] after))
    go (mark t) ih = ap (λ (l : List Token). flush w (t ∷ l)) (ih []) ∙ sym (flush_append w (t ∷ lex [] before) (left ∷ lex [] after))
    go odd ih = ap (λ (l : List Token). flush w (stray ∷ l)) (ih []) ∙ sym (flush_append w (stray ∷ lex [] before) (left ∷ lex [] after))

-- ---- and back

-- these bytes are these tokens, a bracket, and more
pub record Seam (ts : List Token) (bs : List ℕ) : Type 0 where
  pub before : List ℕ
  pub after : List ℕ
  pub parts : bs ≡ before ++ bracket ∷ after
  pub spelled : Text ts before

-- what is read behind clean tokens and a bracket, of tokens that the bytes give
abbrev pub Seams : List Token → List ℕ → Type 0
Seams ts bs = (us vs : List Token) → Clean us → ts ≡ us ++ left ∷ vs → Seam us bs

apart_front : (bs cs : List ℕ) → Apart (bs ++ cs) → Apart bs
apart_front [] cs a = tt
apart_front (b ∷ bs) cs a = a

-- ---- no word is a bracket, and no sign but one

word_flat : (t : Token) (w : List ℕ) → Spells t w → shift t 0 ≡ 0
word_flat t w (known a) = eqb-true (shift t 0) 0 (at_each (λ r. eqb (shift r.token 0) 0) words (map lower w) t words_flat a)
  where
    words_flat : each (λ r. eqb (shift r.token 0) 0) words ≡ true
    words_flat = unfold words in refl
word_flat t w (labels d n e) = ap (λ (x : Token). shift x 0) e
word_flat t w (decimal d e) = ap (λ (x : Token). shift x 0) e
word_flat t w (hexadecimal b h d n e) = ap (λ (x : Token). shift x 0) e

stray_not_left : stray ≡ left → ⊥
stray_not_left e = let z : ◌≡◌ {A = ℕ} 0 1 = ap (λ (x : Token). shift x 0) e in omega arith

token_not_left : (b : ℕ) (w : List ℕ) → token_of (b ∷ w) ≡ left → ⊥
token_not_left b w e =
    let s : Spells left (b ∷ w) = subst (λ (t : Token). Spells t (b ∷ w)) e (token_spelled b w (λ z. stray_not_left (sym z ∙ e))) in
    let z : ◌≡◌ {A = ℕ} 1 0 = word_flat left (b ∷ w) s in
    omega arith

abbrev lone_bracket : Row → Bool
lone_bracket r = not (eqb (shift r.token 0) 1) || same r.key (bracket ∷ [])

signs_one_bracket : each lone_bracket signs ≡ true
unfolding signs
signs_one_bracket = refl

sign_bracket : (b : ℕ) → At signs (b ∷ []) left → b ≡ bracket
sign_bracket b a = eqb-true b bracket (both (eqb b bracket) true (at_each lone_bracket signs (b ∷ []) left signs_one_bracket a)).0

-- ---- the seam

nil_not_cons : {A : Type 0} {x : Token} {xs : List Token} → [] ≡ x ∷ xs → A
nil_not_cons e = let z : ◌≡◌ {A = ℕ} 0 1 = cc in absurd (omega arith)

seam_end : Seams [] []
seam_end [] vs c e = nil_not_cons e
seam_end (u ∷ us) vs c e = nil_not_cons e

seam_flush : (w : List ℕ) (ts : List Token) (rest : List ℕ) → every in_word w ≡ true → Apart rest → Seams ts rest → Seams (flush w ts) (w ++ rest)
seam_flush [] ts rest h a k us vs c e = k us vs c e
seam_flush (b ∷ w) ts rest h a k [] vs c e = let p : token_of (b ∷ w) ≡ left = cc in absurd (token_not_left b w p)
seam_flush (b ∷ w) ts rest h a k (u ∷ us) vs c e =
    let p : token_of (b ∷ w) ≡ u = cc in
    let q : ts ≡ us ++ left ∷ vs = cc in
    let m = k us vs c.1 q in
    let s : Spells u (b ∷ w) = subst (λ (t : Token). Spells t (b ∷ w)) p (token_spelled b w (λ z. c.0 (sym p ∙ z))) in
    record {
      before = b ∷ w ++ m.before;
      after = m.after;
      parts = ap (λ (l : List ℕ). b ∷ w ++ l) m.parts ∙ sym (append_assoc (b ∷ w) m.before (bracket ∷ m.after));
      spelled = word b w m.before refl h s (apart_front m.before (bracket ∷ m.after) (subst Apart m.parts a)) m.spelled;
    }

seam_gap : (b : ℕ) (us : List Token) (bs : List ℕ) → blank b ≡ true → Seam us bs → Seam us (b ∷ bs)
seam_gap b us bs h m =
    record { before = b ∷ m.before; after = m.after; parts = ap (λ (l : List ℕ). b ∷ l) m.parts; spelled = gap h m.spelled }

seam_sign : (b : ℕ) (t : Token) (ts : List Token) (bs : List ℕ) → At signs (b ∷ []) t → Seams ts bs → Seams (t ∷ ts) (b ∷ bs)
seam_sign b t ts bs a k [] vs c e =
    let p : t ≡ left = cc in
    record { before = []; after = bs; parts = ap (λ (x : ℕ). x ∷ bs) (sign_bracket b (subst (At signs (b ∷ [])) p a)); spelled = ends }
seam_sign b t ts bs a k (u ∷ us) vs c e =
    let p : t ≡ u = cc in
    let q : ts ≡ us ++ left ∷ vs = cc in
    let m = k us vs c.1 q in
    record {
      before = b ∷ m.before;
      after = m.after;
      parts = ap (λ (l : List ℕ). b ∷ l) m.parts;
      spelled = sign (subst (At signs (b ∷ [])) p a) m.spelled;
    }

seam_stray : (ts : List Token) (bs : List ℕ) → Seams (stray ∷ ts) bs
seam_stray ts bs [] vs c e = let p : stray ≡ left = cc in absurd (stray_not_left p)
seam_stray ts bs (u ∷ us) vs c e = let p : u ≡ stray = cc in absurd (c.0 p)

pub seam_lex : (bs w : List ℕ) → every in_word w ≡ true → Seams (lex w bs) (w ++ bs)
seam_lex [] w h = seam_flush w [] [] h tt seam_end
seam_lex (b ∷ bs) w h = go (class b) (class_means b) (λ v. seam_lex bs v)
  where
    go : (x : Class) → Means x b → ((v : List ℕ) → every in_word v ≡ true → Seams (lex v bs) (v ++ bs)) → Seams (put x w b (λ v. lex v bs)) (w ++ b ∷ bs)
    go inner m ih = rw (append_assoc w (b ∷ []) bs) at (ih (w ++ b ∷ []) (every_snoc in_word w b h m))
    go space m ih = seam_flush w (lex [] bs) (b ∷ bs) h m.0 (λ us vs c e. seam_gap b us bs m.1 (ih [] refl us vs c e))
    go (mark t) m ih = seam_flush w (t ∷ lex [] bs) (b ∷ bs) h m.0 (seam_sign b t (lex [] bs) bs m.1 (ih [] refl))
    go odd m ih = seam_flush w (stray ∷ lex [] bs) (b ∷ bs) h m (seam_stray (lex [] bs) (b ∷ bs))
