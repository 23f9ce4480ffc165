-- Words as the code reads them: a key byte by byte, and what the key stands for.
use Rattle.std.specs.Prelude.{◌≡◌, Bool, false, take, drop}
use Rattle.std.proofs.Math.Path.{refl, ap}
use Rattle.std.proofs.Common.{sym, ◌∙◌}
use Rattle.std.proofs.Math.Bool.{true}
use mathlib.Core.List.{List, [], ◌∷◌, map}
use Rattle.std.proofs.Math.Option.{Option, none, some}
use Prim.Native.Nat.{ℕ, suc, ◌+◌, ◌*◌, ◌≤◌}
use native.Mathlib.Omega.{arith}
use Rattle.std.proofs.Math.ListN.{length, get_or}
use Rattle.grammar.specs.Tokens as grammar
use Rattle.grammar.specs.Spelling.{in_word, every, lower, words}
use Rattle.grammar.specs.Reading.Lexer.{find, or_label}
use Rattle.grammar.specs.Laws.Runs.{leading, name_at}
use Rattle.grammar.specs.Reading.Kinds.{kind_of, number_of}
use Rattle.tokens.specs.Streams.{Handed, handed}
use Rattle.tokens.specs.Bytes.{folded_of, folded_in, none_folded, some_folded}
use Rattle.tokens.specs.Worth.{worth, held, held_small, held_again}
use Rattle.tokens.specs.Keys.{longest, find_by, find_word}
use Rattle.tokens.specs.Known.{Both, both_of, known, known_of}
use Rattle.tokens.specs.Names.{name_more, name_none, name_past}
use Rattle.tokens.specs.declared.words.Spelling.{Spelling}

-- a token with its places
abbrev pub placed : grammar.Token → ℕ → ℕ → Handed
placed t place next = handed (kind_of t) (number_of t) place next

-- ---- the key of a word

-- the word from p on, behind bytes whose key is n
abbrev spelled_by : List ℕ → ℕ → ℕ → Spelling
spelled_by w p n = record { key = held longest (worth lower 256 n w); next = p + length w }

unfoldable pub spelled_on : List ℕ → ℕ → ℕ → Spelling
spelled_on text p n = spelled_by (name_at text p) p n

abbrev pub spelled_at : List ℕ → ℕ → Spelling
spelled_at text at = spelled_on text at 0

module _ (text : List ℕ) (p n : ℕ) where
  stops : name_at text p ≡ [] → n ≤ longest → record { key = n; next = p } ≡ spelled_on text p n
  unfolding spelled_on worth
  stops e h = let z : p + 0 ≡ p = omega arith in rw (e, held_small longest n h, z) refl

  pub spelled_past : length text ≤ p → n ≤ longest → record { key = n; next = p } ≡ spelled_on text p n
  spelled_past h = stops (name_past text p h)

  module _ (c : ℕ) (e : c ≡ folded_of (get_or text p 0)) where
    pub spelled_ends : c ≡ 0 → n ≤ longest → record { key = n; next = p } ≡ spelled_on text p n
    spelled_ends z = stops (name_none text p (none_folded (get_or text p 0) (sym e ∙ z)))

    pub spelled_turn : (c ≡ 0 → ⊥) → (k : ℕ) → k ≡ held longest (n * 256 + c) → spelled_on text p n ≡ spelled_on text (p + 1) k
    unfolding spelled_on worth
    spelled_turn o k ek =
        let b = get_or text p 0 in
        let w = name_at text (p + 1) in
        let i : in_word b ≡ true = some_folded b (λ z. o (e ∙ z)) in
        let f : k ≡ held longest (n * 256 + lower b) = ek ∙ ap (λ (x : ℕ). held longest (n * 256 + x)) (e ∙ folded_in b i) in
        let l : p + suc (length w) ≡ p + 1 + length w = omega arith in
        let h : held longest (worth lower 256 (n * 256 + lower b) w) ≡ held longest (worth lower 256 k w) = held_again longest lower 256 (omega arith) w (n * 256 + lower b) ∙ ap (λ (x : ℕ). held longest (worth lower 256 x w)) (sym f) in
        ap (λ (v : List ℕ). spelled_by v p n) (name_more text p i)
        ∙ ap (λ (x : ℕ). record { key = x; next = p + suc (length w) }) h
        ∙ ap (λ (x : ℕ). record { key = held longest (worth lower 256 k w); next = x }) l

-- ---- what a word is that begins with no digit

unfoldable pub word_at : List ℕ → ℕ → Handed
word_at text place = let w = name_at text place in placed (or_label w (find words (map lower w))) place (place + length w)

pub run_every : (t : ℕ → Bool) (l : List ℕ) → every t (take (leading t l) l) ≡ true
unfolding leading
run_every t [] = refl
run_every t (b ∷ l) = go (t b) refl (run_every t l)
  where
    go : (x : Bool) → t b ≡ x → every t (take (leading t l) l) ≡ true → every t (take (leading t (b ∷ l)) (b ∷ l)) ≡ true
    go true e ih = simp (e, ih)
    go false e ih = rw e refl

label_known : (w : List ℕ) (x : Option grammar.Token) → both_of (kind_of (or_label w x)) (number_of (or_label w x)) ≡ known x
label_known w (some t) = refl
label_known w none = refl

pub word_known : (text : List ℕ) (place : ℕ) (s : Spelling) → s ≡ spelled_at text place → (k : Both) → k ≡ known_of s.key → handed k.kind k.number place s.next ≡ word_at text place
unfolding word_at spelled_on known_of
word_known text place s es k ek =
    let w = name_at text place in
    let f : k ≡ known (find words (map lower w)) = ek ∙ ap (λ (x : Spelling). known (find_by words x.key)) es ∙ ap known (sym (find_word w (run_every in_word (drop place text)))) in
    ap (λ (x : Spelling). handed k.kind k.number place x.next) es
    ∙ ap (λ (x : Both). handed x.kind x.number place (place + length w)) (f ∙ sym (label_known w (find words (map lower w))))
