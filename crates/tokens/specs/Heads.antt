-- The first of the tokens that are left of a line: what is told of it, and what is left behind it.
use Rattle.std.specs.Prelude.{◌≡◌, refl, Bool, true, false, List, [], ◌∷◌, ℕ, ◌<◌, ◌≤◌, eqb, length}
use Rattle.std.proofs.Common.{sym, ap, ◌∙◌, eqb-true}
use Rattle.std.proofs.lemmas.Bool.{eqb-false}
use Rattle.grammar.specs.Tokens.{Token, name}
use Rattle.grammar.specs.Laws.Runs.{name_at}
use Rattle.grammar.specs.Reading.Kinds.{kind_of, number_of}
use Rattle.tokens.specs.KindLaws.{some_kind}
use Rattle.tokens.specs.Streams.{stream, token_in, token_at}
use Rattle.tokens.specs.StreamLaws.{stream_ends, there, name_is}

-- the kind of the first token
abbrev pub head_kind : List Token → ℕ
head_kind [] = 0
head_kind (t ∷ ts) = kind_of t

module _ (text : List ℕ) where
  pub head_kind_lem : (at : ℕ) → (token_at text at).kind ≡ head_kind (stream text at)
  head_kind_lem at = go (eqb (token_at text at).kind 0) refl
    where
      go : (b : Bool) → eqb (token_at text at).kind 0 ≡ b → (token_at text at).kind ≡ head_kind (stream text at)
      go true e = let z : (token_at text at).kind ≡ 0 = eqb-true (token_at text at).kind 0 e in z ∙ sym (ap head_kind (stream_ends text at z))
      go false e = let t = there text at (eqb-false (token_at text at).kind 0 e) in t.kind ∙ sym (ap head_kind t.first)

  -- these tokens are left from a place on, and t is the first of them
  pub record Head (at : ℕ) (t : Token) (us : List Token) : Type 0 where
    pub kind : (token_at text at).kind ≡ kind_of t
    pub number : (token_at text at).value ≡ number_of t
    pub named : (x : List ℕ) → t ≡ name x → x ≡ name_at text (token_at text at).place
    pub rest : stream text (token_at text at).next ≡ us
    pub onward : at < (token_at text at).next
    pub within : (token_at text at).next ≤ length text

  pub head : (at : ℕ) (t : Token) (us : List Token) → stream text at ≡ t ∷ us → Head at t us
  head at t us e =
      let h = there text at (λ z. some_kind t (sym (head_kind_lem at ∙ ap head_kind e) ∙ z)) in
      let first : token_in text (token_at text at).place ∷ stream text (token_at text at).next ≡ t ∷ us = sym h.first ∙ e in
      let same : token_in text (token_at text at).place ≡ t = ap (first_or t) first in
      record {
        kind = h.kind ∙ ap kind_of same;
        number = h.number ∙ ap number_of same;
        named = λ x f. name_is text (token_at text at).place x (same ∙ f);
        rest = ap rest_of first;
        onward = h.onward;
        within = h.within;
      }
    where
      first_or : Token → List Token → Token
      first_or d [] = d
      first_or d (x ∷ xs) = x

      rest_of : List Token → List Token
      rest_of [] = []
      rest_of (x ∷ xs) = xs
