-- The returns of the readers of words, as the code comes to them.
use Rattle.std.specs.Prelude.{◌≡◌, refl, List, ◌≢◌, ℕ, ◌%◌, Result, Ok, Err}
use Rattle.std.proofs.Math.Path.{sym, ap}
use Rattle.std.proofs.Common.{◌∙◌}
use Rattle.std.proofs.Math.Option.{Option}
use borrow.Author.Tests.{eq-eqb, ne_eqb}
use Rattle.common.specs.Words as told
use Rattle.common.specs.Words.{encode}
use Rattle.answers.specs.declared.Refusal.{Refusal}
use Rattle.answers.specs.Results.{result_of, result_of-number}
use Rattle.instructions.specs.Views.{encoded}
use Rattle.sources.specs.Labels.{Site}
use Rattle.tokens.specs.Streams.{Handed, token_at}
use Rattle.assembler.specs.declared.word.Operand.{Operand}
use Rattle.assembler.specs.Holding.{coded, register_at, past_comma, operand_at, one_at, two_at, three_at, constant_at, branch_at, datum_at, word_at}

pub coded_comes : (op a b low : ℕ) (r : Result ℕ Refusal) → encoded r ≡ encode op a b low → r ≡ coded op a b low
unfolding coded
coded_comes op a b low r h = sym (again r) ∙ ap (λ (x : told.Encoded). result_of x.answer x.word) h
  where
    again : (r : Result ℕ Refusal) → result_of (encoded r).answer (encoded r).word ≡ r
    again (Ok w) = refl
    again (Err refusal) = result_of-number refusal 0

module _ (text : List ℕ) where
  -- ---- operands

  module _ (at : ℕ) (t : Handed) (e : t ≡ token_at text at) where
    pub register_comes : record { register = t.value % 16; next = t.next } ≡ register_at text at
    unfolding register_at
    register_comes = ap (λ (x : Handed). record { register = x.value % 16; next = x.next }) e

    pub at_comma : t.kind ≡ 10 → t.next ≡ past_comma text at
    unfolding past_comma
    at_comma k = simp (← e, eq-eqb t.kind 10 k)

    pub no_comma : t.kind ≢ 10 → at ≡ past_comma text at
    unfolding past_comma
    no_comma n = simp (← e, ne_eqb t.kind 10 n)

  pub operand_comes : (at p : ℕ) (o : Operand) → p ≡ past_comma text at → o ≡ register_at text p → o ≡ operand_at text at
  unfolding operand_at
  operand_comes at p o e h = h ∙ ap (register_at text) e

  -- ---- by the first token

  module _ (labels : List ℕ → Option Site) (dot at : ℕ) (t : Handed) (e : t ≡ token_at text at) (r : Result ℕ Refusal) where
    abbrev Word : Type 0
    Word = r ≡ word_at text labels dot at

    pub word_plain : t.kind ≡ 1 → r ≡ coded (t.value % 16) 0 0 0 → Word
    unfolding word_at
    word_plain k h = simp (← e, k) h

    pub word_constant : t.kind ≡ 2 → r ≡ constant_at text labels dot (t.value % 16) t.next → Word
    unfolding word_at
    word_constant k h = simp (← e, k) h

    pub word_branch : t.kind ≡ 3 → r ≡ branch_at text labels dot (t.value % 16) t.next → Word
    unfolding word_at
    word_branch k h = simp (← e, k) h

    pub word_one : t.kind ≡ 4 → r ≡ one_at text (t.value % 16) t.next → Word
    unfolding word_at
    word_one k h = simp (← e, k) h

    pub word_two : t.kind ≡ 5 → r ≡ two_at text (t.value % 16) t.next → Word
    unfolding word_at
    word_two k h = simp (← e, k) h

    pub word_three : t.kind ≡ 6 → r ≡ three_at text (t.value % 16) t.next → Word
    unfolding word_at
    word_three k h = simp (← e, k) h

    pub word_datum : t.kind ≢ 1 → t.kind ≢ 2 → t.kind ≢ 3 → t.kind ≢ 4 → t.kind ≢ 5 → t.kind ≢ 6 → r ≡ datum_at text labels dot at → Word
    unfolding word_at
    word_datum n1 n2 n3 n4 n5 n6 h =
        simp (← e, ne_eqb t.kind 1 n1, ne_eqb t.kind 2 n2, ne_eqb t.kind 3 n3, ne_eqb t.kind 4 n4, ne_eqb t.kind 5 n5, ne_eqb t.kind 6 n6)
        h
