-- The word that a line holds, as the code reads it.
use Rattle.std.specs.Prelude.{cond, List, ℕ, ◌%◌, eqb, Result, Ok, Err}
use Rattle.std.proofs.Math.Option.{Option}
use Rattle.common.specs.Words.{encode}
use Rattle.grammar.specs.Grammar.{deepest}
use Rattle.answers.specs.declared.Refusal.{Refusal}
use Rattle.answers.specs.Results.{result_of}
use Rattle.sources.specs.Labels.{Site}
use Rattle.tokens.specs.Streams.{token_at}
use Rattle.values.specs.Values.{then}
use Rattle.values.specs.Refusals.{fit}
use Rattle.expressions.specs.declared.Read.{Read}
use Rattle.expressions.specs.Readers.{Reading, expression_at}
use Rattle.assembler.specs.declared.word.Operand.{Operand}

unfoldable pub coded : ℕ → ℕ → ℕ → ℕ → Result ℕ Refusal
coded op a b low = result_of (encode op a b low).answer (encode op a b low).word

-- a value that has its field makes the instruction whole
abbrev pub completed : ℕ → ℕ → Result ℕ Refusal → Result ℕ Refusal
completed op a f = then f (λ low. coded op a 0 low)

-- what comes of a reading; a refusal goes on, wherever reading stopped
abbrev pub reads : Reading → (Read → Result ℕ Refusal) → Result ℕ Refusal
reads (Ok r) f = f r
reads (Err s) f = Err s.refusal

module _ (text : List ℕ) where
  -- a register, which is below 16
  unfoldable pub register_at : ℕ → Operand
  register_at at = record { register = (token_at text at).value % 16; next = (token_at text at).next }

  unfoldable pub past_comma : ℕ → ℕ
  past_comma at = cond (eqb (token_at text at).kind 10) (token_at text at).next at

  unfoldable pub operand_at : ℕ → Operand
  operand_at at = register_at (past_comma at)

  unfoldable pub one_at : ℕ → ℕ → Result ℕ Refusal
  one_at op at = coded op (register_at at).register 0 0

  unfoldable pub two_at : ℕ → ℕ → Result ℕ Refusal
  two_at op at = let a = register_at at in let b = operand_at a.next in coded op a.register b.register 0

  unfoldable pub three_at : ℕ → ℕ → Result ℕ Refusal
  three_at op at =
      let a = register_at at in
      let b = operand_at a.next in
      let d = operand_at b.next in
      coded op a.register b.register d.register

  -- `labels` tells where a label is defined first; `dot` is the line's own address
  module _ (labels : List ℕ → Option Site) (dot : ℕ) where
    unfoldable pub constant_at : ℕ → ℕ → Result ℕ Refusal
    constant_at op at =
        reads (expression_at text labels dot deepest at) (λ e. completed op (operand_at e.next).register (fit e.value 0 65535 65536))

    unfoldable pub branch_at : ℕ → ℕ → Result ℕ Refusal
    branch_at op at =
        let a = register_at at in
        reads (expression_at text labels dot deepest (past_comma a.next)) (λ e. completed op a.register (fit e.value 32768 32767 65536))

    unfoldable pub datum_at : ℕ → Result ℕ Refusal
    datum_at at = reads (expression_at text labels dot deepest at) (λ e. fit e.value 0 4294967295 4294967296)

    -- by the kind of the first token
    unfoldable pub word_at : ℕ → Result ℕ Refusal
    word_at at =
        let t = token_at text at in
        let op = t.value % 16 in
        cond (eqb t.kind 1) (coded op 0 0 0)
        (cond (eqb t.kind 2) (constant_at op t.next)
        (cond (eqb t.kind 3) (branch_at op t.next)
        (cond (eqb t.kind 4) (one_at op t.next)
        (cond (eqb t.kind 5) (two_at op t.next)
        (cond (eqb t.kind 6) (three_at op t.next) (datum_at at))))))
