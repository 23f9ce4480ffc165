-- The expression of a line, with the field that its last value has to fit; and what a word line comes to by it.
use Rattle.std.specs.Prelude.{◌≡◌, refl, List, ℕ}
use Rattle.std.proofs.Common.{sym}
use Rattle.std.proofs.Math.Option.{Option, none, some}
use Rattle.common.specs.Words.{pack}
use Rattle.grammar.specs.Tokens.{opcode, Const, Bnz}
use Rattle.grammar.specs.Trees.{Expr, Instruction, nop, halt, constant, moving, computing, jumping, branching, nothing, labelled, instruction, value}
use Rattle.grammar.specs.Reading.Reader.{got, fault, deep}
use Rattle.sources.specs.Values.{Valued, is, unknown, outside, after, value_e}
use Rattle.sources.specs.Texts.{Reading}
use Rattle.sources.specs.Words.{in_field, word_of, instruction_word, immediate, displacement, datum}

pub record Operand : Type 0 where
  pub expression : Expr
  pub below : ℕ  -- the last value lies from -below
  pub above : ℕ  -- to above
  pub size : ℕ  -- in a field of so many values

abbrev pub operand : Expr → ℕ → ℕ → ℕ → Operand
operand e below above size = record { expression = e; below = below; above = above; size = size }

abbrev pub operand_i : Instruction → Option Operand
operand_i nop = none
operand_i halt = none
operand_i (constant e r) = some (operand e 0 65535 65536)
operand_i (moving k a b) = none
operand_i (computing k a b d) = none
operand_i (jumping k a) = none
operand_i (branching a e) = some (operand e 32768 32767 65536)

-- "Const 0 to 65,535; Bnz -32,768 to 32,767 ..; data 0 to 4,294,967,295"; other lines have no expression
abbrev pub operand_of : Reading → Option Operand
operand_of (got nothing) = none
operand_of (got (labelled x)) = none
operand_of (got (instruction i)) = operand_i i
operand_of (got (value e)) = some (operand e 0 4294967295 4294967296)
operand_of fault = none
operand_of deep = none

-- ---- the word of a line, by what its operand is worth

after_after : {A B C : Type 0} (f : A → B) (g : B → C) (v : Valued A) → after (λ b. is (g b)) (after (λ a. is (f a)) v) ≡ after (λ a. is (g (f a))) v
after_after f g (is a) = refl
after_after f g unknown = refl
after_after f g outside = refl

after_same : {A : Type 0} (v : Valued A) → after (λ a. is a) v ≡ v
after_same (is a) = refl
after_same unknown = refl
after_same outside = refl

module _ (labels : List ℕ → Option ℕ) (dot : ℕ) where
  -- what the operand puts into its field
  abbrev pub worth : Operand → Valued ℕ
  worth o = after (in_field o.below o.above o.size) (value_e labels dot o.expression)

  -- a word without an operand, or a word around what the operand is worth
  pub data Word (o : Option Operand) (v : Valued ℕ) : Type 0 where
    bare : (w : ℕ) → o ≡ none → v ≡ is w → Word o v
    around : (p : Operand) (put : ℕ → ℕ) → o ≡ some p → v ≡ after (λ n. is (put n)) (worth p) → Word o v

  pub instruction_word_lem : (i : Instruction) → Word (operand_i i) (instruction_word labels dot i)
  instruction_word_lem nop = bare _ refl refl
  instruction_word_lem halt = bare _ refl refl
  instruction_word_lem (constant e r) = around (operand e 0 65535 65536) (λ n. pack (opcode Const) r 0 n) refl (after_after _ word_of (immediate labels dot e))
  instruction_word_lem (moving k a b) = bare _ refl refl
  instruction_word_lem (computing k a b d) = bare _ refl refl
  instruction_word_lem (jumping k a) = bare _ refl refl
  instruction_word_lem (branching a e) = around (operand e 32768 32767 65536) (λ n. pack (opcode Bnz) a 0 n) refl (after_after _ word_of (displacement labels dot e))

  pub data_word : (e : Expr) → Word (operand_of (got (value e))) (datum labels dot e)
  data_word e = around (operand e 0 4294967295 4294967296) (λ n. n) refl (sym (after_same (datum labels dot e)))
