-- The word that an instruction or a data line holds.
use Rattle.std.specs.Prelude.{cond, List, ℕ, suc, ◌-◌, ℤ, pos, negsuc}
use Rattle.std.proofs.Math.Option.{Option}
use Rattle.common.specs.Words.{pack}
use Rattle.grammar.specs.Tokens.{opcode, Nop, Halt, Const, Bnz, one, two, three}
use Rattle.grammar.specs.Trees.{Expr, Instruction, nop, halt, constant, moving, computing, jumping, branching}
use Rattle.sources.specs.Values.{Valued, is, outside, lies, after, value_e}

-- what stands for z in a field of `size` values, two's complement
abbrev pub twos : ℕ → ℤ → ℕ
twos size (pos n) = n
twos size (negsuc n) = size - suc n

-- a value that must lie from -below to above, in a field of `size` values
unfoldable pub in_field : ℕ → ℕ → ℕ → ℤ → Valued ℕ
in_field below above size z = cond (lies below above z) (is (twos size z)) outside

-- an opcode and its fields, as the decoder takes a word apart
pub record Fields : Type 0 where
  pub op : ℕ
  pub a : ℕ
  pub b : ℕ
  pub low : ℕ

abbrev pub fields : ℕ → ℕ → ℕ → ℕ → Fields
fields op a b low = record { op = op; a = a; b = b; low = low }

abbrev pub word_of : Fields → ℕ
word_of f = pack f.op f.a f.b f.low

module _ (labels : List ℕ → Option ℕ) (dot : ℕ) where
  -- "the last must fit its field": a constant 0 to 65,535, an offset -32,768 to 32,767, a data word 0 to 4,294,967,295
  abbrev pub immediate : Expr → Valued ℕ
  immediate e = after (in_field 0 65535 65536) (value_e labels dot e)

  abbrev pub displacement : Expr → Valued ℕ
  displacement e = after (in_field 32768 32767 65536) (value_e labels dot e)

  abbrev pub datum : Expr → Valued ℕ
  datum e = after (in_field 0 4294967295 4294967296) (value_e labels dot e)

  -- operands stand in the sheet's order, fields by its table
  abbrev pub fields_of : Instruction → Valued Fields
  fields_of nop = is (fields (opcode Nop) 0 0 0)
  fields_of halt = is (fields (opcode Halt) 0 0 0)
  fields_of (constant e r) = after (λ i. is (fields (opcode Const) r 0 i)) (immediate e)
  fields_of (moving k a b) = is (fields (opcode (two k)) a b 0)
  fields_of (computing k a b d) = is (fields (opcode (three k)) a b d)
  fields_of (jumping k a) = is (fields (opcode (one k)) a 0 0)
  fields_of (branching a e) = after (λ o. is (fields (opcode Bnz) a 0 o)) (displacement e)

  abbrev pub instruction_word : Instruction → Valued ℕ
  instruction_word i = after (λ f. is (word_of f)) (fields_of i)
