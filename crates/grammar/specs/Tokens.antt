-- The tokens of one line of source.
use Rattle.std.specs.Prelude.{List, ℕ}
use Rattle.common.specs.Opcodes as is

-- the mnemonics, by the operands that they take; `opcode` numbers them

-- one register
pub data Single : Type 0 where
  Jump Jal : Single

-- two registers
pub data Pair : Type 0 where
  Mov Load Store : Pair

-- three registers
pub data Triple : Type 0 where
  Add Sub Mul Eq Leq : Triple

pub data Mnemonic : Type 0 where
  Nop Halt Const Bnz : Mnemonic
  one : Single → Mnemonic
  two : Pair → Mnemonic
  three : Triple → Mnemonic

abbrev pub opcode : Mnemonic → ℕ
opcode Nop = is.nop
opcode Const = is.const
opcode (two Mov) = is.mov
opcode (three Add) = is.add
opcode (three Sub) = is.sub
opcode (three Mul) = is.mul
opcode (three Eq) = is.eq
opcode (three Leq) = is.leq
opcode (two Load) = is.load
opcode (two Store) = is.store
opcode (one Jump) = is.jump
opcode (one Jal) = is.jal
opcode Bnz = is.bnz
opcode Halt = is.halt

-- a name is its bytes
pub data Token : Type 0 where
  mnemonic : Mnemonic → Token
  register : ℕ → Token
  name : List ℕ → Token
  number : ℕ → Token
  comma colon plus minus star dot left right : Token
  stray : Token  -- whatever is none of these, so no line has one
