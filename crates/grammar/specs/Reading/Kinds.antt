-- Tokens as numbers: a kind, and the number that goes with it.
use Rattle.std.specs.Prelude.{cond, ℕ, ltb}
use Rattle.grammar.specs.Tokens.{Token, mnemonic, register, name, number, comma, colon, plus, minus, star, dot, left, right, stray, Mnemonic, Nop, Halt, Const, Bnz, one, two, three, opcode}

-- no token: the line ends
abbrev pub none : ℕ
none = 0

-- the mnemonics, by the operands that they take
abbrev pub mnemonic_kind : Mnemonic → ℕ
mnemonic_kind Nop = 1
mnemonic_kind Halt = 1
mnemonic_kind Const = 2
mnemonic_kind Bnz = 3
mnemonic_kind (one k) = 4
mnemonic_kind (two k) = 5
mnemonic_kind (three k) = 6

abbrev pub kind_of : Token → ℕ
kind_of (mnemonic m) = mnemonic_kind m
kind_of (register r) = 7
kind_of (name x) = 8
kind_of (number n) = 9
kind_of comma = 10
kind_of colon = 11
kind_of plus = 12
kind_of minus = 13
kind_of star = 14
kind_of dot = 15
kind_of left = 16
kind_of right = 17
kind_of stray = 18

-- a number is held at 2^32, which is beyond every bound
unfoldable pub clip : ℕ → ℕ
clip n = cond (ltb n 4294967296) n 4294967296

-- the opcode of a mnemonic, the number of a register, the value of a number
abbrev pub number_of : Token → ℕ
number_of (mnemonic m) = opcode m
number_of (register r) = r
number_of (name x) = 0
number_of (number n) = clip n
number_of comma = 0
number_of colon = 0
number_of plus = 0
number_of minus = 0
number_of star = 0
number_of dot = 0
number_of left = 0
number_of right = 0
number_of stray = 0
