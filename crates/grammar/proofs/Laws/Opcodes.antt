-- The mnemonics in the order of their numbers.
use Rattle.std.specs.Prelude.{List, [], ◌∷◌}
use Rattle.grammar.specs.Tokens.{Jump, Jal, Mov, Load, Store, Add, Sub, Mul, Eq, Leq, Mnemonic, Nop, Halt, Const, Bnz, one, two, three}

abbrev pub mnemonics : List Mnemonic
mnemonics =
    Nop
    ∷ Const
    ∷ two Mov
    ∷ three Add
    ∷ three Sub
    ∷ three Mul
    ∷ three Eq
    ∷ three Leq
    ∷ two Load
    ∷ two Store
    ∷ one Jump
    ∷ one Jal
    ∷ Bnz
    ∷ Halt
    ∷ []
