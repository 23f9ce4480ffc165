-- Each kind tells what its tokens are.
use Rattle.std.specs.Prelude.{◌≡◌, refl, cond, List, [], ◌∷◌, ℕ, ◌-◌, eqb, get_or}
use Rattle.std.proofs.Common.{sym, ap, ◌∙◌, arith}
use Rattle.common.specs.Opcodes as is
use Rattle.grammar.specs.Tokens.{Token, mnemonic, register, name, number, comma, colon, plus, minus, star, dot, left, right, stray, Mnemonic, Nop, Halt, Const, Bnz, one, two, three, Single, Jump, Jal, Pair, Mov, Load, Store, Triple, Add, Sub, Mul, Eq, Leq}
use Rattle.grammar.specs.Reading.Kinds.{kind_of, number_of}

-- ---- mnemonics by their opcodes

abbrev pub plain_by : ℕ → Mnemonic
plain_by n = cond (eqb n is.nop) Nop Halt

abbrev pub single_by : ℕ → Single
single_by n = cond (eqb n is.jump) Jump Jal

abbrev pub pair_by : ℕ → Pair
pair_by n = cond (eqb n is.mov) Mov (cond (eqb n is.load) Load Store)

abbrev pub triple_by : ℕ → Triple
triple_by n = get_or (Add ∷ Sub ∷ Mul ∷ Eq ∷ []) (n - is.add) Leq

-- ---- tokens by their kinds

-- the bytes of a name, and nothing of any other token
abbrev pub name_of : Token → List ℕ
name_of (mnemonic m) = []
name_of (register r) = []
name_of (name x) = x
name_of (number n) = []
name_of comma = []
name_of colon = []
name_of plus = []
name_of minus = []
name_of star = []
name_of dot = []
name_of left = []
name_of right = []
name_of stray = []

-- the value of a number however large, and 0 of any other token
abbrev pub value_of : Token → ℕ
value_of (mnemonic m) = 0
value_of (register r) = 0
value_of (name x) = 0
value_of (number n) = n
value_of comma = 0
value_of colon = 0
value_of plus = 0
value_of minus = 0
value_of star = 0
value_of dot = 0
value_of left = 0
value_of right = 0
value_of stray = 0

-- what a token of each kind is
abbrev pub being : ℕ → Token → Token
being k t =
    get_or
    (stray
    ∷ mnemonic (plain_by (number_of t))
    ∷ mnemonic Const
    ∷ mnemonic Bnz
    ∷ mnemonic (one (single_by (number_of t)))
    ∷ mnemonic (two (pair_by (number_of t)))
    ∷ mnemonic (three (triple_by (number_of t)))
    ∷ register (number_of t)
    ∷ name (name_of t)
    ∷ number (value_of t)
    ∷ comma
    ∷ colon
    ∷ plus
    ∷ minus
    ∷ star
    ∷ dot
    ∷ left
    ∷ right
    ∷ [])
    k
    stray

is_being : (t : Token) → t ≡ being (kind_of t) t
is_being (mnemonic Nop) = refl
is_being (mnemonic Halt) = refl
is_being (mnemonic Const) = refl
is_being (mnemonic Bnz) = refl
is_being (mnemonic (one Jump)) = refl
is_being (mnemonic (one Jal)) = refl
is_being (mnemonic (two Mov)) = refl
is_being (mnemonic (two Load)) = refl
is_being (mnemonic (two Store)) = refl
is_being (mnemonic (three Add)) = refl
is_being (mnemonic (three Sub)) = refl
is_being (mnemonic (three Mul)) = refl
is_being (mnemonic (three Eq)) = refl
is_being (mnemonic (three Leq)) = refl
is_being (register r) = refl
is_being (name x) = refl
is_being (number n) = refl
is_being comma = refl
is_being colon = refl
is_being plus = refl
is_being minus = refl
is_being star = refl
is_being dot = refl
is_being left = refl
is_being right = refl
is_being stray = refl

pub told : (k : ℕ) (t : Token) → kind_of t ≡ k → t ≡ being k t
told k t e = is_being t ∙ ap (λ (j : ℕ). being j t) e

-- no token's kind is that of the end
pub some_kind : (t : Token) → kind_of t ≡ 0 → ⊥
some_kind t e = let z : ◌≡◌ {A = ℕ} 18 0 = ap kind_of (sym (told 0 t e)) ∙ e in omega arith
