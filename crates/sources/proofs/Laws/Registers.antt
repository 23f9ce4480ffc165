-- A line that is read names no register but r0 to r15.
use Rattle.std.specs.Prelude.{◌≡◌, refl, Bool, true, ◌&&◌, ℕ, ◌<◌, ltb}
use Rattle.std.proofs.Common.{sym, ap, ◌∙◌, subst, ltb-true}
use mathlib.Core.List.Memᴰ
use mathlib.Core.List.{List, [], ◌∷◌, ◌++◌, Memᴰ}
use Rattle.grammar.specs.Tokens.{Token, mnemonic, register, name, number, comma, colon, plus, minus, star, dot, left, right, stray}
use Rattle.grammar.specs.Trees.{Instruction, nop, halt, constant, moving, computing, jumping, branching, instruction}
use Rattle.grammar.specs.Grammar.{deepest, Choices, optional, write_e, write_i}
use Rattle.grammar.specs.Spelling.{Row, words, signs, Spells, known, labels, decimal, hexadecimal, Text, ends, gap, sign, word}
use Rattle.grammar.proofs.Laws.Tables.{at_each}
use Rattle.grammar.specs.Sources.{SourceSays}
use Rattle.sources.proofs.Laws.Each.{each, each_of}

-- one of the sixteen, if it is a register
abbrev sixteen : Token → Bool
sixteen (mnemonic m) = true
sixteen (register r) = ltb r 16
sixteen (name x) = true
sixteen (number n) = true
sixteen comma = true
sixteen colon = true
sixteen plus = true
sixteen minus = true
sixteen star = true
sixteen dot = true
sixteen left = true
sixteen right = true
sixteen stray = true

abbrev row_sixteen : Row → Bool
row_sixteen r = sixteen r.token

spells_sixteen : {t : Token} {w : List ℕ} → Spells t w → sixteen t ≡ true
unfolding words
spells_sixteen {t} (known a) = at_each row_sixteen words _ t refl a
spells_sixteen (labels d n e) = ap sixteen e
spells_sixteen (decimal d e) = ap sixteen e
spells_sixteen (hexadecimal b h e d f) = ap sixteen f

text_sixteen : {ts : List Token} {bs : List ℕ} → Text ts bs → each sixteen ts ≡ true
unfolding signs
text_sixteen ends = refl
text_sixteen (gap b t) = text_sixteen t
text_sixteen (sign {t} {ts} a rest) = ap (λ (b : Bool). b && each sixteen ts) (at_each row_sixteen signs _ t refl a) ∙ text_sixteen rest
text_sixteen (word {t} {ts} b w r e i s a rest) = ap (λ (b : Bool). b && each sixteen ts) (spells_sixteen s) ∙ text_sixteen rest

-- ---- the registers of an instruction

abbrev pub Registers : Instruction → Type 0
Registers nop = Unit {0}
Registers halt = Unit {0}
Registers (constant e r) = r < 16
Registers (moving k a b) = (a < 16) × (b < 16)
Registers (computing k a b d) = (a < 16) × (b < 16) × (d < 16)
Registers (jumping k a) = a < 16
Registers (branching a e) = a < 16

written_registers : (i : Instruction) (c : Choices) → ((r : ℕ) → Memᴰ (register r) (write_i i c) → r < 16) → Registers i
written_registers nop c h = tt
written_registers halt c h = tt
written_registers (constant e r) c h = h r (Memᴰ.tail (Memᴰ.append_right (write_e e ++ optional c.first) (Memᴰ.head refl)))
written_registers (moving k a b) c h = (
  h a (Memᴰ.tail (Memᴰ.head refl)),
  h b (Memᴰ.tail (Memᴰ.tail (Memᴰ.append_right (optional c.first) (Memᴰ.head refl)))),
)
written_registers (computing k a b d) c h = (
  h a (Memᴰ.tail (Memᴰ.head refl)),
  h b (Memᴰ.tail (Memᴰ.tail (Memᴰ.append_left (register d ∷ []) (Memᴰ.append_right (optional c.first) (Memᴰ.head refl))))),
  h d (Memᴰ.tail (Memᴰ.tail (Memᴰ.append_right (optional c.first ++ register b ∷ optional c.second) (Memᴰ.head refl)))),
)
written_registers (jumping k a) c h = h a (Memᴰ.tail (Memᴰ.head refl))
written_registers (branching a e) c h = h a (Memᴰ.tail (Memᴰ.head refl))

-- whatever bytes are an instruction, its registers are below 16
pub read_registers : (bs : List ℕ) (i : Instruction) → SourceSays deepest bs (instruction i) → Registers i
read_registers bs i s =
    written_registers i s.says.choices λ r m.
    ltb-true r 16 (each_of sixteen (subst (Memᴰ (register r)) (sym s.says.written) m) (text_sixteen s.spelled))
