-- The text of a list of words: one line a word, instructions in the sheet's spelling and all other words as numbers.
use Rattle.std.specs.Prelude.{cond, ◌&&◌, ◌||◌, List, [], ◌∷◌, ◌++◌, ℕ, ◌-◌, eqb, leb, ltb, length, get_or}
use Rattle.common.specs.Answers as answer
use Rattle.common.specs.Opcodes as is
use Rattle.common.specs.Words.{Decoded, decode}
use Rattle.rules.specs.Images.{over, Written}
use Rattle.numerals.specs.Bytes.{bytes, feed}
use Rattle.numerals.specs.Numerals.{digits, decimal}

abbrev pub blank : List ℕ
blank = bytes " "

abbrev pub register_text : ℕ → List ℕ
register_text r = bytes "r" ++ decimal r

-- an offset with its sign
unfoldable pub offset_text : ℕ → List ℕ
offset_text low = cond (ltb low 32768) (decimal low) (bytes "-" ++ decimal (65536 - low))

-- the mnemonics as the sheet writes them
abbrev pub mnemonics : List (List ℕ)
mnemonics =
    bytes "Nop" ∷ bytes "Const" ∷ bytes "Mov" ∷ bytes "Add" ∷ bytes "Sub" ∷ bytes "Mul" ∷ bytes "Eq" ∷ bytes "Leq" ∷ bytes "Load"
    ∷ bytes "Store" ∷ bytes "Jump" ∷ bytes "Jal" ∷ bytes "Bnz" ∷ bytes "Halt" ∷ []

-- operands in the sheet's order: `Const 9 r1`, `Store r5 r1`, `Add r1 r2 r3`, `Jal r4`, `Bnz r1, -1`
unfoldable pub operands : Decoded → List ℕ
operands i =
    cond (eqb i.op is.nop || eqb i.op is.halt) []
    (cond (eqb i.op is.const) (blank ++ decimal i.low ++ blank ++ register_text i.a)
    (cond (eqb i.op is.bnz) (blank ++ register_text i.a ++ bytes ", " ++ offset_text i.low)
    (cond (eqb i.op is.jump || eqb i.op is.jal) (blank ++ register_text i.a)
    (cond (leb is.add i.op && leb i.op is.leq) (blank ++ register_text i.a ++ blank ++ register_text i.b ++ blank ++ register_text i.low)
    (blank ++ register_text i.a ++ blank ++ register_text i.b)))))

-- "0x" and eight digits
abbrev pub number_text : ℕ → List ℕ
number_text w = bytes "0x" ++ digits 16 8 w

unfoldable pub word_text : ℕ → List ℕ
word_text w =
    cond (eqb (decode w).answer answer.done) (get_or mnemonics (decode w).op [] ++ operands (decode w)) (number_text w)

-- one line a word
unfoldable pub listing : List ℕ → List ℕ
listing [] = []
listing (w ∷ ws) = word_text w ++ feed ∷ listing ws

-- "out buffer and 31 as for every writer"
unfoldable pub list_verdict : List ℕ → List ℕ → ℕ
list_verdict words out =
    cond (leb 1 (length words) && leb (length words) 2048) (cond (leb (length (listing words)) (length out)) answer.done answer.short_buffer) answer.bad_size

unfoldable pub disassemble : List ℕ → List ℕ → Written
disassemble words out =
    cond (eqb (list_verdict words out) answer.done)
    (record { answer = answer.done; length = length (listing words); out = over (listing words) out })
    (record { answer = list_verdict words out; length = 0; out = out })
