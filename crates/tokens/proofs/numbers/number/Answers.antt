-- With 0x in front the word is hexadecimal, and else it is decimal.
use Rattle.std.proofs.Common.{refl}
use Rattle.tokens.specs.Bytes.{is_gone, is_there}
use Rattle.tokens.specs.Numerals.{number_plain, number_other, number_bare, number_hexadecimal}
use Rattle.tokens.proofs.numbers.number.Goals as goal
use Rattle.tokens.proofs.numbers.number.Goals.{then-byte-ne48-via-then-byte-ne48, then-byte-ne48-via-else-byte-ne48+then-byte-ne120}

pub returns-then-byte-ne48 : goal.returns-then-byte-ne48
returns-then-byte-ne48 c =
    elim c.then-byte-ne48.branch [
      | then-byte-ne48-via-then-byte-ne48 w ↦ number_plain _ _ _ c.byte.ensures w.if-byte-ne48.true _ c.numeral.ensures
      | then-byte-ne48-via-else-byte-ne48+then-byte-ne120 w ↦ number_other _ _ _ c.byte.ensures w.if-byte-ne48.false _ w.byte-else-byte-ne48.ensures w.if-byte-ne120.true _ c.numeral.ensures
    ]

pub returns-then-is_none : goal.returns-then-is_none
returns-then-is_none c =
    number_bare _ _ _ c.byte.ensures c.if-byte-ne48.false _ c.byte-else-byte-ne48.ensures c.if-byte-ne120.false _ c.byte-2.ensures _ refl
    (is_gone 0 _ _ c.folded.ensures _ c.is_none.ensures c.if-is_none.true)

pub returns : goal.returns
returns c =
    number_hexadecimal _ _ _ c.byte.ensures c.if-byte-ne48.false _ c.byte-else-byte-ne48.ensures c.if-byte-ne120.false _ c.byte-2.ensures _ refl
    (is_there 0 _ _ c.folded.ensures _ c.is_none.ensures c.if-is_none.false) _ c.numeral-2.ensures
