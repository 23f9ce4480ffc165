-- `decode` is the rules' decoder: the mask test is the rules' test, by the word's own opcode.
use Rattle.std.proofs.Common.{◌≡◌, sym, ap, ◌∙◌, arith}
use Rattle.common.specs.Words.{Decoded, op_of}
use Rattle.instructions.specs.Masks.{decode_fields, decode_stray, decode_high}
use Rattle.instructions.proofs.decode.Goals as goal

pub returns-in-0-to-13 : goal.returns-in-0-to-13
returns-in-0-to-13 c =
    let i = c.fields-instruction.ensures in
    i ∙ sym (decode_fields c.args.word _ (ap (λ (d : Decoded). d.op) (sym i)) (omega arith) (sym c.fits.ensures ∙ c.if-fits.true))

pub returns-in-0-to-13-2 : goal.returns-in-0-to-13-2
returns-in-0-to-13-2 c =
    let i = c.fields-instruction.ensures in
    sym (decode_stray c.args.word _ (ap (λ (d : Decoded). d.op) (sym i)) (omega arith) (sym c.fits.ensures ∙ c.if-fits.false))

pub returns-in_default : goal.returns-in_default
returns-in_default c =
    let e : c.fields-instruction.result.op ≡ op_of c.args.word = ap (λ (d : Decoded). d.op) c.fields-instruction.ensures in
    sym (decode_high c.args.word (omega arith))
