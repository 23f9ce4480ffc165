-- What acceptance says keeps each field within the image.
use Rattle.std.proofs.Common.{arith}
use Rattle.std.proofs.lemmas.Result.{err_from_is_err_and}
use Rattle.reader.specs.Reading.{says_refusal, took, placed, says}
use Rattle.reader.proofs.read.Goals as goal

pub returns-in_err-image_verdict : goal.returns-in_err-image_verdict
returns-in_err-image_verdict c =
    let p = err_from_is_err_and c.from_residual.result c.from_residual.ensures.1 in
    rw (p.1, p.2) (says_refusal _ _ _ c.in_err-image_verdict.ensures)

pub field-size-requires : goal.field-size-requires
field-size-requires c = let l = (took _ _ c.in_ok-image_verdict.ensures).length_is in omega arith

pub field-count-requires : goal.field-count-requires
field-count-requires c = let l = (took _ _ c.in_ok-image_verdict.ensures).length_is in let s = c.field-size.ensures in omega arith

pub registers-regs-requires : goal.registers-regs-requires
registers-regs-requires c = let p = placed _ _ c.in_ok-image_verdict.ensures _ c.field-size.ensures _ c.field-count.ensures in (p.0, omega arith)

pub field-entry-requires : goal.field-entry-requires
field-entry-requires c = let p = placed _ _ c.in_ok-image_verdict.ensures _ c.field-size.ensures _ c.field-count.ensures in omega arith

pub returns : goal.returns
returns c = says _ _ c.in_ok-image_verdict.ensures _ c.field-size.ensures _ c.field-count.ensures _ c.registers-regs.ensures _ c.field-entry.ensures
