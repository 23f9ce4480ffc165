-- A refusal leaves the buffer; else the image is put, which has room.
use Rattle.std.proofs.lemmas.Result.{err_from_is_err_and}
use Rattle.writer.specs.Writing.{refuses, fits, writes}
use Rattle.writer.proofs.write.Goals as goal

pub returns-in_err-check : goal.returns-in_err-check
returns-in_err-check c = let p = err_from_is_err_and c.from_residual.result c.from_residual.ensures.1 in rw (p.1, p.2) (refuses _ _ _ _ _ c.in_err-check.ensures)

pub put_image-requires : goal.put_image-requires
put_image-requires c = fits _ _ _ _ c.in_ok-check.ensures

pub returns : goal.returns
returns c = writes _ _ _ _ c.in_ok-check.ensures _ _ c.put_image.ensures.0 c.put_image.ensures.1
