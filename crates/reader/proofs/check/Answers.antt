-- What was read, but for registers and entry.
use Rattle.std.proofs.lemmas.Result.{err_from_is_err_and}
use Rattle.reader.specs.Reading.{says_check}
use Rattle.reader.proofs.check.Goals as goal

pub returns-in_err-image : goal.returns-in_err-image
returns-in_err-image c =
    let p = err_from_is_err_and c.from_residual.result c.from_residual.ensures.1 in
    rw (p.1, p.2) (says_check _ _ c.in_err-image.ensures)

pub returns : goal.returns
returns c = says_check _ _ c.in_ok-image.ensures
