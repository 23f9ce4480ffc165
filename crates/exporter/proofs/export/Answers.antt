-- A refusal leaves the buffer; else the text is put, which has room.
use Rattle.std.proofs.lemmas.Result.{err_from_is_err_and}
use Rattle.exporter.specs.Verdicts.{refuses, most, writes}
use Rattle.exporter.proofs.export.Goals as goal

pub returns-in_err-check : goal.returns-in_err-check
returns-in_err-check c = let p = err_from_is_err_and c.from_residual.result c.from_residual.ensures.1 in rw (p.1, p.2) (refuses _ _ _ c.in_err-check.ensures)

pub put_all-requires : goal.put_all-requires
put_all-requires c = most _ _ c.in_ok-check.ensures

pub returns : goal.returns
returns c = writes _ _ c.in_ok-check.ensures _ _ c.put_all.ensures
