-- The two passes, then the writer; the words that it gets are those that the text means.
use Rattle.std.proofs.Common.{sym, ◌∙◌}
use Rattle.std.proofs.lemmas.Result.{err_from_is_err_and}
use Rattle.assembler.specs.Assembling.{text_refused, image_written, image_refused}
use Rattle.assembler.proofs.assemble.Goals as goal

pub returns-in_err-count : goal.returns-in_err-count
returns-in_err-count c = let p = err_from_is_err_and c.from_residual.result c.from_residual.ensures.1 in
    let h = c.in_err-count.ensures {u = tt} in
    rw (p.1, p.2) (text_refused _ c.emit.new.words _ _ h.means)

pub returns-in-Ok : goal.returns-in-Ok
returns-in-Ok c = let h = c.in_ok-count.ensures {u = tt} in
    image_written _ c.emit.new.words _ _ h.means _ _ c.in-Ok.ensures

pub returns-in-Err : goal.returns-in-Err
returns-in-Err c = let h = c.in_ok-count.ensures {u = tt} in
    image_refused _ c.emit.new.words _ _ h.means _ _ c.in-Err.ensures
