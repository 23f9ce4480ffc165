-- The record at fault, or the end.
use Rattle.std.proofs.Common.{Ok, Err, refl}
use Rattle.std.proofs.lemmas.Result.{err_from_is_err_and}
use Rattle.importer.specs.EndLaws.{text_refused, text_said}
use Rattle.importer.proofs.import.Goals as goal

pub returns-in_err-said : goal.returns-in_err-said
returns-in_err-said c =
    let p = err_from_is_err_and c.from_residual.result c.from_residual.ensures.1 in
    rw (p.1, p.2) (text_refused _ _ _ _ _ c.in_err-said.ensures)

pub returns-in-Ok : goal.returns-in-Ok
returns-in-Ok c = text_said _ _ _ _ _ _ c.in_ok-said.ensures (Ok c.in-Ok.length) _ c.in-Ok.ensures (Ok c.in-Ok.length) refl

pub returns-in-Err : goal.returns-in-Err
returns-in-Err c = text_said _ _ _ _ _ _ c.in_ok-said.ensures (Err c.in-Err.refusal) _ c.in-Err.ensures (Err (record { refusal = c.in-Err.refusal; line = 0 })) refl
