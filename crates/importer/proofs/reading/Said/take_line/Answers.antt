-- The verdict, then what is said with the record.
use Rattle.std.proofs.Common.{sym, length-take-le}
use Rattle.std.proofs.lemmas.Result.{err_from_is_err_and}
use Rattle.importer.specs.StepLaws.{fitting, line_refused, line_said}
use Rattle.importer.proofs.reading.Said.take_line.Goals as goal

pub slice_bounds-pairs-end : goal.slice_bounds-pairs-end
slice_bounds-pairs-end c = sym (length-take-le _ _ c.body_length.ensures.0)

pub returns-in_err-check : goal.returns-in_err-check
returns-in_err-check c =
    let p = err_from_is_err_and c.from_residual.result c.from_residual.ensures.1 in
    rw (p.1, p.2) (line_refused _ _ _ _ c.body_length.ensures.1 _ c.in_err-check.ensures)

pub keep-requires : goal.keep-requires
keep-requires c = fitting _ _ _ _ c.body_length.ensures.1 c.in_ok-check.ensures

pub returns : goal.returns
returns c = line_said _ _ _ _ c.body_length.ensures.1 c.in_ok-check.ensures _ c.ended_by-self.ensures _ c.base_by-self.ensures _ c.keep.ensures
