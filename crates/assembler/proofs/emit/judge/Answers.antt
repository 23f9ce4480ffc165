-- Each return is the side of the definition that the shape picks.
use Rattle.std.proofs.Common.{sym, ap, ◌∙◌}
use Rattle.std.proofs.lemmas.Result.{err_from_is_err_and}
use Rattle.syntax.specs.Seen.{shape_number}
use Rattle.assembler.specs.EmitLaws.{judged_empty, judged_label, judged_fault, judged_refused, judged_room, judged_full}
use Rattle.assembler.proofs.emit.judge.Goals as goal

pub returns-in_err-shape-clause-judged : goal.returns-in_err-shape-clause-judged
returns-in_err-shape-clause-judged c = let p = err_from_is_err_and c.from_residual.result c.from_residual.ensures.1 in
    rw (p.1, p.2) (judged_fault _ _ _ _ _ _ (c.in_err-shape.ensures {u = tt}))

pub returns-in_err-label-in-Label-clause-judged : goal.returns-in_err-label-in-Label-clause-judged
returns-in_err-label-in-Label-clause-judged c = let r = c.from_residual-in_err-label-in-Label in
    let p = err_from_is_err_and r.result r.ensures.1 in
    rw (p.1, p.2) (c.in_err-label-in-Label.ensures {u = tt} ∙ judged_label _ _ _ _ _ (ap shape_number (sym c.in-Label.is) ∙ c.in_ok-shape.ensures {u = tt}))

pub returns-in_err-word-in-Word-clause-judged : goal.returns-in_err-word-in-Word-clause-judged
returns-in_err-word-in-Word-clause-judged c = let r = c.from_residual-in_err-word-in-Word in
    let p = err_from_is_err_and r.result r.ensures.1 in
    rw (p.1, p.2) (judged_refused _ _ _ _ _ (ap shape_number (sym c.in-Word.is) ∙ c.in_ok-shape.ensures {u = tt}) _ (c.in_err-word-in-Word.ensures {u = tt}))

pub returns-then-count-lt-MOST-clause-judged : goal.returns-then-count-lt-MOST-clause-judged
returns-then-count-lt-MOST-clause-judged c =
    judged_room _ _ _ _ _ (ap shape_number (sym c.in-Word.is) ∙ c.in_ok-shape.ensures {u = tt}) _ (c.in_ok-word-in-Word.ensures {u = tt}) c.if-count-lt-MOST.true

pub returns-in-Nothing-clause-judged : goal.returns-in-Nothing-clause-judged
returns-in-Nothing-clause-judged c = judged_empty _ _ _ _ _ (ap shape_number (sym c.in-Nothing.is) ∙ c.in_ok-shape.ensures {u = tt})

pub returns-in_ok-label-in-Label-clause-judged : goal.returns-in_ok-label-in-Label-clause-judged
returns-in_ok-label-in-Label-clause-judged c =
    c.in_ok-label-in-Label.ensures {u = tt} ∙ judged_label _ _ _ _ _ (ap shape_number (sym c.in-Label.is) ∙ c.in_ok-shape.ensures {u = tt})

pub returns-else-count-lt-MOST-clause-judged : goal.returns-else-count-lt-MOST-clause-judged
returns-else-count-lt-MOST-clause-judged c =
    judged_full _ _ _ _ _ (ap shape_number (sym c.in-Word.is) ∙ c.in_ok-shape.ensures {u = tt}) _ (c.in_ok-word-in-Word.ensures {u = tt}) c.if-count-lt-MOST.false
