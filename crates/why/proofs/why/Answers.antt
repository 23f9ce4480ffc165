-- The row of the answer.
use Rattle.std.proofs.Common.{ℕ, ◌∙◌, sym, ap}
use Rattle.reasons.specs.Why.{why, row_of, rows}
use Rattle.why.specs.declared.verdict.Outcome.TheVariants.{Done, Halt}
use Rattle.why.specs.Views.{state_by, outcome_number}
use Rattle.why.specs.RowLaws.{plain_row}
use Rattle.why.proofs.why.Goals as goal

pub returns-in-Ok-Done : goal.returns-in-Ok-Done
returns-in-Ok-Done c = c.plain.ensures ∙ plain_row (state_by c.args.cpu c.args.lent.now) Done (sym (ap outcome_number c.in-Ok-Done.field-0-is) ∙ c.in-Ok-Done.ensures)

pub returns-in-Ok-Halt : goal.returns-in-Ok-Halt
returns-in-Ok-Halt c = c.plain-in-Ok-Halt.ensures ∙ plain_row (state_by c.args.cpu c.args.lent.now) Halt (sym (ap outcome_number c.in-Ok-Halt.field-0-is) ∙ c.in-Ok-Halt.ensures)

pub returns-in-Err : goal.returns-in-Err
unfolding why
returns-in-Err c = c.reason.ensures ∙ ap (λ (a : ℕ). row_of a (rows (state_by c.args.cpu c.args.lent.now))) c.in-Err.ensures
