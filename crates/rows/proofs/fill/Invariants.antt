-- The rows before this number are filled.
use Rattle.rules.specs.Rows.{fresh_row}
use Rattle.rows.specs.TableLaws.{Filling}
use Rattle.rows.proofs.fill.Given as goal

abbrev pub invariant-loop-number : goal.invariant-loop-number
invariant-loop-number l = Filling (fresh_row l.strict l.n) l.initial.rows l.rows l.number
