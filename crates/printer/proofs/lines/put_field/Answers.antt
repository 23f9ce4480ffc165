-- A name, and the number behind it.
use Rattle.printer.specs.LineLaws.{field_put}
use Rattle.printer.proofs.lines.put_field.Goals as goal

pub returns : goal.returns
returns c = field_put _ _ _ _ _ _ _ _ c.put_text-p.ensures c.put_decimal.ensures
