-- A field, and the line's end.
use native.Mathlib.Omega.{arith}
use Rattle.printed.proofs.Theorems.Lengths.{refused_most}
use Rattle.printed.specs.Text.{refused_line}
use Rattle.text.specs.Puts.{put_behind}
use Rattle.printer.proofs.lines.put_refused.Goals as goal

pub returns : goal.returns
unfolding refused_line
returns c = record { written = put_behind _ _ _ _ _ _ _ _ c.put_field-p.ensures c.put_text.ensures; bounded = refused_most c.args.answer (omega arith) }
