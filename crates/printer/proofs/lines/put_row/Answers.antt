-- Four fields, and the line's end.
use native.Mathlib.Omega.{arith}
use Rattle.printer.specs.Views.{row}
use Rattle.printed.proofs.Theorems.Lengths.{row_most}
use Rattle.printed.specs.Text.{row_line}
use Rattle.text.specs.Puts.{put_behind}
use Rattle.printer.proofs.lines.put_row.Goals as goal

pub returns : goal.returns
unfolding row_line
returns c = let g = c.args in
    let s2 = put_behind _ _ _ _ _ _ _ _ c.put_field-at.ensures c.put_field-at-2.ensures in
    let s3 = put_behind _ _ _ _ _ _ _ _ s2 c.put_field-at-3.ensures in
    let s4 = put_behind _ _ _ _ _ _ _ _ s3 c.put_field-end.ensures in
    record { written = put_behind _ _ _ _ _ _ _ _ s4 c.put_text.ensures; bounded = row_most (row g.number g.owned g.jumps g.stores) (record { number = omega arith; owned = omega arith; jumps = omega arith; stores = omega arith }) }
