-- The fields, and the line's end.
use Rattle.printed.proofs.Theorems.Lengths.{with_end}
use Rattle.printed.specs.Text.{first_line}
use Rattle.text.specs.Puts.{put_behind, put_length}
use Rattle.printer.proofs.lines.put_first.Goals as goal

pub returns : goal.returns
unfolding first_line
returns c = record { written = put_behind _ _ _ _ _ _ _ _ c.put_fields-p.ensures.written c.put_text.ensures; bounded = with_end _ c.put_fields-p.ensures.bounded }

pub shape_of-out : goal.shape_of-out
shape_of-out c = put_length _ _ _ _ _ (returns c).written
