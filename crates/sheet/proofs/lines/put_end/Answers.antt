-- The writers, and the line's end.
use Rattle.text.specs.Puts.{put_behind, put_length}
use Rattle.sheet.proofs.lines.put_end.Goals as goal

pub returns : goal.returns
returns c = put_behind _ _ _ _ _ _ _ _ c.put_writers-p.ensures c.put_text.ensures

pub shape_of-out : goal.shape_of-out
shape_of-out c = put_length _ _ _ _ _ (returns c)
