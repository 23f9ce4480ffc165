-- The fields, and what stands behind them.
use Rattle.text.specs.Puts.{put_within, put_length}
use Rattle.sheet.specs.LineMaking.{line_put, line_short}
use Rattle.sheet.proofs.put_ran.Goals as goal

pub put_end-requires : goal.put_end-requires
put_end-requires c = put_within _ _ _ _ _ c.put_fields-end.ensures.written

pub returns : goal.returns
returns c = record { written = line_put _ _ _ _ _ _ c.widest-widest.ensures c.target_writers-set.ensures _ _ _ _ _ c.put_fields-end.ensures.written c.put_end.ensures; bounded = line_short _ _ _ _ _ _ c.widest-widest.ensures c.target_writers-set.ensures c.put_fields-end.ensures.bounded }

pub shape_of-out : goal.shape_of-out
shape_of-out c = put_length _ _ _ _ _ (returns c).written
