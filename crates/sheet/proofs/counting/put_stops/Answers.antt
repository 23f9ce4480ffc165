-- The stops before the answer reached are put.
use Rattle.std.proofs.Common.{refl, arith}
use Rattle.text.specs.Puts.{put_within}
use Rattle.sheet.specs.LineLaws.{begun}
use Rattle.sheet.specs.TotalLaws.{stop_more, stops_put, short_more, short_all}
use Rattle.sheet.proofs.counting.put_stops.Goals as goal

pub loop-a-init : goal.loop-a-init
loop-a-init c = (begun _ _ _ c.requires, omega arith)

pub put_stop-p-requires : goal.put_stop-p-requires
put_stop-p-requires c = (put_within _ _ _ _ _ c.loop-a.invariant.0.stands, omega arith)

pub loop-a-preserved : goal.loop-a-preserved
loop-a-preserved c = let x = c.loop-a in (
  stop_more _ _ _ _ _ _ _ (omega arith) x.invariant.0 _ refl _ _ c.put_stop-p.ensures.written,
  short_more _ _ _ (omega arith) x.invariant.1 _ refl c.put_stop-p.ensures.bounded,
)

pub returns : goal.returns
returns c = let x = c.loop-a in record { written = stops_put _ _ _ _ _ _ _ c.loop-a-test.false x.invariant.0; bounded = short_all _ _ _ (omega arith) x.invariant.1 }
