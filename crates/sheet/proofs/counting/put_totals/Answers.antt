-- Five fields, the stops between them, and the line's end.
use Rattle.text.specs.Puts.{put_behind, put_within, put_length}
use Rattle.sheets.specs.Totals.{totals_text}
use Rattle.sheet.specs.TotalLaws.{totals_short}
use Rattle.sheet.specs.Views.{totals_of}
use Rattle.sheet.proofs.counting.put_totals.Goals as goal

pub put_stops-at-requires : goal.put_stops-at-requires
put_stops-at-requires c = put_within _ _ _ _ _ c.put_text-at.ensures

pub returns : goal.returns
unfolding totals_text
returns c =
    let s2 = put_behind _ _ _ _ _ _ _ _ c.put_count-at.ensures.written c.put_count-at-2.ensures.written in
    let s3 = put_behind _ _ _ _ _ _ _ _ s2 c.put_count-at-3.ensures.written in
    let s4 = put_behind _ _ _ _ _ _ _ _ s3 c.put_text-at.ensures in
    let s5 = put_behind _ _ _ _ _ _ _ _ s4 c.put_stops-at.ensures.written in
    let s6 = put_behind _ _ _ _ _ _ _ _ s5 c.put_count-at-4.ensures.written in
    let s7 = put_behind _ _ _ _ _ _ _ _ s6 c.put_count-at-5.ensures.written in record {
      written = put_behind _ _ _ _ _ _ _ _ s7 c.put_text.ensures;
      bounded = totals_short c.args.strict (totals_of c.args.t) c.put_count-at.ensures.bounded c.put_count-at-2.ensures.bounded c.put_count-at-3.ensures.bounded c.put_stops-at.ensures.bounded c.put_count-at-4.ensures.bounded c.put_count-at-5.ensures.bounded;
    }

pub shape_of-out : goal.shape_of-out
shape_of-out c = put_length _ _ _ _ _ (returns c).written
