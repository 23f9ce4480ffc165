-- The totals' line stands in a buffer of its own, and then in the lent one, where it has room.
use Rattle.sheets.specs.Told.{total}
use Rattle.printer.specs.Made.{made_length, made_count}
use Rattle.sheet.specs.LineMaking.{made_told}
use Rattle.sheet.proofs.total.Goals as goal

pub slice_bounds-made-end : goal.slice_bounds-made-end
slice_bounds-made-end c = let m = c.put_totals-length.ensures in made_length _ _ _ _ m.written m.bounded

pub slice_bounds-place-end : goal.slice_bounds-place-end
slice_bounds-place-end c = let m = c.put_totals-length.ensures in made_count _ _ _ _ m.written m.bounded

pub returns : goal.returns
unfolding total
returns c = let m = c.put_totals-length.ensures in made_told _ _ _ _ m.written m.bounded _ _ c.place.ensures
