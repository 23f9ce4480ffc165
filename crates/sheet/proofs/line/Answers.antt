-- The line stands in a buffer of its own, and then in the lent one, where it has room.
use Rattle.printer.specs.Made.{made_length, made_count}
use Rattle.sheet.specs.LineMaking.{line_told, made_told, lined}
use Rattle.sheet.proofs.line.Goals as goal

pub slice_bounds-made-end : goal.slice_bounds-made-end
slice_bounds-made-end c = let m = c.make-length.ensures in made_length _ _ _ _ (line_told _ _ _ _ _ m.written).1 m.bounded

pub slice_bounds-place-end : goal.slice_bounds-place-end
slice_bounds-place-end c = let m = c.make-length.ensures in made_count _ _ _ _ (line_told _ _ _ _ _ m.written).1 m.bounded

pub returns : goal.returns
returns c = let m = c.make-length.ensures in
    let t = line_told _ _ _ _ _ m.written in
    lined _ _ _ _ _ t.0 (made_told _ _ _ _ t.1 m.bounded _ _ c.place-told.ensures)
