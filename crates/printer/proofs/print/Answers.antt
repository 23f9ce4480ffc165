-- The text stands in a buffer of its own, and then in the lent one, where it has room.
use Rattle.printer.specs.TextLaws.{made_length, made_count, no_room, has_room}
use Rattle.printer.proofs.print.Goals as goal

pub returns-then-out-length : goal.returns-then-out-length
returns-then-out-length c = no_room _ _ _ _ _ c.make-length.ensures.written c.make-length.ensures.bounded _ c.if-out-length.true

pub slice_bounds-made-end : goal.slice_bounds-made-end
slice_bounds-made-end c = made_length _ _ _ _ _ c.make-length.ensures.written c.make-length.ensures.bounded

pub slice_bounds-put_text-end : goal.slice_bounds-put_text-end
slice_bounds-put_text-end c = made_count _ _ _ _ _ c.make-length.ensures.written c.make-length.ensures.bounded

pub returns : goal.returns
returns c = has_room _ _ _ _ _ c.make-length.ensures.written c.make-length.ensures.bounded _ c.if-out-length.false _ _ c.put_text.ensures
