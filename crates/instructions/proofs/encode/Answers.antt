-- `encode` is the rules' encoder: the packed word is asked what the numbers are.
use Rattle.std.proofs.Common.{sym, ◌∙◌}
use Rattle.instructions.specs.Packing.{room, refuses, refuses_word, takes_word}
use Rattle.instructions.proofs.encode.Goals as goal

pub returns-then-not-has_room : goal.returns-then-not-has_room
returns-then-not-has_room c = refuses _ _ _ _ (sym c.has_room.ensures ∙ c.if-not-has_room.true)

pub packed-word-requires : goal.packed-word-requires
packed-word-requires c = room _ _ _ _ (sym c.has_room.ensures ∙ c.if-not-has_room.false)

pub returns-then-fits : goal.returns-then-fits
returns-then-fits c = takes_word _ _ _ _ (sym c.has_room.ensures ∙ c.if-not-has_room.false) _ c.packed-word.ensures (sym c.fits.ensures ∙ c.if-fits.true)

pub returns-else-fits : goal.returns-else-fits
returns-else-fits c = refuses_word _ _ _ _ (sym c.has_room.ensures ∙ c.if-not-has_room.false) _ c.packed-word.ensures (sym c.fits.ensures ∙ c.if-fits.false)
