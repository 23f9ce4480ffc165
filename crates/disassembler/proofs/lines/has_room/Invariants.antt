-- The lines measured so far are those of the words before.
use Rattle.std.proofs.Common.{◌≡◌, length, take}
use Rattle.sources.specs.Listing.{listing}
use Rattle.disassembler.proofs.lines.has_room.Given as goal

abbrev pub invariant-loop-word : goal.invariant-loop-word
invariant-loop-word l = l.n ≡ length (listing (take l.word-index l.words))
