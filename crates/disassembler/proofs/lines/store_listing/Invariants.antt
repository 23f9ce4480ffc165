-- The lines of the words before are stored.
use Rattle.std.proofs.Common.{take}
use Rattle.sources.specs.Listing.{listing}
use Rattle.disassembler.specs.Stores.{Stored}
use Rattle.disassembler.proofs.lines.store_listing.Given as goal

abbrev pub invariant-loop-word : goal.invariant-loop-word
invariant-loop-word l = Stored l.initial.out 0 (listing (take l.word-index l.words)) l.out l.at
