-- The lines measured so far are those of the words before.
use native.Mathlib.Omega.{arith}
use Rattle.sources.proofs.Listings.ListingLengths.{listing_fits}
use Rattle.sources.specs.Listing.{listing}
use Rattle.disassembler.specs.Lines.{length_more, line_room, ample, measured}
use Rattle.disassembler.proofs.lines.has_room.Goals as goal

pub returns-then-words-room : goal.returns-then-words-room
returns-then-words-room c = ample _ _ c.if-words-room.true

pub loop-word-init : goal.loop-word-init
unfolding listing
loop-word-init c = omega arith

pub overflow_add-n : goal.overflow_add-n
overflow_add-n c = let g = c.args in
    let f = listing_fits g.words.now in
    let r = line_room g.words.now c.loop-word.word-index (omega arith) in omega arith

pub overflow_add-n-in-loop-word : goal.overflow_add-n-in-loop-word
overflow_add-n-in-loop-word c = let g = c.args in
    let f = listing_fits g.words.now in
    let r = line_room g.words.now c.loop-word.word-index (omega arith) in omega arith

pub loop-word-preserved : goal.loop-word-preserved
loop-word-preserved c = let l = length_more c.args.words.now c.loop-word.word-index (omega arith) in omega arith

pub returns : goal.returns
returns c = measured c.args.words.now _ _ _ c.loop-word-test.false c.loop-word.invariant
