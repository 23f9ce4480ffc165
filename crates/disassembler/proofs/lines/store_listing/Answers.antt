-- The lines of the words before are stored.
use native.Mathlib.Omega.{arith}
use Rattle.disassembler.specs.Lines.{line_room, line_stored, no_lines, listing_all}
use Rattle.disassembler.proofs.lines.store_listing.Goals as goal

pub loop-word-init : goal.loop-word-init
loop-word-init c = no_lines c.args.words.now _

pub store_word-end-requires : goal.store_word-end-requires
store_word-end-requires c = let r = line_room c.args.words.now c.loop-word.word-index (omega arith) in omega arith

pub bounds-out-end : goal.bounds-out-end
bounds-out-end c = let r = line_room c.args.words.now c.loop-word.word-index (omega arith) in omega arith

pub overflow_add-at : goal.overflow_add-at
overflow_add-at c = let r = line_room c.args.words.now c.loop-word.word-index (omega arith) in omega arith

pub loop-word-preserved : goal.loop-word-preserved
loop-word-preserved c = let x = c.loop-word in
    line_stored c.args.words.now x.word-index (omega arith) _ _ _ _ _ x.invariant c.store_word-end.ensures

pub returns : goal.returns
returns c = rw (listing_all _ _ c.loop-word-test.false) at c.loop-word.invariant
