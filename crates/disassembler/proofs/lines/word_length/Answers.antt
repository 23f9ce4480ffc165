-- Sixteen bytes are room for every word.
use native.Mathlib.Omega.{arith}
use Rattle.sources.proofs.Listings.ListingLengths.{word_fits}
use Rattle.disassembler.proofs.lines.word_length.Goals as goal

pub store_word-requires : goal.store_word-requires
store_word-requires c = let h = word_fits c.args.w in omega arith
