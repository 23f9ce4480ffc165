-- What is wrong at the end; then the writer, which gets the words of the text.
use mathlib.Core.Path.{refl, sym, ap}
use Prim.Native.Nat.{ℕ, ◌/◌}
use native.Mathlib.Omega.{arith}
use lib.ListN.{replicate}
use lib.Seq.{length-take-le}
use Rattle.importer.specs.EndLaws.{no_end, no_data, part_word, few_words, words_there, words_put, image_written}
use Rattle.std.specs.Prelude.{not}
use Rattle.importer.proofs.finish.Goals as goal

pub returns-then-not-ended : goal.returns-then-not-ended
returns-then-not-ended c = no_end _ _ _ _ _ _ (ap not c.if-not-ended.true)

pub returns-then-past-eq0 : goal.returns-then-past-eq0
returns-then-past-eq0 c = no_data _ _ _ _ _ _ (ap not c.if-not-ended.false) _ c.past-past.ensures c.if-past-eq0.true

pub returns-then-past-ne0 : goal.returns-then-past-ne0
returns-then-past-ne0 c = part_word _ _ _ _ _ _ (ap not c.if-not-ended.false) _ c.past-past.ensures c.if-past-eq0.false c.if-past-ne0.true

pub fill-requires : goal.fill-requires
fill-requires c = (few_words _ _ c.past-past.ensures (omega arith), refl)

pub slice_bounds-words-end : goal.slice_bounds-words-end
slice_bounds-words-end c = words_there c.args.memory.now (replicate 2048 0) _ _ c.fill.ensures

pub slice_bounds-write-end : goal.slice_bounds-write-end
slice_bounds-write-end c = sym (length-take-le _ _ (words_there c.args.memory.now (replicate 2048 0) _ _ c.fill.ensures))

pub returns : goal.returns
returns c = image_written _ _ _ _ _ _ (ap not c.if-not-ended.false) _ c.past-past.ensures c.if-past-eq0.false c.if-past-ne0.false (omega arith) _ (words_put c.args.memory.now (replicate 2048 0) _ _ c.fill.ensures (ap (λ (x : ℕ). x / 4) c.past-past.ensures)) _ _ _ c.write.ensures
