-- The digits of the words before are put.
use native.Mathlib.Omega.{arith}
use Rattle.text.specs.Puts.{put_within}
use Rattle.exporter.specs.Words.{words_none, word_put}
use Rattle.exporter.proofs.words.put_words.Goals as goal

pub loop-word-init : goal.loop-word-init
loop-word-init c = words_none c.args.words.now _ _ c.requires

pub put_bytes-next-requires : goal.put_bytes-next-requires
put_bytes-next-requires c = put_within _ _ _ _ _ c.loop-word.invariant

pub loop-word-preserved : goal.loop-word-preserved
loop-word-preserved c = let x = c.loop-word in
    word_put c.args.at _ _ _ _ _ c.args.words.now x.word-index (omega arith) x.invariant (cc)
