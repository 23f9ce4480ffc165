-- The bytes of the words before are added up; four words have sixteen.
use native.Mathlib.Omega.{arith}
use Prim.Native.Nat.{◌+◌}
use Rattle.exporter.specs.Words.{sum_none, sum_more, sum_small}
use Rattle.exporter.proofs.words.words_sum.Goals as goal

pub loop-word-init : goal.loop-word-init
loop-word-init c = sum_none c.args.words.now

pub overflow_add-sum : goal.overflow_add-sum
overflow_add-sum c = let w = c.args.words.now in
    let x = c.loop-word in
    let m = sum_small w (x.word-index + 1) _ (sum_more w x.word-index (omega arith) x.sum _ x.invariant c.byte_sum-sum.ensures) c.requires in
    omega arith

pub loop-word-preserved : goal.loop-word-preserved
loop-word-preserved c = let x = c.loop-word in sum_more c.args.words.now x.word-index (omega arith) x.sum _ x.invariant c.byte_sum-sum.ensures
