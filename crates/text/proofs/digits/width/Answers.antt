-- The digits counted and those of what is left of the number are all its digits and the last once more.
use native.Mathlib.Omega.{arith}
use Rattle.numerals.specs.Laws.Widths.{width_one, width_more, width_most}
use Rattle.text.proofs.digits.width.Goals as goal

pub overflow_add-k : goal.overflow_add-k
overflow_add-k c = let m = width_most 9 c.args.n (omega arith) in omega arith

pub loop-v-preserved : goal.loop-v-preserved
loop-v-preserved c = let e = width_more _ c.loop-v-test.true in omega arith

pub returns : goal.returns
returns c = let e = width_one _ c.loop-v-test.false in omega arith
