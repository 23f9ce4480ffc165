-- A number of 32 bits has ten digits at most.
use native.Mathlib.Omega.{arith}
use Rattle.numerals.specs.Numerals.{decimal}
use Rattle.numerals.specs.Laws.Widths.{width_most}
use Rattle.text.proofs.put_decimal.Goals as goal

pub put_digits-requires : goal.put_digits-requires
put_digits-requires c = let w = width_most 9 c.args.n (omega arith) in (omega arith, omega arith, omega arith)

pub returns : goal.returns
unfolding decimal
returns c = cc
