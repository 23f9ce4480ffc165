-- Two bytes, and the number behind them.
use native.Mathlib.Omega.{arith}
use lib.ListN.{length-set}
use Rattle.numerals.specs.Numerals.{decimal}
use Rattle.disassembler.specs.Stores.{stored_two, stored_length}
use Rattle.disassembler.proofs.operands.store_register.Goals as goal

pub bounds-out-at-2 : goal.bounds-out-at-2
bounds-out-at-2 c = simp length-set (omega arith)

pub store_decimal-requires : goal.store_decimal-requires
store_decimal-requires c = simp length-set (omega arith)

pub returns : goal.returns
returns c = let g = c.args in stored_two g.out.now g.at 32 114 (decimal g.r) _ _ c.store_decimal.ensures

pub shape_of-out : goal.shape_of-out
shape_of-out c = stored_length _ _ _ _ _ (returns c)
