-- A number alone, or a sign and a number behind it.
use mathlib.Core.Path.{ap}
use Prim.Native.Nat.{◌-◌}
use native.Mathlib.Omega.{arith}
use lib.ListN.{length-set, length}
use Rattle.numerals.specs.Numerals.{decimal}
use Rattle.disassembler.specs.Stores.{stored_one, stored_length}
use Rattle.disassembler.specs.Operands.{offset_forward, offset_back}
use Rattle.disassembler.proofs.operands.store_offset.Goals as goal

pub store_decimal-requires : goal.store_decimal-requires
store_decimal-requires c = let e = ap length (offset_forward _ c.if-low-lt32768.true) in omega arith

pub returns-then-low-lt32768 : goal.returns-then-low-lt32768
returns-then-low-lt32768 c = rw (offset_forward _ c.if-low-lt32768.true) c.store_decimal.ensures

pub bounds-out-at : goal.bounds-out-at
bounds-out-at c = let e = ap length (offset_back _ c.if-low-lt32768.false) in omega arith

pub store_decimal-requires-2 : goal.store_decimal-requires-2
store_decimal-requires-2 c = let e = ap length (offset_back _ c.if-low-lt32768.false) in simp length-set (omega arith)

pub returns : goal.returns
returns c = let g = c.args in rw (offset_back _ c.if-low-lt32768.false) (stored_one g.out.now g.at 45 (decimal (65536 - g.low)) _ _ c.store_decimal-2.ensures)

pub shape_of-out : goal.shape_of-out
shape_of-out c = stored_length _ _ _ _ _ (returns c)
