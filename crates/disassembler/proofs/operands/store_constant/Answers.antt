-- A blank and a number, then a register.
use mathlib.Core.List.{◌++◌}
use native.Mathlib.Omega.{arith}
use lib.ListN.{length-set}
use Rattle.numerals.specs.Numerals.{decimal}
use Rattle.sources.specs.Listing.{blank, register_text}
use Rattle.disassembler.specs.Stores.{joined, stored_one, stored_joins, stored_length}
use Rattle.disassembler.proofs.operands.store_constant.Goals as goal

pub store_decimal-p-requires : goal.store_decimal-p-requires
store_decimal-p-requires c = let g = c.args in
    let l = joined (blank ++ decimal g.low) blank (register_text g.a) in simp length-set (omega arith)

pub store_register-requires : goal.store_register-requires
store_register-requires c = let g = c.args in
    let l = joined (blank ++ decimal g.low) blank (register_text g.a) in
    let k = stored_length _ _ _ _ _ (stored_one g.out.now g.at 32 (decimal g.low) _ _ c.store_decimal-p.ensures) in omega arith

pub returns : goal.returns
returns c = let g = c.args in
    stored_joins g.out.now g.at (blank ++ decimal g.low) blank (register_text g.a) _ _ _ _ (stored_one g.out.now g.at 32 (decimal g.low) _ _ c.store_decimal-p.ensures) c.store_register.ensures

pub shape_of-out : goal.shape_of-out
shape_of-out c = stored_length _ _ _ _ _ (returns c)
