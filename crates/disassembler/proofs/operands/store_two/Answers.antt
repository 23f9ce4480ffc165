-- A register, then another.
use mathlib.Core.List.{◌++◌}
use native.Mathlib.Omega.{arith}
use Rattle.sources.specs.Listing.{blank, register_text}
use Rattle.disassembler.specs.Stores.{joined, stored_joins}
use Rattle.disassembler.proofs.operands.store_two.Goals as goal

pub store_register-p-requires : goal.store_register-p-requires
store_register-p-requires c = let g = c.args in
    let l = joined (blank ++ register_text g.a) blank (register_text g.b) in omega arith

pub store_register-requires : goal.store_register-requires
store_register-requires c = let g = c.args in
    let l = joined (blank ++ register_text g.a) blank (register_text g.b) in omega arith

pub returns : goal.returns
returns c = let g = c.args in
    stored_joins g.out.now g.at (blank ++ register_text g.a) blank (register_text g.b) _ _ _ _ c.store_register-p.ensures c.store_register.ensures
