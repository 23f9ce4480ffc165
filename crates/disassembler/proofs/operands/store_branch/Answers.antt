-- A register, then a comma, a blank and an offset.
use mathlib.Core.List.{◌++◌}
use native.Mathlib.Omega.{arith}
use lib.ListN.{length-set}
use Rattle.numerals.specs.Bytes.{bytes}
use Rattle.sources.specs.Listing.{blank, register_text, offset_text}
use Rattle.disassembler.specs.Stores.{joined, stored_two, stored_joins, stored_length}
use Rattle.disassembler.proofs.operands.store_branch.Goals as goal

pub store_register-p-requires : goal.store_register-p-requires
store_register-p-requires c = let g = c.args in
    let l = joined (blank ++ register_text g.a) (bytes ", ") (offset_text g.low) in omega arith

pub bounds-out-p : goal.bounds-out-p
bounds-out-p c = let g = c.args in
    let l = joined (blank ++ register_text g.a) (bytes ", ") (offset_text g.low) in omega arith

pub overflow_add-out : goal.overflow_add-out
overflow_add-out c = let g = c.args in
    let l = joined (blank ++ register_text g.a) (bytes ", ") (offset_text g.low) in omega arith

pub bounds-out-p-2 : goal.bounds-out-p-2
bounds-out-p-2 c = let g = c.args in
    let l = joined (blank ++ register_text g.a) (bytes ", ") (offset_text g.low) in simp length-set (omega arith)

pub overflow_add-p : goal.overflow_add-p
overflow_add-p c = let g = c.args in
    let l = joined (blank ++ register_text g.a) (bytes ", ") (offset_text g.low) in omega arith

pub store_offset-requires : goal.store_offset-requires
store_offset-requires c = let g = c.args in
    let l = joined (blank ++ register_text g.a) (bytes ", ") (offset_text g.low) in (c.requires.0, simp length-set (omega arith))

pub returns : goal.returns
returns c = let g = c.args in
    stored_joins g.out.now g.at (blank ++ register_text g.a) (bytes ", ") (offset_text g.low) _ _ _ _ c.store_register-p.ensures (stored_two _ _ 44 32 (offset_text g.low) _ _ c.store_offset.ensures)

pub shape_of-out : goal.shape_of-out
shape_of-out c = stored_length _ _ _ _ _ (returns c)
