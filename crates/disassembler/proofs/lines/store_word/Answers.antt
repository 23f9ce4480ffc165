-- A number where the decoder refuses; else the name, then the operands.
use mathlib.Core.Path.{ap, refl}
use native.Mathlib.Omega.{arith}
use lib.ListN.{length, length-append}
use Rattle.answers.specs.Results.{number-not-0}
use Rattle.instructions.specs.Views.{standing}
use Rattle.numerals.specs.Laws.Widths.{length_digits}
use Rattle.sources.proofs.Listings.ListingRows.{name}
use Rattle.sources.specs.Listing.{operands}
use Rattle.disassembler.specs.Stores.{stored_then}
use Rattle.disassembler.specs.Lines.{word_number, word_instruction, fields_small}
use Rattle.disassembler.proofs.lines.store_word.Goals as goal

pub store_number-requires : goal.store_number-requires
store_number-requires c = let e = ap length (word_number _ _ c.in-Err.ensures (number-not-0 _)) in
    let l = length_digits 16 8 c.args.w in omega arith

pub returns-in-Err : goal.returns-in-Err
returns-in-Err c = rw (word_number _ _ c.in-Err.ensures (number-not-0 _)) c.store_number.ensures

pub store_name-p-requires : goal.store_name-p-requires
store_name-p-requires c = let d = standing c.in-Ok.instruction in
    let e = ap length (word_instruction _ d c.in-Ok.ensures refl) in
    let l = length-append (name d.op) (operands d) in
    ((fields_small _ d c.in-Ok.ensures).0, omega arith)

pub store_operands-requires : goal.store_operands-requires
store_operands-requires c = let d = standing c.in-Ok.instruction in
    let e = ap length (word_instruction _ d c.in-Ok.ensures refl) in
    let l = length-append (name d.op) (operands d) in
    ((fields_small _ d c.in-Ok.ensures).1, omega arith)

pub returns-in-Ok : goal.returns-in-Ok
returns-in-Ok c = rw (word_instruction _ _ c.in-Ok.ensures refl) (stored_then _ _ _ _ _ _ _ _ c.store_name-p.ensures c.store_operands.ensures)
