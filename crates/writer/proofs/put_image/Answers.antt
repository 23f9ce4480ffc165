-- The length of the image says that each section has room where the one before ends.
use native.Mathlib.Omega.{arith}
use Rattle.std.proofs.Common.{ap, length}
use Rattle.images.specs.Listed.{listed_short}
use Rattle.images.specs.Sections.{length_image}
use Rattle.writer.specs.Writing.{registers, image_length, image_stored}
use Rattle.writer.proofs.put_image.Goals as goal

pub put_section-registers-requires : goal.put_section-registers-requires
put_section-registers-requires c = let g = c.args in
    let l = length_image g.words.now g.regs.now g.entry in (omega arith, omega arith)

pub shared_ref_as_front-listed : goal.shared_ref_as_front-listed
shared_ref_as_front-listed c = let s = listed_short c.args.regs.now in omega arith

pub put_section-entries-requires : goal.put_section-entries-requires
put_section-entries-requires c = let g = c.args in
    let l = length_image g.words.now g.regs.now g.entry in
    let s = listed_short g.regs.now in
    let t = ap length (registers g.words.now g.regs.now g.entry g.out.now _ c.listed_count-k.ensures) in
    (omega arith, omega arith)

pub put_section-requires : goal.put_section-requires
put_section-requires c = let g = c.args in
    let l = length_image g.words.now g.regs.now g.entry in
    let t = ap length (registers g.words.now g.regs.now g.entry g.out.now _ c.listed_count-k.ensures) in
    (omega arith, omega arith)

pub returns : goal.returns
returns c = let g = c.args in
    let one = c.put_section-registers.ensures in
    let two = c.put_section-entries.ensures in
    let three = c.put_section.ensures in (
      image_length g.words.now g.regs.now g.entry g.out.now _ c.listed_count-k.ensures _ _ _ one.0 two.0 three.0,
      image_stored g.words.now g.regs.now g.entry g.out.now _ c.listed_count-k.ensures _ _ _ one.0 two.0 three.0 c.requires.1 _ _ _ one.1 two.1 three.1,
    )
