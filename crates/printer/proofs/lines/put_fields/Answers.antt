-- Seven fields.
use Rattle.printer.specs.Views.{line}
use Rattle.printed.proofs.Theorems.Lengths.{fields_most}
use Rattle.printed.specs.Text.{field, first_fields}
use native.Mathlib.Omega.{arith}
use mathlib.Core.Path.{ap, ◌∙◌}
use Prim.Native.Nat.{ℕ}
use Rattle.numerals.specs.Writing.{put}
use Rattle.numerals.specs.Bytes.{bytes}
use Rattle.text.specs.Puts.{put_behind, put_length}
use Rattle.printer.proofs.lines.put_fields.Goals as goal

pub returns : goal.returns
unfolding first_fields
returns c = let g = c.args in
    let s2 = put_behind _ _ _ _ _ _ _ _ c.put_field-at.ensures c.put_field-at-2.ensures in
    let s3 = put_behind _ _ _ _ _ _ _ _ s2 c.put_field-at-3.ensures in
    let s4 = put_behind _ _ _ _ _ _ _ _ s3 c.put_field-at-4.ensures in
    let s5 = put_behind _ _ _ _ _ _ _ _ s4 (c.put_field-at-5.ensures ∙ ap (λ (v : ℕ). put (field (bytes " jumped ") v) c.put_field-at-4.result c.put_field-at-4.new.out) c.from-flag.ensures) in
    let s6 = put_behind _ _ _ _ _ _ _ _ s5 c.put_field-at-6.ensures in
    record { written = put_behind _ _ _ _ _ _ _ _ s6 c.put_field.ensures; bounded = fields_most (line g.ran.answer g.ran.count g.ran.cpu.pc g.ran.cpu.prev g.ran.cpu.jumped g.ran.cpu.next g.widest) (record { answer = omega arith; steps = omega arith; pc = omega arith; prev = omega arith; next = omega arith; widest = omega arith }) }

pub shape_of-out : goal.shape_of-out
shape_of-out c = put_length _ _ _ _ _ (returns c).written
