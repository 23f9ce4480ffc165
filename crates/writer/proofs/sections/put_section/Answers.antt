-- After the count, the numbers put so far are stored one after the other.
use native.Mathlib.Omega.{arith}
use Rattle.std.proofs.Common.{List, ℕ, ◌+◌, refl, ap, ◌∙◌, take_all}
use Rattle.std.proofs.Math.Seq.{sets}
use Rattle.rules.specs.Images.{all_bytes}
use Rattle.writer.specs.Stores.{stores_more, section_stored}
use Rattle.writer.proofs.sections.put_section.Goals as goal

pub loop-number-init : goal.loop-number-init
unfolding all_bytes
loop-number-init c = (omega arith, refl)

pub loop-number-preserved : goal.loop-number-preserved
loop-number-preserved c = let g = c.args in
    let x = c.loop-number in
    (omega arith, stores_more g.numbers.now _ _ _ (g.at + 4) x.number-index x.end (omega arith) (omega arith) x.invariant.1 c.put-end-in-loop-number.ensures.1)

pub returns : goal.returns
returns c = let g = c.args in
    let x = c.loop-number in
    (omega arith, section_stored g.numbers.now g.out.now _ _ g.at c.put-end.ensures.1 (x.invariant.1 ∙ ap (λ (l : List ℕ). sets c.put-end.new.out (g.at + 4) (all_bytes l)) (take_all x.number-index g.numbers.now (omega arith))))
