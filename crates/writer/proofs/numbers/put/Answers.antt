-- Four bytes, stored together.
use native.Mathlib.Omega.{arith}
use Rattle.std.proofs.Common.{refl, ◌∙◌}
use Rattle.writer.specs.Stores.{number_stored}
use Rattle.writer.proofs.numbers.put.Goals as goal

pub returns : goal.returns
returns c = let g = c.args in
    (refl, number_stored g.out.now _ g.at _ g.x (c.copy_from_slice.ensures.after ∙ c.to_le_bytes.ensures) (omega arith) (omega arith))
