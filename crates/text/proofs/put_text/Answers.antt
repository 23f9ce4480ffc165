-- The bytes that have a place are stored; the others are left out.
use native.Mathlib.Omega.{arith}
use Rattle.text.specs.Puts.{front_put}
use Rattle.text.proofs.put_text.Goals as goal

pub returns : goal.returns
returns c = let g = c.args in
    front_put g.text.now g.out.now g.at c.min-start.result c.min-n.result c.min-start.ensures c.min-n.ensures _ _ (omega arith) c.copy_from_slice.ensures.after
