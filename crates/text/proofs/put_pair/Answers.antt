-- Two digits stored where both have their places; else put as a text.
use native.Mathlib.Omega.{arith}
use Rattle.std.proofs.Common.{length-set}
use Rattle.text.specs.Puts.{two_put}
use Rattle.text.proofs.put_pair.Goals as goal

pub bounds-out-at-then-saturating_sub-ge2 : goal.bounds-out-at-then-saturating_sub-ge2
bounds-out-at-then-saturating_sub-ge2 c = simp length-set (omega arith)

pub returns-then-saturating_sub-ge2 : goal.returns-then-saturating_sub-ge2
returns-then-saturating_sub-ge2 c = let g = c.args in let e = two_put g.out.now g.at c.glyph.result c.glyph-2.result (omega arith) in cc
