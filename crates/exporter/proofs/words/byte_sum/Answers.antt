-- Four bytes, added up.
use native.Mathlib.Omega.{arith}
use Rattle.exporter.specs.Words.{sum_four}
use Rattle.exporter.proofs.words.byte_sum.Goals as goal

pub returns : goal.returns
returns c = let e = sum_four c.args.w _ c.to_le_bytes.ensures in omega arith
