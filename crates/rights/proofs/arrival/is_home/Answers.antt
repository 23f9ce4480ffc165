-- `is_home`: one comparison of 64 bits.
use native.Mathlib.Omega.{arith}
use Rattle.rights.specs.Arrivals.{is_home}
use Rattle.rights.proofs.arrival.is_home.Goals as goal

pub returns : goal.returns
returns c = is_home _ _ (omega arith)
