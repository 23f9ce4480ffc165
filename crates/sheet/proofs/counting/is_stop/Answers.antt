-- Each return is one side of the tests.
use Rattle.std.proofs.Common.{arith}
use Rattle.sheet.specs.TotalLaws.{stop_below, stop_listed, stop_stray, stop_strict, stop_above}
use Rattle.sheet.proofs.counting.is_stop.Goals as goal

pub returns-in-17 : goal.returns-in-17
returns-in-17 c = stop_strict _ _ c.in-17.is

pub returns-in_default : goal.returns-in_default
returns-in_default c = stop_below _ _ (omega arith)

pub returns-in_default-2 : goal.returns-in_default-2
returns-in_default-2 c = stop_above _ _ (omega arith) (λ e. omega arith) (λ e. omega arith)

pub returns-in-2-to-13 : goal.returns-in-2-to-13
returns-in-2-to-13 c = stop_stray _ _ (omega arith)

pub returns-in-2-to-13-2 : goal.returns-in-2-to-13-2
returns-in-2-to-13-2 c = stop_listed _ _ (omega arith) (omega arith)
