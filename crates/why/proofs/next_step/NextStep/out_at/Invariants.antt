-- The loop has passed the pairs before j, and the caller may give away all of each.
use Rattle.std.proofs.Common.{◌≡◌, true, ◌+◌}
use Rattle.common.specs.AddressSets.{pairs_at, within}
use Rattle.why.specs.Views.{before}
use Rattle.why.specs.Giving.{gives}
use Rattle.why.proofs.next_step.NextStep.out_at.Given as goal

abbrev pub invariant-loop-j : goal.invariant-loop-j
invariant-loop-j l = within (pairs_at l.given.words.now (l.given.at + 1) l.j) (gives l.set (before l.self)) ≡ true
