-- What is left to ask from x on is what was to be asked of the whole pair: first of the words, then of the rest.
use mathlib.Core.Path.{◌≡◌}
use Prim.Native.Nat.{◌-◌}
use Rattle.common.specs.AddressSets.{all_from}
use Rattle.reach.specs.Called.{asked_by, reaches}
use Rattle.reach.proofs.Caller.reaches_all.Given as goal

abbrev pub invariant-loop-x : goal.invariant-loop-x
invariant-loop-x l =
    let test = reaches (asked_by l.self l.tags) l.self.number in all_from test l.pair.first (l.pair.past - l.pair.first) ≡ all_from test l.x (l.pair.past - l.x)

abbrev pub invariant-loop-x-2 : goal.invariant-loop-x-2
invariant-loop-x-2 l =
    let test = reaches (asked_by l.self l.tags) l.self.number in
    all_from test l.fn.pair.first (l.fn.pair.past - l.fn.pair.first) ≡ all_from test l.x (l.fn.pair.past - l.x)
