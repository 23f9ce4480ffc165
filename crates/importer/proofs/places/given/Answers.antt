-- No place before the one reached has its byte.
use Rattle.std.proofs.Common.{◌≡◌, ◌∙◌, sym, ap, arith, List, ℕ, ◌+◌, ◌-◌, take, drop}
use Rattle.intel_hex.specs.Reading.{any_given}
use Rattle.importer.specs.PlaceLaws.{given_here, given_turn, given_ends}
use Rattle.importer.proofs.places.given.Goals as goal

-- so many places are sliced out
sliced : (m : List ℕ) (at n : ℕ) → any_given (take (at + n - at) (drop at m)) ≡ any_given (take n (drop at m))
sliced m at n = let k : at + n - at ≡ n = omega arith in ap (λ (x : ℕ). any_given (take x (drop at m))) k

pub returns-then-x-lt-NONE : goal.returns-then-x-lt-NONE
returns-then-x-lt-NONE c = given_here _ _ c.loop-x-test.true c.if-x-lt-NONE.true ∙ sym c.loop-x.invariant ∙ sliced c.args.memory.now c.args.at c.args.n

pub loop-x-preserved : goal.loop-x-preserved
loop-x-preserved c = c.loop-x.invariant ∙ given_turn _ _ c.loop-x-test.true c.if-x-lt-NONE.false

pub returns : goal.returns
returns c = given_ends _ _ c.loop-x-test.false ∙ sym c.loop-x.invariant ∙ sliced c.args.memory.now c.args.at c.args.n
