-- The numbers of the set below the one reached are put.
use Rattle.std.proofs.Common.{ℕ, ◌+◌, ◌≤◌, ap, arith}
use Rattle.text.specs.Puts.{put_length, put_within}
use Rattle.sheet.specs.LineLaws.{begun, number_more, numbers_put, next_above}
use Rattle.sheet.proofs.lines.put_numbers.Goals as goal

pub loop-from-init : goal.loop-from-init
loop-from-init c = begun _ _ _ c.requires

pub overflow_add-c : goal.overflow_add-c
overflow_add-c c = let h = next_above _ _ _ (ap (λ (x : ℕ). c.loop-from.from + x) c.lowest.ensures) in
    let l : c.loop-from.from + c.lowest.result ≤ c.loop-from.from + 64 = h.1 in
    omega arith

pub put_number-p-requires : goal.put_number-p-requires
put_number-p-requires c = put_within _ _ _ _ _ c.loop-from.invariant.stands

pub overflow_add-from : goal.overflow_add-from
overflow_add-from c = let h = next_above _ _ _ (ap (λ (x : ℕ). c.loop-from.from + x) c.lowest.ensures) in
    let l : c.loop-from.from + c.lowest.result ≤ c.loop-from.from + 64 = h.1 in
    omega arith

pub loop-from-smaller : goal.loop-from-smaller
loop-from-smaller c = let h = next_above _ _ _ (ap (λ (x : ℕ). c.loop-from.from + x) c.lowest.ensures) in
    let l : c.loop-from.from ≤ c.loop-from.from + c.lowest.result = h.0 in
    omega arith

pub loop-from-preserved : goal.loop-from-preserved
loop-from-preserved c = number_more _ _ _ _ _ _ c.loop-from-test.true c.loop-from.invariant _ (ap (λ (x : ℕ). c.loop-from.from + x) c.lowest.ensures) _ _ c.put_number-p.ensures

pub shape_of-out : goal.shape_of-out
shape_of-out c = put_length _ _ _ _ _ c.loop-from.invariant.stands

pub returns : goal.returns
returns c = numbers_put _ _ _ _ _ _ c.loop-from-test.false c.loop-from.invariant
