-- The lines so far are said; the rest of the text says the rest.
use native.Mathlib.Omega.{arith}
use Rattle.std.proofs.Common.{refl}
use Rattle.answers.specs.Results.{number-not-0}
use Rattle.importer.specs.ReadLaws.{walk_starts, turn_refuses, turn_goes, walk_ends}
use Rattle.sources.proofs.Laws.PlaceLaws.{line_end_within}
use Rattle.importer.proofs.reading.read.Goals as goal

pub loop-at-init : goal.loop-at-init
loop-at-init c = (omega arith, omega arith, walk_starts _ _ c.requires)

pub slice_bounds-bytes-count : goal.slice_bounds-bytes-count
slice_bounds-bytes-count c = let w = line_end_within _ _ (omega arith) _ c.line_end-end.ensures in omega (arith, w.0)

pub slice_bounds-bytes-start : goal.slice_bounds-bytes-start
slice_bounds-bytes-start c = let w = line_end_within _ _ (omega arith) _ c.line_end-end.ensures in omega (arith, w.0)

pub slice_bounds-bytes-end : goal.slice_bounds-bytes-end
slice_bounds-bytes-end c = let w = line_end_within _ _ (omega arith) _ c.line_end-end.ensures in omega (arith, w.1)

pub returns-in-Err : goal.returns-in-Err
returns-in-Err c = turn_refuses _ _ c.loop-at-test.true _ c.line_end-end.ensures _ _ c.loop-at.invariant.2 _ c.in-Err.ensures (number-not-0 _)

pub overflow_add-at : goal.overflow_add-at
overflow_add-at c = let w = line_end_within _ _ (omega arith) _ c.line_end-end.ensures in omega (arith, w.1)

pub loop-at-smaller : goal.loop-at-smaller
loop-at-smaller c = let w = line_end_within _ _ (omega arith) _ c.line_end-end.ensures in omega (arith, w.0)

pub loop-at-preserved : goal.loop-at-preserved
loop-at-preserved c =
    let w = line_end_within _ _ (omega arith) _ c.line_end-end.ensures in (
      omega (arith, w.0),
      omega (arith, w.1),
      turn_goes _ _ c.loop-at-test.true _ c.line_end-end.ensures _ _ c.loop-at.invariant.2 _ c.in_default.ensures refl,
    )

pub returns : goal.returns
returns c = walk_ends _ _ _ _ c.loop-at-test.false c.loop-at.invariant.2
