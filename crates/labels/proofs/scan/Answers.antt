-- What lies ahead of the place reached, counted from the first line, is what the whole text says.
use mathlib.Core.Path.{sym}
use native.Mathlib.Omega.{arith}
use Rattle.sources.proofs.Laws.PlaceLaws.{line_end_within}
use Rattle.sources.proofs.Laws.FirstLaws.{ahead_start}
use Rattle.labels.specs.LineLaws.{held_small}
use Rattle.labels.specs.Scans.{scan_past, scan_here, scan_next}
use Rattle.labels.proofs.scan.Goals as goal

pub loop-at-init : goal.loop-at-init
loop-at-init c = (omega arith, omega arith, omega arith, sym (ahead_start _ _))

pub defines-requires : goal.defines-requires
defines-requires c = c.shape-shape.ensures

pub returns-then-defines : goal.returns-then-defines
returns-then-defines c = scan_here _ _ _ _ _ c.loop-at.invariant.3 c.loop-at-test.true _ c.defines.ensures c.if-defines.true

pub overflow_add-definition-in-loop-at : goal.overflow_add-definition-in-loop-at
overflow_add-definition-in-loop-at c = let k = held_small _ _ c.words_in_line.ensures in omega (arith, k)

pub overflow_add-at : goal.overflow_add-at
overflow_add-at c = let w = line_end_within _ _ c.loop-at-test.true _ c.line_end-at.ensures in omega (arith, w.1)

pub loop-at-smaller : goal.loop-at-smaller
loop-at-smaller c = let w = line_end_within _ _ c.loop-at-test.true _ c.line_end-at.ensures in omega (arith, w.0)

pub loop-at-preserved : goal.loop-at-preserved
loop-at-preserved c =
    let w = line_end_within _ _ c.loop-at-test.true _ c.line_end-at.ensures in
    let k = held_small _ _ c.words_in_line.ensures in (
      omega (arith, w.1),
      omega (arith, w.0),
      omega (arith, k),
      scan_next _ _ _ _ _ c.loop-at.invariant.3 c.loop-at-test.true _ c.defines.ensures c.if-defines.false _ _ _ c.shape-shape.ensures c.words_in_line.ensures c.line_end-at.ensures,
    )

pub returns : goal.returns
returns c = scan_past _ _ _ _ _ c.loop-at.invariant.3 c.loop-at-test.false
