-- The table holds the labels of the lines so far, and what lies ahead tells the others.
use native.Mathlib.Omega.{arith}
use Rattle.sources.proofs.Laws.PlaceLaws.{line_end_within}
use Rattle.labels.specs.LineLaws.{held_small}
use Rattle.assembler.specs.Surveys.{survey_starts, survey_ends, survey_full, survey_goes}
use Rattle.std.proofs.Common.{ap}
use Rattle.std.specs.Prelude.{not}
use Rattle.assembler.proofs.survey.survey.Goals as goal

pub loop-at-init : goal.loop-at-init
loop-at-init c = (omega arith, omega arith, omega arith, survey_starts _ _ c.requires)

pub returns-then-not-note : goal.returns-then-not-note
returns-then-not-note c = survey_full _ _ _ _ _ c.loop-at.invariant.3 c.loop-at-test.true _ c.shape-shape.ensures _ _ c.note.ensures (ap not c.if-not-note.true)

pub overflow_add-here-in-loop-at : goal.overflow_add-here-in-loop-at
overflow_add-here-in-loop-at c = let k = held_small _ _ c.words_in_line.ensures in omega (arith, k)

pub overflow_add-at : goal.overflow_add-at
overflow_add-at c = let w = line_end_within _ _ c.loop-at-test.true _ c.line_end-at.ensures in omega (arith, w.1)

pub loop-at-smaller : goal.loop-at-smaller
loop-at-smaller c = let w = line_end_within _ _ c.loop-at-test.true _ c.line_end-at.ensures in omega (arith, w.0)

pub loop-at-preserved : goal.loop-at-preserved
loop-at-preserved c =
    let w = line_end_within _ _ c.loop-at-test.true _ c.line_end-at.ensures in
    let k = held_small _ _ c.words_in_line.ensures in (
      omega (arith, w.1),
      omega (arith, w.0),
      omega (arith, k),
      survey_goes _ _ _ _ _ c.loop-at.invariant.3 c.loop-at-test.true _ c.shape-shape.ensures _ _ c.note.ensures (ap not c.if-not-note.false) _ _ c.words_in_line.ensures c.line_end-at.ensures,
    )

pub returns : goal.returns
returns c = survey_ends _ _ _ _ _ c.loop-at.invariant.3 c.loop-at-test.false
