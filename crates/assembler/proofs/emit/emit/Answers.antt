-- The lines so far are without fault and their words are kept; the rest of the text says the rest.
use Rattle.std.proofs.Common.{ℕ, Option, Ok, sym, ap, ◌∙◌, arith, length-set}
use Rattle.sources.proofs.Laws.PlaceLaws.{line_end_within}
use Rattle.sources.proofs.Laws.Walks.{walk_starts}
use Rattle.assembler.specs.Emit.{outcome_of}
use Rattle.assembler.specs.Emits.{emit_ends, emit_refuses, emit_passes, emit_holds}
use Rattle.assembler.proofs.emit.emit.Goals as goal
use Rattle.assembler.proofs.emit.emit.Goals.{in-Some, in_default}

pub loop-at-init : goal.loop-at-init
loop-at-init c = (omega arith, omega arith, omega arith, c.requires.1, walk_starts _)

pub returns-in-Err-clause-means : goal.returns-in-Err-clause-means
returns-in-Err-clause-means c = emit_refuses _ _ c.requires.0 _ _ _ _ c.loop-at.invariant.4 c.loop-at-test.true _ c.in-Err.ensures.judged

pub overflow_add-at : goal.overflow_add-at
overflow_add-at c = let w = line_end_within _ _ c.loop-at-test.true _ c.line_end-at.ensures in omega (arith, w.1)

pub loop-at-preserved : goal.loop-at-preserved
loop-at-preserved c =
    let v = c.loop-at.invariant in
    let end = line_end_within _ _ c.loop-at-test.true _ c.line_end-at.ensures in
    let k = c.in-Ok.ensures {u = tt} in
    elim c.match-judged.branch [
      | in-Some w ↦
          let is = w.in-Some.is in
          let room = rw is at k.room in
          let j = ap (λ (o : Option ℕ). outcome_of (Ok o)) (sym is) ∙ k.judged in
          rw (w.count-is, w.words-is) (omega (arith, end.1), omega (arith, end.0), omega (arith, room), length-set _ _ _ ∙ v.3, emit_holds _ _ c.requires.0 _ _ _ _ v.4 c.loop-at-test.true _ c.line_end-at.ensures _ j (omega (arith, room)))
      | in_default w ↦
          let j = ap (λ (o : Option ℕ). outcome_of (Ok o)) (sym w.in_default.is) ∙ k.judged in
          rw (w.count-is, w.words-is) (omega (arith, end.1), omega (arith, end.0), v.2, v.3, emit_passes _ _ c.requires.0 _ _ _ _ v.4 c.loop-at-test.true _ c.line_end-at.ensures j)
    ]

pub returns-clause-means : goal.returns-clause-means
returns-clause-means c = emit_ends _ _ c.requires.0 _ _ _ _ c.loop-at.invariant.4 c.loop-at-test.false
