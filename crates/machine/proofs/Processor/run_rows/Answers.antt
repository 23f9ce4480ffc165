-- `run_rows`, need by need: the invariant is the run at the place reached; inside, that the place is reached from wherever its begin was.
use Rattle.machine.specs.RunLaws.{unasked_home, nothing, unformed, few_rows, starts, all_used, word_stops, word_turns, word_home, service_stops, service_turns, arrived, called, left}
use Rattle.rows.specs.Views.{table}
use Rattle.rows.specs.TableLaws.{length_table}
use mathlib.Core.Path.{refl, sym, ◌∙◌}
use native.Mathlib.Omega.{arith}
use Rattle.std.proofs.Common.{ap}
use Rattle.std.specs.Prelude.{not}
use Rattle.machine.proofs.Processor.run_rows.Goals as goal
use Rattle.machine.proofs.Processor.run_rows.Goals.{else-loop-pc-test, then-loop-pc-test+then-budget-count, else-loop-count-test, then-loop-count-test+then-budget-count-2}

pub returns-then-budget-eq0 : goal.returns-then-budget-eq0
returns-then-budget-eq0 c = nothing _ _ _ c.if-budget-eq0.true

pub returns-then-not-is_formed : goal.returns-then-not-is_formed
returns-then-not-is_formed c = unformed _ _ _ _ c.is_formed.ensures c.if-budget-eq0.false (ap not c.if-not-is_formed.true)

pub returns-then-rows-ne-ROWS : goal.returns-then-rows-ne-ROWS
returns-then-rows-ne-ROWS c = few_rows _ _ (table c.args.rows.now) _ c.is_formed.ensures (ap not c.if-not-is_formed.false) c.if-budget-eq0.false (λ q. c.if-rows-ne-ROWS.true (sym (length_table c.args.rows.now) ∙ q))

pub loop-count-init : goal.loop-count-init
loop-count-init c = (arrived _ _ _ _ _ _ _ _ _ _ _ _ _ _ (omega arith) c.unasked-arrival.ensures _ _ _ _ _ (starts _ _ (table c.args.rows.now) _ c.is_formed.ensures (ap not c.if-not-is_formed.false) (length_table c.args.rows.now ∙ c.if-rows-ne-ROWS.false)), omega arith, unasked_home _ _ _ _ _ c.unasked-arrival.ensures, refl)

pub loop-pc-init : goal.loop-pc-init
loop-pc-init c = (λ s₀ rows₀ g. g, c.loop-count.invariant.2, omega arith)

pub shape_of-words-then-answer-ne-DONE : goal.shape_of-words-then-answer-ne-DONE
shape_of-words-then-answer-ne-DONE c = (c.loop-pc.invariant.0 _ _ c.loop-count.invariant.0).words

pub shape_of-owners-then-answer-ne-DONE : goal.shape_of-owners-then-answer-ne-DONE
shape_of-owners-then-answer-ne-DONE c = c.loop-count.invariant.0.owners

pub shape_of-jumpers-then-answer-ne-DONE : goal.shape_of-jumpers-then-answer-ne-DONE
shape_of-jumpers-then-answer-ne-DONE c = c.loop-count.invariant.0.jumpers

pub shape_of-writers-then-answer-ne-DONE : goal.shape_of-writers-then-answer-ne-DONE
shape_of-writers-then-answer-ne-DONE c = c.loop-count.invariant.0.writers

pub shape_of-readers-then-answer-ne-DONE : goal.shape_of-readers-then-answer-ne-DONE
shape_of-readers-then-answer-ne-DONE c = c.loop-count.invariant.0.readers

pub shape_of-rows-then-answer-ne-DONE : goal.shape_of-rows-then-answer-ne-DONE
shape_of-rows-then-answer-ne-DONE c = c.loop-count.invariant.3

pub returns-then-answer-ne-DONE : goal.returns-then-answer-ne-DONE
returns-then-answer-ne-DONE c = simp c.ended.ensures (word_stops _ _ _ _ _ _ (c.loop-pc.invariant.0 _ _ c.loop-count.invariant.0) c.if-budget-count.false c.loop-pc-test.true _ refl refl c.loop-pc.invariant.1 _ c.decide-m.ensures c.if-answer-ne-DONE.true)

pub loop-pc-preserved : goal.loop-pc-preserved
loop-pc-preserved c = (λ s₀ rows₀ g. word_turns s₀ rows₀ _ _ _ _ (c.loop-pc.invariant.0 s₀ rows₀ g) c.if-budget-count.false c.loop-pc-test.true _ refl refl c.loop-pc.invariant.1 _ c.decide-m.ensures c.if-answer-ne-DONE.false _ _ c.put_reg.ensures c.put_word.ensures, word_home _ _ _ _ _ _ (c.loop-pc.invariant.0 _ _ c.loop-count.invariant.0) c.if-budget-count.false c.loop-pc-test.true _ refl refl c.loop-pc.invariant.1 _ c.decide-m.ensures c.if-answer-ne-DONE.false, omega arith)

pub returns-then-answer-ne-DONE-2 : goal.returns-then-answer-ne-DONE-2
returns-then-answer-ne-DONE-2 c = simp (c.ended-then-answer-ne-DONE-2.ensures, c.answer_of-answer.ensures) (service_stops _ _ _ _ _ _ (c.loop-pc.invariant.0 _ _ c.loop-count.invariant.0) c.if-budget-count-2.false (elim c.loop-pc-test.branch [ else-loop-pc-test w ↦ w.loop-pc-test.false | then-loop-pc-test+then-budget-count w ↦ absurd (omega (arith, w.if-budget-count.true, c.if-budget-count-2.false)) ]) _ (called _ _ _ _ _ _ _ _ _ _ _ _ _ _ c.prev_of-caller.ensures c.jumped_of-jumped.ensures _ c.serve-s.ensures) (λ z. c.if-answer-ne-DONE-2.true (c.answer_of-answer.ensures ∙ z)))

pub overflow_add-count-in-loop-count : goal.overflow_add-count-in-loop-count
overflow_add-count-in-loop-count c = omega (arith, c.if-budget-count-2.false, c.loop-count.invariant.1)

pub loop-count-smaller : goal.loop-count-smaller
loop-count-smaller c = omega (arith, c.if-budget-count-2.false, c.loop-pc.invariant.2)

pub loop-count-preserved : goal.loop-count-preserved
loop-count-preserved c = (arrived _ _ _ _ _ _ _ _ _ _ _ _ _ _ (omega arith) c.unasked-arrival-in-loop-count.ensures _ _ _ _ _ (service_turns _ _ _ _ _ _ (c.loop-pc.invariant.0 _ _ c.loop-count.invariant.0) c.if-budget-count-2.false (elim c.loop-pc-test.branch [ else-loop-pc-test w ↦ w.loop-pc-test.false | then-loop-pc-test+then-budget-count w ↦ absurd (omega (arith, w.if-budget-count.true, c.if-budget-count-2.false)) ]) _ (called _ _ _ _ _ _ _ _ _ _ _ _ _ _ c.prev_of-caller.ensures c.jumped_of-jumped.ensures _ c.serve-s.ensures) (sym c.answer_of-answer.ensures ∙ c.if-answer-ne-DONE-2.false) _ c.prev_of-caller.ensures _ c.settle.ensures), c.loop-count.invariant.1, unasked_home _ _ _ _ _ c.unasked-arrival-in-loop-count.ensures, c.settle.auto.rows ∙ c.loop-count.invariant.3)

pub shape_of-words : goal.shape_of-words
shape_of-words c =
    elim c.loop-count-test.branch [
      | else-loop-count-test w ↦ (left _ _ _ _ _ _ _ _ _ _ _ _ _ _ _ _ _ _ _ _ _ _ w.words-is w.count-is w.pc-is w.arrival-is w.regs-is c.loop-count.invariant.0 w.loop-count-test.false).0.words
      | then-loop-count-test+then-budget-count-2 w ↦ (left _ _ _ _ _ _ _ _ _ _ _ _ _ _ _ _ _ _ _ _ _ _ w.words-is w.count-is w.pc-is w.arrival-is w.regs-is (w.loop-pc.invariant.0 _ _ c.loop-count.invariant.0) w.if-budget-count-2.true).0.words
    ]

pub shape_of-owners : goal.shape_of-owners
shape_of-owners c = c.loop-count.invariant.0.owners

pub shape_of-jumpers : goal.shape_of-jumpers
shape_of-jumpers c = c.loop-count.invariant.0.jumpers

pub shape_of-writers : goal.shape_of-writers
shape_of-writers c = c.loop-count.invariant.0.writers

pub shape_of-readers : goal.shape_of-readers
shape_of-readers c = c.loop-count.invariant.0.readers

pub shape_of-rows : goal.shape_of-rows
shape_of-rows c = c.loop-count.invariant.3

pub returns : goal.returns
returns c =
    simp c.ended-2.ensures
    (elim c.loop-count-test.branch [
      | else-loop-count-test w ↦ let z = left _ _ _ _ _ _ _ _ _ _ _ _ _ _ _ _ _ _ _ _ _ _ w.words-is w.count-is w.pc-is w.arrival-is w.regs-is c.loop-count.invariant.0 w.loop-count-test.false in all_used _ _ _ _ _ _ z.0 z.1
      | then-loop-count-test+then-budget-count-2 w ↦ let z = left _ _ _ _ _ _ _ _ _ _ _ _ _ _ _ _ _ _ _ _ _ _ w.words-is w.count-is w.pc-is w.arrival-is w.regs-is (w.loop-pc.invariant.0 _ _ c.loop-count.invariant.0) w.if-budget-count-2.true in all_used _ _ _ _ _ _ z.0 z.1
    ])
