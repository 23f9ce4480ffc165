-- What is left to ask from x on is what was to be asked of the whole pair: first of the words, then of the rest.
use mathlib.Core.Path.{sym, ◌∙◌}
use native.Mathlib.Omega.{arith}
use Rattle.reach.specs.WalkLaws.{all_done, all_next, all_not}
use Rattle.reach.specs.ReachLaws.{own_word, word_by_set}
use Rattle.reach.proofs.Caller.reaches_all.Goals as goal
use Rattle.reach.proofs.Caller.reaches_all.Goals.{else-tags-x-via-then-tags-x+else-not-contains, else-tags-x-via-else-tags-x}

pub returns-then-not-contains : goal.returns-then-not-contains
returns-then-not-contains c = sym (c.loop-x.invariant ∙ all_not _ _ _ (omega arith) (word_by_set _ _ _ _ _ _ _ (omega arith) c.if-tags-x.true _ c.set_at.ensures _ c.contains.ensures ∙ c.if-not-contains.true))

pub loop-x-preserved : goal.loop-x-preserved
loop-x-preserved c = c.loop-x.invariant ∙ all_next _ _ _ (omega arith)
    (elim c.else-tags-x.branch [
      | else-tags-x-via-then-tags-x+else-not-contains w ↦ word_by_set _ _ _ _ _ _ _ (omega arith) w.if-tags-x.true _ w.set_at.ensures _ w.contains.ensures ∙ w.if-not-contains.false
      | else-tags-x-via-else-tags-x w ↦ own_word _ _ _ _ _ _ _ (omega arith) w.if-tags-x.false
    ])

pub returns-then-not-reaches : goal.returns-then-not-reaches
returns-then-not-reaches c = sym (c.loop-x-2.invariant ∙ all_not _ _ _ c.loop-x-2-test.true (sym c.reaches.ensures ∙ c.if-not-reaches.true))

pub loop-x-2-preserved : goal.loop-x-2-preserved
loop-x-2-preserved c = c.loop-x-2.invariant ∙ all_next _ _ _ c.loop-x-2-test.true (sym c.reaches.ensures ∙ c.if-not-reaches.false)

pub returns : goal.returns
returns c = sym (c.loop-x-2.invariant ∙ all_done _ _ _ c.loop-x-2-test.false)
