-- `decide`, case by case.
use Rattle.moves.specs.MoveLaws as law
use Rattle.std.proofs.Common.{ap}
use Rattle.std.specs.Prelude.{not}
use Rattle.moves.proofs.decide.Goals as goal
use Rattle.moves.proofs.decide.Goals.{then-not-is_home+else-not-is_free+else-owner-prev, else-owner-prev-via-then-owner-prev+else-not-jumped_in, else-owner-prev-via-else-owner-prev, else-not-is_home}

pub returns-then-not-is_free : goal.returns-then-not-is_free
returns-then-not-is_free c = law.not_free _ _ _ _ _ _ _ _ _ _ _ _ c.word_at-owner.ensures _ c.is_home.ensures (ap not c.if-not-is_home.true) _ c.is_free.ensures (ap not c.if-not-is_free.true) _ c.stop.ensures

pub returns-then-not-jumped_in : goal.returns-then-not-jumped_in
returns-then-not-jumped_in c = law.not_come _ _ _ _ _ _ _ _ _ _ _ _ c.word_at-owner.ensures _ c.is_home.ensures (ap not c.if-not-is_home.true) _ c.is_free.ensures (ap not c.if-not-is_free.false) _ c.prev_of-prev.ensures _ c.jumped_of.ensures _ c.set_at.ensures _ c.jumped_in.ensures c.if-owner-prev.true (ap not c.if-not-jumped_in.true) _ c.stop-then-not-jumped_in.ensures

pub returns : goal.returns
returns c =
    law.runs _ _ _ _ _ _ _ _ _ _ _ _ c.word_at-owner.ensures _ c.is_home.ensures (
    elim c.if-not-is_home.branch [
      | then-not-is_home+else-not-is_free+else-owner-prev w ↦ elim w.else-owner-prev.branch [
        | else-owner-prev-via-then-owner-prev+else-not-jumped_in v ↦ law.by_jump _ _ _ _ _ _ _ _ _ _ _ _ c.word_at-owner.ensures _ c.is_home.ensures (ap not w.if-not-is_home.true) _ w.is_free.ensures (ap not w.if-not-is_free.false) _ w.prev_of-prev.ensures _ v.jumped_of.ensures _ v.set_at.ensures _ v.jumped_in.ensures (ap not v.if-not-jumped_in.false)
        | else-owner-prev-via-else-owner-prev v ↦ law.by_own _ _ _ _ _ _ _ _ _ _ _ _ c.word_at-owner.ensures _ c.is_home.ensures (ap not w.if-not-is_home.true) _ w.is_free.ensures (ap not w.if-not-is_free.false) _ w.prev_of-prev.ensures v.if-owner-prev.false
      ]
      | else-not-is_home w ↦ law.at_home _ _ _ _ _ _ _ _ _ _ _ _ c.word_at-owner.ensures _ c.is_home.ensures (ap not w.if-not-is_home.false)
    ]) _ c.word_at.ensures _ c.execute.ensures
