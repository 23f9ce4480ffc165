-- 18, or the load without a table, and then the rows.
use Rattle.std.proofs.Common.{sym, ◌∙◌}
use Rattle.answers.specs.Laws.{answer_done, answer_refused}
use Rattle.loader.specs.LentLoading.{lacking, lent_refused, lent_accepted}
use Rattle.loader.proofs.load_rows.Goals as goal
use Rattle.loader.proofs.load_rows.Goals.{else-same_lengths-via-then-same_lengths+else-rows-ne-ROWS, else-same_lengths-via-else-same_lengths}

pub returns-then-rows-ne-ROWS : goal.returns-then-rows-ne-ROWS
returns-then-rows-ne-ROWS c = lacking c.args.strict c.args.bytes.now c.args.words.now c.args.owners.now c.args.jumpers.now c.args.writers.now c.args.readers.now c.args.rows.now (sym c.same_lengths-same_lengths.ensures ∙ c.if-same_lengths.true) c.if-rows-ne-ROWS.true _ c.refused.ensures

pub returns-then-is_ok : goal.returns-then-is_ok
returns-then-is_ok c = lent_accepted c.args.strict c.args.bytes.now c.args.words.now c.args.owners.now c.args.jumpers.now c.args.writers.now c.args.readers.now c.args.rows.now (λ s. elim c.else-same_lengths.branch [ else-same_lengths-via-then-same_lengths+else-rows-ne-ROWS w ↦ w.if-rows-ne-ROWS.false | else-same_lengths-via-else-same_lengths w ↦ absurd (cc) ]) _ c.load-loaded.ensures (answer_done _ (sym c.is_ok.ensures.value ∙ c.if-is_ok.true)) _ c.fill.ensures

pub returns-else-is_ok : goal.returns-else-is_ok
returns-else-is_ok c = lent_refused c.args.strict c.args.bytes.now c.args.words.now c.args.owners.now c.args.jumpers.now c.args.writers.now c.args.readers.now c.args.rows.now (λ s. elim c.else-same_lengths.branch [ else-same_lengths-via-then-same_lengths+else-rows-ne-ROWS w ↦ w.if-rows-ne-ROWS.false | else-same_lengths-via-else-same_lengths w ↦ absurd (cc) ]) _ c.load-loaded.ensures (answer_refused _ (sym c.is_ok.ensures.value ∙ c.if-is_ok.false))
