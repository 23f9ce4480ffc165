-- The line ends at the next LF, or at the end.
use Rattle.std.specs.Prelude.{eqb, drop}
use Rattle.std.proofs.Common.{sym, ◌∙◌, arith}
use Rattle.std.proofs.Math.ListN.{length-drop}
use Rattle.std.proofs.lemmas.List.Quantifiers.{position-Some}
use Rattle.tokens.specs.Reading.{no_feed, feed_ends, line_run, run_found, run_whole}
use Rattle.tokens.proofs.line_end.Goals as goal

pub overflow_add-result : goal.overflow_add-result
overflow_add-result c =
    let at = c.args.at in let text = c.args.text.now in
    let k = position-Some (λ b. eqb b 10) (drop at text) c.in-Some.passed 0 (sym c.to_feed.ensures ∙ c.in-Some.is) in
    omega (arith, k.0, length-drop at text)

pub returns-in-Some : goal.returns-in-Some
returns-in-Some c = run_found no_feed (λ b. eqb b 10) feed_ends _ _ _ (sym c.in-Some.is ∙ c.to_feed.ensures) ∙ sym (line_run _ _)

pub returns-in-None : goal.returns-in-None
returns-in-None c = c.max.ensures ∙ run_whole no_feed (λ b. eqb b 10) feed_ends _ _ (sym c.in-None.is ∙ c.to_feed.ensures) ∙ sym (line_run _ _)
