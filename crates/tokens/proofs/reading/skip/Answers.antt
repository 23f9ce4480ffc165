-- The first byte that is no blank, or the end.
use Rattle.std.specs.Prelude.{not, drop}
use Rattle.std.proofs.Common.{refl, sym, ◌∙◌, arith}
use Rattle.std.proofs.Math.ListN.{length-drop}
use Rattle.std.proofs.lemmas.List.Quantifiers.{position-Some}
use Rattle.grammar.specs.Spelling.{blank}
use Rattle.tokens.specs.Streams.{skipped}
use Rattle.tokens.specs.Reading.{run_found, run_whole}
use Rattle.tokens.proofs.reading.skip.Goals as goal

pub overflow_add-result : goal.overflow_add-result
overflow_add-result c =
    let at = c.args.at in let text = c.args.text.now in
    let k = position-Some (λ b. not (blank b)) (drop at text) c.in-Some.passed 0 (sym c.blanks.ensures ∙ c.in-Some.is) in
    omega (arith, k.0, length-drop at text)

pub returns-in-Some : goal.returns-in-Some
unfolding skipped
returns-in-Some c = run_found blank (λ b. not (blank b)) (λ b. refl) _ _ _ (sym c.in-Some.is ∙ c.blanks.ensures)

pub returns-in-None : goal.returns-in-None
unfolding skipped
returns-in-None c = c.max.ensures ∙ run_whole blank (λ b. not (blank b)) (λ b. refl) _ _ (sym c.in-None.is ∙ c.blanks.ensures)
