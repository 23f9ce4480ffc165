-- ` writers` and the numbers behind it, where the answer is 7.
use Rattle.std.proofs.Common.{ℕ, List, sym, ap, ◌∙◌}
use Rattle.numerals.specs.Writing.{put}
use Rattle.text.specs.Puts.{put_behind, put_within, put_length}
use Rattle.sheet.specs.LineLaws.{put_none, no_writers, some_writers}
use Rattle.sheet.proofs.lines.put_writers.Goals as goal

pub returns-then-answer-ne-STORE_FORBIDDEN : goal.returns-then-answer-ne-STORE_FORBIDDEN
returns-then-answer-ne-STORE_FORBIDDEN c = let g = c.args in
    put_none _ _ c.requires ∙ ap (λ (t : List ℕ). put t g.at g.out.now) (sym (no_writers g.answer _ c.if-answer-ne-STORE_FORBIDDEN.true))

pub put_numbers-requires : goal.put_numbers-requires
put_numbers-requires c = put_within _ _ _ _ _ c.put_text-p.ensures

pub returns : goal.returns
returns c = let g = c.args in
    put_behind _ _ _ _ _ _ _ _ c.put_text-p.ensures c.put_numbers.ensures
    ∙ ap (λ (t : List ℕ). put t g.at g.out.now) (sym (some_writers g.answer _ c.if-answer-ne-STORE_FORBIDDEN.false))

pub shape_of-out : goal.shape_of-out
shape_of-out c = put_length _ _ _ _ _ (returns c)
