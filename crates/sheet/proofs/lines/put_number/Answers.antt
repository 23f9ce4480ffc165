-- A number below 64 is a field, any other nothing.
use Rattle.std.proofs.Common.{ℕ, List, sym, ap, ◌∙◌}
use Rattle.numerals.specs.Writing.{put}
use Rattle.sheet.specs.LineLaws.{put_none, one_none, one_some}
use Rattle.sheet.proofs.lines.put_number.Goals as goal

pub returns-then-c-lt64 : goal.returns-then-c-lt64
returns-then-c-lt64 c = let g = c.args in
    c.put_field.ensures ∙ ap (λ (t : List ℕ). put t g.at g.out.now) (sym (one_some g.c c.if-c-lt64.true))

pub returns-else-c-lt64 : goal.returns-else-c-lt64
returns-else-c-lt64 c = let g = c.args in
    put_none _ _ c.requires ∙ ap (λ (t : List ℕ). put t g.at g.out.now) (sym (one_none g.c c.if-c-lt64.false))
