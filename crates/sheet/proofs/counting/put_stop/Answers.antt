-- A stop has two fields, any other number nothing.
use Rattle.std.proofs.Common.{ℕ, List, sym, ap, ◌∙◌}
use Rattle.numerals.specs.Writing.{put}
use Rattle.text.specs.Puts.{put_behind}
use Rattle.sheet.specs.LineLaws.{put_none}
use Rattle.sheet.specs.TotalLaws.{no_stop, some_stop, nothing_short, fields_short}
use Rattle.std.specs.Prelude.{not}
use Rattle.sheet.proofs.counting.put_stop.Goals as goal

pub returns-else-is_stop : goal.returns-else-is_stop
returns-else-is_stop c = let g = c.args in
    let n = no_stop g.strict g.a g.n _ c.is_stop.ensures (ap not c.if-is_stop.false) in
    record { written = put_none _ _ c.requires.0 ∙ ap (λ (t : List ℕ). put t g.at g.out.now) (sym n); bounded = nothing_short g.strict g.a g.n n }

pub returns-then-is_stop : goal.returns-then-is_stop
returns-then-is_stop c = let g = c.args in
    let s = some_stop g.strict g.a g.n _ c.is_stop.ensures (ap not c.if-is_stop.true) in record {
      written = put_behind _ _ _ _ _ _ _ _ c.put_field-p.ensures c.put_count.ensures.written ∙ ap (λ (t : List ℕ). put t g.at g.out.now) (sym s);
      bounded = fields_short g.strict g.a g.n c.requires.1 s c.put_count.ensures.bounded;
    }
