-- The word at pc, its register, the set at the address there.
use Rattle.std.proofs.Common.{◌≡◌, ap, ◌∙◌}
use Rattle.common.specs.Words.{Decoded, decode}
use Rattle.sheet.specs.LineLaws.{target_is}
use Rattle.sheet.proofs.lines.target_writers.Goals as goal
use Rattle.sheet.proofs.lines.target_writers.Goals.{in-Ok, in-Err}

pub returns : goal.returns
returns c =
    let e : c.match-decode.register ≡ (decode c.word_at.result).a =
    elim c.match-decode.branch [ in-Ok w ↦ w.register-is ∙ ap (λ (d : Decoded). d.a) w.in-Ok.ensures | in-Err w ↦ w.register-is ∙ ap (λ (d : Decoded). d.a) w.in-Err.ensures ] in
    target_is _ _ _ _ _ _ _ c.word_at.ensures e c.word_at-x.ensures c.set_at.ensures
