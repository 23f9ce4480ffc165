-- A line of another shape defines nothing; a label line defines the word that stands first.
use Rattle.std.proofs.Common.{ap, ◌∙◌}
use Rattle.common.proofs.Laws.Tests.{clash}
use Rattle.syntax.specs.Seen.{seen_shape, shape_number}
use Rattle.labels.specs.LineLaws.{defines_name}
use Rattle.labels.proofs.defines.Goals as goal
use Rattle.labels.proofs.defines.Goals.{in-Ok-Label, in_default, in_default-2}

pub returns-then-matches : goal.returns-then-matches
returns-then-matches c =
    elim c.match-matches.branch [
      | in-Ok-Label w ↦ let k = rw w.in-Ok-Label.is at w.in-Ok-Label.field-0-is in
          defines_name _ _ _ _ _ _ c.requires (ap seen_shape w.in-Ok-Label.is ∙ ap shape_number k) c.token.ensures c.same_name.ensures
      | in_default w ↦ clash c.if-matches.true w.matches-is
      | in_default-2 w ↦ clash c.if-matches.true w.matches-is
    ]
