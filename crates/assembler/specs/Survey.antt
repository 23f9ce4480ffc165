-- The first pass: what a line does to the table of labels, and what the table says in the end.
use Rattle.std.specs.Prelude.{◌≡◌, Bool, true, false, cond, List, ℕ, eqb, leb, is_some}
use Rattle.grammar.specs.Laws.Runs.{name_at}
use Rattle.grammar.specs.Reading.Shapes.{label}
use Rattle.sources.specs.Texts.{readings}
use Rattle.sources.specs.Labels.{first}
use Rattle.tokens.specs.Streams.{token_at}
use Rattle.label_table.specs.declared.Table.{Table}
use Rattle.label_table.specs.Table.{most, count, looked, found, inserted}
use Rattle.labels.specs.Locating.{located}

-- whether the survey goes on, and the table
pub record Noted : Type 0 where
  pub on : Bool
  pub table : Table

abbrev pub noted : Bool → Table → Noted
noted on table = record { on = on; table = table }

-- a label that is not in the table goes in; a full table ends the survey
unfoldable pub noted_at : List ℕ → ℕ → ℕ → ℕ → ℕ → Table → Noted
noted_at text at shape line words table =
    let place = (token_at text at).place in
    cond (eqb shape label)
    (cond (is_some (found (looked text table (name_at text place)))) (noted true table)
    (cond (leb most (count table)) (noted false table) (noted true (inserted text table place line words))))
    (noted true table)

-- the table and, where it is not complete, the text tell each label's first line
abbrev pub Surveyed : List ℕ → Table → Bool → Type 0
Surveyed text table complete = (x : List ℕ) → located text table complete x ≡ first x (readings text)
