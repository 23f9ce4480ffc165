-- A label's first line, from the table or, where the table does not hold every label, from the text.
use Rattle.std.specs.Prelude.{Bool, cond, List, ℕ, eqb}
use Rattle.std.proofs.Math.Option.{Option, none, some}
use Rattle.common.specs.Instructions.{bit}
use Rattle.grammar.specs.Reading.Shapes.{word}
use Rattle.sources.specs.Texts.{readings}
use Rattle.sources.specs.Labels.{Site, first}
use Rattle.label_table.specs.declared.Table.{Table}
use Rattle.label_table.specs.Table.{looked}

-- how many words a line of a shape holds
unfoldable pub held_by : ℕ → ℕ
held_by shape = bit (eqb shape word)

abbrev pub or_else : Option Site → Option Site → Option Site
or_else (some s) o = some s
or_else none o = o

-- `complete`: the table holds every label of the text
abbrev pub located : List ℕ → Table → Bool → List ℕ → Option Site
located text table complete x = or_else (looked text table x) (cond complete none (first x (readings text)))
