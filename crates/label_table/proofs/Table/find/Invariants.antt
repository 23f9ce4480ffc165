-- What is left to walk finds what the whole chain does.
use Rattle.std.proofs.Common.{◌≡◌, ◌-◌}
use Rattle.grammar.specs.Laws.Runs.{name_at}
use Rattle.label_table.specs.Table.{most, walk, looked}
use Rattle.label_table.proofs.Table.find.Given as goal

abbrev pub invariant-loop-turn : goal.invariant-loop-turn
invariant-loop-turn l = looked l.text l.self (name_at l.text l.place) ≡ walk l.text l.self (name_at l.text l.place) (most - l._turn) l.next
