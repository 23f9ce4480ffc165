-- The hash of what is left of the name, from the hash of what is passed.
use Rattle.std.proofs.Common.{◌≡◌, ◌<◌}
use Rattle.grammar.specs.Laws.Runs.{name_at}
use Rattle.label_table.specs.Table.{hash_on, hash}
use Rattle.label_table.proofs.hash.Given as goal

abbrev pub invariant-loop-p : goal.invariant-loop-p
invariant-loop-p l = (l.h < 1024) × (hash_on l.h (name_at l.text l.p) ≡ hash (name_at l.text l.place))
