-- The words are the same if what is left of them is.
use mathlib.Core.Path.{◌≡◌}
use Prim.Native.Nat.{◌-◌}
use lib.ListN.{length}
use Rattle.grammar.specs.Laws.Runs.{name_at}
use Rattle.grammar.specs.Reading.Lexer.{same}
use Rattle.tokens.proofs.same_name.Given as goal

abbrev pub invariant-loop-p : goal.invariant-loop-p
invariant-loop-p l = same (name_at l.text l.a) (name_at l.text l.b) ≡ same (name_at l.text l.p) (name_at l.text l.q)

abbrev pub decreases-loop-p : goal.decreases-loop-p
decreases-loop-p l = length l.text - l.p
