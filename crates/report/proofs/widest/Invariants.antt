-- The most of the words before x.
use Rattle.std.proofs.Common.{◌≡◌, ℕ, List, get_or}
use Rattle.rules.specs.Counts.{most_below, writer_count}
use Rattle.report.proofs.widest.Given as goal

-- how many may write to the word at x
abbrev pub at : List ℕ → List ℕ → ℕ → ℕ
at owners writers x = writer_count (get_or owners x 0) (get_or writers x 0)

abbrev pub invariant-loop-x : goal.invariant-loop-x
invariant-loop-x l = l.most ≡ most_below l.x (at l.owners l.writers)
