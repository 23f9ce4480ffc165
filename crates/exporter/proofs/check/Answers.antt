-- Each return is a law of the specs.
use native.Mathlib.Omega.{arith}
use Rattle.exporter.specs.Verdicts.{no_words, many_words, short_buffer, has_room}
use Rattle.exporter.proofs.check.Goals as goal
use Rattle.exporter.proofs.check.Goals.{then-n-lt1-via-then-n-lt1, then-n-lt1-via-else-n-lt1+then-n-gt-MOST}

pub returns-then-n-lt1 : goal.returns-then-n-lt1
returns-then-n-lt1 c =
    elim c.then-n-lt1.branch [
      | then-n-lt1-via-then-n-lt1 w ↦ no_words _ _ w.if-n-lt1.true
      | then-n-lt1-via-else-n-lt1+then-n-gt-MOST w ↦ many_words _ _ w.if-n-lt1.false w.if-n-gt-MOST.true
    ]

pub returns-then-out-n : goal.returns-then-out-n
returns-then-out-n c = short_buffer _ _ c.if-n-lt1.false c.if-n-gt-MOST.false (omega arith)

pub returns : goal.returns
returns c = has_room _ _ c.if-n-lt1.false c.if-n-gt-MOST.false (omega arith)
