-- Each return is a law of the specs.
use Rattle.disassembler.specs.Verdicts.{no_words, many_words, short_buffer, has_room}
use Rattle.disassembler.proofs.check.Goals as goal
use Rattle.disassembler.proofs.check.Goals.{then-n-lt1-via-then-n-lt1, then-n-lt1-via-else-n-lt1+then-n-gt-MOST}

pub returns-then-n-lt1 : goal.returns-then-n-lt1
returns-then-n-lt1 c =
    elim c.then-n-lt1.branch [
      | then-n-lt1-via-then-n-lt1 w ↦ no_words _ _ w.if-n-lt1.true
      | then-n-lt1-via-else-n-lt1+then-n-gt-MOST w ↦ many_words _ _ w.if-n-gt-MOST.true
    ]

pub returns-then-not-has_room : goal.returns-then-not-has_room
returns-then-not-has_room c = short_buffer _ _ c.if-n-lt1.false c.if-n-gt-MOST.false _ c.has_room.ensures c.if-not-has_room.true

pub returns : goal.returns
returns c = has_room _ _ c.if-n-lt1.false c.if-n-gt-MOST.false _ c.has_room.ensures c.if-not-has_room.false
