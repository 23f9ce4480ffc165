-- Check by check, as the laws of the verdict say.
use native.Mathlib.Omega.{arith}
use Rattle.images.specs.Listed.{short}
use Rattle.writer.specs.Writing.{no_words, many_words, bad_entry, short_buffer, has_room}
use Rattle.writer.proofs.check.Goals as goal
use Rattle.writer.proofs.check.Goals.{then-n-lt1-via-then-n-lt1, then-n-lt1-via-else-n-lt1+then-n-gt-MOST}

pub returns-then-n-lt1 : goal.returns-then-n-lt1
returns-then-n-lt1 c =
    elim c.then-n-lt1.branch [
      | then-n-lt1-via-then-n-lt1 w ↦ no_words _ _ _ _ w.if-n-lt1.true
      | then-n-lt1-via-else-n-lt1+then-n-gt-MOST w ↦ many_words _ _ _ _ w.if-n-lt1.false w.if-n-gt-MOST.true
    ]

pub returns-then-n-entry : goal.returns-then-n-entry
returns-then-n-entry c = bad_entry _ _ _ _ c.if-n-lt1.false c.if-n-gt-MOST.false c.if-n-entry.true

pub overflow_mul-k : goal.overflow_mul-k
overflow_mul-k c = let k = short c.args.regs.now _ c.listed_count-k.ensures c.told-regs in omega arith

pub overflow_add-n-2 : goal.overflow_add-n-2
overflow_add-n-2 c = let k = short c.args.regs.now _ c.listed_count-k.ensures c.told-regs in omega arith

pub returns-then-out-n : goal.returns-then-out-n
returns-then-out-n c = short_buffer _ c.args.regs.now _ _ c.if-n-lt1.false c.if-n-gt-MOST.false c.if-n-entry.false _ c.listed_count-k.ensures c.if-out-n.true

pub returns : goal.returns
returns c = has_room _ c.args.regs.now _ _ c.if-n-lt1.false c.if-n-gt-MOST.false c.if-n-entry.false _ c.listed_count-k.ensures c.if-out-n.false
