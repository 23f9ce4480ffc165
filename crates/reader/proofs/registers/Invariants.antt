-- The registers read so far stand over zeros.
use Rattle.std.proofs.Common.{◌≡◌, replicate}
use Rattle.rules.specs.Images.{fields, over}
use Rattle.reader.proofs.registers.Given as goal

abbrev pub invariant-loop-i : goal.invariant-loop-i
invariant-loop-i l = l.regs ≡ over (fields l.bytes l.at l.i) (replicate 16 0)
