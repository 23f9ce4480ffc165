-- After the count, the numbers put so far are stored one after the other.
use Rattle.std.proofs.Common.{◌≡◌, ◌+◌, ◌*◌, take}
use Rattle.std.proofs.Math.Seq.{sets}
use Rattle.rules.specs.Images.{all_bytes}
use Rattle.writer.proofs.sections.put_section.Given as goal

abbrev pub invariant-loop-number : goal.invariant-loop-number
invariant-loop-number l = (l.end ≡ l.at + 4 + 4 * l.number-index) × (l.out ≡ sets l.initial.out (l.at + 4) (all_bytes (take l.number-index l.numbers)))
