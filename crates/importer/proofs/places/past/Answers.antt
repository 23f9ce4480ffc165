-- No place from the one reached on has its byte.
use Rattle.std.proofs.Common.{◌≡◌, ◌-◌, ◌+◌, sym, ap, ◌∙◌, arith}
use lib.Seq.{take-length}
use Rattle.intel_hex.specs.Importing as hex
use Rattle.importer.specs.PlaceLaws.{past_here, past_less, past_start}
use Rattle.importer.proofs.places.past.Goals as goal

pub loop-k-init : goal.loop-k-init
loop-k-init c = ap hex.past (sym (take-length _))

pub returns-then-memory-k-lt-NONE : goal.returns-then-memory-k-lt-NONE
returns-then-memory-k-lt-NONE c =
    let e : c.loop-k.k - 1 + 1 ≡ c.loop-k.k = omega arith in
    e ∙ past_here _ _ c.loop-k-test.true c.loop-k.auto.k c.if-memory-k-lt-NONE.true ∙ sym c.loop-k.invariant

pub loop-k-preserved : goal.loop-k-preserved
loop-k-preserved c = c.loop-k.invariant ∙ past_less _ _ c.loop-k-test.true c.loop-k.auto.k c.if-memory-k-lt-NONE.false

pub returns : goal.returns
returns c = past_start _ _ c.loop-k-test.false ∙ sym c.loop-k.invariant
