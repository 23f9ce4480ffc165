-- No number from the place reached on is listed.
use native.Mathlib.Omega.{arith}
use Prim.Native.Nat.{◌-◌}
use Rattle.images.specs.Listed.{listed_short, listed_past, listed_less}
use Rattle.writer.proofs.sections.listed_count.Goals as goal

pub loop-k-init : goal.loop-k-init
loop-k-init c = listed_short c.args.regs.now

pub returns-then-regs-k-ne0 : goal.returns-then-regs-k-ne0
returns-then-regs-k-ne0 c = let h = listed_past c.args.regs.now (c.loop-k.k - 1) c.if-regs-k-ne0.true in omega arith

pub loop-k-preserved : goal.loop-k-preserved
loop-k-preserved c = listed_less c.args.regs.now c.loop-k.k (omega arith) c.loop-k.invariant c.if-regs-k-ne0.false
