-- What is put has room.
use native.Mathlib.Omega.{arith}
use mathlib.Core.Path.{◌≡◌, ap, ◌∙◌}
use Prim.Native.Nat.{ℕ, ◌+◌, ◌-◌}
use Rattle.numerals.specs.Writing.{put}
use lib.ListN.{take, drop, length-drop}
use lib.Seq.{length-take-le}
use Rattle.disassembler.specs.Stores.{put_stored}
use Rattle.disassembler.proofs.names.store_part.Goals as goal

pub returns : goal.returns
returns c = let g = c.args in
    let d = length-drop g.first g.text.now in
    let l = length-take-le g.n (drop g.first g.text.now) (omega arith) in
    let e : g.first + g.n - g.first ≡ g.n = omega arith in
    put_stored _ _ _ _ _ (omega arith) (c.put_text.ensures ∙ ap (λ (k : ℕ). put (take k (drop g.first g.text.now)) g.at g.out.now) e)
