-- What was stored at the front of a buffer.
use Rattle.std.specs.Prelude.{◌≡◌, List, ℕ, ◌≤◌, length, take}
use Rattle.std.proofs.Common.{sym, ap, ◌∙◌, zero-add, arith, take_at}
use Rattle.std.proofs.lemmas.List.Edits.{sets, sets-eq}

-- the front of the buffer is what was stored
pub front : (vs old new : List ℕ) (n : ℕ) → n ≡ length vs → n ≤ length old → new ≡ sets old 0 vs → take n new ≡ vs
front vs old new n l h e =
    let z = zero-add (length vs) in
    ap (take n) (e ∙ sets-eq vs old 0 (omega arith)) ∙ take_at vs _ n (sym l)
