-- Numbers stored one after the other.
use Rattle.std.specs.Prelude.{◌≡◌, List, [], ◌∷◌, ◌++◌, ℕ, suc, ◌+◌, ◌≤◌, length, set, drop}
use Rattle.std.proofs.Common.{ap, ◌∙◌, add-zero, zero-add, arith}
use Rattle.std.proofs.lemmas.List.Edits.{sets, sets-eq}
use Rattle.rules.specs.Images.{over}

sets_append : (l : List ℕ) (i : ℕ) (vs us : List ℕ) → sets (sets l i vs) (i + length vs) us ≡ sets l i (vs ++ us)
sets_append l i [] us = rw add-zero
sets_append l i (v ∷ vs) us =
    let e : i + suc (length vs) ≡ suc i + length vs = omega arith in rw e (sets_append (set l i v) (suc i) vs us)

-- ..where the place that the first leave is known
pub sets_then : (l : List ℕ) (i j : ℕ) (vs us : List ℕ) → j ≡ i + length vs → sets (sets l i vs) j us ≡ sets l i (vs ++ us)
sets_then l i j vs us e = rw e (sets_append l i vs us)

-- stored from the start
pub sets_over : (vs l : List ℕ) → length vs ≤ length l → sets l 0 vs ≡ over vs l
sets_over vs l h = let e = zero-add (length vs) in sets-eq vs l 0 (omega arith) ∙ ap (λ (k : ℕ). vs ++ drop k l) e
