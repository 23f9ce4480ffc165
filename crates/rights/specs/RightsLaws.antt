-- Whether an owner may run.
use Rattle.std.specs.Prelude.{◌≡◌, refl, Bool, true, false, ℕ, ◌<◌, leb}
use Rattle.std.proofs.Math.Bool.{or-true}
use Rattle.std.proofs.Common.{leb-false}
use Rattle.common.proofs.Laws.Tests.{clash}
use Rattle.rights.specs.Rights.{free}

pub free_below : (strict : Bool) (owner next : ℕ) → free strict owner next ≡ true → owner < next
unfolding free
free_below strict owner next h = go (leb next owner) refl
  where
    go : (t : Bool) → leb next owner ≡ t → owner < next
    go true e = clash h (simp (e, or-true))
    go false e = leb-false next owner e
