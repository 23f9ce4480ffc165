-- Where the code has a branch go, for any low part; an instruction's own is the rules' (the last law).
use Rattle.std.specs.Prelude.{◌≡◌, ℕ, ◌-◌, ◌<◌, Bool, true, false, cond, nat_lt, refl}
use Rattle.std.proofs.Common.{arith}
use Rattle.common.specs.Instructions.{plus, minus, branch}

unfoldable pub branch_target : ℕ → ℕ → ℕ
branch_target pc low = cond (nat_lt low 32768) (plus pc low) (minus pc (minus 65536 low))

pub is_branch : (pc low : ℕ) → low < 65536 → branch_target pc low ≡ branch pc low
unfolding branch_target branch
is_branch pc low h = go (nat_lt low 32768) refl
  where
    go : (t : Bool) → nat_lt low 32768 ≡ t → branch_target pc low ≡ branch pc low
    go true e = simp e
    go false e = let z : minus pc (minus 65536 low) ≡ minus pc (65536 - low) = omega arith in simp e z
