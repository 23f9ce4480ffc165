-- Where a Bnz goes, by the distance that is added to pc or taken from it modulo 2^32.
use Rattle.std.specs.Prelude.{◌≡◌, ℕ, ◌+◌, ◌%◌, ◌^◌, ◌<◌, ◌≤◌}
use Rattle.std.proofs.Math.Path.{ap}
use Rattle.std.proofs.Common.{◌∙◌, arith}
use borrow.Author.Tests.{lt-ltb, le-ltb}
use Rattle.common.specs.Instructions.{minus}
use Rattle.arithmetic.specs.Targets.{branch_target}

difference : (x y r : ℕ) → x < 2 ^ 32 → y < 2 ^ 32 → r < 2 ^ 32 → (r + y) % 2 ^ 32 ≡ x → r ≡ minus x y
difference x y r hx hy hr e = omega arith

module _ (pc low r : ℕ) where
  pub is_forward : low < 32768 → r ≡ (pc + low) % 2 ^ 32 → r ≡ branch_target pc low
  unfolding branch_target
  is_forward h e = simp (lt-ltb low 32768 h, e)

  -- `by` is the distance
  pub is_back : 32768 ≤ low → low < 2 ^ 32 → (by : ℕ) → by < 2 ^ 32 → (by + low) % 2 ^ 32 ≡ 65536 → pc < 2 ^ 32 → r < 2 ^ 32 → (r + by) % 2 ^ 32 ≡ pc
      → r ≡ branch_target pc low
  unfolding branch_target
  is_back h hl by hb eb hp hr er =
      simp (le-ltb low 32768 h) (difference pc by r hp hb hr er ∙ ap (minus pc) (difference 65536 low by (omega arith) hl hb eb))
