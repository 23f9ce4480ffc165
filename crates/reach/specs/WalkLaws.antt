-- Laws of a walk that asks a test at each address: of a set pair by pair, and of a pair address by address.
use Rattle.std.specs.Prelude.{◌≡◌, refl, Bool, true, false, ◌&&◌}
use Rattle.std.proofs.Math.Path.{ap}
use Rattle.std.proofs.Common.{◌∙◌}
use Prim.Native.Nat.{ℕ, suc, ◌+◌, ◌-◌, ◌<◌, ◌≤◌}
use Rattle.std.proofs.Math.Numerals.{add-one}
use native.Mathlib.Omega.{arith}
use Rattle.common.specs.AddressSets.{Pair, all_from, within}
use Rattle.address_sets.specs.SetLaws.{Every}

abbrev pub passes : (ℕ → Bool) → Pair → Bool
passes test p = all_from test p.first (p.past - p.first)

pub every_within : (test : ℕ → Bool) → Every (λ ps. within ps test) (passes test)
unfolding within
every_within test = record { none = refl; more = λ p ps. refl }

-- ---- a test at each address of a range, from x on

module _ (test : ℕ → Bool) (x past : ℕ) where
  pub all_done : past ≤ x → all_from test x (past - x) ≡ true
  unfolding all_from
  all_done h = let e : past - x ≡ 0 = omega arith in simp e

  at_first : x < past → all_from test x (past - x) ≡ (test x && all_from test (x + 1) (past - (x + 1)))
  unfolding all_from
  at_first h = let e : past - x ≡ suc (past - (x + 1)) = omega arith in ap (all_from test x) e ∙ simp add-one

  pub all_next : x < past → test x ≡ true → all_from test x (past - x) ≡ all_from test (x + 1) (past - (x + 1))
  all_next h e = at_first h ∙ simp e

  pub all_not : x < past → test x ≡ false → all_from test x (past - x) ≡ false
  all_not h e = at_first h ∙ simp e
