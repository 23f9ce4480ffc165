-- What an answer of 0 says of the tests in a chain of checks.
use Rattle.std.specs.Prelude.{◌≡◌, refl, Bool, true, false, cond, ℕ, suc, eqb}
use Rattle.std.proofs.Common.{arith, eqb-true, eq-eqb}
use Rattle.std.proofs.lemmas.Bool.{eqb-false}
use Rattle.common.proofs.Laws.Tests.{clash}

-- ---- the first test of a chain

pub took : (b : Bool) (x k : ℕ) → cond b x (suc k) ≡ 0 → (b ≡ true) × (x ≡ 0)
took true x k h = (refl, h)
took false x k h = absurd (omega arith)

-- the same of a test that asks whether x is 0 and else hands x on
pub took_zero : (x y : ℕ) → cond (eqb x 0) y x ≡ 0 → (x ≡ 0) × (y ≡ 0)
took_zero x y h = go (eqb x 0) refl h
  where
    go : (b : Bool) → eqb x 0 ≡ b → cond b y x ≡ 0 → (x ≡ 0) × (y ≡ 0)
    go true e k = (eqb-true x 0 e, k)
    go false e k = absurd (eqb-false x 0 e k)

pub passed : (b : Bool) (x k : ℕ) → cond b (suc k) x ≡ 0 → (b ≡ false) × (x ≡ 0)
passed true x k h = absurd (omega arith)
passed false x k h = (refl, h)

-- ---- a test anywhere in a chain

-- without it the chain does not answer 0
pub needs : (b : Bool) (v : ℕ) → (b ≡ false → eqb v 0 ≡ false) → v ≡ 0 → b ≡ true
needs true v f h = refl
needs false v f h = clash (eq-eqb v 0 h) (f refl)

-- a comparison goes to both ends, and where both are the same the test between them does not matter
pub eqb_cond : (b : Bool) (x y k : ℕ) → eqb (cond b x y) k ≡ cond b (eqb x k) (eqb y k)
eqb_cond true x y k = refl
eqb_cond false x y k = refl

pub cond_same {ℓ} : {A : Type ℓ} (b : Bool) (x : A) → cond b x x ≡ x
cond_same true x = refl
cond_same false x = refl
