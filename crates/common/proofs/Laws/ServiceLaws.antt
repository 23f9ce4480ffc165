-- Laws of the service addresses and of the numbers that own them, in either mode.
use Rattle.std.specs.Prelude.{◌≡◌, refl, Bool, true, false, ◌≢◌, ℕ, ◌+◌, ◌-◌, ◌≤◌, ◌<◌, ltb, leb}
use Rattle.std.proofs.Common.{arith}
use borrow.Author.Tests.{ltb-true, leb-true, le-leb, lt-leb, lt-ltb, le-ltb}
use Rattle.common.specs.Services.{isolate, add_jump_target, add_store_target, add_read_target, service_count, is_service, service_at, is_service_number}
use Rattle.common.proofs.Laws.Tests.{both, clash}

-- all that most laws need of how many there are
pub service_count_lem : (m : Bool) → (3 ≤ service_count m) × (service_count m ≤ 4)
unfolding service_count
service_count_lem true = (omega arith, omega arith)
service_count_lem false = (omega arith, omega arith)

module _ (m : Bool) where
  pub service_range : (x : ℕ) → is_service m x ≡ true → (isolate ≤ x) × (x < isolate + service_count m)
  unfolding is_service
  service_range x h = let t = both (leb isolate x) (ltb x (isolate + service_count m)) h in (leb-true _ _ t.0, ltb-true _ _ t.1)

  -- the first three are there in either mode
  pub is_service_lem : (x : ℕ) → isolate ≤ x → x ≤ add_store_target → is_service m x ≡ true
  unfolding is_service
  is_service_lem x l u = let k = service_count_lem m in simp (le-leb isolate x l, lt-ltb x (isolate + service_count m) (omega (arith, k.0)))

  -- and the fourth in strict mode
  pub is_fourth : m ≡ true → is_service m add_read_target ≡ true
  unfolding is_service service_count
  is_fourth e = simp e

  -- what is below the services is none
  pub no_service : (x : ℕ) → x < isolate → is_service m x ≡ false
  unfolding is_service
  no_service x h = simp (lt-leb isolate x h)

  -- a service number owns each service
  pub service_number : (x : ℕ) → is_service m x ≡ true → is_service_number m (service_at x) ≡ true
  unfolding service_at is_service_number
  service_number x h =
      let r : (isolate ≤ x) × (x < isolate + service_count m) = service_range x h in
      simp (le-leb 1 (x - (isolate - 1)) (omega arith), le-leb (x - (isolate - 1)) (service_count m) (omega arith))

  pub service_small : (x : ℕ) → is_service m x ≡ true → service_at x ≤ service_count m
  unfolding is_service_number
  service_small x h = leb-true _ _ (both (leb 1 (service_at x)) (leb (service_at x) (service_count m)) (service_number x h)).1

-- a fourth service is there in strict mode alone
pub fourth_strict : (m : Bool) (x : ℕ) → is_service m x ≡ true → x ≢ isolate → x ≢ add_jump_target → x ≢ add_store_target → m ≡ true
unfolding service_count
fourth_strict true x h a b c = refl
fourth_strict false x h a b c = let r : (4096 ≤ x) × (x < 4099) = service_range false x h in absurd (omega arith)

-- and what is none of them is no service
pub other_place : (m : Bool) (x : ℕ) → x ≢ isolate → x ≢ add_jump_target → x ≢ add_store_target → (x ≡ add_read_target → m ≡ false) → is_service m x ≡ false
unfolding is_service service_count
other_place m x a b c d = go (leb isolate x) m refl refl
  where
    go : (t n : Bool) → leb isolate x ≡ t → m ≡ n → is_service m x ≡ false
    go false n e f = simp e
    go true false e f = let l = leb-true isolate x e in simp (e, f, le-ltb x 4099 (omega arith))
    go true true e f =
        let l = leb-true isolate x e in
        let n : x ≢ 4099 = λ z. clash f (d z) in
        simp (e, f, le-ltb x 4100 (omega arith))
