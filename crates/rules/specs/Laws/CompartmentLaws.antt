-- Laws of compartment sets: who is a member after an insertion, that joining twice changes nothing, and how many members there can be.
use Rattle.std.specs.Prelude.{◌≡◌, refl, Bool, true, false, cond, ◌&&◌, ◌||◌, ◌≢◌, ℕ, zero, suc, ◌+◌, ◌-◌, ◌*◌, ◌/◌, ◌%◌, ◌^◌, ◌<◌, ◌≤◌, max, eqb, ltb, leb}
use Rattle.std.proofs.Common.{sym, ap, ap₂, ◌∙◌, one-mul, mod-lt, pow-suc, mul-div_cancel, le_of_suc-le-suc, not-suc-le-zero, eqb-true, leb-true, lt-ltb, le-leb, eq-eqb, ne_eqb, lit<, pow_pos, pow-add, pow_mono}
use Rattle.std.proofs.Math.Bool.{or-true, or-false, and-false}
use Rattle.std.proofs.Math.Nat.{mul-mod_left, div-eq_of_lt}
use native.Mathlib.Omega.{arith, ne_cases}
use Rattle.std.proofs.Math.Decide.{ℕ_discrete}
use Rattle.std.proofs.lemmas.Bool.{eqb-false, lt-leb}
use Rattle.std.specs.Int.Bits.{bit_or, or_zero_r, or_step, or_self}
use Rattle.std.proofs.lemmas.Nat.{or_shr, or_mod}
use Rattle.std.proofs.Math.Arith.{bin_ind, digits_mod}
use Rattle.std.proofs.Math.Pow.{pow-lt}
use Rattle.common.specs.Instructions.{bit}
use Rattle.common.specs.Services.{service_count, is_service_number}
use Rattle.common.proofs.Laws.ServiceLaws.{service_count_lem}
use Rattle.common.proofs.Laws.Tests.{bool_ext}
use Rattle.rules.specs.Compartments.{numbers, member, insert, empty, up_to, service_numbers, main_alone, size_below}

-- ---- bits of a sum of bits

digit_or : (a b m : ℕ) → bit_or a b / 2 ^ m % 2 ≡ bit_or (a / 2 ^ m % 2) (b / 2 ^ m % 2)
digit_or a b m = ap (λ (x : ℕ). x % 2) (or_shr a b m) ∙ or_mod (a / 2 ^ m) (b / 2 ^ m) 1

digit_same : (n : ℕ) → 2 ^ n / 2 ^ n % 2 ≡ 1
digit_same n = ap (λ (x : ℕ). x / 2 ^ n % 2) (sym (one-mul (2 ^ n))) ∙ ap (λ (x : ℕ). x % 2) (mul-div_cancel 1 (pow_pos n))

digit_above : (n m : ℕ) → n < m → 2 ^ n / 2 ^ m % 2 ≡ 0
digit_above n m h = ap (λ (x : ℕ). x % 2) (div-eq_of_lt (pow-lt h))

digit_below : (n m : ℕ) → m < n → 2 ^ n / 2 ^ m % 2 ≡ 0
digit_below n m h =
    let e : n ≡ suc (n - suc m) + m = omega arith in
    ap (λ (x : ℕ). 2 ^ x / 2 ^ m % 2) e
    ∙ ap (λ (x : ℕ). x / 2 ^ m % 2) (pow-add 2 (suc (n - suc m)) m)
    ∙ ap (λ (x : ℕ). x % 2) (mul-div_cancel (2 ^ suc (n - suc m)) (pow_pos m))
    ∙ ap (λ (x : ℕ). x % 2) (pow-suc 2 (n - suc m))
    ∙ mul-mod_left (2 ^ (n - suc m)) 2

digit_other : (n m : ℕ) → n ≢ m → 2 ^ n / 2 ^ m % 2 ≡ 0
digit_other n m ne = ne_cases n m (2 ^ n / 2 ^ m % 2 ≡ 0) ne (digit_above n m) (digit_below n m)

or_one : (x : ℕ) → x < 2 → bit_or x 1 ≡ 1
or_one zero h = refl
or_one (suc zero) h = refl
or_one (suc (suc x)) h = absurd (not-suc-le-zero (le_of_suc-le-suc (le_of_suc-le-suc h)))

-- ---- membership

pub eqb_swap : (a b : ℕ) → eqb a b ≡ eqb b a
eqb_swap a b = bool_ext (eqb a b) (eqb b a) (λ h. eq-eqb b a (sym (eqb-true a b h))) (λ h. eq-eqb a b (sym (eqb-true b a h)))

pub member_empty : (c : ℕ) → member empty c ≡ false
unfolding member
member_empty c = ap (λ (x : ℕ). eqb (x % 2) 1) (div-eq_of_lt (pow_pos c))

-- no number from 64 on is in a 64-bit set
pub member_high : (set c : ℕ) → set < 2 ^ numbers → numbers ≤ c → member set c ≡ false
unfolding member
member_high set c fits h = ap (λ (x : ℕ). eqb (x % 2) 1) (div-eq_of_lt (below (pow_mono h)))
  where
    below : 2 ^ numbers ≤ 2 ^ c → set < 2 ^ c
    below p = omega arith

-- the law that every caller goes by: c is in the set after n joined when it was before, or is n
pub member_insert : (set n c : ℕ) → n < numbers → member (insert set n) c ≡ (member set c || eqb c n)
unfolding member insert
member_insert set n c h = simp (lt-ltb n numbers h) (go (eqb c n) refl)
  where
    go : (b : Bool) → eqb c n ≡ b → eqb (bit_or set (2 ^ n) / 2 ^ c % 2) 1 ≡ (eqb (set / 2 ^ c % 2) 1 || eqb c n)
    go true e =
        let s : c ≡ n = eqb-true c n e in
        let d : 2 ^ n / 2 ^ c % 2 ≡ 1 = ap (λ (x : ℕ). 2 ^ n / 2 ^ x % 2) s ∙ digit_same n in
        let f : bit_or set (2 ^ n) / 2 ^ c % 2 ≡ 1 = digit_or set (2 ^ n) c ∙ ap (bit_or (set / 2 ^ c % 2)) d ∙ or_one (set / 2 ^ c % 2) (mod-lt (set / 2 ^ c) (lit< tt)) in
        simp (f, e, or-true)
    go false e =
        let d = digit_other n c (λ (s : n ≡ c). eqb-false c n e (sym s)) in
        let f : bit_or set (2 ^ n) / 2 ^ c % 2 ≡ set / 2 ^ c % 2 = digit_or set (2 ^ n) c ∙ ap (bit_or (set / 2 ^ c % 2)) d ∙ or_zero_r (set / 2 ^ c % 2) in
        simp (f, e, or-false)

or_twice : (a b : ℕ) → bit_or (bit_or a b) b ≡ bit_or a b
or_twice a b = bin_ind (λ (n : ℕ). (b : ℕ) → bit_or (bit_or n b) b ≡ bit_or n b) (λ b. or_self b) (λ n ih b. or_step (bit_or n b) b
    ∙ ap₂ (λ (x y : ℕ). bit_or x (b / 2) * 2 + max y (b % 2)) (or_shr n b 1) (digit0 n b)
    ∙ ap₂ (λ (x y : ℕ). x * 2 + y) (ih (b / 2)) (max_twice (n % 2) (b % 2)) ∙ sym (or_step n b)) a b
  where
    max_lt : (x y : ℕ) → x < 2 → y < 2 → max x y < 2
    max_lt x y p q = omega arith

    digit0 : (n b : ℕ) → bit_or n b % 2 ≡ max (n % 2) (b % 2)
    digit0 n b = ap (λ (x : ℕ). x % 2) (or_step n b) ∙ digits_mod (bit_or (n / 2) (b / 2)) (max_lt (n % 2) (b % 2) (mod-lt n (lit< tt)) (mod-lt b (lit< tt)))

    max_twice : (x y : ℕ) → max (max x y) y ≡ max x y
    max_twice x y = omega arith

-- "joining twice changes nothing"
pub insert_twice : (set n : ℕ) → insert (insert set n) n ≡ insert set n
unfolding insert
insert_twice set n = go (ltb n numbers)
  where
    go : (b : Bool) → cond b (bit_or (cond b (bit_or set (2 ^ n)) set) (2 ^ n)) (cond b (bit_or set (2 ^ n)) set) ≡ cond b (bit_or set (2 ^ n)) set
    go true = or_twice set (2 ^ n)
    go false = refl

-- 1 to k, whatever k
member_up_to : (k c : ℕ) → k < numbers → member (up_to k) c ≡ (leb 1 c && leb c k)
unfolding up_to
member_up_to zero zero h = member_empty 0
member_up_to zero (suc c) h = member_empty (suc c) ∙ sym (simp (lt-leb (suc c) 0 (omega arith), and-false))
member_up_to (suc k) c h = member_insert (up_to k) (suc k) c h ∙ simp (member_up_to k c (omega arith)) (go (ℕ_discrete c (suc k)))
  where
    go : Dec (c ≡ suc k) → ((leb 1 c && leb c k) || eqb c (suc k)) ≡ (leb 1 c && leb c (suc k))
    go (yes e) = simp (eq-eqb c (suc k) e, or-true, le-leb 1 c (omega arith), le-leb c (suc k) (omega arith))
    go (no e) =
        let same : leb c k ≡ leb c (suc k) =
        bool_ext (leb c k) (leb c (suc k)) (λ h. let l = leb-true c k h in le-leb c (suc k) (omega arith)) (λ h. let l = leb-true c (suc k) h in le-leb c k (omega arith)) in
        simp (ne_eqb c (suc k) e, or-false, same)

-- the two sets that stand after loading
pub member_services : (m : Bool) (c : ℕ) → member (service_numbers m) c ≡ is_service_number m c
unfolding service_numbers is_service_number
member_services m c = let k = service_count_lem m in member_up_to (service_count m) c (omega (arith, k.1))

pub member_main : (c : ℕ) → member main_alone c ≡ eqb c 0
unfolding main_alone
member_main c = simp (member_insert empty 0 c (lit< tt), member_empty c)

-- ---- how many

pub bit_most : (b : Bool) → bit b ≤ 1
bit_most true = omega arith
bit_most false = omega arith

pub size_most : (k set : ℕ) → size_below k set ≤ k
unfolding size_below
size_most zero set = omega arith
size_most (suc k) set = let h = size_most k set in let b = bit_most (member set k) in omega arith
