-- The machine's counts of ones and of trailing zeros are a set's size and its lowest number.
use Rattle.std.specs.Prelude.{◌≡◌, refl, Bool, cond, ℕ, zero, suc, ◌+◌, ◌/◌, ◌%◌, ◌^◌, ◌<◌, eqb}
use Rattle.std.proofs.Common.{sym, ap, ◌∙◌, subst, div-one, le_of_suc-le-suc, not-suc-le-zero, mod-lt, div-lt_iff_lt-mul, pow-suc, add-suc, suc-add, add-zero, zero-add, one-add, add-one, arith, lit<, shr-shr}
use Rattle.std.proofs.Math.Arith.{lt-one}
use Rattle.std.specs.Int.Count.{ones, ones_step, count_trailing_zeros, under}
use Rattle.common.specs.Instructions.{bit}
use Rattle.rules.specs.Compartments.{member, size_below, lowest_from, lowest}

member_suc : (set c : ℕ) → member set (suc c) ≡ member (set / 2) c
unfolding member
member_suc set c = ap (λ (x : ℕ). eqb (x % 2) 1) (ap (λ (k : ℕ). set / 2 ^ k) (sym (one-add c)) ∙ sym (shr-shr set 1 c))

member_zero : (set : ℕ) → bit (member set 0) ≡ set % 2
unfolding member
member_zero set = ap (λ (x : ℕ). bit (eqb (x % 2) 1)) (div-one set) ∙ digit (set % 2) (mod-lt set (lit< tt))
  where
    digit : (d : ℕ) → d < 2 → bit (eqb d 1) ≡ d
    digit zero h = refl
    digit (suc zero) h = refl
    digit (suc (suc d)) h = absurd (not-suc-le-zero (le_of_suc-le-suc (le_of_suc-le-suc h)))

-- counted from the other end: the lowest bit, and those of the half
size_step : (k set : ℕ) → size_below (suc k) set ≡ set % 2 + size_below k (set / 2)
unfolding size_below
size_step zero set = let e = member_zero set in omega arith
size_step (suc k) set =
    let ih : size_below k set + bit (member set k) ≡ set % 2 + size_below k (set / 2) = size_step k set in
    let e : bit (member set (suc k)) ≡ bit (member (set / 2) k) = ap (λ (b : Bool). bit b) (member_suc set k) in
    omega arith

pub ones_size : (k set : ℕ) → set < 2 ^ k → ones set ≡ size_below k set
unfolding size_below ones
ones_size zero set h = ap ones (lt-one h)
ones_size (suc k) set h =
    ones_step set
    ∙ ap (λ (x : ℕ). set % 2 + x) (ones_size k (set / 2) ((div-lt_iff_lt-mul (lit< tt)).1 (subst (λ (x : ℕ). set < x) (pow-suc 2 k) h)))
    ∙ sym (size_step k set)

zeros_from : (k c set : ℕ) → c + count_trailing_zeros k (set / 2 ^ c) ≡ lowest_from k c set
unfolding count_trailing_zeros lowest_from member
zeros_from zero c set = add-zero c
zeros_from (suc k) c set = go (set / 2 ^ c % 2) refl (mod-lt (set / 2 ^ c) (lit< tt)) (zeros_from k (suc c) set)
  where
    half : set / 2 ^ c / 2 ≡ set / 2 ^ suc c
    half = shr-shr set c 1 ∙ ap (λ (m : ℕ). set / 2 ^ m) (add-one c)

    go : (d : ℕ) → set / 2 ^ c % 2 ≡ d → d < 2 → suc c + count_trailing_zeros k (set / 2 ^ suc c) ≡ lowest_from k (suc c) set
        → c + under d (count_trailing_zeros k (set / 2 ^ c / 2)) ≡ cond (eqb d 1) c (lowest_from k (suc c) set)
    go zero e l ih = ap (λ (x : ℕ). c + suc (count_trailing_zeros k x)) half ∙ add-suc c _ ∙ sym (suc-add c _) ∙ ih
    go (suc zero) e l ih = add-zero c
    go (suc (suc d)) e l ih = absurd (not-suc-le-zero (le_of_suc-le-suc (le_of_suc-le-suc l)))

pub zeros_lowest : (set : ℕ) → count_trailing_zeros 64 set ≡ lowest set
zeros_lowest set = ap (count_trailing_zeros 64) (sym (div-one set)) ∙ sym (zero-add _) ∙ zeros_from 64 0 set
