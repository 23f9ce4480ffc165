-- Counts of addresses, place by place: what one change of the owners or of the sets of a list adds or takes.
use Rattle.std.specs.Prelude.{◌≡◌, refl, Bool, true, false, ◌&&◌, not, List, ◌≢◌, ◌⊎◌, ℕ, zero, suc, ◌+◌, ◌*◌, ◌/◌, ◌%◌, ◌^◌, ◌≤◌, ◌<◌, max, eqb, get_or, length, set}
use Rattle.std.proofs.Math.Path.{sym}
use Rattle.std.proofs.Common.{ap, ap₂, ◌∙◌, subst, ⊎_elim, arith, zero-add, add-zero, pow-suc, eqb-true, eq-eqb, ne_eqb, lt-ltb, get_or-set_same, get_or-set_other, shr-shr}
use Rattle.std.proofs.Math.Bool.{or-true, or-false}
use Rattle.std.proofs.Math.Decide.{ℕ_discrete}
use Rattle.std.specs.Int.Bits.{bit_or, or_step, or_zero_r}
use Rattle.common.specs.Instructions.{bit}
use Rattle.common.proofs.Laws.Tests.{clash}
use Rattle.rules.specs.Compartments.{numbers, member, insert}
use Rattle.rules.specs.Laws.CompartmentLaws.{member_insert, bit_most}
use Rattle.rules.specs.Counts.{count_from}

pub count_most : (test : ℕ → Bool) (k : ℕ) → count_from test 0 k ≤ k
unfolding count_from
count_most test zero = omega arith
count_most test (suc k) = let h = count_most test k in let b = bit_most (test (0 + k)) in omega arith

-- two tests that agree on the way
pub count_same : (t u : ℕ → Bool) (x k : ℕ) → ((y : ℕ) → x ≤ y → y < x + k → t y ≡ u y) → count_from t x k ≡ count_from u x k
unfolding count_from
count_same t u x zero h = refl
count_same t u x (suc k) h =
    ap₂ (λ (m : ℕ) (b : Bool). m + bit b) (count_same t u x k (λ y l m. h y l (omega arith))) (h (x + k) (omega arith) (omega arith))

-- a test that holds nowhere
pub count_none : (t : ℕ → Bool) (k : ℕ) → ((y : ℕ) → y < k → t y ≡ false) → count_from t 0 k ≡ 0
unfolding count_from
count_none t zero h = refl
count_none t (suc k) h =
    let ih : count_from t 0 k ≡ 0 = count_none t k (λ y l. h y (omega arith)) in
    let e : t (0 + k) ≡ false = ap t (zero-add k) ∙ h k (omega arith) in
    simp (ih, e)

-- a test that holds at one place at most
pub count_one : (t : ℕ → Bool) (x k : ℕ) → x < k → ((y : ℕ) → y ≢ x → t y ≡ false) → count_from t 0 k ≡ bit (t x)
unfolding count_from
count_one t x zero h none = absurd (omega arith)
count_one t x (suc k) h none = go (ℕ_discrete k x) (λ l. count_one t x k l none)
  where
    go : Dec (k ≡ x) → (x < k → count_from t 0 k ≡ bit (t x)) → count_from t 0 k + bit (t (0 + k)) ≡ bit (t x)
    go (yes e) ih = ap₂ (λ (a b : ℕ). a + bit (t b)) (count_none t k (λ y l. none y (omega arith))) (zero-add k ∙ e) ∙ zero-add _
    go (no ne) ih =
        let z : t (0 + k) ≡ false = ap t (zero-add k) ∙ none k ne in
        ap₂ (λ (a : ℕ) (b : Bool). a + bit b) (ih (omega arith)) z ∙ add-zero _

-- a test that holds everywhere
pub count_all : (t : ℕ → Bool) (x k : ℕ) → ((y : ℕ) → x ≤ y → y < x + k → t y ≡ true) → count_from t x k ≡ k
unfolding count_from
count_all t x zero h = refl
count_all t x (suc k) h =
    let ih : count_from t x k ≡ k = count_all t x k (λ y l m. h y l (omega arith)) in
    let e : bit (t (x + k)) ≡ 1 = ap bit (h (x + k) (omega arith) (omega arith)) in
    omega arith

-- where at every place two tests are together a third, the counts are so too
pub count_sum : (t u v : ℕ → Bool) (k : ℕ) → ((y : ℕ) → y < k → bit (t y) + bit (u y) ≡ bit (v y)) → count_from t 0 k + count_from u 0 k ≡ count_from v 0 k
unfolding count_from
count_sum t u v zero h = refl
count_sum t u v (suc k) h =
    let ih : count_from t 0 k + count_from u 0 k ≡ count_from v 0 k = count_sum t u v k (λ y l. h y (omega arith)) in
    let e : bit (t (0 + k)) + bit (u (0 + k)) ≡ bit (v (0 + k)) = h (0 + k) (omega arith) in
    omega arith

-- counted from another place on
pub count_shift : (t : ℕ → Bool) (x k : ℕ) → count_from t x k ≡ count_from (λ i. t (x + i)) 0 k
unfolding count_from
count_shift t x zero = refl
count_shift t x (suc k) = ap₂ (λ (m n : ℕ). m + bit (t (x + n))) (count_shift t x k) (sym (zero-add k))

-- ---- lists of tags

-- the first n places that have this owner, and those whose set has this number
abbrev pub owning : ℕ → List ℕ → ℕ → ℕ
owning n owners c = count_from (λ x. eqb (get_or owners x 0) c) 0 n

abbrev pub having : ℕ → List ℕ → ℕ → ℕ
having n sets c = count_from (λ x. member (get_or sets x 0) c) 0 n

abbrev pub differs : ℕ → ℕ → Bool
differs a b = not (eqb a b)

-- at how many of the first n places two lists differ
unfoldable pub differing : ℕ → List ℕ → List ℕ → ℕ
differing n l m = count_from (λ x. differs (get_or l x 0) (get_or m x 0)) 0 n

pub differing_most : (n : ℕ) (l m : List ℕ) → differing n l m ≤ n
unfolding differing
differing_most n l m = count_most _ n

-- lists that are the same at those places
pub differing_none : (n : ℕ) (l : List ℕ) → differing n l l ≡ 0
unfolding differing
differing_none n l = count_none _ n (λ x h. simp (eq-eqb (get_or l x 0) (get_or l x 0) refl))

-- a place that is written over, having been as it was
pub differing_set : (n : ℕ) (l m : List ℕ) (x v : ℕ) → x < n → x < length m → get_or m x 0 ≡ get_or l x 0 → differing n l (set m x v) ≡ differing n l m + bit (differs (get_or m x 0) v)
unfolding differing
differing_set n l m x v h k e =
    sym (ap (λ (d : ℕ). differing n l m + d) (sym (count_one here x n h (λ y ne. simp (ne_eqb y x ne)) ∙ simp (eq-eqb x x refl)))
    ∙ count_sum (λ y. differs (get_or l y 0) (get_or m y 0)) here (λ y. differs (get_or l y 0) (get_or (set m x v) y 0)) n (λ y g. go y (ℕ_discrete y x)))
  where
    here : ℕ → Bool
    here y = eqb y x && differs (get_or m x 0) v

    go : (y : ℕ) → Dec (y ≡ x) → bit (differs (get_or l y 0) (get_or m y 0)) + bit (here y) ≡ bit (differs (get_or l y 0) (get_or (set m x v) y 0))
    go y (yes q) =
        subst (λ (z : ℕ). bit (differs (get_or l z 0) (get_or m z 0)) + bit (here z) ≡ bit (differs (get_or l z 0) (get_or (set m x v) z 0))) (sym q)
        (simp (get_or-set_same m x v 0 k, ← e, eq-eqb (get_or m x 0) (get_or m x 0) refl, eq-eqb x x refl, zero-add))
    go y (no ne) = simp (get_or-set_other m x y v 0 ne, ne_eqb y x ne, add-zero)

-- one change after another, of which no place has both
pub differing_then : (n : ℕ) (l m o : List ℕ) → ((x : ℕ) → x < n → (get_or m x 0 ≡ get_or l x 0) ⊎ (get_or o x 0 ≡ get_or m x 0)) → differing n l o ≡ differing n l m + differing n m o
unfolding differing
differing_then n l m o h = sym (count_sum _ _ _ n (λ x g. go (get_or l x 0) (get_or m x 0) (get_or o x 0) (h x g)))
  where
    go : (a b c : ℕ) → (b ≡ a) ⊎ (c ≡ b) → bit (differs a b) + bit (differs b c) ≡ bit (differs a c)
    go a b c = ⊎_elim (λ (e : b ≡ a). simp (e, eq-eqb a a refl, zero-add)) (λ (e : c ≡ b). simp (e, eq-eqb b b refl, add-zero))

-- ---- a number that joins a set

-- a bit that is set already
or_there : (k a : ℕ) → a / 2 ^ k % 2 ≡ 1 → bit_or a (2 ^ k) ≡ a
or_there zero a h =
    let m : a % 2 ≡ 1 = omega arith in
    or_step a 1 ∙ ap₂ (λ (x y : ℕ). x * 2 + max y 1) (or_zero_r (a / 2)) m ∙ omega arith
or_there (suc k) a h = or_step a (2 ^ suc k) ∙ ap₂ (λ (x y : ℕ). bit_or (a / 2) x * 2 + max (a % 2) y) half even ∙ ap (λ (x : ℕ). x * 2 + max (a % 2) 0) (or_there k (a / 2) low) ∙ omega arith
  where
    half : 2 ^ suc k / 2 ≡ 2 ^ k
    half = let e : 2 ^ suc k ≡ 2 ^ k * 2 = pow-suc 2 k in omega arith

    even : 2 ^ suc k % 2 ≡ 0
    even = let e : 2 ^ suc k ≡ 2 ^ k * 2 = pow-suc 2 k in omega arith

    one-add : (k : ℕ) → 1 + k ≡ suc k
    one-add k = omega arith

    low : a / 2 / 2 ^ k % 2 ≡ 1
    low = ap (λ (x : ℕ). x % 2) (shr-shr a 1 k ∙ ap (λ (j : ℕ). a / 2 ^ j) (one-add k)) ∙ h

insert_there : (set k : ℕ) → k < numbers → member set k ≡ true → insert set k ≡ set
unfolding member insert
insert_there set k h e = simp (lt-ltb k numbers h) (or_there k set (eqb-true _ _ e))

-- joining changes the set where the number was not in it
pub insert_adds : (set k : ℕ) → k < numbers → bit (member set k) + bit (differs set (insert set k)) ≡ bit (member (insert set k) k)
insert_adds set k h = go (member set k) refl
  where
    now_in : member (insert set k) k ≡ true
    now_in = member_insert set k k h ∙ simp (eq-eqb k k refl, or-true)

    go : (b : Bool) → member set k ≡ b → bit (member set k) + bit (differs set (insert set k)) ≡ bit (member (insert set k) k)
    go true e = simp (insert_there set k h e, e, eq-eqb set set refl)
    go false e = let n : eqb set (insert set k) ≡ false = ne_eqb set (insert set k) (λ q. clash now_in (ap (λ (x : ℕ). member x k) (sym q) ∙ e)) in simp (now_in, e, n)

-- another number's place is as it was
insert_other : (set k c : ℕ) → k < numbers → c ≢ k → member (insert set k) c ≡ member set c
insert_other set k c h n = member_insert set k c h ∙ simp (ne_eqb c k n, or-false)

-- ---- lists in which a number joined some of the sets

-- each of the first n sets is as it was, or k joined it
abbrev pub Joins : ℕ → ℕ → List ℕ → List ℕ → Type 0
Joins n k l m = (x : ℕ) → x < n → (get_or m x 0 ≡ get_or l x 0) ⊎ (get_or m x 0 ≡ insert (get_or l x 0) k)

module _ (n k : ℕ) (small : k < numbers) (l m : List ℕ) (j : Joins n k l m) where
  one_joins : (a b : ℕ) → (b ≡ a) ⊎ (b ≡ insert a k) → bit (member a k) + bit (differs a b) ≡ bit (member b k)
  one_joins a b =
      ⊎_elim (λ (e : b ≡ a). simp (e, eq-eqb a a refl, add-zero)) (λ (e : b ≡ insert a k). simp e (insert_adds a k small))

  one_keeps : (a b c : ℕ) → c ≢ k → (b ≡ a) ⊎ (b ≡ insert a k) → member b c ≡ member a c
  one_keeps a b c ne = ⊎_elim (λ (e : b ≡ a). ap (λ (v : ℕ). member v c) e) (λ (e : b ≡ insert a k). ap (λ (v : ℕ). member v c) e ∙ insert_other a k c small ne)

  pub joins_add : having n m k ≡ having n l k + differing n l m
  unfolding differing
  joins_add = sym (count_sum _ _ _ n (λ x h. one_joins (get_or l x 0) (get_or m x 0) (j x h)))

  pub joins_keep : (c : ℕ) → c ≢ k → having n m c ≡ having n l c
  joins_keep c ne = count_same _ _ 0 n (λ x a h. one_keeps (get_or l x 0) (get_or m x 0) c ne (j x (omega arith)))

-- ---- owners of which some went from p to k

abbrev pub Passed : ℕ → ℕ → ℕ → List ℕ → List ℕ → Type 0
Passed n p k l m = (x : ℕ) → x < n → (get_or m x 0 ≡ get_or l x 0) ⊎ ((get_or l x 0 ≡ p) × (get_or m x 0 ≡ k))

module _ (n p k : ℕ) (apart : p ≢ k) (l m : List ℕ) (j : Passed n p k l m) where
  one_gains : (a b : ℕ) → (b ≡ a) ⊎ ((a ≡ p) × (b ≡ k)) → bit (eqb a k) + bit (differs a b) ≡ bit (eqb b k)
  one_gains a b =
      ⊎_elim (λ (e : b ≡ a). simp (e, eq-eqb a a refl, add-zero)) (λ (e : (a ≡ p) × (b ≡ k)). simp (e.0, e.1, ne_eqb p k apart, eq-eqb k k refl))

  one_loses : (a b : ℕ) → (b ≡ a) ⊎ ((a ≡ p) × (b ≡ k)) → bit (eqb b p) + bit (differs a b) ≡ bit (eqb a p)
  one_loses a b =
      ⊎_elim (λ (e : b ≡ a). simp (e, eq-eqb a a refl, add-zero)) (λ (e : (a ≡ p) × (b ≡ k)). simp (e.0, e.1, ne_eqb p k apart, ne_eqb k p (λ q. apart (sym q)), eq-eqb p p refl))

  one_stays : (a b c : ℕ) → c ≢ p → c ≢ k → (b ≡ a) ⊎ ((a ≡ p) × (b ≡ k)) → eqb b c ≡ eqb a c
  one_stays a b c np nk =
      ⊎_elim (λ (e : b ≡ a). ap (λ (v : ℕ). eqb v c) e) (λ (e : (a ≡ p) × (b ≡ k)). simp (e.0, e.1, ne_eqb k c (λ q. nk (sym q)), ne_eqb p c (λ q. np (sym q))))

  pub pass_gains : owning n m k ≡ owning n l k + differing n l m
  unfolding differing
  pass_gains = sym (count_sum _ _ _ n (λ x h. one_gains (get_or l x 0) (get_or m x 0) (j x h)))

  pub pass_loses : owning n m p + differing n l m ≡ owning n l p
  unfolding differing
  pass_loses = count_sum _ _ _ n (λ x h. one_loses (get_or l x 0) (get_or m x 0) (j x h))

  pub pass_keeps : (c : ℕ) → c ≢ p → c ≢ k → owning n m c ≡ owning n l c
  pass_keeps c np nk = count_same _ _ 0 n (λ x a h. one_stays (get_or l x 0) (get_or m x 0) c np nk (j x (omega arith)))
