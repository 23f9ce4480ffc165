-- Laws of lists of tags that are changed by place or filled by the loader: their length, one place, the places below n and from n on.
use Rattle.std.specs.Prelude.{◌≡◌, refl, Bool, true, false, cond, ◌&&◌, ◌||◌, List, [], ◌∷◌, ℕ, zero, suc, ◌+◌, ◌≤◌, ◌<◌, ltb, eqb, get_or, length, take, drop, set, replicate}
use Rattle.std.proofs.Common.{sym, ap, ap₂, ◌∙◌, arith, not-suc-le-zero, le_of_suc-le-suc, add-zero, suc-add, add-suc, zero-add, ltb-true, get_or-take}
use Rattle.std.proofs.Math.Bool.{or-false}
use Rattle.std.proofs.lemmas.List.{length-replicate, get_or-replicate}
use Rattle.std.proofs.Math.ListN.{get_or-append}
use Rattle.common.proofs.Laws.InstructionLaws.{take_set}
use Rattle.rules.specs.Compartments.{numbers, member, insert}
use Rattle.rules.specs.Laws.CompartmentLaws.{member_insert}
use Rattle.rules.specs.Step.{map_from, join_at}
use Rattle.rules.specs.Images.{over}

pub length-map : (f : ℕ → ℕ → ℕ) (k : ℕ) (l : List ℕ) → length (map_from f k l) ≡ length l
unfolding map_from
length-map f k [] = refl
length-map f k (x ∷ xs) = ap suc (length-map f (suc k) xs)

get_d_from : (f : ℕ → ℕ → ℕ) (k : ℕ) (l : List ℕ) (i : ℕ) → i < length l → get_or (map_from f k l) i 0 ≡ f (k + i) (get_or l i 0)
unfolding map_from
get_d_from f k [] i h = absurd (not-suc-le-zero h)
get_d_from f k (x ∷ xs) zero h = rw add-zero
get_d_from f k (x ∷ xs) (suc i) h = get_d_from f (suc k) xs i (le_of_suc-le-suc h) ∙ ap (λ (m : ℕ). f m (get_or xs i 0)) (suc-add k i ∙ sym (add-suc k i))

pub get_d_map : (f : ℕ → ℕ → ℕ) (l : List ℕ) (i : ℕ) → i < length l → get_or (map_from f 0 l) i 0 ≡ f i (get_or l i 0)
get_d_map f l i h = get_d_from f 0 l i h ∙ ap (λ (m : ℕ). f m (get_or l i 0)) (zero-add i)

pub take_map : (f : ℕ → ℕ → ℕ) (k n : ℕ) (l : List ℕ) → take n (map_from f k l) ≡ map_from f k (take n l)
unfolding map_from
take_map f k zero l = refl
take_map f k (suc n) [] = refl
take_map f k (suc n) (x ∷ l) = ap (λ (m : List ℕ). f k x ∷ m) (take_map f (suc k) n l)

map_same : (f : ℕ → ℕ → ℕ) (k : ℕ) (l : List ℕ) → ((x v : ℕ) → k ≤ x → f x v ≡ v) → map_from f k l ≡ l
unfolding map_from
map_same f k [] h = refl
map_same f k (v ∷ l) h =
    let a : f k v ≡ v = h k v (omega arith) in
    let b : map_from f (suc k) l ≡ l = map_same f (suc k) l (λ x v g. h x v (omega arith)) in
    simp (a, b)

-- what f leaves as it is from k + n on stays as it is
pub drop_map : (f : ℕ → ℕ → ℕ) (k n : ℕ) (l : List ℕ) → ((x v : ℕ) → k + n ≤ x → f x v ≡ v) → drop n (map_from f k l) ≡ drop n l
unfolding map_from
drop_map f k zero l h = map_same f k l (λ x v g. h x v (omega arith))
drop_map f k (suc n) [] h = refl
drop_map f k (suc n) (v ∷ l) h = drop_map f (suc k) n l (λ x v g. h x v (omega arith))

-- past its end a list reads as 0
pub beyond : (l : List ℕ) (x : ℕ) → length l ≤ x → get_or l x 0 ≡ 0
beyond [] x h = refl
beyond (y ∷ l) zero h = absurd (not-suc-le-zero h)
beyond (y ∷ l) (suc x) h = beyond l x (le_of_suc-le-suc h)

-- ---- lists that agree below n

pub same_at : (n : ℕ) (l m : List ℕ) → take n l ≡ take n m → (x : ℕ) → ltb x n ≡ true → get_or l x 0 ≡ get_or m x 0
same_at n l m e x h =
    let k : x < n = ltb-true _ _ h in
    sym (get_or-take n l x 0 k) ∙ ap (λ (z : List ℕ). get_or z x 0) e ∙ get_or-take n m x 0 k

pub same_joined : (n : ℕ) (l m : List ℕ) (x c : ℕ) → n ≤ length l → n ≤ length m → take n l ≡ take n m → ltb x n ≡ true → take n (join_at l x c) ≡ take n (join_at m x c)
same_joined n l m x c h k e u =
    take_set n l x (insert (get_or l x 0) c) h ∙ ap₂ (λ (z : List ℕ) (v : ℕ). set z x (insert v c)) e (same_at n l m e x u)
    ∙ sym (take_set n m x (insert (get_or m x 0) c) k)

-- ---- what the loader puts in every place below n

pub filled : (n v : ℕ) (old : List ℕ) (x : ℕ) → x < n → get_or (over (replicate n v) old) x 0 ≡ v
filled n v old x h =
    get_or-append (replicate n v) (drop (length (replicate n v)) old) 0 x (rw length-replicate h) ∙ get_or-replicate n x v 0 h

-- ---- who is a member where n joins if b

pub member_insert_if : (b : Bool) (set n c : ℕ) → n < numbers → member (cond b (insert set n) set) c ≡ (member set c || (b && eqb c n))
member_insert_if true set n c h = member_insert set n c h
member_insert_if false set n c h = sym (or-false (member set c))
