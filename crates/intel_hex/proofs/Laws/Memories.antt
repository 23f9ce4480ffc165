-- Memories: places without a byte, a front of bytes, and its words.
use Rattle.std.specs.Prelude.{◌≡◌, refl, Bool, true, false, cond, ◌||◌, List, [], ◌∷◌, ◌++◌, map, ℕ, zero, suc, ◌+◌, ◌≤◌, ltb, eqb, length, set, take, drop, replicate}
use Rattle.std.proofs.Common.{◌∙◌, arith, lt-ltb, ne_eqb, drop-set-lt, get_or-append-add}
use Rattle.std.proofs.lemmas.List.Edits.{sets}
use Rattle.common.proofs.Laws.Tests.{clash}
use Rattle.rules.specs.Images.{field, fields, four_bytes, all_bytes}
use Rattle.images.specs.RoundTrip.{field_first}
use Rattle.intel_hex.specs.Reading.{none, any_given}
use Rattle.intel_hex.specs.Importing.{past, filled}
use Rattle.intel_hex.proofs.Laws.Bounds.{Below}

-- ---- no byte given

either : (a b : Bool) → (a || b) ≡ false → (a ≡ false) × (b ≡ false)
either true b h = clash refl h
either false b h = (refl, h)

pub drop_none : (p : ℕ) (l : List ℕ) → any_given l ≡ false → any_given (drop p l) ≡ false
unfolding any_given
drop_none zero l h = h
drop_none (suc p) [] h = refl
drop_none (suc p) (x ∷ l) h = drop_none p l (either (ltb x none) (any_given l) h).1

pub take_none : (n : ℕ) (l : List ℕ) → any_given l ≡ false → any_given (take n l) ≡ false
unfolding any_given
take_none zero l h = refl
take_none (suc n) [] h = refl
take_none (suc n) (x ∷ l) h = let e = either (ltb x none) (any_given l) h in rw e.0 (take_none n l e.1)

pub none_given : (n : ℕ) → any_given (replicate n none) ≡ false
unfolding any_given
none_given zero = refl
none_given (suc n) = none_given n

pub past_none : (l : List ℕ) → any_given l ≡ false → past l ≡ 0
unfolding any_given past
past_none [] h = refl
past_none (x ∷ l) h = let e = either (ltb x none) (any_given l) h in rw (past_none l e.1, e.0) refl

-- what stands behind numbers that were stored
pub drop_sets : (vs l : List ℕ) (i p : ℕ) → i + length vs ≤ p → drop p (sets l i vs) ≡ drop p l
drop_sets [] l i p h = refl
drop_sets (v ∷ vs) l i p h = drop_sets vs (set l i v) (suc i) p (omega arith) ∙ drop-set-lt p l i v (omega arith)

-- ---- a front of bytes

next_place : (k : ℕ) → cond (eqb k 0) 1 (suc k) ≡ suc k
next_place zero = refl
next_place (suc k) = let n : suc k ≡ 0 → ⊥ = λ e. omega arith in rw (ne_eqb (suc k) 0 n) refl

pub past_front : (xs l : List ℕ) → Below none xs → any_given l ≡ false → past (xs ++ l) ≡ length xs
unfolding past
past_front [] l s h = past_none l h
past_front (x ∷ xs) l s h = rw (past_front xs l s.1 h, lt-ltb x none s.0) (next_place (length xs))

pub filled_front : (xs l : List ℕ) → Below none xs → map filled (xs ++ l) ≡ xs ++ map filled l
filled_front [] l s = refl
filled_front (x ∷ xs) l s = rw (lt-ltb x none s.0, filled_front xs l s.1) refl

-- ---- its words

field_behind : (xs l : List ℕ) (p : ℕ) → field (xs ++ l) (length xs + p) ≡ field l p
unfolding field
field_behind xs l p =
    let one : length xs + p + 1 ≡ length xs + (p + 1) = omega arith in
    let two : length xs + p + 2 ≡ length xs + (p + 2) = omega arith in
    let three : length xs + p + 3 ≡ length xs + (p + 3) = omega arith in
    simp (one, two, three, get_or-append-add xs l p 0, get_or-append-add xs l (p + 1) 0, get_or-append-add xs l (p + 2) 0, get_or-append-add xs l (p + 3) 0)

fields_behind : (xs l : List ℕ) (p k : ℕ) → fields (xs ++ l) (length xs + p) k ≡ fields l p k
unfolding fields
fields_behind xs l p zero = refl
fields_behind xs l p (suc k) =
    let e : length xs + p + 4 ≡ length xs + (p + 4) = omega arith in
    rw (field_behind xs l p, e, fields_behind xs l (p + 4) k) refl

pub fields_front : (ws l : List ℕ) → Below 4294967296 ws → fields (all_bytes ws ++ l) 0 (length ws) ≡ ws
unfolding fields all_bytes
fields_front [] l s = refl
fields_front (w ∷ ws) l s = rw (field_first w (all_bytes ws ++ l) s.0, fields_behind (four_bytes w) (all_bytes ws ++ l) 0 (length ws), fields_front ws l s.1) refl

pub bytes_below : (ws : List ℕ) → Below none (all_bytes ws)
unfolding all_bytes
bytes_below [] = tt
bytes_below (w ∷ ws) = (omega arith, (omega arith, (omega arith, (omega arith, bytes_below ws))))
