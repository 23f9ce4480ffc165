-- The sums of the totals: images = refused + halted + all stops + budget used; steps = the sum of the lines' steps.
use Rattle.std.specs.Prelude.{◌≡◌, refl, Bool, true, false, cond, not, ◌&&◌, ◌||◌, List, [], ◌∷◌, ℕ, zero, suc, ◌+◌, ◌≤◌, ◌<◌, eqb, leb, get_or, length}
use Rattle.std.proofs.Common.{sym, ap, ◌∙◌, arith, eqb-true, eq-eqb, ne_eqb, leb-true, leb-false, le-leb}
use Rattle.std.proofs.Math.Bool.{or-true, or-false, and-false}
use Rattle.std.proofs.Math.Decide.{ℕ_discrete}
use Rattle.std.proofs.lemmas.Bool.{lt-leb}
use Rattle.common.specs.Answers as answer
use Rattle.common.specs.Instructions.{bit}
use Rattle.common.proofs.Laws.Tests.{clash}
use Rattle.sheets.specs.Lines.{Entry}
use Rattle.sheets.specs.Totals.{note_of, is_refused, ended_with, count_of, ended_from, steps_of, answers, totals, halted, used, stopped, is_stop, stops_from, stops}
use Rattle.sheets.proofs.Laws.Counting.{ended_at}

-- the image was refused, or its run ended with a number that the totals list
unfoldable pub is_listed : Bool → Entry → Bool
is_listed strict e = is_refused e || leb (note_of e).answer answer.halt || is_stop strict (note_of e).answer

unfoldable pub AllListed : Bool → List Entry → Type 0
AllListed strict [] = record {}
AllListed strict (e ∷ es) = (is_listed strict e ≡ true) × AllListed strict es

unfoldable pub sum_of : (ℕ → ℕ) → List ℕ → ℕ
sum_of f [] = 0
sum_of f (x ∷ xs) = f x + sum_of f xs

-- ---- sums over the stops

sum_same : (f g : ℕ → ℕ) → (strict : Bool) (k a : ℕ) → ((b : ℕ) → a ≤ b → b < a + k → f b ≡ g b) → sum_of f (stops_from strict k a) ≡ sum_of g (stops_from strict k a)
unfolding sum_of stops_from
sum_same f g strict zero a h = refl
sum_same f g strict (suc k) a h = go (is_stop strict a) (sum_same f g strict k (suc a) (λ b l m. h b (omega arith) (omega arith)))
  where
    go : (b : Bool) → sum_of f (stops_from strict k (suc a)) ≡ sum_of g (stops_from strict k (suc a))
        → sum_of f (cond b (a ∷ stops_from strict k (suc a)) (stops_from strict k (suc a))) ≡ sum_of g (cond b (a ∷ stops_from strict k (suc a)) (stops_from strict k (suc a)))
    go true ih = let e = h a (omega arith) (omega arith) in omega arith
    go false ih = ih

sum_add : (f g : ℕ → ℕ) (xs : List ℕ) → sum_of (λ x. f x + g x) xs ≡ sum_of f xs + sum_of g xs
unfolding sum_of
sum_add f g [] = omega arith
sum_add f g (x ∷ xs) = let h = sum_add f g xs in omega arith

sum_zero : (xs : List ℕ) → sum_of (λ x. 0) xs ≡ 0
unfolding sum_of
sum_zero [] = refl
sum_zero (x ∷ xs) = let h = sum_zero xs in omega arith

-- a number that is no stop, or stands elsewhere, is none of them; a stop is one of them
single_none : (strict : Bool) (v k a : ℕ) → ((b : ℕ) → a ≤ b → is_stop strict b ≡ true → eqb v b ≡ false) → sum_of (λ b. bit (eqb v b)) (stops_from strict k a) ≡ 0
unfolding sum_of stops_from
single_none strict v zero a h = refl
single_none strict v (suc k) a h = go (is_stop strict a) refl (single_none strict v k (suc a) (λ b l s. h b (omega arith) s))
  where
    go : (b : Bool) → is_stop strict a ≡ b → sum_of (λ b. bit (eqb v b)) (stops_from strict k (suc a)) ≡ 0
        → sum_of (λ b. bit (eqb v b)) (cond b (a ∷ stops_from strict k (suc a)) (stops_from strict k (suc a))) ≡ 0
    go true e ih = let z : bit (eqb v a) ≡ 0 = ap (λ (b : Bool). bit b) (h a (omega arith) e) in omega arith
    go false e ih = ih

single_one : (strict : Bool) (v k a : ℕ) → is_stop strict v ≡ true → a ≤ v → v < a + k → sum_of (λ b. bit (eqb v b)) (stops_from strict k a) ≡ 1
unfolding sum_of stops_from
single_one strict v zero a s l m = absurd (omega arith)
single_one strict v (suc k) a s l m = go (ℕ_discrete v a) (single_one strict v k (suc a) s)
  where
    go : Dec (v ≡ a) → (suc a ≤ v → v < suc a + k → sum_of (λ b. bit (eqb v b)) (stops_from strict k (suc a)) ≡ 1)
        → sum_of (λ b. bit (eqb v b)) (cond (is_stop strict a) (a ∷ stops_from strict k (suc a)) (stops_from strict k (suc a))) ≡ 1
    go (yes e) ih =
        let t : is_stop strict a ≡ true = sym (ap (is_stop strict) e) ∙ s in
        let n = single_none strict v k (suc a) (λ b h z. ne_eqb v b (λ q. omega arith)) in
        let o : bit (eqb v a) ≡ 1 = ap (λ (b : Bool). bit b) (eq-eqb v a e) in
        simp t (omega arith)
    go (no e) ih = further (is_stop strict a) (ih (omega arith) (omega arith))
      where
        further : (b : Bool) → sum_of (λ b. bit (eqb v b)) (stops_from strict k (suc a)) ≡ 1
            → sum_of (λ b. bit (eqb v b)) (cond b (a ∷ stops_from strict k (suc a)) (stops_from strict k (suc a))) ≡ 1
        further true h = let z : bit (eqb v a) ≡ 0 = ap (λ (b : Bool). bit b) (ne_eqb v a e) in omega arith
        further false h = h

-- ---- one line is counted once

pub stop_low : (strict : Bool) (v : ℕ) → is_stop strict v ≡ true → v < answers
unfolding is_stop
stop_low strict v h = go (leb v 17) refl
  where
    go : (b : Bool) → leb v 17 ≡ b → v < answers
    go true e = let l = leb-true v 17 e in omega arith
    go false e =
        let l = leb-false v 17 e in
        clash h (simp (lt-leb v 13 (omega arith), ne_eqb v 16 (λ q. omega arith), ne_eqb v 17 (λ q. omega arith), and-false, or-false))

stop_high : (strict : Bool) (v : ℕ) → is_stop strict v ≡ true → 1 < v
unfolding is_stop
stop_high strict zero h = absurd (no strict h)
  where
    no : (b : Bool) → is_stop b 0 ≡ true → ⊥
    no true e = clash e refl
    no false e = clash e refl
stop_high strict (suc zero) h = absurd (no strict h)
  where
    no : (b : Bool) → is_stop b 1 ≡ true → ⊥
    no true e = clash e refl
    no false e = clash e refl
stop_high strict (suc (suc v)) h = omega arith

-- how often a line is counted
abbrev once : Bool → Entry → ℕ
once strict e = bit (is_refused e) + bit (ended_with answer.halt e) + sum_of (λ a. bit (ended_with a e)) (stops strict) + bit (ended_with answer.done e)

counted_once : (strict : Bool) (e : Entry) → is_listed strict e ≡ true → once strict e ≡ 1
unfolding is_listed
counted_once strict e h = go (is_refused e) refl
  where
    v : ℕ
    v = (note_of e).answer

    go : (b : Bool) → is_refused e ≡ b → once strict e ≡ 1
    go true r = simp (r, sum_zero (stops strict))
    go false r = halts (ℕ_discrete v 1) (ℕ_discrete v 0)
      where
        -- the sum over the stops of a run that is none of them
        none : v < 2 → sum_of (λ a. bit (eqb v a)) (stops strict) ≡ 0
        none l = single_none strict v answers 0 (λ b g s. let k = stop_high strict b s in ne_eqb v b (λ q. omega arith))

        halts : Dec (v ≡ 1) → Dec (v ≡ 0) → once strict e ≡ 1
        halts (yes y) z = simp (r, eq-eqb v 1 y, ne_eqb v 0 (λ q. omega arith), none (omega arith))
        halts (no n) (yes z) = simp (r, eq-eqb v 0 z, ne_eqb v 1 n, none (omega arith))
        halts (no n) (no m) =
            let s : is_stop strict v ≡ true = simp (r, lt-leb v 1 (omega arith)) at h in
            simp (r, ne_eqb v 0 m, ne_eqb v 1 n, single_one strict v answers 0 s (omega arith) (stop_low strict v s))

-- ---- the sums

lines_once : (strict : Bool) (es : List Entry) → AllListed strict es
    → length es ≡ count_of is_refused es + count_of (ended_with answer.halt) es + sum_of (λ a. count_of (ended_with a) es) (stops strict) + count_of (ended_with answer.done) es
unfolding AllListed count_of
lines_once strict [] h = let z = sum_zero (stops strict) in omega arith
lines_once strict (e ∷ es) h =
    let ih = lines_once strict es h.1 in
    let o = counted_once strict e h.0 in
    let a = sum_add (λ (a : ℕ). bit (ended_with a e)) (λ (a : ℕ). count_of (ended_with a) es) (stops strict) in
    omega arith

-- "images = refused + halted + all stops + budget used", of lines that are refused or ended with a number that the totals list
pub images_sum : (strict : Bool) (es : List Entry) → AllListed strict es
    → (totals es).images ≡ (totals es).refused + halted (totals es) + sum_of (stopped (totals es)) (stops strict) + used (totals es)
unfolding totals
images_sum strict es h =
    let l = lines_once strict es h in
    let a = ended_at answers 0 answer.halt es (omega arith) in
    let b = ended_at answers 0 answer.done es (omega arith) in
    let c = sum_same (λ (a : ℕ). count_of (ended_with a) es) (λ (a : ℕ). get_or (ended_from answers 0 es) a 0) strict answers 0
    (λ b g m. let z : 0 + b ≡ b = omega arith in sym (ended_at answers 0 b es (omega arith) ∙ ap (λ (x : ℕ). count_of (ended_with x) es) z)) in
    omega arith

-- each count is of its lines, and the steps are the lines' steps
pub halted_is : (es : List Entry) → halted (totals es) ≡ count_of (ended_with answer.halt) es
unfolding totals
halted_is es = ended_at answers 0 answer.halt es (omega arith)

pub used_is : (es : List Entry) → used (totals es) ≡ count_of (ended_with answer.done) es
unfolding totals
used_is es = ended_at answers 0 answer.done es (omega arith)

pub stopped_is : (es : List Entry) (a : ℕ) → a < answers → stopped (totals es) a ≡ count_of (ended_with a) es
unfolding totals
stopped_is es a h = let z : 0 + a ≡ a = omega arith in ended_at answers 0 a es h ∙ ap (λ (x : ℕ). count_of (ended_with x) es) z

pub steps_is : (es : List Entry) → (totals es).steps ≡ steps_of es
unfolding totals
steps_is es = refl
