-- How long a line and the totals' line are at most.
use Rattle.std.specs.Prelude.{Bool, true, false, cond, List, [], ◌∷◌, ◌++◌, ◌≡◌, refl, ℕ, zero, suc, ◌+◌, ◌*◌, ◌≤◌, ◌<◌, eqb, ltb, get_or, length}
use Rattle.std.proofs.Common.{arith, ltb-true, ltb-false, length-append}
use Rattle.common.specs.Answers as answer
use Rattle.rules.specs.Compartments.{numbers, member}
use Rattle.numerals.specs.Bytes.{bytes}
use Rattle.numerals.specs.Numerals.{decimal}
use Rattle.numerals.specs.Laws.Widths.{width_most, length_decimal}
use Rattle.printed.specs.Text.{field, line_end, Line, first_fields}
use Rattle.printed.proofs.Theorems.Lengths.{Word, field_most}
use Rattle.sheets.specs.Lines.{members_from, members, numbers_text, writers_text, ran, line_text}
use Rattle.sheets.specs.Totals.{answers, Totals, halted, used, is_stop, stops_from, stops, stops_text, totals_text}

-- 107 bytes of the first line's fields, ` writers` and 64 numbers of two digits, and the line's end
abbrev pub longest : ℕ
longest = 308

pub two_digits : (name : List ℕ) (x : ℕ) → x < 100 → length (field name x) ≤ length name + 2
unfolding field
two_digits name x h = let d = length_decimal x in let w = width_most 1 x (omega arith) in let l = length-append name (decimal x) in omega arith

numbers_most : (set k c : ℕ) → c + k ≤ 100 → length (numbers_text (members_from k c set)) ≤ 3 * k
unfolding numbers_text members_from
numbers_most set zero c h = omega arith
numbers_most set (suc k) c h = go (member set c) (numbers_most set k (suc c) (omega arith))
  where
    go : (b : Bool) → length (numbers_text (members_from k (suc c) set)) ≤ 3 * k
        → length (numbers_text (cond b (c ∷ members_from k (suc c) set) (members_from k (suc c) set))) ≤ 3 * suc k
    go true ih =
        let f = two_digits (bytes " ") c (omega arith) in
        let l = length-append (field (bytes " ") c) (numbers_text (members_from k (suc c) set)) in
        omega arith
    go false ih = omega arith

pub members_most : (set : ℕ) → length (numbers_text (members set)) ≤ 192
members_most set = numbers_most set numbers 0 (omega arith)

-- where the answer is not 7, the writers are not asked
pub writers_asked : (a : ℕ) (ws : List ℕ) → writers_text a ws ≡ writers_text a (cond (eqb a answer.store_forbidden) ws [])
unfolding writers_text
writers_asked a ws = go (eqb a answer.store_forbidden)
  where
    go : (b : Bool) → cond b (bytes " writers" ++ numbers_text ws) [] ≡ cond b (bytes " writers" ++ numbers_text (cond b ws [])) []
    go true = refl
    go false = refl

pub writers_most : (a set : ℕ) → length (writers_text a (members set)) ≤ 200
unfolding writers_text
writers_most a set = go (eqb a answer.store_forbidden)
  where
    go : (b : Bool) → length (cond b (bytes " writers" ++ numbers_text (members set)) []) ≤ 200
    go true = let m = members_most set in let l = length-append (bytes " writers") (numbers_text (members set)) in omega arith
    go false = omega arith

-- ---- the totals, where each of their numbers is one of 32 bits

pub record SmallTotals (t : Totals) : Type 0 where
  pub images : Word t.images
  pub refused : Word t.refused
  pub ended : (a : ℕ) → Word (get_or t.ended a 0)
  pub steps : Word t.steps

stops_from_lem : (strict : Bool) (ended : List ℕ) → ((a : ℕ) → Word (get_or ended a 0)) → (k a : ℕ) → a + k ≤ 100 → length (stops_text (stops_from strict k a) ended) ≤ 14 * k
unfolding stops_text stops_from
stops_from_lem strict ended s zero a h = omega arith
stops_from_lem strict ended s (suc k) a h = go (is_stop strict a) (stops_from_lem strict ended s k (suc a) (omega arith))
  where
    go : (b : Bool) → length (stops_text (stops_from strict k (suc a)) ended) ≤ 14 * k
        → length (stops_text (cond b (a ∷ stops_from strict k (suc a)) (stops_from strict k (suc a))) ended) ≤ 14 * suc k
    go true ih =
        let f = two_digits (bytes " ") a (omega arith) in
        let g = field_most (bytes " ") (get_or ended a 0) (s a) in
        let l = length-append (field (bytes " ") a) (field (bytes " ") (get_or ended a 0)) in
        let m = length-append (field (bytes " ") a ++ field (bytes " ") (get_or ended a 0)) (stops_text (stops_from strict k (suc a)) ended) in
        omega arith
    go false ih = omega arith

-- 98 bytes of five names with their numbers, ` stopped` and the line's end, and 14 of each of 18 answers
pub totals_most : (strict : Bool) (t : Totals) → SmallTotals t → length (totals_text strict t) ≤ 350
unfolding totals_text
totals_most strict t s =
    let a = field_most (bytes "images ") t.images s.images in
    let b = field_most (bytes " refused ") t.refused s.refused in
    let c = field_most (bytes " halted ") (halted t) (s.ended answer.halt) in
    let d = stops_from_lem strict t.ended s.ended answers 0 (omega arith) in
    let e = field_most (bytes " budget ") (used t) (s.ended answer.done) in
    let f = field_most (bytes " steps ") t.steps s.steps in
    simp length-append (omega arith)
