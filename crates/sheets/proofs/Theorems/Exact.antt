-- Totals of 32 bits, counted line by line, are the totals of the lines: 10,000 images of 100,000 steps are 1,000,000,000 steps.
use Rattle.std.specs.Prelude.{◌≡◌, Bool, true, false, cond, List, [], ◌∷◌, ◌++◌, ℕ, zero, suc, ◌+◌, ◌*◌, ◌%◌, ◌≤◌, ◌<◌, get_or, set}
use Rattle.std.proofs.Math.Path.{refl, sym}
use Rattle.std.proofs.Common.{ap, ◌∙◌, append_assoc, append-nil, mod-eq_of_lt, arith}
use Rattle.std.proofs.Math.ListN.{length, length-append}
use Rattle.common.specs.Instructions.{bit}
use Rattle.rules.specs.Laws.CompartmentLaws.{bit_most}
use Rattle.printed.specs.Outcome.{budget}
use Rattle.sheets.specs.Lines.{Entry}
use Rattle.sheets.specs.Totals.{note_of, is_refused, ended_with, count_of, ended_from, steps_of, answers, Totals, totals}
use Rattle.sheets.specs.Told.{none, added, tally}
use Rattle.sheets.proofs.Laws.Counting.{count_more, count_most, steps_more, ended_at, refused_more, ended_more}

-- "the list ends after 10,000 names"
abbrev pub most : ℕ
most = 10000

-- a line of no more steps than the budget, and of an answer that the totals have a place for
pub record Small (e : Entry) : Type 0 where
  pub steps : (note_of e).steps ≤ budget
  pub answer : is_refused e ≡ false → (note_of e).answer < answers

unfoldable pub AllSmall : List Entry → Type 0
AllSmall [] = record {}
AllSmall (e ∷ es) = Small e × AllSmall es

word_is : (x : ℕ) → x < 4294967296 → x % 4294967296 ≡ x
word_is x h = mod-eq_of_lt h

-- one line more
module _ (es : List Entry) (e : Entry) (few : length es < most) (low : steps_of es ≤ budget * length es) (small : Small e) where
  abbrev more : List Entry
  more = es ++ e ∷ []

  ended_next : (b : Bool) → is_refused e ≡ b
      → cond b (ended_from answers 0 es) (set (ended_from answers 0 es) (note_of e).answer ((get_or (ended_from answers 0 es) (note_of e).answer 0 + 1) % 4294967296))
      ≡ ended_from answers 0 more
  ended_next true r = sym (refused_more es e answers 0 r)
  ended_next false r =
      let at = ended_at answers 0 (note_of e).answer es (small.answer r) in
      let c = count_most (ended_with (0 + (note_of e).answer)) es in
      let w = word_is (get_or (ended_from answers 0 es) (note_of e).answer 0 + 1) (omega arith) in
      ap (λ (x : ℕ). set (ended_from answers 0 es) (note_of e).answer x) w ∙ sym (ended_more es e r answers (small.answer r))

  next : added (totals es) (note_of e) ≡ totals more
  unfolding added totals
  next =
      let l : length more ≡ length es + 1 = length-append es (e ∷ []) in
      let i : (length es + 1) % 4294967296 ≡ length more = word_is (length es + 1) (omega arith) ∙ sym l in
      let c = count_most is_refused es in
      let b = bit_most (is_refused e) in
      let r : (count_of is_refused es + bit (is_refused e)) % 4294967296 ≡ count_of is_refused more =
      word_is (count_of is_refused es + bit (is_refused e)) (omega arith) ∙ sym (count_more is_refused es e) in
      let s : (note_of e).steps ≤ budget = small.steps in
      let t : (steps_of es + (note_of e).steps) % 4294967296 ≡ steps_of more =
      word_is (steps_of es + (note_of e).steps) (omega arith) ∙ sym (steps_more es e) in
      let d = ended_next (is_refused e) refl in
      λ j. record { images = i j; refused = r j; ended = d j; steps = t j }

  low_next : steps_of more ≤ budget * length more
  low_next =
      let l : length more ≡ length es + 1 = length-append es (e ∷ []) in
      let s : (note_of e).steps ≤ budget = small.steps in
      let m = steps_more es e in
      omega arith

from : (ds es : List Entry) → length ds + length es ≤ most → steps_of ds ≤ budget * length ds → AllSmall es → tally (totals ds) es ≡ totals (ds ++ es)
unfolding tally AllSmall
from ds [] few low small = ap totals (sym (append-nil ds))
from ds (e ∷ es) few low small =
    let l : length (ds ++ e ∷ []) ≡ length ds + 1 = length-append ds (e ∷ []) in
    ap (λ (t : Totals). tally t es) (next ds e (omega arith) low small.0)
    ∙ from (ds ++ e ∷ []) es (omega arith) (low_next ds e (omega arith) low small.0) small.1
    ∙ ap totals (append_assoc ds (e ∷ []) es)

pub exact : (es : List Entry) → length es ≤ most → AllSmall es → tally none es ≡ totals es
unfolding none totals ended_from count_of steps_of
exact es few small = from [] es (omega arith) (omega arith) small
