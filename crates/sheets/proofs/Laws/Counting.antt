-- Counts of lines, of one line more, and where they stand among the totals.
use Rattle.std.specs.Prelude.{◌≡◌, Bool, false, not, ◌&&◌, List, [], ◌∷◌, ◌++◌, eqb, get_or, length}
use Rattle.std.proofs.Math.Path.{refl, ap}
use Rattle.std.proofs.Common.{sym, ◌∙◌}
use Rattle.std.proofs.Math.Bool.{true}
use Prim.Native.Nat.{ℕ, zero, suc, ◌+◌, ◌-◌, ◌≤◌, ◌<◌}
use native.Mathlib.Omega.{arith}
use Rattle.std.proofs.Math.Decide.{ℕ_discrete}
use borrow.Author.Tests.{eq-eqb, ne_eqb}
use Rattle.std.proofs.Math.ListN.{set}
use Rattle.common.specs.Instructions.{bit}
use Rattle.rules.specs.Laws.CompartmentLaws.{bit_most}
use Rattle.sheets.specs.Lines.{Entry}
use Rattle.sheets.specs.Totals.{note_of, ended_with, count_of, ended_from, steps_of}

pub count_more : (test : Entry → Bool) (es : List Entry) (e : Entry) → count_of test (es ++ e ∷ []) ≡ count_of test es + bit (test e)
unfolding count_of
count_more test [] e = omega arith
count_more test (d ∷ es) e = let h = count_more test es e in omega arith

pub count_most : (test : Entry → Bool) (es : List Entry) → count_of test es ≤ length es
unfolding count_of
count_most test [] = omega arith
count_most test (e ∷ es) = let h = count_most test es in let b = bit_most (test e) in omega arith

pub steps_more : (es : List Entry) (e : Entry) → steps_of (es ++ e ∷ []) ≡ steps_of es + (note_of e).steps
unfolding steps_of
steps_more [] e = omega arith
steps_more (d ∷ es) e = let h = steps_more es e in omega arith

-- ---- by answer

pub ended_at : (k a i : ℕ) (es : List Entry) → i < k → get_or (ended_from k a es) i 0 ≡ count_of (ended_with (a + i)) es
unfolding ended_from
ended_at zero a i es h = absurd (omega arith)
ended_at (suc k) a zero es h = let e : a ≡ a + 0 = omega arith in ap (λ (b : ℕ). count_of (ended_with b) es) e
ended_at (suc k) a (suc i) es h =
    let e : suc a + i ≡ a + suc i = omega arith in ended_at k (suc a) i es (omega arith) ∙ ap (λ (b : ℕ). count_of (ended_with b) es) e

module _ (es : List Entry) (e : Entry) where
  -- a line that ended otherwise adds nothing
  other : (a : ℕ) → ended_with a e ≡ false → count_of (ended_with a) (es ++ e ∷ []) ≡ count_of (ended_with a) es
  other a h = let m = count_more (ended_with a) es e in let z : bit (ended_with a e) ≡ 0 = ap (λ (b : Bool). bit b) h in omega arith

  none_more : (k a : ℕ) → ((b : ℕ) → a ≤ b → ended_with b e ≡ false) → ended_from k a (es ++ e ∷ []) ≡ ended_from k a es
  unfolding ended_from
  none_more zero a h = refl
  none_more (suc k) a h =
      let first = other a (h a (omega arith)) in
      let rest = none_more k (suc a) (λ b l. h b (omega arith)) in
      λ i. first i ∷ rest i

  pub refused_more : (k a : ℕ) → (note_of e).refused ≡ true → ended_from k a (es ++ e ∷ []) ≡ ended_from k a es
  refused_more k a r = none_more k a (λ b l. simp r)

  module _ (r : (note_of e).refused ≡ false) where
    -- the answer's own place has one more, and no other
    ended_from_lem : (k a i : ℕ) → (note_of e).answer ≡ a + i → ended_from k a (es ++ e ∷ []) ≡ set (ended_from k a es) i (count_of (ended_with (a + i)) es + 1)
    unfolding ended_from
    ended_from_lem zero a zero h = refl
    ended_from_lem zero a (suc i) h = refl
    ended_from_lem (suc k) a zero h =
        let n : (note_of e).answer ≡ a = omega arith in
        let z : a ≡ a + 0 = omega arith in
        let t : ended_with a e ≡ true = simp (r, eq-eqb (note_of e).answer a n) in
        let m = count_more (ended_with a) es e in
        let o : bit (ended_with a e) ≡ 1 = ap (λ (b : Bool). bit b) t in
        let first : count_of (ended_with a) (es ++ e ∷ []) ≡ count_of (ended_with a) es + 1 = omega arith in
        let rest = none_more k (suc a) (λ b l. simp (r, ne_eqb (note_of e).answer b (λ q. omega arith))) in
        let same = ap (λ (b : ℕ). count_of (ended_with b) es + 1) z in
        λ i. (first ∙ same) i ∷ rest i
    ended_from_lem (suc k) a (suc i) h =
        let first = other a (simp (r, ne_eqb (note_of e).answer a (λ q. omega arith))) in
        let z : suc a + i ≡ a + suc i = omega arith in
        let rest = ended_from_lem k (suc a) i (omega arith) ∙ ap (λ (b : ℕ). set (ended_from k (suc a) es) i (count_of (ended_with b) es + 1)) z in
        λ j. first j ∷ rest j

    pub ended_more : (k : ℕ) → (note_of e).answer < k
        → ended_from k 0 (es ++ e ∷ []) ≡ set (ended_from k 0 es) (note_of e).answer (get_or (ended_from k 0 es) (note_of e).answer 0 + 1)
    ended_more k l =
        let z : (note_of e).answer ≡ 0 + (note_of e).answer = omega arith in
        ended_from_lem k 0 (note_of e).answer z
        ∙ ap (λ (v : ℕ). set (ended_from k 0 es) (note_of e).answer (v + 1)) (sym (ended_at k 0 (note_of e).answer es l))
