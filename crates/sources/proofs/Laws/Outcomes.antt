-- What the lines of a text come to, one after the other; and what is made of a list of outcomes.
use Rattle.std.specs.Prelude.{◌≡◌, refl, List, [], ◌∷◌, ◌++◌, ◌↔◌, ℕ, zero, suc, ◌+◌, ◌<◌, length, get_or, take}
use Rattle.std.proofs.Common.{sym, ap, ◌∙◌, append-nil, arith, length-append}
use Rattle.std.proofs.Math.Seq.{append_snoc}
use Rattle.sources.specs.Texts.{Reading}
use Rattle.sources.specs.Meaning.{Outcome, empty, word, at_fault, outcome, Meaning, says, refused, behind, then, from}

-- a line that is not at fault
abbrev pub Good : Outcome → Type 0
Good o = (n : ℕ) → o ≡ at_fault n → ⊥

-- the first outcome at fault is number i, with n
pub record Stops (os : List Outcome) (n i : ℕ) : Type 0 where
  pub there : i < length os
  pub faulty : get_or os i empty ≡ at_fault n
  pub good : (j : ℕ) → j < i → Good (get_or os j empty)

-- the words that are held
abbrev pub held : Outcome → List ℕ
held empty = []
held (word w) = w ∷ []
held (at_fault n) = []

abbrev pub all_held : List Outcome → List ℕ
all_held [] = []
all_held (o ∷ os) = held o ++ all_held os

-- ---- what is made of outcomes, behind m lines

abbrev pub gather : ℕ → List Outcome → Meaning
gather m [] = says []
gather m (o ∷ os) = then o (m + 1) (gather (m + 1) os)

abbrev pub outcomes : List Reading → List Reading → List Reading → List Outcome
outcomes all before [] = []
outcomes all before (l ∷ ls) = outcome all before l ∷ outcomes all (before ++ l ∷ []) ls

pub from_gather : (all before ls : List Reading) → from all before ls ≡ gather (length before) (outcomes all before ls)
unfolding from
from_gather all before [] = refl
from_gather all before (l ∷ ls) =
    ap (then (outcome all before l) (length before + 1))
    (from_gather all (before ++ l ∷ []) ls ∙ ap (λ (m : ℕ). gather m (outcomes all (before ++ l ∷ []) ls)) (length-append before (l ∷ [])))

pub length_outcomes : (all before ls : List Reading) → length (outcomes all before ls) ≡ length ls
length_outcomes all before [] = refl
length_outcomes all before (l ∷ ls) = ap suc (length_outcomes all (before ++ l ∷ []) ls)

pub outcome_at_lem : (all before ls : List Reading) (i : ℕ) (d : Reading) → i < length ls → get_or (outcomes all before ls) i empty ≡ outcome all (before ++ take i ls) (get_or ls i d)
outcome_at_lem all before [] i d h = absurd (omega arith)
outcome_at_lem all before (l ∷ ls) zero d h = ap (λ (ms : List Reading). outcome all ms l) (sym (append-nil before))
outcome_at_lem all before (l ∷ ls) (suc i) d h =
    outcome_at_lem all (before ++ l ∷ []) ls i d (omega arith) ∙ ap (λ (ms : List Reading). outcome all ms (get_or ls i d)) (append_snoc before l (take i ls))

-- ---- a refusal names the first outcome at fault

-- one good outcome more in front
further : (o : Outcome) (os : List Outcome) (n i : ℕ) → Good o → Stops os n i → Stops (o ∷ os) n (suc i)
further o os n i g s = record { there = let t = s.there in omega arith; faulty = s.faulty; good = before }
  where
    before : (j : ℕ) → j < suc i → Good (get_or (o ∷ os) j empty)
    before zero h = g
    before (suc j) h = s.good j (omega arith)

-- behind m lines, line k is the first at fault
pub record Stop (m n k : ℕ) (os : List Outcome) : Type 0 where
  pub at : ℕ
  pub line : k ≡ m + at + 1
  pub stops : Stops os n at

go_on : (o : Outcome) (os : List Outcome) (m n k : ℕ) → Good o → Stop (m + 1) n k os → Stop m n k (o ∷ os)
go_on o os m n k g s = record { at = suc s.at; line = let l = s.line in omega arith; stops = further o os n s.at g s.stops }

behind_refused : (ws : List ℕ) (x : Meaning) (n k : ℕ) → behind ws x ≡ refused n k → x ≡ refused n k
behind_refused ws (says us) n k h = let z : ◌≡◌ {A = ℕ} 0 1 = cc in absurd (omega arith)
behind_refused ws (refused a b) n k h = h

empty_good : Good empty
empty_good n h = let z : ◌≡◌ {A = ℕ} 0 1 = cc in omega arith

word_good : (w : ℕ) → Good (word w)
word_good w n h = let z : ◌≡◌ {A = ℕ} 0 1 = cc in omega arith

pub refused_stop : (os : List Outcome) (m n k : ℕ) → gather m os ≡ refused n k → Stop m n k os
refused_stop [] m n k h = let z : ◌≡◌ {A = ℕ} 0 1 = cc in absurd (omega arith)
refused_stop (empty ∷ os) m n k h = go_on empty os m n k empty_good (refused_stop os (m + 1) n k h)
refused_stop (word w ∷ os) m n k h = go_on (word w) os m n k (word_good w) (refused_stop os (m + 1) n k (behind_refused (w ∷ []) (gather (m + 1) os) n k h))
refused_stop (at_fault a ∷ os) m n k h =
    let e : a ≡ n = cc in
    let l : m + 1 ≡ k = cc in
    record { at = 0; line = omega arith; stops = record { there = omega arith; faulty = ap at_fault e; good = λ j b. absurd (omega arith) } }

-- the outcomes behind the first, which is good
later : (o : Outcome) (os : List Outcome) (n i : ℕ) → Stops (o ∷ os) n (suc i) → Stops os n i
later o os n i s = record { there = let t = s.there in omega arith; faulty = s.faulty; good = λ j b. s.good (suc j) (omega arith) }

pub stop_refused : (os : List Outcome) (m n i : ℕ) → Stops os n i → gather m os ≡ refused n (m + i + 1)
stop_refused [] m n i s = let t = s.there in absurd (omega arith)
stop_refused (o ∷ os) m n zero s = ap (λ (x : Outcome). then x (m + 1) (gather (m + 1) os)) s.faulty ∙ ap (refused n) (let e : m + 1 ≡ m + 0 + 1 = omega arith in e)
stop_refused (o ∷ os) m n (suc i) s = go o (s.good 0 (omega arith)) (stop_refused os (m + 1) n i (later o os n i s))
  where
    line : m + 1 + i + 1 ≡ m + suc i + 1
    line = omega arith

    go : (x : Outcome) → Good x → gather (m + 1) os ≡ refused n (m + 1 + i + 1) → then x (m + 1) (gather (m + 1) os) ≡ refused n (m + suc i + 1)
    go empty g ih = ih ∙ ap (refused n) line
    go (word w) g ih = ap (behind (w ∷ [])) ih ∙ ap (refused n) line
    go (at_fault a) g ih = absurd (g a refl)

-- ---- words are said where none is at fault

says_good : (os : List Outcome) (m : ℕ) (ws : List ℕ) → gather m os ≡ says ws → ((j : ℕ) → j < length os → Good (get_or os j empty)) × (ws ≡ all_held os)
says_good [] m ws h = (λ j b. absurd (omega arith), cc)
says_good (o ∷ os) m ws h = go o h (λ us. says_good os (m + 1) us)
  where
    first : (x : Outcome) → Good x → ((j : ℕ) → j < length os → Good (get_or os j empty)) → (j : ℕ) → j < length (x ∷ os) → Good (get_or (x ∷ os) j empty)
    first x g r zero b = g
    first x g r (suc j) b = r j (omega arith)

    go : (x : Outcome) → then x (m + 1) (gather (m + 1) os) ≡ says ws
        → ((us : List ℕ) → gather (m + 1) os ≡ says us → ((j : ℕ) → j < length os → Good (get_or os j empty)) × (us ≡ all_held os))
        → ((j : ℕ) → j < length (x ∷ os) → Good (get_or (x ∷ os) j empty)) × (ws ≡ held x ++ all_held os)
    go empty k ih = let r = ih ws k in (first empty empty_good r.0, r.1)
    go (word w) k ih = behind_says (gather (m + 1) os) refl k
      where
        behind_says : (y : Meaning) → gather (m + 1) os ≡ y → behind (w ∷ []) y ≡ says ws
            → ((j : ℕ) → j < length (word w ∷ os) → Good (get_or (word w ∷ os) j empty)) × (ws ≡ w ∷ all_held os)
        behind_says (says us) e q = let r = ih us e in let z : ws ≡ w ∷ us = cc in (first (word w) (word_good w) r.0, z ∙ ap (λ (vs : List ℕ). w ∷ vs) r.1)
        behind_says (refused a b) e q = let z : ◌≡◌ {A = ℕ} 0 1 = cc in absurd (omega arith)
    go (at_fault a) k ih = let z : ◌≡◌ {A = ℕ} 0 1 = cc in absurd (omega arith)

good_says : (os : List Outcome) (m : ℕ) → ((j : ℕ) → j < length os → Good (get_or os j empty)) → gather m os ≡ says (all_held os)
good_says [] m g = refl
good_says (o ∷ os) m g = go o (g 0 (omega arith)) (good_says os (m + 1) (λ j b. g (suc j) (omega arith)))
  where
    go : (x : Outcome) → Good x → gather (m + 1) os ≡ says (all_held os) → then x (m + 1) (gather (m + 1) os) ≡ says (held x ++ all_held os)
    go empty k ih = ih
    go (word w) k ih = ap (behind (w ∷ [])) ih
    go (at_fault a) k ih = absurd (k a refl)

-- what is said are the words that are held, exactly where no outcome is at fault
pub gathered : (os : List Outcome) (m : ℕ) (ws : List ℕ) → (gather m os ≡ says ws) ↔ (((j : ℕ) → j < length os → Good (get_or os j empty)) × (ws ≡ all_held os))
gathered os m ws = (says_good os m ws, λ h. good_says os m h.0 ∙ ap says (sym h.1))

-- ---- the words that are held, by their places

-- a word that a line holds stands behind those that the lines before it hold
pub held_there : (os : List Outcome) (i w : ℕ) → get_or os i empty ≡ word w → get_or (all_held os) (length (all_held (take i os))) 0 ≡ w
held_there [] i w h = let z : ◌≡◌ {A = ℕ} 0 1 = cc in absurd (omega arith)
held_there (o ∷ os) zero w h = ap (λ (x : Outcome). get_or (held x ++ all_held os) 0 0) h
held_there (o ∷ os) (suc i) w h = go o (held_there os i w h)
  where
    go : (x : Outcome) → get_or (all_held os) (length (all_held (take i os))) 0 ≡ w → get_or (held x ++ all_held os) (length (held x ++ all_held (take i os))) 0 ≡ w
    go empty ih = ih
    go (word u) ih = ih
    go (at_fault n) ih = ih

-- and each of the words is held by a line
pub record Holder (os : List Outcome) (a : ℕ) : Type 0 where
  pub line : ℕ
  pub there : line < length os
  pub word_is : get_or os line empty ≡ word (get_or (all_held os) a 0)
  pub behind_it : length (all_held (take line os)) ≡ a

pub holder : (os : List Outcome) (a : ℕ) → a < length (all_held os) → Holder os a
holder [] a h = absurd (omega arith)
holder (o ∷ os) a h = go o a h (holder os)
  where
    go : (x : Outcome) (b : ℕ) → b < length (held x ++ all_held os) → ((c : ℕ) → c < length (all_held os) → Holder os c) → Holder (x ∷ os) b
    go empty b k ih = let r = ih b k in record { line = suc r.line; there = let t = r.there in omega arith; word_is = r.word_is; behind_it = r.behind_it }
    go (word w) zero k ih = record { line = 0; there = omega arith; word_is = refl; behind_it = refl }
    go (word w) (suc b) k ih =
        let r = ih b (omega arith) in
        record { line = suc r.line; there = let t = r.there in omega arith; word_is = r.word_is; behind_it = ap suc r.behind_it }
    go (at_fault n) b k ih = let r = ih b k in record { line = suc r.line; there = let t = r.there in omega arith; word_is = r.word_is; behind_it = r.behind_it }
