-- A text is refused exactly at its first line at fault, with that line's number; else it says the words of its lines, each at its own address.
use Rattle.std.specs.Prelude.{◌≡◌, ◌↔◌, ℕ, suc, ◌+◌, ◌-◌, ◌≤◌, ◌<◌, length, get_or, take}
use Rattle.std.proofs.Common.{sym, ap, ◌∙◌, subst, take_all, ext_get_or}
use mathlib.Core.List.{List, []}
use native.Mathlib.Omega.{arith}
use Rattle.std.proofs.Math.ListN.{length-map, get_or-map}
use Rattle.std.proofs.Math.Seq.{take-length}
use Rattle.sources.specs.Texts.{lines, Reading, reading, readings}
use Rattle.sources.specs.Labels.{words_in}
use Rattle.sources.specs.Meaning.{Outcome, empty, word, at_fault, outcome, says, refused, meaning}
use Rattle.sources.proofs.Laws.Outcomes.{Good, all_held, gather, outcomes, from_gather, length_outcomes, outcome_at_lem, Stops, refused_stop, stop_refused, gathered, held_there, holder}
use Rattle.sources.proofs.Laws.HeldWords.{AllGood, held_count, held_most}

-- ---- line k of a text, counted from 1

-- its bytes
abbrev pub bytes_at : List ℕ → ℕ → List ℕ
bytes_at text k = get_or (lines text) (k - 1) []

-- the lines before it, as they are read
abbrev pub lines_before : List ℕ → ℕ → List Reading
lines_before text k = take (k - 1) (readings text)

-- what it comes to
abbrev pub outcome_at : List ℕ → ℕ → Outcome
outcome_at text k = outcome (readings text) (lines_before text k) (reading (bytes_at text k))

-- line k is the first at fault, with number n
pub record FirstFault (text : List ℕ) (n k : ℕ) : Type 0 where
  pub least : 1 ≤ k
  pub there : k ≤ length (lines text)
  pub faulty : outcome_at text k ≡ at_fault n
  pub good : (j : ℕ) → 1 ≤ j → j < k → Good (outcome_at text j)

-- no line is at fault, there are as many words as lines that hold one, and the word of each line stands at the line's own address
pub record Spelled (text : List ℕ) (ws : List ℕ) : Type 0 where
  pub good : (k : ℕ) → 1 ≤ k → k ≤ length (lines text) → Good (outcome_at text k)
  pub count : length ws ≡ words_in (readings text)
  pub each : (k w : ℕ) → 1 ≤ k → k ≤ length (lines text) → outcome_at text k ≡ word w → get_or ws (words_in (lines_before text k)) 0 ≡ w

-- the line that holds word a, at its own address
pub record LineOf (text ws : List ℕ) (a : ℕ) : Type 0 where
  pub line : ℕ
  pub least : 1 ≤ line
  pub there : line ≤ length (lines text)
  pub holds_it : outcome_at text line ≡ word (get_or ws a 0)
  pub address_is : words_in (lines_before text line) ≡ a

module _ (text : List ℕ) where
  abbrev all : List Reading
  all = readings text

  -- what its lines come to
  abbrev come : List Outcome
  come = outcomes all [] all

  meaning_gather : meaning text ≡ gather 0 come
  unfolding meaning
  meaning_gather = from_gather all [] all

  length_readings : length all ≡ length (lines text)
  unfolding readings
  length_readings = length-map (lines text) reading

  length_come : length come ≡ length (lines text)
  length_come = length_outcomes all [] all ∙ length_readings

  reading_at : (i : ℕ) → get_or all i (reading []) ≡ reading (get_or (lines text) i [])
  unfolding readings
  reading_at i = get_or-map reading (lines text) i []

  come_at : (k : ℕ) → 1 ≤ k → k ≤ length (lines text) → get_or come (k - 1) empty ≡ outcome_at text k
  come_at k h b =
      let l = length_readings in
      outcome_at_lem all [] all (k - 1) (reading []) (omega arith) ∙ ap (outcome all (take (k - 1) all)) (reading_at (k - 1))

  come_next : (i : ℕ) → i < length (lines text) → get_or come i empty ≡ outcome_at text (suc i)
  come_next i h =
      let e : suc i - 1 ≡ i = omega arith in
      ap (λ (j : ℕ). get_or come j empty) (sym e) ∙ come_at (suc i) (omega arith) (omega arith)

  -- ---- a refusal

  refused_first : (n k : ℕ) → meaning text ≡ refused n k → FirstFault text n k
  refused_first n k h =
      let s = refused_stop come 0 n k (sym meaning_gather ∙ h) in
      let line = s.line in
      let there = s.stops.there in
      let l = length_come in
      let e : suc s.at ≡ k = omega arith in
      subst (FirstFault text n) e (record {
        least = omega arith;
        there = omega arith;
        faulty = sym (come_next s.at (omega arith)) ∙ s.stops.faulty;
        good = λ j least below. subst Good (come_at j least (omega arith)) (s.stops.good (j - 1) (omega arith));
      })

  first_refused : (n k : ℕ) → FirstFault text n k → meaning text ≡ refused n k
  first_refused n k f =
      let least = f.least in
      let there = f.there in
      let l = length_come in
      let e : 0 + (k - 1) + 1 ≡ k = omega arith in
      let s : Stops come n (k - 1) = record {
        there = omega arith;
        faulty = come_at k least there ∙ f.faulty;
        good = λ j below. subst Good (sym (come_next j (omega arith))) (f.good (suc j) (omega arith) (omega arith));
      } in
      meaning_gather ∙ stop_refused come 0 n (k - 1) s ∙ ap (refused n) e

  -- "the first line at fault is named with its lowest number"
  pub refused_exactly : (n k : ℕ) → (meaning text ≡ refused n k) ↔ FirstFault text n k
  refused_exactly n k = (refused_first n k, first_refused n k)

  -- ---- words

  good_come : ((k : ℕ) → 1 ≤ k → k ≤ length (lines text) → Good (outcome_at text k)) → AllGood come
  good_come g j b = let l = length_come in subst Good (sym (come_next j (omega arith))) (g (suc j) (omega arith) (omega arith))

  -- the words that the lines hold
  abbrev words : List ℕ
  words = all_held come

  good_spelled : AllGood come → Spelled text words
  good_spelled g = record {
    good = λ k least there. let l = length_come in subst Good (come_at k least there) (g (k - 1) (omega arith));
    count = ap (λ (os : List Outcome). length (all_held os)) (sym (take-length come)) ∙ held_count all [] all (length come) g ∙ ap words_in (take_all (length come) all (let l = length_outcomes all [] all in omega arith));
    each = λ k w least there h.
        ap (λ (a : ℕ). get_or words a 0) (sym (held_count all [] all (k - 1) g)) ∙ held_there come (k - 1) w (come_at k least there ∙ h);
  }

  good_line : AllGood come → (a : ℕ) → a < length words → LineOf text words a
  good_line g a b =
      let h = holder come a b in
      let there = h.there in
      let l = length_come in
      let e : suc h.line - 1 ≡ h.line = omega arith in
      record {
        line = suc h.line;
        least = omega arith;
        there = omega arith;
        holds_it = sym (come_next h.line (omega arith)) ∙ h.word_is;
        address_is = ap (λ (i : ℕ). words_in (take i all)) e ∙ sym (held_count all [] all h.line g) ∙ h.behind_it;
      }

  -- no other words are spelled
  spelled_words : (ws : List ℕ) → Spelled text ws → ws ≡ words
  spelled_words ws s =
      let g = good_come s.good in
      let count : length ws ≡ length words = s.count ∙ sym (good_spelled g).count in
      ext_get_or 0 ws words count λ a b.
      let h = good_line g a (omega arith) in
      ap (λ (i : ℕ). get_or ws i 0) (sym h.address_is) ∙ s.each h.line (get_or words a 0) h.least h.there h.holds_it

  -- a text says words exactly where it spells them
  pub says_exactly : (ws : List ℕ) → (meaning text ≡ says ws) ↔ Spelled text ws
  says_exactly ws = (
    λ h. let x = (gathered come 0 ws).0 (sym meaning_gather ∙ h) in subst (Spelled text) (sym x.1) (good_spelled x.0),
    λ s. meaning_gather ∙ (gathered come 0 ws).1 (good_come s.good, spelled_words ws s),
  )

  -- each word that it says is the word of a line whose own address is the word's
  pub line_of_word : (ws : List ℕ) → meaning text ≡ says ws → (a : ℕ) → a < length ws → LineOf text ws a
  line_of_word ws h a b =
      let x = (gathered come 0 ws).0 (sym meaning_gather ∙ h) in
      let l = ap length x.1 in
      subst (λ (us : List ℕ). LineOf text us a) (sym x.1) (good_line x.0 a (omega arith))

  -- there are at most 2,048
  pub says_most : (ws : List ℕ) → meaning text ≡ says ws → length ws ≤ 2048
  unfolding words_in
  says_most ws h =
      let x = (gathered come 0 ws).0 (sym meaning_gather ∙ h) in
      let few = held_most all [] all x.0 (omega arith) in
      let count = ((says_exactly ws).0 h).count in
      omega arith
