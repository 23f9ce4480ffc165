-- Good lines hold as many words as are counted of them, and never more than 2,048.
use Rattle.std.specs.Prelude.{◌≡◌, refl, Bool, true, false, cond, List, [], ◌∷◌, ◌++◌, ℕ, zero, suc, ◌+◌, ◌≤◌, ◌<◌, ltb, length, get_or, take}
use Rattle.std.proofs.Common.{ap, ◌∙◌, arith, ltb-true, length-append}
use Rattle.common.specs.Answers as answer
use Rattle.grammar.specs.Trees.{nothing, labelled, instruction, value}
use Rattle.grammar.specs.Reading.Reader.{got, fault, deep}
use Rattle.sources.specs.Values.{Valued, is, unknown, outside}
use Rattle.sources.specs.Texts.{Reading}
use Rattle.sources.specs.Labels.{holds, words_in, defined, address}
use Rattle.sources.specs.Words.{instruction_word, datum}
use Rattle.sources.specs.Meaning.{Outcome, empty, word, at_fault, most, placed, outcome}
use Rattle.sources.proofs.Laws.FirstLaws.{words_append}
use Rattle.sources.proofs.Laws.Outcomes.{Good, held, all_held, outcomes}

-- ---- one line

-- a word that has its place
pub record Placed (before : ℕ) (v : Valued ℕ) : Type 0 where
  pub number : ℕ
  pub valued : v ≡ is number
  pub placed_is : placed before v ≡ word number
  pub room : before < most

pub placed_good : (before : ℕ) (v : Valued ℕ) → Good (placed before v) → Placed before v
placed_good before unknown g = absurd (g answer.unknown_label refl)
placed_good before outside g = absurd (g answer.value_outside refl)
placed_good before (is w) g = go (ltb before most) refl
  where
    go : (b : Bool) → ltb before most ≡ b → Placed before (is w)
    go true e = record { number = w; valued = refl; placed_is = rw e refl; room = ltb-true before most e }
    go false e = absurd (g answer.many_words (rw e refl))

one_held : (before : ℕ) (v : Valued ℕ) → Good (placed before v) → length (held (placed before v)) ≡ 1
one_held before v g = ap (λ (o : Outcome). length (held o)) (placed_good before v g).placed_is

module _ (all before : List Reading) where
  pub held_one : (l : Reading) → Good (outcome all before l) → length (held (outcome all before l)) ≡ holds l
  held_one (got nothing) g = refl
  held_one (got (labelled x)) g = go (defined x before)
    where
      go : (b : Bool) → length (held (cond b (at_fault answer.label_twice) empty)) ≡ 0
      go true = refl
      go false = refl
  held_one (got (instruction i)) g = one_held (words_in before) (instruction_word (address all) (words_in before) i) g
  held_one (got (value e)) g = one_held (words_in before) (datum (address all) (words_in before) e) g
  held_one fault g = absurd (g answer.no_line refl)
  held_one deep g = absurd (g answer.too_deep refl)

  -- behind 2,048 words no good line holds another
  pub held_room : (l : Reading) → Good (outcome all before l) → words_in before ≤ most → words_in before + holds l ≤ most
  held_room (got nothing) g h = omega arith
  held_room (got (labelled x)) g h = omega arith
  held_room (got (instruction i)) g h = let p = placed_good (words_in before) (instruction_word (address all) (words_in before) i) g in omega arith
  held_room (got (value e)) g h = let p = placed_good (words_in before) (datum (address all) (words_in before) e) g in omega arith
  held_room fault g h = absurd (g answer.no_line refl)
  held_room deep g h = absurd (g answer.too_deep refl)

-- ---- lines behind others

abbrev pub AllGood : List Outcome → Type 0
AllGood os = (j : ℕ) → j < length os → Good (get_or os j empty)

-- the first i lines hold as many words as are counted of them
pub held_count : (all before ls : List Reading) (i : ℕ) → AllGood (outcomes all before ls) → length (all_held (take i (outcomes all before ls))) ≡ words_in (take i ls)
unfolding words_in
held_count all before ls zero g = refl
held_count all before [] (suc i) g = refl
held_count all before (l ∷ ls) (suc i) g =
    let one = held_one all before l (g 0 (omega arith)) in
    let ih = held_count all (before ++ l ∷ []) ls i (λ j b. g (suc j) (omega arith)) in
    length-append (held (outcome all before l)) (all_held (take i (outcomes all (before ++ l ∷ []) ls))) ∙ (omega arith)

pub held_most : (all before ls : List Reading) → AllGood (outcomes all before ls) → words_in before ≤ most → words_in before + words_in ls ≤ most
unfolding words_in
held_most all before [] g h = omega arith
held_most all before (l ∷ ls) g h =
    let room = held_room all before l (g 0 (omega arith)) h in
    let snoc = words_append before (l ∷ []) in
    let ih = held_most all (before ++ l ∷ []) ls (λ j b. g (suc j) (omega arith)) (omega arith) in
    omega arith
