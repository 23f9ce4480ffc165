-- The second pass, line by line: what it hands out is what the text means.
use Rattle.std.specs.Prelude.{◌≡◌, Bool, true, false, cond, ◌≢◌, eqb, ltb, length, take, set, Ok, Err}
use Rattle.std.proofs.Math.Path.{refl, sym, ap, fun_ext}
use Rattle.std.proofs.Common.{◌∙◌, subst, add-zero, add-one, arith, ne_eqb, ltb-true, eqb-true, take-suc-set}
use mathlib.Core.List.{List, [], ◌∷◌, ◌++◌}
use Rattle.std.proofs.Math.Option.{Option, some}
use Prim.Native.Nat.{ℕ, ◌+◌, ◌<◌, ◌≤◌}
use Rattle.common.specs.Answers as answer
use Rattle.answers.specs.declared.Refusal.{Refusal}
use Rattle.answers.specs.Numbers.{number}
use Rattle.grammar.specs.Trees.{nothing, labelled, instruction, value}
use Rattle.grammar.specs.Reading.Reader.{got, fault, deep}
use Rattle.grammar.proofs.Laws.Tables.{same_refl}
use Rattle.grammar.specs.Laws.Runs.{name_at, line_at, line_end}
use Rattle.sources.specs.Texts.{Reading, reading, readings}
use Rattle.sources.specs.Values.{Valued, is, unknown, outside}
use Rattle.sources.specs.Labels.{Site, holds, words_in, defined, first, address}
use Rattle.sources.specs.Words.{datum, instruction_word}
use Rattle.sources.specs.Meaning.{most, Outcome, empty, word, at_fault, placed, outcome, meaning}
use Rattle.sources.proofs.Laws.Places.{readings_from}
use Rattle.sources.proofs.Laws.PlaceLaws.{readings_next}
use Rattle.sources.proofs.Laws.FirstLaws.{first_defined}
use Rattle.sources.proofs.Laws.Registers.{read_registers}
use Rattle.sources.proofs.Laws.Walks.{Walked, walk_ends, walk_faults, walk_passes, walk_holds}
use Rattle.tokens.specs.Streams.{token_at}
use Rattle.values.specs.Refusals.{fitted_of}
use Rattle.labels.specs.LineLaws.{line_source, line_says, label_named}
use Rattle.assembler.specs.Holding.{word_at}
use Rattle.expressions.specs.Completes.{numbers}
use Rattle.assembler.specs.Held.{word_means, datum_means}
use Rattle.assembler.specs.Emit.{roomed, label_at, judged, judged_at, emitted_of}

-- a word as it is placed, if there is room
roomed_means : (count : ℕ) (v : Valued ℕ) → roomed count (fitted_of v) ≡ placed count v
roomed_means count (is n) = refl
roomed_means count unknown = refl
roomed_means count outside = refl

-- a line that comes to nothing holds no word, and one that comes to a word holds one
placed_some : (count : ℕ) (v : Valued ℕ) → empty ≡ placed count v → ⊥
placed_some count unknown e = cc
placed_some count outside e = cc
placed_some count (is n) e = go (ltb count most) e
  where
    go : (b : Bool) → empty ≡ cond b (word n) (at_fault answer.many_words) → ⊥
    go true h = cc
    go false h = cc

module _ (all before : List Reading) where
  holds_none : (l : Reading) → empty ≡ outcome all before l → holds l ≡ 0
  holds_none (got nothing) e = refl
  holds_none (got (labelled x)) e = refl
  holds_none (got (instruction i)) e = absurd (placed_some (words_in before) (instruction_word (address all) (words_in before) i) e)
  holds_none (got (value x)) e = absurd (placed_some (words_in before) (datum (address all) (words_in before) x) e)
  holds_none fault e = refl
  holds_none deep e = refl

  holds_one : (w : ℕ) (l : Reading) → word w ≡ outcome all before l → holds l ≡ 1
  holds_one w (got nothing) e = cc
  holds_one w (got (labelled x)) e = go (defined x before) e
    where
      go : (b : Bool) → word w ≡ cond b (at_fault answer.label_twice) empty → ◌≡◌ {A = ℕ} 0 1
      go true h = cc
      go false h = cc
  holds_one w (got (instruction i)) e = refl
  holds_one w (got (value x)) e = refl
  holds_one w fault e = cc
  holds_one w deep e = cc

module _ (text : List ℕ) (labels : List ℕ → Option Site) (known : labels ≡ (λ x. first x (readings text)))
    (at line count : ℕ) (ws : List ℕ) (w : Walked text at line count ws) (h : at ≤ length text) where
  abbrev l : Reading
  l = reading (line_at text at)

  whole : readings text ≡ w.before ++ l ∷ readings_from text (line_end text at + 1)
  whole = w.parts ∙ ap (λ (ls : List Reading). w.before ++ ls) (readings_next text at h)

  -- a label line
  twice : (x : List ℕ) → l ≡ got (labelled x) → label_at text labels at line ≡ cond (defined x w.before) (at_fault answer.label_twice) empty
  unfolding label_at
  twice x e =
      let d = first_defined x w.before l (readings_from text (line_end text at + 1)) (rw e (same_refl x)) in
      let s : labels (name_at text (token_at text at).place) ≡ some d.at = ap labels (label_named text at x e) ∙ ap (λ (f : List ℕ → Option Site). f x) known ∙ ap (first x) whole ∙ d.comes in
      rw (s, sym w.lines, d.earlier) refl

  -- a line with a word, whatever the word is
  abbrev Reads : ((List ℕ → Option ℕ) → ℕ → Valued ℕ) → Type 0
  Reads v = word_at text labels count at ≡ fitted_of (v (numbers text labels count) count)

  worded : (v : (List ℕ → Option ℕ) → ℕ → Valued ℕ) → Reads v
      → roomed count (word_at text labels count at) ≡ placed (words_in w.before) (v (address (readings text)) (words_in w.before))
  worded v e =
      ap (roomed count) e
      ∙ roomed_means count (v (numbers text labels count) count)
      ∙ ap (λ (f : List ℕ → Option Site). placed count (v (numbers text f count) count)) known
      ∙ ap (λ (n : ℕ). placed n (v (address (readings text)) n)) (sym w.held)

  judged_means : judged_at text labels at line count ≡ outcome (readings text) w.before l
  unfolding judged_at
  judged_means = go l refl
    where
      go : (m : Reading) → l ≡ m → judged text labels at line count m ≡ outcome (readings text) w.before m
      go (got nothing) e = refl
      go (got (labelled x)) e = twice x e ∙ refl
      go (got (instruction i)) e =
          let y = line_says text at (instruction i) e in
          worded (λ f n. instruction_word f n i) (word_means text labels count i (read_registers (line_at text at) i (line_source text at (instruction i) e)) y.choices at y.shallow y.written)
      go (got (value x)) e =
          let y = line_says text at (value x) e in
          worded (λ f n. datum f n x) (datum_means text labels count x at y.shallow y.written)
      go fault e = refl
      go deep e = refl

-- ---- the steps, with the words kept so far

module _ (text : List ℕ) (labels : List ℕ → Option Site) (known : (x : List ℕ) → labels x ≡ first x (readings text))
    (at line count : ℕ) (words : List ℕ) (w : Walked text at line count (take count words)) where
  pub emit_ends : length text < at → emitted_of (Ok count) words ≡ meaning text
  emit_ends h = walk_ends text w h

  module _ (h : at ≤ length text) where
    means : (o : Outcome) → o ≡ judged_at text labels at line count → o ≡ outcome (readings text) w.before (reading (line_at text at))
    means o j = j ∙ judged_means text labels (fun_ext known) at line count (take count words) w h

    pub emit_refuses : (refusal : Refusal) → at_fault (number refusal) ≡ judged_at text labels at line count
        → emitted_of (Err (record { refusal = refusal; line = line + 1 })) words ≡ meaning text
    emit_refuses refusal j = walk_faults text w h (number refusal) (means _ j)

    module _ (end : ℕ) (en : end ≡ line_end text at) where
      pub emit_passes : empty ≡ judged_at text labels at line count → Walked text (end + 1) (line + 1) count (take count words)
      emit_passes j =
          let e = means empty j in
          let k : count + holds (reading (line_at text at)) ≡ count = rw (holds_none (readings text) w.before (reading (line_at text at)) e) (add-zero count) in
          rw en (subst (λ x. Walked text (line_end text at + 1) (line + 1) x (take count words)) k (walk_passes text w h e))

      pub emit_holds : (v : ℕ) → word v ≡ judged_at text labels at line count → count < length words
          → Walked text (end + 1) (line + 1) (count + 1) (take (count + 1) (set words count v))
      emit_holds v j room =
          let e = means (word v) j in
          let k : count + holds (reading (line_at text at)) ≡ count + 1 = ap (λ (n : ℕ). count + n) (holds_one (readings text) w.before v (reading (line_at text at)) e) in
          let t : take (count + 1) (set words count v) ≡ take count words ++ v ∷ [] = rw (add-one count) (take-suc-set words count v room) in
          rw (en, t) (subst (λ x. Walked text (line_end text at + 1) (line + 1) x (take count words ++ v ∷ [])) k (walk_holds text w h v e))
