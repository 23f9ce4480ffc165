-- What a text means, as a walk from line to line comes to it.
use Rattle.std.specs.Prelude.{◌≡◌, refl, ℕ, ◌+◌, ◌<◌, ◌≤◌, length}
use Rattle.std.proofs.Math.Path.{sym, ap}
use Rattle.std.proofs.Common.{◌∙◌, arith}
use mathlib.Core.List.{List, [], ◌∷◌, ◌++◌, append_assoc, append-nil}
use Rattle.std.proofs.Math.ListN.{length-append}
use Rattle.std.proofs.Math.Seq.{append_snoc}
use Rattle.grammar.specs.Laws.Runs.{line_at, line_end}
use Rattle.sources.specs.Texts.{Reading, reading, readings}
use Rattle.sources.specs.Labels.{holds, words_in}
use Rattle.sources.specs.Meaning.{Outcome, empty, word, at_fault, outcome, Meaning, says, refused, behind, then, from, meaning}
use Rattle.sources.proofs.Laws.Places.{readings_from}
use Rattle.sources.proofs.Laws.PlaceLaws.{readings_start, readings_past, readings_next}
use Rattle.sources.proofs.Laws.FirstLaws.{words_append}

-- the walk stands at a place, with these lines, these words, and no fault, before it
pub record Walked (text : List ℕ) (at line count : ℕ) (ws : List ℕ) : Type 0 where
  pub before : List Reading
  pub parts : readings text ≡ before ++ readings_from text at
  pub lines : length before ≡ line
  pub held : words_in before ≡ count
  pub means : meaning text ≡ behind ws (from (readings text) before (readings_from text at))

behind_none : (m : Meaning) → behind [] m ≡ m
behind_none (says us) = refl
behind_none (refused n l) = refl

behind_behind : (ws us : List ℕ) (m : Meaning) → behind ws (behind us m) ≡ behind (ws ++ us) m
behind_behind ws us (says vs) = ap says (simp append_assoc)
behind_behind ws us (refused n l) = refl

module _ (text : List ℕ) where
  pub walk_starts : Walked text 0 0 0 []
  unfolding words_in meaning
  walk_starts =
      record {
        before = [];
        parts = sym (readings_start text);
        lines = refl;
        held = refl;
        means = ap (from (readings text) []) (sym (readings_start text)) ∙ sym (behind_none (from (readings text) [] (readings_from text 0)));
      }

  module _ {at line count : ℕ} {ws : List ℕ} (w : Walked text at line count ws) where
    pub walk_ends : length text < at → says ws ≡ meaning text
    unfolding from
    walk_ends h =
        sym (w.means ∙ ap (λ (ls : List Reading). behind ws (from (readings text) w.before ls)) (readings_past text at h) ∙ ap says (append-nil ws))

    module _ (h : at ≤ length text) where
      abbrev l : Reading
      l = reading (line_at text at)

      abbrev after : List Reading
      after = readings_from text (line_end text at + 1)

      abbrev with : List Reading
      with = w.before ++ l ∷ []

      step : (o : Outcome) → o ≡ outcome (readings text) w.before l → meaning text ≡ behind ws (then o (line + 1) (from (readings text) with after))
      unfolding from
      step o e =
          w.means
          ∙ ap (λ (ls : List Reading). behind ws (from (readings text) w.before ls)) (readings_next text at h)
          ∙ ap (λ (n : ℕ). behind ws (then (outcome (readings text) w.before l) (n + 1) (from (readings text) with after))) w.lines
          ∙ ap (λ (x : Outcome). behind ws (then x (line + 1) (from (readings text) with after))) (sym e)

      -- the walk goes on behind the line
      goes_on : (us : List ℕ) → meaning text ≡ behind us (from (readings text) with after)
          → Walked text (line_end text at + 1) (line + 1) (count + holds l) us
      unfolding words_in
      goes_on us e =
          let n = length-append w.before (l ∷ []) in
          let k = words_append w.before (l ∷ []) in
          let i = w.lines in
          let j = w.held in
          record {
            before = with;
            parts = w.parts ∙ ap (λ (ls : List Reading). w.before ++ ls) (readings_next text at h) ∙ sym (append_snoc w.before l after);
            lines = omega arith;
            held = omega arith;
            means = e;
          }

      pub walk_faults : (number : ℕ) → at_fault number ≡ outcome (readings text) w.before l → refused number (line + 1) ≡ meaning text
      walk_faults number e = sym (step (at_fault number) e)

      pub walk_passes : empty ≡ outcome (readings text) w.before l → Walked text (line_end text at + 1) (line + 1) (count + holds l) ws
      walk_passes e = goes_on ws (step empty e)

      pub walk_holds : (v : ℕ) → word v ≡ outcome (readings text) w.before l → Walked text (line_end text at + 1) (line + 1) (count + holds l) (ws ++ v ∷ [])
      walk_holds v e = goes_on (ws ++ v ∷ []) (step (word v) e ∙ behind_behind ws (v ∷ []) (from (readings text) with after))
