-- Laws of lines by their places: a walk from line to line meets every line once.
use Rattle.std.specs.Prelude.{◌≡◌, Bool, ℕ, suc, ◌+◌, ◌<◌, ◌≤◌, eqb, length, drop}
use Rattle.std.proofs.Math.Path.{refl, ap}
use Rattle.std.proofs.Common.{◌∙◌, arith, length-drop, drop_of_length-le, drop-drop, drop-cons}
use Rattle.std.proofs.Math.Bool.{true, false, cond}
use mathlib.Core.List.{List, [], ◌∷◌, map}
use Rattle.std.proofs.Math.Numerals.{add-one}
use borrow.Author.Tests.{le-leb, lt-leb, leb-true, leb-false}
use Rattle.std.proofs.Math.Dec.{leb}
use Rattle.numerals.specs.Bytes.{feed}
use Rattle.grammar.specs.Laws.Runs.{line_of, line_at, line_end}
use Rattle.sources.specs.Texts.{onto, lines, Reading, reading, readings}
use Rattle.sources.proofs.Laws.Places.{readings_from}

-- ---- the first line, and the lines behind it

line_within : (bs : List ℕ) → length (line_of bs) ≤ length bs
unfolding line_of
line_within [] = omega arith
line_within (b ∷ bs) = go (eqb b feed) refl (line_within bs)
  where
    go : (t : Bool) → eqb b feed ≡ t → length (line_of bs) ≤ length bs → length (cond t [] (b ∷ line_of bs)) ≤ suc (length bs)
    go true e ih = omega arith
    go false e ih = omega arith

-- the lines behind an LF, if it is there
abbrev behind : List ℕ → List (List ℕ)
behind [] = []
behind (b ∷ bs) = lines bs

lines_first : (bs : List ℕ) → lines bs ≡ line_of bs ∷ behind (drop (length (line_of bs)) bs)
unfolding lines line_of
lines_first [] = refl
lines_first (b ∷ bs) = go (eqb b feed) refl (lines_first bs)
  where
    go : (t : Bool) → eqb b feed ≡ t → lines bs ≡ line_of bs ∷ behind (drop (length (line_of bs)) bs)
        → cond t ([] ∷ lines bs) (onto b (lines bs)) ≡ cond t [] (b ∷ line_of bs) ∷ behind (drop (length (cond t [] (b ∷ line_of bs))) (b ∷ bs))
    go true e ih = refl
    go false e ih = ap (onto b) ih

-- ---- places

module _ (text : List ℕ) where
  pub readings_start : readings_from text 0 ≡ readings text
  unfolding readings_from
  readings_start = rw (le-leb 0 (length text) (omega arith)) refl

  readings_behind : (k : ℕ) → map reading (behind (drop k text)) ≡ readings_from text (k + 1)
  unfolding readings_from readings
  readings_behind k = go (leb (k + 1) (length text)) refl
    where
      go : (t : Bool) → leb (k + 1) (length text) ≡ t → map reading (behind (drop k text)) ≡ cond t (readings (drop (k + 1) text)) []
      go true e = let l = leb-true (k + 1) (length text) e in rw (drop-cons text k 0 (omega arith), add-one k) refl
      go false e = let l = leb-false (k + 1) (length text) e in rw (drop_of_length-le text {i = k} (omega arith)) refl

  module _ (at : ℕ) where
    pub readings_past : length text < at → readings_from text at ≡ []
    unfolding readings_from
    readings_past h = rw (lt-leb at (length text) h) refl

    module _ (h : at ≤ length text) where
      pub line_end_within : (end : ℕ) → end ≡ line_end text at → (at ≤ end) × (end ≤ length text)
      line_end_within end e =
          let w : length (line_at text at) ≤ length (drop at text) = line_within (drop at text) in
          let l = length-drop at text in
          (omega arith, omega arith)

      pub readings_next : readings_from text at ≡ reading (line_at text at) ∷ readings_from text (line_end text at + 1)
      unfolding readings_from readings
      readings_next =
          rw (le-leb at (length text) h)
          (ap (map reading) (lines_first (drop at text))
          ∙ ap (λ (bs : List ℕ). reading (line_at text at) ∷ map reading (behind bs)) (drop-drop (length (line_at text at)) at text)
          ∙ ap (λ (ls : List Reading). reading (line_at text at) ∷ ls) (readings_behind (line_end text at)))
