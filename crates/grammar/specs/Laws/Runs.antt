-- Runs: the bytes from a place on that pass a test; and the line from a place on.
use Rattle.std.specs.Prelude.{◌≡◌, Bool, true, false, cond, List, [], ◌∷◌, ℕ, suc, ◌+◌, ◌<◌, ◌≤◌, eqb, length, get_or, take, drop}
use Rattle.std.proofs.Math.Path.{refl}
use Rattle.std.proofs.Common.{add-one, drop_of_length-le, drop-cons}
use Rattle.grammar.specs.Spelling.{in_word}

-- how many bytes from the first on pass a test
unfoldable pub leading : (ℕ → Bool) → List ℕ → ℕ
leading t [] = 0
leading t (x ∷ xs) = cond (t x) (suc (leading t xs)) 0

abbrev pub run_at : (ℕ → Bool) → List ℕ → ℕ → List ℕ
run_at t text at = take (leading t (drop at text)) (drop at text)

-- the word that stands at a place; for a label, its name
abbrev pub name_at : List ℕ → ℕ → List ℕ
name_at = run_at in_word

-- the bytes of the first line, up to its LF
unfoldable pub line_of : List ℕ → List ℕ
line_of [] = []
line_of (b ∷ bs) = cond (eqb b 10) [] (b ∷ line_of bs)

-- the bytes of the line from a place on
abbrev pub line_at : List ℕ → ℕ → List ℕ
line_at text at = line_of (drop at text)

-- where the line from a place on ends, at its LF or behind the text's last byte
abbrev pub line_end : List ℕ → ℕ → ℕ
line_end text at = at + length (line_at text at)

-- the byte at a place stands in front of what is left behind it
pub front : (text : List ℕ) (p : ℕ) → p < length text → drop p text ≡ get_or text p 0 ∷ drop (p + 1) text
front text p h = rw (add-one p) (drop-cons text p 0 h)

module _ (t : ℕ → Bool) (text : List ℕ) (p : ℕ) where
  -- how long a run is
  pub reach_more : p < length text → t (get_or text p 0) ≡ true → leading t (drop p text) ≡ suc (leading t (drop (p + 1) text))
  unfolding leading
  reach_more h e = rw (front text p h, e) refl

  pub reach_none : p < length text → t (get_or text p 0) ≡ false → leading t (drop p text) ≡ 0
  unfolding leading
  reach_none h e = rw (front text p h, e) refl

  pub reach_end : length text ≤ p → leading t (drop p text) ≡ 0
  unfolding leading
  reach_end h = rw (drop_of_length-le text h) refl

  -- what it has
  pub run_more : p < length text → t (get_or text p 0) ≡ true → run_at t text p ≡ get_or text p 0 ∷ run_at t text (p + 1)
  run_more h e = rw (reach_more h e, front text p h) refl

  pub run_empty : leading t (drop p text) ≡ 0 → run_at t text p ≡ []
  run_empty e = rw e refl
