-- Laws of the words before a line, and of a label's first line, as a walk from line to line comes to them.
use Rattle.std.specs.Prelude.{◌≡◌, Bool, true, false, List, [], ◌∷◌, ◌++◌, ℕ, suc, ◌+◌, ◌<◌, ◌≤◌, ltb, length}
use Rattle.std.proofs.Math.Path.{refl}
use Rattle.std.proofs.Common.{ap, ◌∙◌, zero-add, add-zero, add_assoc, arith, ltb-true, lt-ltb}
use Rattle.std.proofs.Math.Option.{Option, none, some, map}
use Rattle.common.proofs.Laws.Tests.{bool_ext}
use Rattle.grammar.specs.Laws.Runs.{line_at, line_end}
use Rattle.sources.specs.Texts.{Reading, reading, readings}
use Rattle.sources.specs.Labels.{holds, words_in, defines, defined, Site, site, onward, first}
use Rattle.sources.proofs.Laws.Places.{readings_from}
use Rattle.sources.proofs.Laws.PlaceLaws.{readings_start, readings_past, readings_next}

pub words_append : (ls ms : List Reading) → words_in (ls ++ ms) ≡ words_in ls + words_in ms
unfolding words_in
words_append [] ms = omega arith
words_append (l ∷ ls) ms = let ih = words_append ls ms in omega arith

-- ---- sites, counted from a line further back

onward_none : (o : Option Site) → map (onward 0 0) o ≡ o
onward_none none = refl
onward_none (some s) = ap some (simp zero-add)

onward_onward : (a b c d : ℕ) (o : Option Site) → map (onward a b) (map (onward c d) o) ≡ map (onward (a + c) (b + d)) o
onward_onward a b c d none = refl
onward_onward a b c d (some s) = ap some (simp add_assoc)

module _ (x : List ℕ) (l : Reading) (ls : List Reading) where
  first_here : defines x l ≡ true → first x (l ∷ ls) ≡ some (site 0 0)
  unfolding first
  first_here e = rw e refl

  first_later : defines x l ≡ false → first x (l ∷ ls) ≡ map (onward 1 (holds l)) (first x ls)
  unfolding first
  first_later e = rw e refl

-- ---- a line that defines a label is its first line, unless a line before defines it too

pub record Defined (x : List ℕ) (before all : List Reading) : Type 0 where
  pub at : Site
  pub comes : first x all ≡ some at
  pub earlier : ltb at.line (length before) ≡ defined x before

ltb_one : (a n : ℕ) → ltb (1 + a) (suc n) ≡ ltb a n
ltb_one a n =
    bool_ext (ltb (1 + a) (suc n)) (ltb a n)
    (λ e. let h : 1 + a < suc n = ltb-true (1 + a) (suc n) e in lt-ltb a n (omega arith))
    (λ e. let h : a < n = ltb-true a n e in lt-ltb (1 + a) (suc n) (omega arith))

pub first_defined : (x : List ℕ) (before : List Reading) (l : Reading) (rest : List Reading) → defines x l ≡ true → Defined x before (before ++ l ∷ rest)
unfolding defined
first_defined x [] l rest e = record { at = site 0 0; comes = first_here x l rest e; earlier = refl }
first_defined x (m ∷ before) l rest e = go (defines x m) refl (first_defined x before l rest e)
  where
    go : (t : Bool) → defines x m ≡ t → Defined x before (before ++ l ∷ rest) → Defined x (m ∷ before) (m ∷ before ++ l ∷ rest)
    go true d ih =
        record { at = site 0 0; comes = first_here x m (before ++ l ∷ rest) d; earlier = rw d (lt-ltb 0 (suc (length before)) (omega arith)) }
    go false d ih =
        record {
          at = onward 1 (holds m) ih.at;
          comes = first_later x m (before ++ l ∷ rest) d ∙ ap (map (onward 1 (holds m))) ih.comes;
          earlier = rw d (ltb_one ih.at.line (length before) ∙ ih.earlier);
        }

-- ---- a label's first line, from a place on that has these lines and words before it

abbrev pub ahead : List ℕ → List ℕ → ℕ → ℕ → ℕ → Option Site
ahead text x at line words = map (onward line words) (first x (readings_from text at))

module _ (text x : List ℕ) where
  pub ahead_start : ahead text x 0 0 0 ≡ first x (readings text)
  ahead_start = onward_none (first x (readings_from text 0)) ∙ ap (first x) (readings_start text)

  module _ (at line words : ℕ) where
    pub ahead_past : length text < at → ahead text x at line words ≡ none
    unfolding first
    ahead_past h = rw (readings_past text at h) refl

    module _ (h : at ≤ length text) where
      pub ahead_here : defines x (reading (line_at text at)) ≡ true → ahead text x at line words ≡ some (site line words)
      ahead_here d =
          rw (readings_next text at h, first_here x (reading (line_at text at)) (readings_from text (line_end text at + 1)) d)
          (ap some (simp add-zero))

      pub ahead_next : defines x (reading (line_at text at)) ≡ false
          → ahead text x at line words ≡ ahead text x (line_end text at + 1) (line + 1) (words + holds (reading (line_at text at)))
      ahead_next d =
          rw (readings_next text at h, first_later x (reading (line_at text at)) (readings_from text (line_end text at + 1)) d)
          (onward_onward line words 1 (holds (reading (line_at text at))) (first x (readings_from text (line_end text at + 1))))
