-- The returns of a scan and its steps, as the code comes to them; and a lookup that found nothing.
use Rattle.std.specs.Prelude.{Some, None, ◌≡◌, refl, Bool, true, false, List, ℕ, ◌+◌, ◌<◌, ◌≤◌, length}
use Rattle.std.proofs.Common.{sym, ap, ◌∙◌}
use Rattle.std.proofs.Math.Option.{Option, none, some}
use Rattle.grammar.specs.Reading.Shapes.{shape_of}
use Rattle.grammar.specs.Laws.Runs.{line_at, line_end}
use Rattle.sources.specs.Texts.{reading, readings}
use Rattle.sources.specs.Labels.{Site, defines, first}
use Rattle.sources.proofs.Laws.FirstLaws.{ahead, ahead_past, ahead_here, ahead_next}
use Rattle.label_table.specs.Table.{found}
use Rattle.labels.specs.Locating.{held_by}
use Rattle.labels.specs.LineLaws.{held_holds}

-- ---- a scan: what lies ahead is what the text says

module _ (text x : List ℕ) (at line words : ℕ) (inv : first x (readings text) ≡ ahead text x at line words) where
  pub scan_past : length text < at → None ≡ found (first x (readings text))
  scan_past h = ap found (sym (inv ∙ ahead_past text x at line words h))

  module _ (h : at ≤ length text) (d : Bool) (e : d ≡ defines x (reading (line_at text at))) where
    pub scan_here : d ≡ true → Some (record { line = line; words = words }) ≡ found (first x (readings text))
    scan_here t = ap found (sym (inv ∙ ahead_here text x at line words h (sym e ∙ t)))

    pub scan_next : d ≡ false → (shape k end : ℕ) → shape ≡ shape_of (reading (line_at text at)) → k ≡ held_by shape → end ≡ line_end text at
        → first x (readings text) ≡ ahead text x (end + 1) (line + 1) (words + k)
    scan_next f shape k end es ek en =
        let held = ek ∙ ap held_by es ∙ held_holds (reading (line_at text at)) in
        rw (en, held) (inv ∙ ahead_next text x at line words h (sym e ∙ f))

-- ---- a lookup

-- nothing was found
pub absent : (o : Option Site) → None ≡ found o → o ≡ none
absent (some s) e = cc
absent none e = refl
