-- The sheet of a night of images, of every outcome that the contracts of the calls allow: the line to the byte, the totals of the lines, their text.
use Rattle.std.specs.Prelude.{◌≡◌, Bool, List, [], ◌∷◌, ◌++◌, ℕ, ◌+◌, ◌≤◌, ◌<◌, get_or, length, drop}
use Rattle.std.proofs.Common.{sym, ◌∙◌, subst, arith}
use Rattle.std.proofs.Math.Path.{ap}
use Rattle.sheets.specs.Lines.{entry, line_text}
use Rattle.sheets.specs.Totals.{Note, note_of, Totals, totals, totals_text, status, halted, used, stopped, stops}
use Rattle.sheets.specs.Told as told
use Rattle.sheets.specs.Told.{Told, Lined, tally}
use Rattle.sheets.proofs.Theorems.Sums.{sum_of}
use Rattle.sheets.proofs.Theorems.Exact.{most}
use Rattle.sheets.proofs.Theorems.Images.{entries, night_exact, night_sum}
use Rattle.sheets.proofs.Theorems.Bound.{line_most, night_most}
use Rattle.sheets.proofs.Theorems.Telling as telling
use Rattle.printer.specs.Endings.{status_of}
use Rattle.sheet.specs.Views as seen
use Rattle.sheet.proofs.line.Reads as Line-of
use Rattle.sheet.proofs.none.Reads as none_of
use Rattle.sheet.proofs.add.Reads as add-of
use Rattle.sheet.proofs.total.Reads as total_of
use Rattle.sheet.proofs.ended.Reads as Ended-of
use Rattle.claims.specs.Allowed.{Promise, Allows, allowed}

abbrev pub by_line : Promise Line-of.Post (Bool × List ℕ × List ℕ) Lined
by_line =
    record {
      given = λ κs a. (a.0, a.1.0.now, a.1.1.0.now);
      left = λ κs r s. seen.lined_of r s.1.1.0.now;
      meant = λ i. told.line i.0 i.1 i.2;
      says = λ κs a r s h. h;
    }

abbrev pub by_none : Promise none_of.Post (Unit {0}) Totals
by_none = record { given = λ κs a. Prim.tt; left = λ κs r s. seen.totals_of r; meant = λ i. told.none; says = λ κs a r s h. h }

abbrev pub by_add : Promise add-of.Post (Totals × Note) Totals
by_add =
    record {
      given = λ κs a. (seen.totals_of a.0, seen.note_of a.1.0);
      left = λ κs r s. seen.totals_of r;
      meant = λ i. told.added i.0 i.1;
      says = λ κs a r s h. h;
    }

abbrev pub by_total : Promise total_of.Post (Bool × Totals × List ℕ) Told
by_total =
    record {
      given = λ κs a. (a.0, seen.totals_of a.1.0, a.1.1.0.now);
      left = λ κs r s. seen.told_of r s.1.1.0.now;
      meant = λ i. told.total i.0 i.1 i.2;
      says = λ κs a r s h. h;
    }

abbrev pub by_ended : Promise Ended-of.Post Totals ℕ
by_ended = record { given = λ κs a. seen.totals_of a.0; left = λ κs r s. status_of r; meant = status; says = λ κs a r s h. h }

-- ---- a text in the lent buffer

-- it stands at the front and all behind it is as it was; or 31, and the buffer is as it was
pub record Tells (text out : List ℕ) (t : Told) : Type 0 where
  pub whole : length text ≤ length out → (t.answer ≡ 0) × (t.length ≡ length text) × (t.out ≡ text ++ drop (length text) out)
  pub short : length out < length text → (t.answer ≡ 31) × (t.length ≡ 0) × (t.out ≡ out)

tells : (text out : List ℕ) (t : Told) → t ≡ told.tell text out → Tells text out t
tells text out t h =
    record {
      whole = λ r. let e = h ∙ telling.tell_whole text out r in (ap (λ (x : Told). x.answer) e, ap (λ (x : Told). x.length) e, ap (λ (x : Told). x.out) e);
      short = λ r. let e = h ∙ telling.tell_left text out r in (ap (λ (x : Told). x.answer) e, ap (λ (x : Told). x.length) e, ap (λ (x : Told). x.out) e);
    }

-- ---- the line of an image

module _ (strict : Bool) (input out : List ℕ) (o : Lined) (h : Allows Line-of.Post by_line (strict, input, out) o) where
  is : o ≡ told.line strict input out
  is = allowed Line-of.Post by_line (strict, input, out) o h

  -- what the totals take of it is told whatever the buffer
  pub noted : o.note ≡ note_of (entry strict input)
  unfolding told.line
  noted = ap (λ (x : Lined). x.note) is

  pub lined : Tells (line_text (entry strict input)) out o.told
  unfolding told.line
  lined = tells (line_text (entry strict input)) out o.told (ap (λ (x : Lined). x.told) is)

  -- 308 bytes are room for the line of any bytes
  pub line_roomy : ((i : ℕ) → i < length input → get_or input i 0 < 256) → 308 ≤ length out → o.told.answer ≡ 0
  line_roomy byte r = let m = line_most strict input byte in (lined.whole (omega arith)).0

-- ---- a night: from no lines on, each image's line is made and its note added

-- from the totals t, over these inputs in order, to the totals u
unfoldable pub GoesOn : Bool → Totals → List (List ℕ) → Totals → Type 0
GoesOn strict t [] u = t ≡ u
GoesOn strict t (input ∷ inputs) u =
    (out : List ℕ) × (o : Lined) × (s : Totals) × Allows Line-of.Post by_line (strict, input, out) o × Allows add-of.Post by_add (t, o.note) s
    × GoesOn strict s inputs u

pub record Night (strict : Bool) (inputs : List (List ℕ)) (t : Totals) : Type 0 where
  pub first : Totals
  pub begins : Allows none_of.Post by_none Prim.tt first
  pub goes_on : GoesOn strict first inputs t

tallied : (strict : Bool) (inputs : List (List ℕ)) (t u : Totals) → GoesOn strict t inputs u → u ≡ tally t (entries strict inputs)
unfolding GoesOn tally entries
tallied strict [] t u n = sym n
tallied strict (input ∷ inputs) t u (out, o, s, l, a, rest) =
    let e = allowed add-of.Post by_add (t, o.note) s a in
    tallied strict inputs s u rest
    ∙ ap (λ (x : Totals). tally x (entries strict inputs)) (e ∙ ap (told.added t) (noted strict input out o l))

module _ (strict : Bool) (inputs : List (List ℕ)) (t : Totals) (n : Night strict inputs t) (few : length inputs ≤ most) where
  -- "The totals are defined from the lines": of 10,000 images and fewer they are those of the lines, to the last number
  pub exact : t ≡ totals (entries strict inputs)
  exact =
      tallied strict inputs n.first t n.goes_on
      ∙ ap (λ (x : Totals). tally x (entries strict inputs)) (allowed none_of.Post by_none Prim.tt n.first n.begins)
      ∙ night_exact strict inputs few

  -- and each image is counted once
  pub sums : t.images ≡ t.refused + halted t + sum_of (stopped t) (stops strict) + used t
  sums =
      subst (λ (u : Totals). u.images ≡ u.refused + halted u + sum_of (stopped u) (stops strict) + used u) (sym exact) (night_sum strict inputs)

  -- their line, to the byte
  pub told_totals : (out : List ℕ) (o : Told) → Allows total_of.Post by_total (strict, t, out) o
      → Tells (totals_text strict (totals (entries strict inputs))) out o
  unfolding told.total
  told_totals out o h =
      tells (totals_text strict (totals (entries strict inputs))) out o
      (allowed total_of.Post by_total (strict, t, out) o h ∙ ap (λ (u : Totals). told.tell (totals_text strict u) out) exact)

  -- 0 where every image halted, else 1
  pub ended : (r : ℕ) → Allows Ended-of.Post by_ended t r → r ≡ status (totals (entries strict inputs))
  ended r h = allowed Ended-of.Post by_ended t r h ∙ ap status exact

  -- 350 bytes are room for it
  pub totals_roomy : (out : List ℕ) (o : Told) → Allows total_of.Post by_total (strict, t, out) o → 350 ≤ length out → o.answer ≡ 0
  totals_roomy out o h r = let m = night_most strict inputs few in ((told_totals out o h).whole (omega arith)).0
