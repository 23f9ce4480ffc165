-- The lines of images: each is refused or ended with a number that the totals list, and ran no more steps than the budget; so of no more
-- than 10,000 images the totals are exact, and sum up. A file that cannot be read has the line of an empty one, refused 20.
use Rattle.std.specs.Prelude.{◌≡◌, Bool, cond, ◌&&◌, ◌||◌, List, [], ◌∷◌, ℕ, ◌+◌, ◌≤◌, ◌<◌, leb, length}
use Rattle.std.proofs.Math.Path.{refl}
use Rattle.std.proofs.Common.{sym, ap, ◌∙◌, arith, eqb-true, leb-true, leb-false, le-leb, ne_eqb}
use Rattle.std.proofs.Math.Bool.{true, false, or-true, or-false}
use Rattle.std.proofs.lemmas.Bool.{lt-leb}
use Rattle.std.proofs.Math.Dec.{eqb}
use Rattle.common.specs.Answers as answer
use Rattle.common.specs.Tables.{first_of}
use Rattle.common.proofs.Laws.Tests.{clash}
use Rattle.rules.specs.Images.{load, load_verdict, load_checks, image_checks}
use Rattle.rules.specs.Checks.{lengths_differ}
use Rattle.rules.specs.Run.{Ran, run}
use Rattle.rules.proofs.Theorems.Counted.{counted}
use Rattle.rules.proofs.BothMachines.Agreement as agreement
use Rattle.printed.specs.Outcome.{budget, memories, line_of}
use Rattle.sheets.specs.Lines.{Entry, refused, ran_entry, load_entry, entry}
use Rattle.sheets.specs.Totals.{note_of, answers, totals, halted, used, stopped, is_stop, stops}
use Rattle.sheets.specs.Told.{none, tally}
use Rattle.sheets.proofs.Theorems.Sums.{is_listed, AllListed, sum_of, images_sum, stop_low}
use Rattle.sheets.proofs.Theorems.Exact.{most, Small, AllSmall, exact}

-- of each input, in list order
unfoldable pub entries : Bool → List (List ℕ) → List Entry
entries strict [] = []
entries strict (input ∷ inputs) = entry strict input ∷ entries strict inputs

-- ---- the answers of a run from an image

known : (strict : Bool) (v : ℕ) → ((leb v 12 || eqb v 16 || (strict && eqb v 17)) || eqb v 13) ≡ true → (leb v 1 || is_stop strict v) ≡ true
unfolding is_stop
known strict v h = go (leb v 13) (leb v 1) (eqb v 16) refl refl refl
  where
    go : (b c d : Bool) → leb v 13 ≡ b → leb v 1 ≡ c → eqb v 16 ≡ d → (leb v 1 || is_stop strict v) ≡ true
    go b true d e f g = simp f
    go true false d e f g = let l = leb-false v 1 f in simp (e, f, le-leb 2 v (omega arith))
    go false false true e f g = simp (e, f, g, or-true)
    go false false false e f g =
        let l = leb-false v 13 e in
        let s : (strict && eqb v 17) ≡ true = simp (lt-leb v 12 (omega arith), g, ne_eqb v 13 (λ q. omega arith), or-false) at h in
        simp (e, f, g, s, or-true)

module _ (strict : Bool) (input : List ℕ) where
  abbrev left : Ran
  left = run budget (load strict input memories).state

  -- what holds of a refused image and of every run holds of the line
  of_entry : (P : Entry → Type 0) → ((a : ℕ) → P (refused a)) → ((load strict input memories).answer ≡ answer.done → P (ran_entry left)) → P (entry strict input)
  unfolding entry load_entry
  of_entry P away runs = go (eqb (load strict input memories).answer answer.done) refl
    where
      go : (b : Bool) → eqb (load strict input memories).answer answer.done ≡ b → P (load_entry (load strict input memories))
      go true e = simp e (runs (eqb-true _ _ e))
      go false e = simp e (away (load strict input memories).answer)

  ends : (load strict input memories).answer ≡ answer.done → (leb left.answer 1 || is_stop strict left.answer) ≡ true
  ends ok = known strict left.answer (agreement.answers strict input memories ok budget)

  ends_low : (load strict input memories).answer ≡ answer.done → left.answer < answers
  ends_low ok = go (leb left.answer 1) refl (ends ok)
    where
      go : (b : Bool) → leb left.answer 1 ≡ b → (leb left.answer 1 || is_stop strict left.answer) ≡ true → left.answer < answers
      go true e h = let l = leb-true left.answer 1 e in omega arith
      go false e h = stop_low strict left.answer (simp e at h)

  away_listed : (a : ℕ) → is_listed strict (refused a) ≡ true
  unfolding is_listed note_of
  away_listed a = refl

  ran_listed : (load strict input memories).answer ≡ answer.done → is_listed strict (ran_entry left) ≡ true
  unfolding is_listed note_of ran_entry line_of
  ran_listed ok = ends ok

  pub listed : is_listed strict (entry strict input) ≡ true
  listed = of_entry (λ e. is_listed strict e ≡ true) away_listed ran_listed

  away_small : (a : ℕ) → Small (refused a)
  unfolding note_of
  away_small a = record { steps = omega arith; answer = λ z. clash refl z }

  ran_small : (load strict input memories).answer ≡ answer.done → Small (ran_entry left)
  unfolding note_of ran_entry line_of
  ran_small ok = record { steps = (counted budget (load strict input memories).state).0; answer = λ z. ends_low ok }

  pub small : Small (entry strict input)
  small = of_entry Small away_small ran_small

-- ---- a night

all_listed : (strict : Bool) (inputs : List (List ℕ)) → AllListed strict (entries strict inputs)
unfolding AllListed entries
all_listed strict [] = record {}
all_listed strict (input ∷ inputs) = (listed strict input, all_listed strict inputs)

pub all_small : (strict : Bool) (inputs : List (List ℕ)) → AllSmall (entries strict inputs)
unfolding AllSmall entries
all_small strict [] = record {}
all_small strict (input ∷ inputs) = (small strict input, all_small strict inputs)

pub one_each : (strict : Bool) (inputs : List (List ℕ)) → length (entries strict inputs) ≡ length inputs
unfolding entries
one_each strict [] = refl
one_each strict (input ∷ inputs) = let h = one_each strict inputs in omega arith

-- counted in 32 bits line by line, the totals are those of the lines
pub night_exact : (strict : Bool) (inputs : List (List ℕ)) → length inputs ≤ most → tally none (entries strict inputs) ≡ totals (entries strict inputs)
night_exact strict inputs h = let l = one_each strict inputs in exact (entries strict inputs) (omega arith) (all_small strict inputs)

-- and each image is counted once
pub night_sum : (strict : Bool) (inputs : List (List ℕ))
    → (totals (entries strict inputs)).images
    ≡ (totals (entries strict inputs)).refused + halted (totals (entries strict inputs)) + sum_of (stopped (totals (entries strict inputs))) (stops strict)
    + used (totals (entries strict inputs))
night_sum strict inputs = images_sum strict (entries strict inputs) (all_listed strict inputs)

-- ---- a file that cannot be read

pub unread : (strict : Bool) → entry strict [] ≡ refused answer.not_whole
unfolding entry load_entry load load_verdict load_checks image_checks first_of lengths_differ
unread true = refl
unread false = refl
