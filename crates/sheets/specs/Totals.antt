-- "a last line of exact totals: images, refused, halted, stopped by number, budget used, steps"; "The totals are defined from the lines".
use Rattle.std.specs.Prelude.{Bool, true, false, cond, ◌&&◌, ◌||◌, not, List, [], ◌∷◌, ◌++◌, ℕ, zero, suc, ◌+◌, eqb, leb, get_or, length}
use Rattle.common.specs.Answers as answer
use Rattle.common.specs.Instructions.{bit}
use Rattle.numerals.specs.Bytes.{bytes}
use Rattle.printed.specs.Text.{field, line_end}
use Rattle.sheets.specs.Lines.{Entry, refused, ran}

-- ---- what the totals take of a line

pub record Note : Type 0 where
  pub refused : Bool
  -- the loader's number where the image was refused, else the run's
  pub answer : ℕ
  pub steps : ℕ

unfoldable pub note_of : Entry → Note
note_of (refused a) = record { refused = true; answer = a; steps = 0 }
note_of (ran line writers) = record { refused = false; answer = line.answer; steps = line.steps }

abbrev pub is_refused : Entry → Bool
is_refused e = (note_of e).refused

-- the image ran, and its run answered a
abbrev pub ended_with : ℕ → Entry → Bool
ended_with a e = not (note_of e).refused && eqb (note_of e).answer a

-- ---- the totals of a list of lines

-- of how many lines a test holds
unfoldable pub count_of : (Entry → Bool) → List Entry → ℕ
count_of test [] = 0
count_of test (e ∷ es) = bit (test e) + count_of test es

-- how many runs gave each of k answers, a the first
unfoldable pub ended_from : ℕ → ℕ → List Entry → List ℕ
ended_from zero a es = []
ended_from (suc k) a es = count_of (ended_with a) es ∷ ended_from k (suc a) es

unfoldable pub steps_of : List Entry → ℕ
steps_of [] = 0
steps_of (e ∷ es) = (note_of e).steps + steps_of es

-- the answers of a run are 0 to 17
abbrev pub answers : ℕ
answers = 18

pub record Totals : Type 0 where
  pub images : ℕ
  pub refused : ℕ
  -- by the run's answer
  pub ended : List ℕ
  pub steps : ℕ

unfoldable pub totals : List Entry → Totals
totals es = record { images = length es; refused = count_of is_refused es; ended = ended_from answers 0 es; steps = steps_of es }

abbrev pub halted : Totals → ℕ
halted t = get_or t.ended answer.halt 0

abbrev pub used : Totals → ℕ
used t = get_or t.ended answer.done 0

abbrev pub stopped : Totals → ℕ → ℕ
stopped t a = get_or t.ended a 0

-- ---- the stops

-- 2 to 13 and 16, and 17 in strict mode: 14 and 15 never come of an image
unfoldable pub is_stop : Bool → ℕ → Bool
is_stop strict a =
    (leb answer.no_place a && leb a answer.no_number) || eqb a answer.stray_bit || (strict && eqb a answer.load_forbidden)

-- those of the k answers from a on that are stops
unfoldable pub stops_from : Bool → ℕ → ℕ → List ℕ
stops_from strict zero a = []
stops_from strict (suc k) a = cond (is_stop strict a) (a ∷ stops_from strict k (suc a)) (stops_from strict k (suc a))

abbrev pub stops : Bool → List ℕ
stops strict = stops_from strict answers 0

-- ---- their text, of one shape whatever happened

-- each stop and its count, of the counts by answer
unfoldable pub stops_text : List ℕ → List ℕ → List ℕ
stops_text [] ended = []
stops_text (a ∷ rest) ended = (field (bytes " ") a ++ field (bytes " ") (get_or ended a 0)) ++ stops_text rest ended

-- `images I refused R halted H stopped 2 a 3 b .. 13 l 16 m budget B steps S`
unfoldable pub totals_text : Bool → Totals → List ℕ
totals_text strict t =
    field (bytes "images ") t.images ++ field (bytes " refused ") t.refused ++ field (bytes " halted ") (halted t) ++ bytes " stopped"
    ++ stops_text (stops strict) t.ended ++ field (bytes " budget ") (used t) ++ field (bytes " steps ") t.steps ++ line_end

-- ---- how a night ended: 0 where every image halted, else 1

unfoldable pub status : Totals → ℕ
status t = cond (eqb (halted t) t.images) 0 1
