-- "as the run program's first line": a line and the run program's text begin alike, and differ in nothing but the writers.
use Rattle.std.specs.Prelude.{◌≡◌, refl, Bool, true, false, cond, List, [], ◌∷◌, ◌++◌, ℕ, eqb}
use Rattle.std.proofs.Math.Path.{sym, ap}
use Rattle.std.proofs.Common.{◌∙◌, append_assoc, append-nil, ne_eqb, eq-eqb}
use Rattle.common.specs.Answers as answer
use Rattle.rules.specs.Images.{Loaded, load}
use Rattle.rules.specs.Run.{Ran, run}
use Rattle.numerals.specs.Bytes.{bytes}
use Rattle.numerals.specs.Laws.Tells.{Stops}
use Rattle.printed.specs.Text as printed
use Rattle.printed.specs.Text.{line_end, refused_line, Line, first_fields, first_line, row_lines, text}
use Rattle.printed.specs.Outcome.{budget, memories, line_of, rows_from, ran_outcome, load_outcome, outcome}
use Rattle.printed.proofs.Theorems.Tells.{fields_then, refused_tells, differs}
use Rattle.sheets.specs.Lines.{members, target_writers, Entry, refused, ran, ran_entry, load_entry, entry, numbers_text, writers_text, line_text}
use Rattle.sheets.specs.Totals.{Note, note_of}

-- what a line has in common with the run program's first line
unfoldable pub run_part : Entry → List ℕ
run_part (refused a) = line_text (refused a)
run_part (ran line writers) = first_line line

load_begins : (l : Loaded) → (rest : List ℕ) × (text (load_outcome l) ≡ run_part (load_entry l) ++ rest)
unfolding load_outcome load_entry
load_begins l = go (eqb l.answer answer.done)
  where
    runs : (r : Ran) → (rest : List ℕ) × (text (ran_outcome r) ≡ run_part (ran_entry r) ++ rest)
    runs r = unfold text ran_outcome ran_entry run_part in (row_lines (rows_from r.state 0 r.state.cpu.next), refl)

    away : (a : ℕ) → (rest : List ℕ) × (text (printed.refused a) ≡ run_part (refused a) ++ rest)
    away a = unfold text run_part line_text in ([], sym (append-nil (refused_line a)))

    go : (b : Bool)
        → (rest : List ℕ) × (text (cond b (ran_outcome (run budget l.state)) (printed.refused l.answer)) ≡ run_part (cond b (ran_entry (run budget l.state)) (refused l.answer)) ++ rest)
    go true = runs (run budget l.state)
    go false = away l.answer

-- the run program's text begins with that, and its rows follow
pub begins : (strict : Bool) (input : List ℕ) → (rest : List ℕ) × (text (outcome strict input) ≡ run_part (entry strict input) ++ rest)
unfolding outcome entry
begins strict input = load_begins (load strict input memories)

plain : (l : Line) (ws : List ℕ) → (l.answer ≡ answer.store_forbidden → ⊥) → line_text (ran l ws) ≡ first_line l
unfolding line_text writers_text first_line
plain l ws n =
    ap (λ (b : Bool). first_fields l ++ cond b (bytes " writers" ++ numbers_text ws) [] ++ line_end) (ne_eqb l.answer answer.store_forbidden n)
    ∙ ap (λ (t : List ℕ). t ++ line_end) (append-nil (first_fields l))

-- a line is that, unless the run answers 7
pub same_line : (e : Entry) → ((note_of e).answer ≡ answer.store_forbidden → ⊥) → line_text e ≡ run_part e
unfolding run_part note_of
same_line (refused a) n = refl
same_line (ran l ws) n = plain l ws n

-- and then the writers stand before its end
pub with_writers : (l : Line) (ws : List ℕ) → l.answer ≡ answer.store_forbidden
    → line_text (ran l ws) ≡ first_fields l ++ (bytes " writers" ++ numbers_text ws) ++ line_end
unfolding line_text writers_text
with_writers l ws h = simp (eq-eqb l.answer answer.store_forbidden h)

-- which are those of the word that the Store at pc names
pub are_writers : (r : Ran) → r.answer ≡ answer.store_forbidden → ran_entry r ≡ ran (line_of r) (members (target_writers r.state))
unfolding ran_entry
are_writers r h = simp (eq-eqb r.answer answer.store_forbidden h)

-- ---- "The totals are defined from the lines": two lines of one text are counted alike

stops_ahead : (a : ℕ) (ws : List ℕ) → Stops (writers_text a ws ++ line_end)
unfolding writers_text
stops_ahead a ws = go (eqb a answer.store_forbidden)
  where
    go : (b : Bool) → Stops (cond b (bytes " writers" ++ numbers_text ws) [] ++ line_end)
    go true = refl
    go false = refl

-- the fields, and then the rest
apart : (l : Line) (ws : List ℕ) → line_text (ran l ws) ≡ first_fields l ++ (writers_text l.answer ws ++ line_end)
unfolding line_text
apart l ws = append_assoc (first_fields l) (writers_text l.answer ws) line_end

pub lines_tell : (e f : Entry) → line_text e ≡ line_text f → note_of e ≡ note_of f
unfolding note_of
lines_tell (refused a) (refused b) h = unfold line_text in ap (λ (x : ℕ). note_of (refused x)) (refused_tells a b h)
lines_tell (refused a) (ran l ws) h = unfold line_text in absurd (differs a l (writers_text l.answer ws ++ line_end) (h ∙ apart l ws))
lines_tell (ran l ws) (refused b) h = unfold line_text in absurd (differs b l (writers_text l.answer ws ++ line_end) (sym h ∙ apart l ws))
lines_tell (ran l ws) (ran m us) h =
    let t = fields_then l m _ _ (stops_ahead l.answer ws) (stops_ahead m.answer us) (sym (apart l ws) ∙ h ∙ apart m us) in
    ap (λ (x : Line). record { refused = false; answer = x.answer; steps = x.steps }) t.0
