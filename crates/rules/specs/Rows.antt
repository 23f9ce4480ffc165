-- The rows of request 2026-08: "64 rows of owned, jump and store counts in a table the host lends, one row a compartment", and a step, a run and a load that are lent one.
use Rattle.std.specs.Prelude.{Bool, cond, not, List, [], ◌∷◌, ℕ, zero, suc, ◌+◌, ◌-◌, ◌%◌, eqb, get_or, length}
use Rattle.common.specs.Answers as answer
use Rattle.common.specs.Tables.{Check, on, first_of}
use Rattle.common.specs.Services.{service_count, is_service_number}
use Rattle.rules.specs.Compartments.{numbers}
use Rattle.rules.specs.State.{State}
use Rattle.rules.specs.Checks.{checks}
use Rattle.rules.specs.Step.{commit}
use Rattle.rules.specs.Images.{words_of, regs_of, entry_in, size_in, loaded, not_loaded, load_checks}
use Rattle.rules.specs.Counts.{owned_count, jump_count, store_count}

pub record Row : Type 0 where
  pub owned : ℕ
  pub jump : ℕ
  pub store : ℕ

abbrev pub no_row : Row
no_row = record { owned = 0; jump = 0; store = 0 }

-- what the row of compartment c should be: "each row equal to the count over the tags"
unfoldable pub counts_of : State → ℕ → Row
counts_of s c = record { owned = owned_count s c; jump = jump_count s c; store = store_count s c }

-- what the first k rows say is owned, added up
unfoldable pub owned_below : ℕ → List Row → ℕ
owned_below zero rows = 0
owned_below (suc k) rows = owned_below k rows + (get_or rows k no_row).owned

-- ---- "Each step moves a row by what its tag changes add or take, modulo 2^32"

-- a column that holds x, where the count goes from one number to another; a count that stays moves nothing
unfoldable pub moved_by : ℕ → ℕ → ℕ → ℕ
moved_by before after x = cond (eqb before after) x ((x + after + (4294967296 - before % 4294967296)) % 4294967296)

abbrev pub moved_row : Row → Row → Row → Row
moved_row before after row =
    record {
      owned = moved_by before.owned after.owned row.owned;
      jump = moved_by before.jump after.jump row.jump;
      store = moved_by before.store after.store row.store;
    }

-- the rows from compartment k on
unfoldable pub moved_from : (ℕ → Row) → (ℕ → Row) → ℕ → List Row → List Row
moved_from before after k [] = []
moved_from before after k (row ∷ rows) = moved_row (before k) (after k) row ∷ moved_from before after (suc k) rows

abbrev pub moved : State → State → List Row → List Row
moved s t rows = moved_from (counts_of s) (counts_of t) 0 rows

-- ---- "18 when the table does not have 64 rows, after 14 in a step, after 27 in a load"

unfoldable pub wrong_rows : List Row → Bool
wrong_rows rows = not (eqb (length rows) numbers)

-- a check put in after the first of a table
unfoldable pub after_first : Check → List Check → List Check
after_first c [] = c ∷ []
after_first c (d ∷ ds) = d ∷ c ∷ ds

unfoldable pub lent_checks : State → List Row → List Check
lent_checks s rows = after_first (on answer.bad_rows (wrong_rows rows)) (checks s)

unfoldable pub lent_verdict : State → List Row → ℕ
lent_verdict s rows = first_of (lent_checks s rows)

-- ---- a step

pub record LentStepped : Type 0 where
  pub answer : ℕ
  pub state : State
  pub rows : List Row

-- "no refusal or stop moves a row"
unfoldable pub lent_step : State → List Row → LentStepped
lent_step s rows =
    record {
      answer = lent_verdict s rows;
      state = cond (eqb (lent_verdict s rows) answer.done) (commit s) s;
      rows = cond (eqb (lent_verdict s rows) answer.done) (moved s (commit s) rows) rows;
    }

-- ---- a run: Run's, with a table

pub record LentRan : Type 0 where
  pub answer : ℕ
  pub state : State
  pub rows : List Row
  pub count : ℕ

abbrev pub one_more_lent : LentRan → LentRan
one_more_lent r = record { answer = r.answer; state = r.state; rows = r.rows; count = suc r.count }

abbrev pub ended_lent : ℕ → State → List Row → LentRan
ended_lent answer state rows = record { answer = answer; state = state; rows = rows; count = 0 }

-- budget 0 looks at nothing, not at the table either
unfoldable pub lent_run : ℕ → State → List Row → LentRan
lent_run zero s rows = ended_lent answer.done s rows
lent_run (suc budget) s rows =
    let first : LentStepped = lent_step s rows in
    let rest : LentRan = one_more_lent (lent_run budget first.state first.rows) in
    cond (eqb first.answer answer.done) rest (ended_lent first.answer first.state first.rows)

-- ---- a load: "Loading fills it"

-- main has the N words and may jump to the services; a service has itself and may return to every word; nobody else has anything
unfoldable pub fresh_row : Bool → ℕ → ℕ → Row
fresh_row strict n c =
    cond (eqb c 0) (record { owned = n; jump = service_count strict; store = 0 })
    (cond (is_service_number strict c) (record { owned = 1; jump = n; store = 0 }) no_row)

-- the rows of the m compartments from k on
unfoldable pub rows_from : (ℕ → Row) → ℕ → ℕ → List Row
rows_from f k zero = []
rows_from f k (suc m) = f k ∷ rows_from f (suc k) m

abbrev pub fresh_rows : Bool → ℕ → List Row
fresh_rows strict n = rows_from (fresh_row strict n) 0 numbers

unfoldable pub lent_load_checks : Bool → List ℕ → State → List Row → List Check
lent_load_checks strict bytes old rows = after_first (on answer.bad_rows (wrong_rows rows)) (load_checks strict bytes old)

unfoldable pub lent_load_verdict : Bool → List ℕ → State → List Row → ℕ
lent_load_verdict strict bytes old rows = first_of (lent_load_checks strict bytes old rows)

unfoldable pub lent_load : Bool → List ℕ → State → List Row → LentStepped
lent_load strict bytes old rows =
    record {
      answer = lent_load_verdict strict bytes old rows;
      state = cond (eqb (lent_load_verdict strict bytes old rows) answer.done) (loaded strict (words_of bytes) (regs_of bytes) (entry_in bytes) old) (not_loaded strict old);
      rows = cond (eqb (lent_load_verdict strict bytes old rows) answer.done) (fresh_rows strict (size_in bytes)) rows;
    }
