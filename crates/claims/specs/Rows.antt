-- Request 2026-08, rows kept ready: demand 3 for steps that are lent 64 rows, the rows from an accepted image. Of the rules; of the code in CodeRows.
use Rattle.std.specs.Prelude.{◌≡◌, Bool, List, ℕ, ◌+◌, ◌<◌, ◌≤◌, get_or, length}
use Rattle.std.proofs.Common.{sym, ap, ◌∙◌, subst}
use Rattle.common.specs.Answers as answer
use Rattle.common.specs.Services.{service_count}
use Rattle.rules.specs.Compartments.{numbers}
use Rattle.rules.specs.State.{State}
use Rattle.rules.specs.Run.{Ran}
use Rattle.rules.specs.Images.{load, size_in}
use Rattle.rules.specs.Rows.{Row, no_row, owned_below, fresh_rows, LentStepped, LentRan, lent_run, lent_load}
use Rattle.rules.specs.Laws.RowLaws.{length_rows}
use Rattle.rules.proofs.Theorems.Rows.{told, Right, lent_load_lem, same_run}
use Rattle.rules.proofs.BothMachines.Runs.{Together}
use Rattle.rules.proofs.BothMachines.Agreement as agreed
use Rattle.rules.proofs.BothMachines.LoadedRows as loaded

module _ (m : Bool) (bytes : List ℕ) (old : State) (rows : List Row) (all : length rows ≡ numbers) (ok : (lent_load m bytes old rows).answer ≡ answer.done) where
  -- n steps, lent the memories and the rows that the load was lent
  abbrev pub after : ℕ → LentRan
  after n = lent_run n (lent_load m bytes old rows).state (lent_load m bytes old rows).rows

  accepted : (load m bytes old).answer ≡ answer.done
  accepted = sym (ap (λ (o : LentStepped). o.answer) (lent_load_lem rows all m bytes old)) ∙ ok

  is_after : (n : ℕ) → after n ≡ lent_run n (load m bytes old).state (fresh_rows m (size_in bytes))
  is_after n = ap (λ (o : LentStepped). lent_run n o.state o.rows) (loaded.load_rows m bytes old rows all accepted)

  -- answers, states and counts are those of the tagged machine of which demand 3 speaks
  pub same_as_tagged : (n : ℕ) → told (after n) ≡ agreed.tagged m n bytes old
  same_as_tagged n = ap told (is_after n) ∙ same_run n (load m bytes old).state (fresh_rows m (size_in bytes)) (length_rows _ 0 numbers)

  -- demand 3; the abstract machine has no rows
  pub lent_agreement : (n : ℕ) → agreed.compartments m n bytes ≤ numbers → Together (told (after n)) (agreed.abstract m n bytes)
  lent_agreement n h = subst (λ (r : Ran). Together r (agreed.abstract m n bytes)) (sym (same_as_tagged n)) (agreed.agreement m bytes old accepted n h)

  -- each row is the counts over the tags
  pub rows_are_right : (n : ℕ) → Right (agreed.tagged m n bytes old).state (after n).rows
  rows_are_right n = subst (λ (r : LentRan). Right (agreed.tagged m n bytes old).state r.rows) (sym (is_after n)) (loaded.rows_right m bytes old rows all accepted n)

  -- those from next on are 0
  pub rows_unused : (n c : ℕ) → (agreed.tagged m n bytes old).state.cpu.next ≤ c → c < numbers → get_or (after n).rows c no_row ≡ no_row
  rows_unused n c h k = subst (λ (r : LentRan). get_or r.rows c no_row ≡ no_row) (sym (is_after n)) (loaded.unused_rows m bytes old rows all accepted n c h k)

  -- "From a loaded image the owned counts below next sum to N plus the number of services"
  pub owned_sum : (n : ℕ) → owned_below (agreed.tagged m n bytes old).state.cpu.next (after n).rows ≡ size_in bytes + service_count m
  owned_sum n = subst (λ (r : LentRan). owned_below (agreed.tagged m n bytes old).state.cpu.next r.rows ≡ size_in bytes + service_count m) (sym (is_after n)) (loaded.owned_adds_up m bytes old rows all accepted n)
