-- Rows of the code, by value and for C: of any table the answers, and of a session whose calls are each lent the rows that the one before left, that the rows are the counts.
use Rattle.std.specs.Prelude.{◌≡◌, refl, Bool, List, [], ◌∷◌, ◌↔◌, ℕ, ◌+◌, ◌≤◌, ◌<◌, get_or, length}
use Rattle.std.proofs.Common.{sym, ◌∙◌, subst, ext_get_or}
use Rattle.std.proofs.Math.Path.{ap}
use Rattle.std.proofs.Math.Bool.{false}
use borrow.Author.Tests.{ne_eqb}
use Rattle.std.proofs.Math.Dec.{eqb}
use Rattle.common.specs.Services.{service_count}
use Rattle.common.specs.Tables.{Exactly}
use Rattle.rules.specs.Compartments.{numbers}
use Rattle.rules.specs.State.{State}
use Rattle.rules.specs.Run.{Ran, run}
use Rattle.rules.specs.Images.{load, size_in}
use Rattle.rules.specs.Rows.{Row, no_row, owned_below, fresh_rows, lent_checks, lent_load_checks, lent_load_verdict, LentStepped, lent_step, lent_load, LentRan, lent_run}
use Rattle.rules.proofs.Theorems.Rows.{told, Right, lent_step_number, lent_load_number, stopped_rows, lent_load_lem, run_right}
use Rattle.rules.proofs.BothMachines.LoadedRows as loaded
use Rattle.claims.specs.Lending.{Lending, told_load, one_lent, run_one_lent}
use Rattle.claims.specs.Lending as lending
use Rattle.claims.specs.Code.{Code}
use Rattle.claims.proofs.Calls.{with_rows, for_c}
use Rattle.claims.specs.Sessions.{Asked, one_step_lem, steps, budget_of, left_by, steps_of, Called, Session}
use Rattle.claims.specs.CodeAgreement.{Begun}
use Rattle.claims.proofs.CodeAgreement.{left_run}
use Rattle.claims.specs.CodeRows.{LentCall, seen, left_rows, LentAllowed, LentSession, LentBegun, Sees}

module _ (l : Lending) where
  -- a call by its contract is a run of the rules, whatever the table
  pub lent_called : (q : Asked) (s : State) (rows : List Row) (o : LentRan) → LentAllowed l q s rows o → o ≡ lent_run (budget_of q) s rows
  lent_called one_step_lem s rows o = l.steps s rows o
  lent_called (steps budget) s rows o = l.runs budget s rows o

  -- ---- any table: each number on its condition, 18 where it has not 64 rows; no stop and no refusal moves a row

  module _ (s : State) (rows : List Row) (o : LentRan) (h : l.Steps s rows o) where
    is_step : o ≡ one_lent (lent_step s rows)
    is_step = l.steps s rows o h ∙ sym (run_one_lent s rows)

    pub step_number : (k : ℕ) → (k ≡ 0 → ⊥) → (o.answer ≡ k) ↔ Exactly (lent_checks s rows) k
    step_number k n = subst (λ (x : LentRan). (x.answer ≡ k) ↔ Exactly (lent_checks s rows) k) (sym is_step) (lent_step_number s rows k n)

    pub stop : (o.answer ≡ 0 → ⊥) → (o.state ≡ s) × (o.rows ≡ rows)
    stop n =
        let e : lent_step s rows ≡ record { answer = (lent_step s rows).answer; state = s; rows = rows } = stopped_rows s rows (λ z. n (ap (λ (x : LentRan). x.answer) is_step ∙ z)) in
        (ap (λ (x : LentRan). x.state) is_step ∙ ap (λ (x : LentStepped). x.state) e, ap (λ (x : LentRan). x.rows) is_step ∙ ap (λ (x : LentStepped). x.rows) e)

  -- budget 0 looks at nothing, not at the table either
  pub budget_0 : (s : State) (rows : List Row) (o : LentRan) → l.Runs 0 s rows o → o ≡ record { answer = 0; state = s; rows = rows; count = 0 }
  unfolding lent_run
  budget_0 s rows o h = l.runs 0 s rows o h

  module _ (m : Bool) (bytes : List ℕ) (old : State) (rows : List Row) (o : LentStepped) (h : l.Loads m bytes old rows o) where
    pub load_number : (k : ℕ) → (k ≡ 0 → ⊥) → (o.answer ≡ k) ↔ Exactly (lent_load_checks m bytes old rows) k
    load_number k n =
        subst (λ (x : LentStepped). (x.answer ≡ k) ↔ Exactly (lent_load_checks m bytes old rows) k) (sym (l.loads m bytes old rows o h)) (lent_load_number m bytes old rows k n)

    pub refused_load : (o.answer ≡ 0 → ⊥) → o.rows ≡ rows
    unfolding lent_load
    refused_load n =
        let e : o ≡ lent_load m bytes old rows = l.loads m bytes old rows o h in
        let z : eqb (lent_load_verdict m bytes old rows) 0 ≡ false = ne_eqb _ 0 (λ q. n (ap (λ (x : LentStepped). x.answer) e ∙ q)) in
        ap (λ (x : LentStepped). x.rows) e ∙ simp z

  -- ---- right rows stay right, from any state, after a call and after calls in a row

  pub call_right : (q : Asked) (s : State) (rows : List Row) (o : LentRan) → LentAllowed l q s rows o → Right s rows → Right o.state o.rows
  call_right q s rows o h r = subst (λ (x : LentRan). Right x.state x.rows) (sym (lent_called q s rows o h)) (run_right (budget_of q) s rows r)

  pub session_right : (s : State) (rows : List Row) (cs : List LentCall) → LentSession l s rows cs → Right s rows → Right (left_by s (seen cs)) (left_rows rows cs)
  session_right s rows [] h r = r
  session_right s rows (c ∷ cs) h r = session_right c.did.state c.did.rows cs h.1 (call_right c.asked s rows c.did h.0 r)

abbrev pub by_value_sees : Sees lending.by_value with_rows
by_value_sees = record { load = λ m bytes old o h. h; step = λ s o h. h; run = λ budget s o h. h }

abbrev pub for_c_sees : Sees lending.for_c for_c
for_c_sees = record { load = λ m bytes old o h. h; step = λ s o h. h; run = λ budget s o h. h }

-- ---- from an accepted load

module _ (l : Lending) (code : Code) (sees : Sees l code) (m : Bool) (bytes : List ℕ) (cs : List LentCall) (b : LentBegun l m bytes cs) where
  is_load : b.outcome ≡ lent_load m bytes b.old b.table
  is_load = l.loads m bytes b.old b.table b.outcome b.loads

  ok : (load m bytes b.old).answer ≡ 0
  ok = sym (ap (λ (o : LentStepped). o.answer) (is_load ∙ lent_load_lem b.table b.all m bytes b.old)) ∙ b.accepted

  filled : b.outcome ≡ record { answer = 0; state = (load m bytes b.old).state; rows = fresh_rows m (size_in bytes) }
  filled = is_load ∙ loaded.load_rows m bytes b.old b.table b.all ok

  pub first_right : Right b.outcome.state b.outcome.rows
  first_right = subst (λ (o : LentStepped). Right o.state o.rows) (sym filled) (loaded.load_right m bytes b.old b.table b.all ok)

  seen_call : (q : Asked) (s : State) (t : List Row) (o : LentRan) → length t ≡ numbers → LentAllowed l q s t o → Called code s (record { asked = q; did = told o })
  seen_call one_step_lem s t o e h = sees.step s (told o) (record { rows = t; all = e; whole = o; does = h; sees = refl })
  seen_call (steps budget) s t o e h = sees.run budget s (told o) (record { rows = t; all = e; whole = o; does = h; sees = refl })

  pub seen_session : (s : State) (rows : List Row) (ds : List LentCall) → Right s rows → LentSession l s rows ds → Session code s (seen ds)
  seen_session s rows [] r h = tt
  seen_session s rows (d ∷ ds) r h =
      (seen_call d.asked s rows d.did r.all h.0, seen_session d.did.state d.did.rows ds (call_right l d.asked s rows d.did h.0 r) h.1)

  -- demand 3 speaks of it: all that CodeAgreement says holds of these calls
  abbrev pub begun : Begun code m bytes (seen cs)
  begun =
      record {
        old = b.old;
        outcome = told_load b.outcome;
        loads = sees.load m bytes b.old (told_load b.outcome) (record { rows = b.table; all = b.all; whole = b.outcome; does = b.loads; sees = refl });
        accepted = b.accepted;
        calls = seen_session b.outcome.state b.outcome.rows cs first_right b.calls;
      }

  -- what the session left
  abbrev left : State
  left = left_by b.outcome.state (seen cs)

  abbrev rows : List Row
  rows = left_rows b.outcome.rows cs

  -- each row is the counts over the tags
  pub rows_are_right : Right left rows
  rows_are_right = session_right l b.outcome.state b.outcome.rows cs b.calls first_right

  -- so many steps of the rules, and what they leave
  abbrev k : ℕ
  k = steps_of (seen cs)

  steps_run : run k (load m bytes b.old).state ≡ record { answer = 0; state = left; count = k }
  steps_run = left_run code m bytes (seen cs) begun

  rows_run : rows ≡ (lent_run k (load m bytes b.old).state (fresh_rows m (size_in bytes))).rows
  rows_run =
      let r : Right left (lent_run k (load m bytes b.old).state (fresh_rows m (size_in bytes))).rows =
      subst (λ (o : Ran). Right o.state (lent_run k (load m bytes b.old).state (fresh_rows m (size_in bytes))).rows) steps_run (loaded.rows_right m bytes b.old b.table b.all ok k) in
      ext_get_or no_row rows _ (rows_are_right.all ∙ sym r.all) (λ c h. let h' = subst (λ (n : ℕ). c < n) rows_are_right.all h in rows_are_right.same c h' ∙ sym (r.same c h'))

  -- those from next on are 0
  pub rows_unused : (c : ℕ) → left.cpu.next ≤ c → c < numbers → get_or rows c no_row ≡ no_row
  rows_unused c h h' =
      ap (λ (t : List Row). get_or t c no_row) rows_run
      ∙ loaded.unused_rows m bytes b.old b.table b.all ok k c (subst (λ (o : Ran). o.state.cpu.next ≤ c) (sym steps_run) h) h'

  -- "From a loaded image the owned counts below next sum to N plus the number of services"
  pub owned_sum : owned_below left.cpu.next rows ≡ size_in bytes + service_count m
  owned_sum =
      subst (λ (t : List Row). owned_below left.cpu.next t ≡ size_in bytes + service_count m) (sym rows_run)
      (subst (λ (o : Ran). owned_below o.state.cpu.next (lent_run k (load m bytes b.old).state (fresh_rows m (size_in bytes))).rows ≡ size_in bytes + service_count m) steps_run
      (loaded.owned_adds_up m bytes b.old b.table b.all ok k))
