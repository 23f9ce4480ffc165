-- A table of 64 rows changes no answer and no state, and each row moves as its counts do: right rows stay right, and wrong ones wrong by the same amount.
use Rattle.std.proofs.Math.Path.{◌≡◌, refl, ap}
use Rattle.std.proofs.Common.{sym, ◌∙◌, subst, arith, zero-add, eqb-true, eq-eqb, ne_eqb}
use Rattle.std.specs.Prelude.{Bool, ◌&&◌, ◌↔◌, ◌≢◌, ℕ, zero, suc, ◌+◌, ◌≤◌, ◌<◌, eqb, get_or, length}
use Rattle.std.proofs.Math.Bool.{true, false, cond, not}
use mathlib.Core.List.{List}
use Rattle.std.proofs.lemmas.Bool.{eqb-false}
use Rattle.common.specs.Answers as answer
use Rattle.common.specs.Tables.{first_of, Exactly, NoneHolds}
use Rattle.common.proofs.Laws.TableLaws.{nonzero, on_its_condition, done_otherwise}
use Rattle.common.proofs.Laws.ServiceLaws.{service_count_lem}
use Rattle.common.specs.Services.{isolate, service_count}
use Rattle.rules.specs.Compartments.{numbers, member}
use Rattle.rules.specs.State.{State, in_memory, owns}
use Rattle.rules.specs.Checks.{bad_form, lengths_differ, checks, verdict}
use Rattle.rules.specs.Step.{commit, step}
use Rattle.rules.specs.Run.{Ran, one_more, run}
use Rattle.rules.specs.Images.{load_checks, load_verdict, image_checks, register_checks, entry_checks, load, not_loaded, size_in}
use Rattle.rules.specs.Laws.Tested.{formed}
use Rattle.rules.proofs.Laws.TestedRows.{form_row}
use Rattle.rules.proofs.Laws.FormLaws.{n_most}
use Rattle.rules.proofs.Laws.StepLaws.{answer_is}
use Rattle.rules.proofs.Laws.Passed.{passes}
use Rattle.rules.proofs.Theorems.Formed.{step_formed}
use Rattle.rules.specs.Laws.CountLaws.{count_most, count_shift}
use Rattle.rules.proofs.Laws.ServiceRows.{owned_list, jump_list, store_list}
use Rattle.rules.specs.Rows.{Row, no_row, counts_of, moved_row, moved_from, moved, wrong_rows, after_first, lent_checks, lent_verdict, LentStepped, lent_step, LentRan, one_more_lent, ended_lent, lent_run, fresh_rows, lent_load_checks, lent_load_verdict, lent_load}
use Rattle.rules.specs.Laws.RowLaws.{moved_small, moved_on, moved_right, length_moved, row_moved, none_moved, are_moved}

-- ---- 18

-- exactly on its condition, as every other number: the table of a step and that of a load, with its row
pub lent_step_number : (s : State) (rows : List Row) (k : ℕ) → (k ≡ answer.done → ⊥) → ((lent_step s rows).answer ≡ k) ↔ Exactly (lent_checks s rows) k
unfolding lent_step lent_verdict
lent_step_number s rows = on_its_condition (lent_step s rows).answer (lent_checks s rows) refl

pub lent_step_done : (s : State) (rows : List Row) → ((lent_step s rows).answer ≡ answer.done) ↔ NoneHolds (lent_checks s rows)
unfolding lent_step lent_verdict lent_checks after_first checks nonzero
lent_step_done s rows = done_otherwise (lent_step s rows).answer (lent_checks s rows) refl refl

pub lent_load_number : (m : Bool) (bytes : List ℕ) (old : State) (rows : List Row) (k : ℕ) → (k ≡ answer.done → ⊥) → ((lent_load m bytes old rows).answer ≡ k) ↔ Exactly (lent_load_checks m bytes old rows) k
unfolding lent_load lent_load_verdict
lent_load_number m bytes old rows = on_its_condition (lent_load m bytes old rows).answer (lent_load_checks m bytes old rows) refl

pub lent_load_done : (m : Bool) (bytes : List ℕ) (old : State) (rows : List Row) → ((lent_load m bytes old rows).answer ≡ answer.done) ↔ NoneHolds (lent_load_checks m bytes old rows)
unfolding lent_load lent_load_verdict lent_load_checks after_first load_checks image_checks register_checks entry_checks nonzero
lent_load_done m bytes old rows = done_otherwise (lent_load m bytes old rows).answer (lent_load_checks m bytes old rows) refl refl

module _ (rows : List Row) where
  enough : length rows ≡ numbers → wrong_rows rows ≡ false
  unfolding wrong_rows
  enough e = simp (eq-eqb (length rows) numbers e)

  too_few : length rows ≢ numbers → wrong_rows rows ≡ true
  unfolding wrong_rows
  too_few n = simp (ne_eqb (length rows) numbers n)

  -- 14, whatever the table
  pub step_14 : (s : State) → formed s ≡ false → lent_step s rows ≡ record { answer = answer.bad_form; state = s; rows = rows }
  unfolding lent_step lent_verdict lent_checks after_first checks first_of
  step_14 s f = let e : bad_form s ≡ true = form_row s ∙ ap not f in simp e

  -- 14 comes before it, and all others after it
  pub step_18 : (s : State) → length rows ≢ numbers → lent_step s rows ≡ record { answer = cond (bad_form s) answer.bad_form answer.bad_rows; state = s; rows = rows }
  unfolding lent_step lent_verdict lent_checks after_first checks first_of
  step_18 s n = go (bad_form s) refl
    where
      go : (b : Bool) → bad_form s ≡ b → lent_step s rows ≡ record { answer = cond (bad_form s) answer.bad_form answer.bad_rows; state = s; rows = rows }
      go true e = simp e
      go false e = simp (e, too_few n)

  pub load_18 : (m : Bool) (bytes : List ℕ) (old : State) → length rows ≢ numbers
      → lent_load m bytes old rows ≡ record { answer = cond (lengths_differ m old) answer.lengths_differ answer.bad_rows; state = not_loaded m old; rows = rows }
  unfolding lent_load lent_load_verdict lent_load_checks after_first load_checks first_of
  load_18 m bytes old n = go (lengths_differ m old) refl
    where
      go : (b : Bool) → lengths_differ m old ≡ b
          → lent_load m bytes old rows ≡ record { answer = cond (lengths_differ m old) answer.lengths_differ answer.bad_rows; state = not_loaded m old; rows = rows }
      go true e = simp e
      go false e = simp (e, too_few n)

  -- ---- 64 rows

  module _ (e : length rows ≡ numbers) where
    same_verdict : (s : State) → lent_verdict s rows ≡ verdict s
    unfolding lent_verdict lent_checks after_first checks verdict first_of
    same_verdict s = simp (enough e)

    pub lent_step_lem : (s : State) → lent_step s rows ≡ record { answer = (step s).answer; state = (step s).state; rows = moved s (step s).state rows }
    unfolding lent_step step
    lent_step_lem s = simp (same_verdict s) (go (eqb (verdict s) answer.done))
      where
        go : (b : Bool) → ◌≡◌ {A = LentStepped} (record { answer = verdict s; state = cond b (commit s) s; rows = cond b (moved s (commit s) rows) rows }) (record { answer = verdict s; state = cond b (commit s) s; rows = moved s (cond b (commit s) s) rows })
        go true = refl
        go false = ap (λ (r : List Row). record { answer = verdict s; state = s; rows = r }) (sym (none_moved (counts_of s) (counts_of s) rows (λ c. refl)))

    same_load : (m : Bool) (bytes : List ℕ) (old : State) → lent_load_verdict m bytes old rows ≡ load_verdict m bytes old
    unfolding lent_load_verdict lent_load_checks after_first load_checks load_verdict first_of
    same_load m bytes old = simp (enough e)

    pub lent_load_lem : (m : Bool) (bytes : List ℕ) (old : State)
        → lent_load m bytes old rows ≡ record { answer = (load m bytes old).answer; state = (load m bytes old).state; rows = cond (eqb (load m bytes old).answer answer.done) (fresh_rows m (size_in bytes)) rows }
    unfolding lent_load load
    lent_load_lem m bytes old = simp (same_load m bytes old)

    pub length_stepped : (s : State) → length (lent_step s rows).rows ≡ numbers
    length_stepped s = ap (λ (o : LentStepped). length o.rows) (lent_step_lem s) ∙ length_moved (counts_of s) (counts_of (step s).state) 0 rows ∙ e

-- a stop moves no row, whatever the table
pub stopped_rows : (s : State) (rows : List Row) → ((lent_step s rows).answer ≡ answer.done → ⊥) → lent_step s rows ≡ record { answer = (lent_step s rows).answer; state = s; rows = rows }
unfolding lent_step
stopped_rows s rows h = simp (ne_eqb (lent_verdict s rows) answer.done h)

-- ---- runs

pub lent_goes_on : (k : ℕ) (s : State) (rows : List Row) → (lent_step s rows).answer ≡ answer.done → lent_run (suc k) s rows ≡ one_more_lent (lent_run k (lent_step s rows).state (lent_step s rows).rows)
unfolding lent_run
lent_goes_on k s rows h = simp h

pub lent_ends : (k : ℕ) (s : State) (rows : List Row) → ((lent_step s rows).answer ≡ answer.done → ⊥) → lent_run (suc k) s rows ≡ ended_lent (lent_step s rows).answer (lent_step s rows).state (lent_step s rows).rows
unfolding lent_run
lent_ends k s rows h = simp (ne_eqb (lent_step s rows).answer answer.done h)

-- what a run tells besides the rows
abbrev pub told : LentRan → Ran
told r = record { answer = r.answer; state = r.state; count = r.count }

-- "no answer and no other state depends on them": it is the run without a table
pub same_run : (k : ℕ) (s : State) (rows : List Row) → length rows ≡ numbers → told (lent_run k s rows) ≡ run k s
unfolding lent_run run
same_run zero s rows e = refl
same_run (suc k) s rows e = go (eqb (step s).answer answer.done) refl (same_run k (step s).state (moved s (step s).state rows) (length_moved (counts_of s) (counts_of (step s).state) 0 rows ∙ e))
  where
    rows' : List Row
    rows' = moved s (step s).state rows

    go : (b : Bool) → eqb (step s).answer answer.done ≡ b → told (lent_run k (step s).state rows') ≡ run k (step s).state → told (lent_run (suc k) s rows) ≡ run (suc k) s
    go true f ih = simp (lent_step_lem rows e s, f) (ap one_more ih)
    go false f ih = simp (lent_step_lem rows e s, f)

-- two tables of 64 rows
pub any_rows : (k : ℕ) (s : State) (rows rows' : List Row) → length rows ≡ numbers → length rows' ≡ numbers → told (lent_run k s rows) ≡ told (lent_run k s rows')
any_rows k s rows rows' e f = same_run k s rows e ∙ sym (same_run k s rows' f)

-- ---- how far the rows move

-- as a row of three 32-bit numbers does
pub record Fits (row : Row) : Type 0 where
  pub owned : row.owned < 4294967296
  pub jump : row.jump < 4294967296
  pub store : row.store < 4294967296

abbrev pub AllFit : List Row → Type 0
AllFit rows = (c : ℕ) → c < length rows → Fits (get_or rows c no_row)

at_row : (before after : ℕ → Row) (rows : List Row) (c : ℕ) → c < length rows → get_or (moved_from before after 0 rows) c no_row ≡ moved_row (before c) (after c) (get_or rows c no_row)
at_row before after rows c h = row_moved before after 0 rows c h ∙ ap (λ (m : ℕ). moved_row (before m) (after m) (get_or rows c no_row)) (zero-add c)

pub moved_fit : (s t : State) (rows : List Row) → AllFit rows → AllFit (moved s t rows)
moved_fit s t rows fit c h =
    let j : c < length rows = subst (λ (x : ℕ). c < x) (length_moved (counts_of s) (counts_of t) 0 rows) h in
    let f = fit c j in
    subst Fits (sym (at_row (counts_of s) (counts_of t) rows c j)) (record { owned = moved_small _ _ _ f.owned; jump = moved_small _ _ _ f.jump; store = moved_small _ _ _ f.store })

pub moved_then : (s t u : State) (rows : List Row) → AllFit rows → moved t u (moved s t rows) ≡ moved s u rows
moved_then s t u rows fit =
    are_moved (counts_of s) (counts_of u) rows (moved t u (moved s t rows)) (length_moved (counts_of t) (counts_of u) 0 (moved s t rows) ∙ length_moved (counts_of s) (counts_of t) 0 rows) (λ c h.
    at_row (counts_of t) (counts_of u) (moved s t rows) c (subst (λ (x : ℕ). c < x) (sym (length_moved (counts_of s) (counts_of t) 0 rows)) h)
    ∙ ap (moved_row (counts_of t c) (counts_of u c)) (at_row (counts_of s) (counts_of t) rows c h)
    ∙ on (counts_of s c) (counts_of t c) (counts_of u c) (get_or rows c no_row) (fit c h))
  where
    on : (a b c row : Row) → Fits row → moved_row b c (moved_row a b row) ≡ moved_row a c row
    on a b c row f = simp (moved_on a.owned b.owned c.owned row.owned f.owned, moved_on a.jump b.jump c.jump row.jump f.jump, moved_on a.store b.store c.store row.store f.store)

-- after any number of steps each row has moved by as much as its counts have: "so rows wrong at the start stay wrong by that amount"
pub lent_run_lem : (k : ℕ) (s : State) (rows : List Row) → length rows ≡ numbers → AllFit rows
    → lent_run k s rows ≡ record { answer = (run k s).answer; state = (run k s).state; rows = moved s (run k s).state rows; count = (run k s).count }
unfolding lent_run run
lent_run_lem zero s rows e fit = ap (λ (r : List Row). record { answer = answer.done; state = s; rows = r; count = 0 }) (sym (none_moved (counts_of s) (counts_of s) rows (λ c. refl)))
lent_run_lem (suc k) s rows e fit =
    go (eqb (step s).answer answer.done) refl
    (lent_run_lem k (step s).state (moved s (step s).state rows) (length_moved (counts_of s) (counts_of (step s).state) 0 rows ∙ e) (moved_fit s (step s).state rows fit))
  where
    s' : State
    s' = (step s).state

    rows' : List Row
    rows' = moved s (step s).state rows

    go : (b : Bool) → eqb (step s).answer answer.done ≡ b
        → lent_run k s' rows' ≡ record { answer = (run k s').answer; state = (run k s').state; rows = moved s' (run k s').state rows'; count = (run k s').count }
        → lent_run (suc k) s rows ≡ record { answer = (run (suc k) s).answer; state = (run (suc k) s).state; rows = moved s (run (suc k) s).state rows; count = (run (suc k) s).count }
    go true f ih = simp (lent_step_lem rows e s, f) (ap one_more_lent ih ∙ ap (λ (r : List Row). record { answer = (run k s').answer; state = (run k s').state; rows = r; count = suc (run k s').count }) (moved_then s s' (run k s').state rows fit))
    go false f ih = simp (lent_step_lem rows e s, f)

-- ---- right rows

-- "each row equal to the count over the tags"
pub record Right (s : State) (rows : List Row) : Type 0 where
  pub all : length rows ≡ numbers
  pub same : (c : ℕ) → c < numbers → get_or rows c no_row ≡ counts_of s c

-- what 14 lets pass has few enough addresses for 32 bits
pub counts_fit : (s : State) → formed s ≡ true → (c : ℕ) → Fits (counts_of s c)
unfolding counts_of
counts_fit s f c =
    let m = service_count_lem s.cpu.strict in
    let n : s.cpu.n ≤ 2048 = n_most s f in
    let owns' = count_most (λ i. not (in_memory s (isolate + i)) && owns s c (isolate + i)) (service_count s.cpu.strict) in
    record {
      owned = omega (arith, owned_list s f c, count_shift (λ x. not (in_memory s x) && owns s c x) isolate (service_count s.cpu.strict), owns', count_most (λ x. eqb (get_or s.owners x 0) c) s.cpu.n, m.1);
      jump = omega (arith, jump_list s f c, count_most (λ x. member (get_or s.jumpers x 0) c) s.cpu.n, count_most (λ i. member (get_or s.cpu.services i 0) c) (service_count s.cpu.strict), m.1);
      store = omega (arith, store_list s f c, count_most (λ x. member (get_or s.writers x 0) c) s.cpu.n);
    }

right_moved : (s t : State) (rows : List Row) → formed s ≡ true → formed t ≡ true → Right s rows → Right t (moved s t rows)
right_moved s t rows f g r =
    record {
      all = length_moved (counts_of s) (counts_of t) 0 rows ∙ r.all;
      same = λ c h.
          let a = counts_fit s f c in
          let b = counts_fit t g c in
          at_row (counts_of s) (counts_of t) rows c (omega (arith, r.all)) ∙ ap (moved_row (counts_of s c) (counts_of t c)) (r.same c h)
          ∙ on (counts_of s c) (counts_of t c) a b;
    }
  where
    on : (a b : Row) → Fits a → Fits b → moved_row a b a ≡ b
    on a b f g = simp (moved_right a.owned b.owned f.owned g.owned, moved_right a.jump b.jump f.jump g.jump, moved_right a.store b.store f.store g.store)

-- one step, whatever the state
pub step_right : (s : State) (rows : List Row) → Right s rows → Right (lent_step s rows).state (lent_step s rows).rows
step_right s rows r = go (eqb (lent_step s rows).answer answer.done) refl
  where
    is : lent_step s rows ≡ record { answer = (step s).answer; state = (step s).state; rows = moved s (step s).state rows }
    is = lent_step_lem rows r.all s

    go : (b : Bool) → eqb (lent_step s rows).answer answer.done ≡ b → Right (lent_step s rows).state (lent_step s rows).rows
    go false e = let z = stopped_rows s rows (eqb-false _ _ e) in subst (λ (o : LentStepped). Right o.state o.rows) (sym z) r
    go true e =
        let h : (step s).answer ≡ answer.done = ap (λ (o : LentStepped). o.answer) (sym is) ∙ eqb-true _ _ e in
        let f = (passes s (sym (answer_is s) ∙ h)).formed in
        subst (λ (o : LentStepped). Right o.state o.rows) (sym is) (right_moved s (step s).state rows f (step_formed s f) r)

pub run_right : (k : ℕ) (s : State) (rows : List Row) → Right s rows → Right (lent_run k s rows).state (lent_run k s rows).rows
unfolding lent_run
run_right zero s rows r = r
run_right (suc k) s rows r = go (eqb (lent_step s rows).answer answer.done) refl (run_right k (lent_step s rows).state (lent_step s rows).rows (step_right s rows r))
  where
    go : (b : Bool) → eqb (lent_step s rows).answer answer.done ≡ b → Right (lent_run k (lent_step s rows).state (lent_step s rows).rows).state (lent_run k (lent_step s rows).state (lent_step s rows).rows).rows
        → Right (lent_run (suc k) s rows).state (lent_run (suc k) s rows).rows
    go true e ih = simp e ih
    go false e ih = simp e (step_right s rows r)
