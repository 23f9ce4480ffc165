-- The calls that take a table, as a host sees them: what each may do by its contract, by value and for C, and that it is what the rules say, whatever the table.
use Rattle.std.specs.Prelude.{◌≡◌, refl, Bool, true, false, cond, List, ℕ, eqb, length}
use Rattle.std.proofs.Common.{sym, ap, ◌∙◌, eqb-true}
use Rattle.rules.specs.Compartments.{numbers}
use Rattle.rules.specs.State.{State}
use Rattle.rules.specs.Run.{Ran, run}
use Rattle.rules.specs.Images as images
use Rattle.rules.specs.Rows.{Row, LentStepped, lent_step, LentRan, lent_run, lent_load}
use Rattle.rules.proofs.Theorems.Rows.{told, lent_load_lem, same_run}
use Rattle.rows.specs.Views.{table}
use Rattle.answers.specs.Numbers.{answer_of}
use Rattle.machine.proofs.Processor.step_rows.Reads as step-rows
use Rattle.machine.proofs.Processor.run_rows.Reads as run-rows
use Rattle.loader.proofs.load_rows.Reads as load_rows
use Rattle.host.proofs.kl_load.Reads as kl-load
use Rattle.host.proofs.kl_step.Reads as kl-step
use Rattle.host.proofs.kl_run.Reads as kl-run
use Rattle.claims.specs.Allowed.{Promise, Allows, allowed}
use Rattle.claims.specs.Memories.{over, memories}

-- what the contracts of load, step and run with a table allow, and that each such outcome is what the rules say: 18 where the table has not
-- 64 rows, and every row else. A step is seen as a run of one step
pub record Lending : Type 1 where
  pub Loads : Bool → List ℕ → State → List Row → LentStepped → Type 0
  pub Steps : State → List Row → LentRan → Type 0
  pub Runs : ℕ → State → List Row → LentRan → Type 0
  pub loads : (m : Bool) (bytes : List ℕ) (old : State) (rows : List Row) (o : LentStepped) → Loads m bytes old rows o → o ≡ lent_load m bytes old rows
  pub steps : (s : State) (rows : List Row) (o : LentRan) → Steps s rows o → o ≡ lent_run 1 s rows
  pub runs : (budget : ℕ) (s : State) (rows : List Row) (o : LentRan) → Runs budget s rows o → o ≡ lent_run budget s rows

-- a step as a run of one step
abbrev pub one_lent : LentStepped → LentRan
one_lent o = record { answer = o.answer; state = o.state; rows = o.rows; count = cond (eqb o.answer 0) 1 0 }

pub run_one_lent : (s : State) (rows : List Row) → one_lent (lent_step s rows) ≡ lent_run 1 s rows
unfolding lent_run
run_one_lent s rows = go (eqb (lent_step s rows).answer 0) refl
  where
    go : (b : Bool) → eqb (lent_step s rows).answer 0 ≡ b → one_lent (lent_step s rows) ≡ lent_run 1 s rows
    go true e = let h : (lent_step s rows).answer ≡ 0 = eqb-true _ _ e in simp h
    go false e = simp e

-- ---- by value: loader::load_rows, Processor::step_rows and run_rows

abbrev by_load : Promise load_rows.Post (Bool × List ℕ × State × List Row) LentStepped
by_load =
    record {
      given = λ κs a. (a.0, a.1.0.now, memories a.1.1, table a.1.1.1.1.1.1.1.0.now);
      left = λ κs r s. record { answer = answer_of r.answer; state = over r.cpu s.1.1; rows = table s.1.1.1.1.1.1.1.0.now };
      meant = λ i. lent_load i.0 i.1 i.2 i.3;
      says = λ κs a r s h. h;
    }

abbrev by_step : Promise step-rows.Post (State × List Row) LentRan
by_step =
    record {
      given = λ κs a. (over a.0 a.1, table a.1.1.1.1.1.1.0.now);
      left = λ κs r s. one_lent (record { answer = r.answer; state = over r.cpu s.1; rows = table s.1.1.1.1.1.1.0.now });
      meant = λ i. lent_run 1 i.0 i.1;
      says = λ κs a r s h. ap one_lent h ∙ run_one_lent _ _;
    }

abbrev by_run : Promise run-rows.Post (ℕ × State × List Row) LentRan
by_run =
    record {
      given = λ κs a. (a.1.1.1.1.1.1.0, over a.0 a.1, table a.1.1.1.1.1.1.1.0.now);
      left = λ κs r s. record { answer = r.answer; state = over r.cpu s.1; rows = table s.1.1.1.1.1.1.1.0.now; count = r.count };
      meant = λ i. lent_run i.0 i.1 i.2;
      says = λ κs a r s h. h;
    }

abbrev pub by_value : Lending
by_value =
    record {
      Loads = λ m bytes old rows. Allows load_rows.Post by_load (m, bytes, old, rows);
      Steps = λ s rows. Allows step-rows.Post by_step (s, rows);
      Runs = λ budget s rows. Allows run-rows.Post by_run (budget, s, rows);
      loads = λ m bytes old rows. allowed load_rows.Post by_load (m, bytes, old, rows);
      steps = λ s rows. allowed step-rows.Post by_step (s, rows);
      runs = λ budget s rows. allowed run-rows.Post by_run (budget, s, rows);
    }

-- ---- for C: kl_load, kl_step, kl_run

abbrev by_kl_load : Promise kl-load.Post (Bool × List ℕ × State × List Row) LentStepped
by_kl_load =
    record {
      given = λ κs a. (a.1.0, a.1.1.0.now, memories a.1.1.1, table a.1.1.1.1.1.1.1.1.0.now);
      left = λ κs r s. record { answer = r; state = over s.0.now s.1.1.1; rows = table s.1.1.1.1.1.1.1.1.0.now };
      meant = λ i. lent_load i.0 i.1 i.2 i.3;
      says = λ κs a r s h. h;
    }

abbrev by_kl_step : Promise kl-step.Post (State × List Row) LentRan
by_kl_step =
    record {
      given = λ κs a. (over a.0.now a.1, table a.1.1.1.1.1.1.0.now);
      left = λ κs r s. one_lent (record { answer = r; state = over s.0.now s.1; rows = table s.1.1.1.1.1.1.0.now });
      meant = λ i. lent_run 1 i.0 i.1;
      says = λ κs a r s h. ap one_lent h ∙ run_one_lent _ _;
    }

abbrev by_kl_run : Promise kl-run.Post (ℕ × State × List Row) LentRan
by_kl_run =
    record {
      given = λ κs a. (a.1.1.1.1.1.1.1.0, over a.0.now a.1, table a.1.1.1.1.1.1.0.now);
      left = λ κs r s. record { answer = r; state = over s.0.now s.1; rows = table s.1.1.1.1.1.1.0.now; count = s.1.1.1.1.1.1.1.1.0.now };
      meant = λ i. lent_run i.0 i.1 i.2;
      says = λ κs a r s h. h;
    }

abbrev pub for_c : Lending
for_c =
    record {
      Loads = λ m bytes old rows. Allows kl-load.Post by_kl_load (m, bytes, old, rows);
      Steps = λ s rows. Allows kl-step.Post by_kl_step (s, rows);
      Runs = λ budget s rows. Allows kl-run.Post by_kl_run (budget, s, rows);
      loads = λ m bytes old rows. allowed kl-load.Post by_kl_load (m, bytes, old, rows);
      steps = λ s rows. allowed kl-step.Post by_kl_step (s, rows);
      runs = λ budget s rows. allowed kl-run.Post by_kl_run (budget, s, rows);
    }

-- ---- an outcome of a call that was lent 64 rows, whatever they held, seen without them: the machine has no rows

pub record Told {X Y : Type 0} (see : X → Y) (Does : List Row → X → Type 0) (o : Y) : Type 0 where
  pub rows : List Row
  pub all : length rows ≡ numbers
  pub whole : X
  pub does : Does rows whole
  pub sees : see whole ≡ o

abbrev pub told_load : LentStepped → images.Loaded
told_load o = record { answer = o.answer; state = o.state }

module _ (l : Lending) where
  abbrev pub Loads : Bool → List ℕ → State → images.Loaded → Type 0
  Loads m bytes old = Told told_load (l.Loads m bytes old)

  abbrev pub Steps : State → Ran → Type 0
  Steps s = Told told (l.Steps s)

  abbrev pub Runs : ℕ → State → Ran → Type 0
  Runs budget s = Told told (l.Runs budget s)

  -- it is what the rules say without a table
  pub loads : (m : Bool) (bytes : List ℕ) (old : State) (o : images.Loaded) → Loads m bytes old o → o ≡ images.load m bytes old
  loads m bytes old o h = sym h.sees ∙ ap told_load (l.loads m bytes old h.rows h.whole h.does ∙ lent_load_lem h.rows h.all m bytes old)

  pub steps : (s : State) (o : Ran) → Steps s o → o ≡ run 1 s
  steps s o h = sym h.sees ∙ ap told (l.steps s h.rows h.whole h.does) ∙ same_run 1 s h.rows h.all

  pub runs : (budget : ℕ) (s : State) (o : Ran) → Runs budget s o → o ≡ run budget s
  runs budget s o h = sym h.sees ∙ ap told (l.runs budget s h.rows h.whole h.does) ∙ same_run budget s h.rows h.all
