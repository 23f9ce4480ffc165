-- A run in the forms in which the code's loop comes to it.
use Rattle.std.specs.Prelude.{◌≡◌, refl, Bool, true, false, not, List, ◌≢◌, ℕ, suc, ◌+◌, ◌-◌, ◌≤◌, ◌<◌, eqb, length}
use Rattle.std.proofs.Common.{sym, ap, ◌∙◌, subst, zero-add, add-zero, eqb-true}
use native.Mathlib.Omega.{arith}
use Rattle.std.proofs.Math.Nat.{sub-zero}
use Rattle.std.proofs.lemmas.Bool.{not-true, not-false}
use Rattle.common.specs.Answers as answer
use Rattle.rules.specs.Compartments.{numbers}
use Rattle.rules.specs.State.{State, in_memory, has_owner, owner_at, jumpers_at, writers_at, owns, may_jump, may_store}
use Rattle.rules.specs.Laws.Tested.{formed}
use Rattle.rules.proofs.Laws.TestedRows.{if_formed}
use Rattle.rules.specs.Step.{Stepped, step}
use Rattle.rules.specs.Run.{Ran, run}
use Rattle.rules.specs.Counts.{address_count, owned_count, jump_count, store_count}
use Rattle.rules.specs.Rows.{Row, counts_of, moved, LentStepped, lent_step, LentRan, lent_run}
use Rattle.rules.specs.Laws.RowLaws.{none_moved, settled}
use Rattle.rules.proofs.Theorems.Rows.{step_14, step_18, lent_step_lem, length_stepped, stopped_rows, lent_goes_on, lent_ends, told as ran-told, same_run}
use Rattle.rules.proofs.Theorems.Rest.{step_keeps_rest}
use Rattle.rules.proofs.Theorems.Formed.{step_formed}
use Rattle.rules.proofs.Laws.FormLaws.{n_most}
use Rattle.rows.specs.declared.Row as lent
use Rattle.rows.specs.Views.{table}
use Rattle.rows.specs.TableLaws.{length_table}
use Rattle.moves.specs.declared.Move.{Move}
use Rattle.rights.specs.Rights.{free}
use Rattle.rights.specs.Arrivals.{prev_of, jumped_of, unasked, unasked_far, unasked_prev, unasked_jumped}
use Rattle.moves.specs.Moves.{move_from, home_move}
use Rattle.memory.specs.Places.{put_reg, put_word}
use Rattle.moves.specs.Applied.{move_at, move_stops, move_runs, move_free}
use Rattle.service.specs.Served.{state_from, Serving, serving}
use Rattle.service.specs.ServiceLaws.{back_with, serving_stops, serving_runs}
use Rattle.service.specs.ServingRows.{serving_rows}
use Rattle.form.specs.Form.{form_of, formed_by_lem}

-- ---- a run that goes on after count steps

-- what a run comes to of which count steps are behind it
abbrev pub after : ℕ → LentRan → LentRan
after count r = record { answer = r.answer; state = r.state; rows = r.rows; count = count + r.count }

begins : (budget : ℕ) (s : State) (rows : List Row) → lent_run budget s rows ≡ after 0 (lent_run (budget - 0) s rows)
begins budget s rows = simp (sub-zero, zero-add)

module _ (budget count : ℕ) (s : State) (rows : List Row) where
  one_more : count < budget → budget - count ≡ suc (budget - (count + 1))
  one_more h = omega arith

  goes_on : count < budget → (lent_step s rows).answer ≡ answer.done
      → after count (lent_run (budget - count) s rows) ≡ after (count + 1) (lent_run (budget - (count + 1)) (lent_step s rows).state (lent_step s rows).rows)
  goes_on h e =
      ap (λ (k : ℕ). after count (lent_run k s rows)) (one_more h) ∙ ap (after count) (lent_goes_on (budget - (count + 1)) s rows e)
      ∙ ap (λ (k : ℕ). record { answer = r.answer; state = r.state; rows = r.rows; count = k }) (sums r.count)
    where
      r : LentRan
      r = lent_run (budget - (count + 1)) (lent_step s rows).state (lent_step s rows).rows

      sums : (k : ℕ) → count + suc k ≡ count + 1 + k
      sums k = omega arith

  ends : count < budget → (lent_step s rows).answer ≢ answer.done
      → after count (lent_run (budget - count) s rows) ≡ record { answer = (lent_step s rows).answer; state = (lent_step s rows).state; rows = (lent_step s rows).rows; count = count }
  ends h e = ap (λ (k : ℕ). after count (lent_run k s rows)) (one_more h) ∙ ap (after count) (lent_ends (budget - (count + 1)) s rows e) ∙ simp add-zero

  used : budget ≤ count → after count (lent_run (budget - count) s rows) ≡ record { answer = answer.done; state = s; rows = rows; count = count }
  unfolding lent_run
  used h = let k : budget - count ≡ 0 = omega arith in simp (k, add-zero)

-- an arrival without a jump is that of a compartment which passes 15
abbrev pub Home : Bool → ℕ → ℕ → Type 0
Home strict arrival next = arrival < 4294967296 → free strict arrival next ≡ true

pub unasked_home : (strict : Bool) (prev : ℕ) (jumped : Bool) (next arrival : ℕ) → arrival ≡ unasked prev jumped → Home strict arrival next
unasked_home strict prev jumped next arrival e h = absurd (unasked_far prev jumped (subst (λ (a : ℕ). a < 4294967296) e h))

-- ---- what holds at the loop's head: count steps of the run from s₀ are behind, and s is reached

pub record Going (s₀ : State) (rows₀ : List Row) (s : State) (rows : List Row) (budget count : ℕ) : Type 0 where
  pub most : count ≤ budget
  pub words : length s.words ≡ length s₀.words
  pub owners : length s.owners ≡ length s₀.owners
  pub jumpers : length s.jumpers ≡ length s₀.jumpers
  pub writers : length s.writers ≡ length s₀.writers
  pub readers : length s.readers ≡ length s₀.readers
  pub all : length rows ≡ numbers
  pub form : formed s ≡ true
  pub so_far : lent_run budget s₀ rows₀ ≡ after count (lent_run (budget - count) s rows)

-- what holds inside, at the head of the loop over memory words: wherever e was reached from, s is reached from there too, with the same rows
abbrev pub Reached : State → State → List Row → ℕ → ℕ → ℕ → Type 0
Reached e s rows budget begun count = (s₀ : State) (rows₀ : List Row) → Going s₀ rows₀ e rows budget begun → Going s₀ rows₀ s rows budget count

-- before the loop
module _ (budget : ℕ) (s : State) (rows : List Row) where
  pub nothing : budget ≡ 0 → record { answer = answer.done; state = s; rows = rows; count = 0 } ≡ lent_run budget s rows
  unfolding lent_run
  nothing h = simp h

  -- a first step that stops
  stops_first : budget ≢ 0 → (a : ℕ) → lent_step s rows ≡ record { answer = a; state = s; rows = rows } → a ≢ answer.done
      → record { answer = a; state = s; rows = rows; count = 0 } ≡ lent_run budget s rows
  stops_first b a v n =
      sym (begins budget s rows ∙ ends budget 0 s rows (omega arith) (λ k. n (ap (λ (o : LentStepped). o.answer) (sym v) ∙ k))
      ∙ ap (λ (o : LentStepped). record { answer = o.answer; state = o.state; rows = o.rows; count = 0 }) v)

  module _ (t : Bool) (e : t ≡ form_of s) where
    pub unformed : budget ≢ 0 → not t ≡ true → record { answer = answer.bad_form; state = s; rows = rows; count = 0 } ≡ lent_run budget s rows
    unformed b h = stops_first b answer.bad_form (step_14 rows s (formed_by_lem s ∙ sym e ∙ not-true t h)) (λ z. omega arith)

    module _ (h : not t ≡ false) where
      is_form : formed s ≡ true
      is_form = formed_by_lem s ∙ sym e ∙ not-false t h

      pub few_rows : budget ≢ 0 → length rows ≢ numbers → record { answer = answer.bad_rows; state = s; rows = rows; count = 0 } ≡ lent_run budget s rows
      few_rows b n = stops_first b answer.bad_rows (step_18 rows s n ∙ simp (if_formed s is_form)) (λ z. omega arith)

      pub starts : length rows ≡ numbers → Going s rows s rows budget 0
      starts n =
          record { most = omega arith; words = refl; owners = refl; jumpers = refl; writers = refl; readers = refl; all = n; form = is_form; so_far = begins budget s rows }

module _ (s₀ : State) (rows₀ : List Row) (s : State) (rows : List Row) (budget count : ℕ) (g : Going s₀ rows₀ s rows budget count) where
  -- the budget is used
  pub all_used : budget ≤ count → record { answer = answer.done; state = s; rows = rows; count = count } ≡ lent_run budget s₀ rows₀
  all_used h = sym (g.so_far ∙ used budget count s rows h)

  -- one turn, by whatever way o is the step of s
  module _ (h : count < budget) (o : Stepped) (e : o ≡ step s) where
    is_step : lent_step s rows ≡ record { answer = o.answer; state = o.state; rows = moved s o.state rows }
    is_step = lent_step_lem rows g.all s ∙ ap (λ (x : Stepped). record { answer = x.answer; state = x.state; rows = moved s x.state rows }) (sym e)

    stops : o.answer ≢ answer.done → record { answer = o.answer; state = o.state; rows = rows; count = count } ≡ lent_run budget s₀ rows₀
    stops a =
        let n : (lent_step s rows).answer ≢ answer.done = λ k. a (ap (λ (x : LentStepped). x.answer) (sym is_step) ∙ k) in
        let z : (lent_step s rows).rows ≡ rows = ap (λ (x : LentStepped). x.rows) (stopped_rows s rows n) in
        sym (g.so_far ∙ ends budget count s rows h n
        ∙ ap (λ (r : List Row). record { answer = (lent_step s rows).answer; state = (lent_step s rows).state; rows = r; count = count }) z
        ∙ ap (λ (x : LentStepped). record { answer = x.answer; state = x.state; rows = rows; count = count }) is_step)

    turns : o.answer ≡ answer.done → (rows' : List Row) → rows' ≡ moved s o.state rows → Going s₀ rows₀ o.state rows' budget (count + 1)
    turns a rows' w =
        subst (λ (x : LentStepped). Going s₀ rows₀ x.state x.rows budget (count + 1)) (is_step ∙ ap (λ (r : List Row). record { answer = o.answer; state = o.state; rows = r }) (sym w)) there
      where
        ran : (lent_step s rows).answer ≡ answer.done
        ran = ap (λ (x : LentStepped). x.answer) is_step ∙ a

        same : (lent_step s rows).state ≡ (step s).state
        same = ap (λ (x : LentStepped). x.state) (lent_step_lem rows g.all s)

        there : Going s₀ rows₀ (lent_step s rows).state (lent_step s rows).rows budget (count + 1)
        there =
            let k = step_keeps_rest s in
            record {
              most = omega arith;
              words = ap (λ (x : State). length x.words) same ∙ k.words.same_length ∙ g.words;
              owners = ap (λ (x : State). length x.owners) same ∙ k.owners.same_length ∙ g.owners;
              jumpers = ap (λ (x : State). length x.jumpers) same ∙ k.jumpers.same_length ∙ g.jumpers;
              writers = ap (λ (x : State). length x.writers) same ∙ k.writers.same_length ∙ g.writers;
              readers = ap (λ (x : State). length x.readers) same ∙ k.readers.same_length ∙ g.readers;
              all = length_stepped rows g.all s;
              form = subst (λ (x : State). formed x ≡ true) (sym same) (step_formed s g.form);
              so_far = g.so_far ∙ goes_on budget count s rows h ran;
            }

  -- at a memory word: m is what was decided
  module _ (h : count < budget) (k : s.cpu.pc < s.cpu.n) (arrival : ℕ) (ep : s.cpu.prev ≡ prev_of arrival) (ej : s.cpu.jumped ≡ jumped_of arrival) (at_home : Home s.cpu.strict arrival s.cpu.next) (m : Move) (decided : m ≡ move_from arrival s.cpu.regs s.cpu.pc s.cpu.next s.cpu.strict s.cpu.n s.words s.owners s.jumpers s.writers s.readers) where
    small : s.cpu.n ≤ 4294967295
    small = let l = n_most s g.form in omega arith

    e : m ≡ move_at s
    e =
        simp (ep, ej)
        (decided ∙ home_move arrival s.cpu.regs s.cpu.pc s.cpu.next s.cpu.strict s.cpu.n s.words s.owners s.jumpers s.writers s.readers at_home)

    pub word_stops : m.answer ≢ answer.done → record { answer = m.answer; state = s; rows = rows; count = count } ≡ lent_run budget s₀ rows₀
    word_stops a = stops h (record { answer = m.answer; state = s }) (move_stops s g.form k small m e a) a

    module _ (a : m.answer ≡ answer.done) (regs words : List ℕ) (r : regs ≡ put_reg s.cpu.regs m.rd m.value) (w : words ≡ put_word s.words s.cpu.n m.place m.word) where
      abbrev there : State
      there =
          record {
            cpu = record { n = s.cpu.n; regs = regs; pc = m.pc; prev = prev_of m.arrival; jumped = jumped_of m.arrival; next = s.cpu.next; services = s.cpu.services; strict = s.cpu.strict };
            words = words;
            owners = s.owners;
            jumpers = s.jumpers;
            writers = s.writers;
            readers = s.readers;
          }

      -- no tag changes
      same_rows : moved s there rows ≡ rows
      unfolding counts_of owned_count jump_count store_count address_count owns has_owner owner_at in_memory may_jump jumpers_at may_store writers_at
      same_rows = none_moved (counts_of s) (counts_of there) rows (λ d. refl)

      pub word_turns : Going s₀ rows₀ there rows budget (count + 1)
      word_turns = turns h (record { answer = answer.done; state = there }) (simp (r, w) (move_runs s g.form k small m e a)) refl rows (sym same_rows)

    -- who ran passed 15
    pub word_home : m.answer ≡ answer.done → Home s.cpu.strict m.arrival s.cpu.next
    word_home a =
        let z : (move_at s).answer ≡ answer.done = ap (λ (v : Move). v.answer) (sym e) ∙ a in
        subst (λ (v : Move). Home s.cpu.strict v.arrival s.cpu.next) (sym e) (move_free s g.form z)

  -- elsewhere: o is what the step at a service came to
  module _ (h : count < budget) (k : s.cpu.n ≤ s.cpu.pc) (o : Serving) (e : o ≡ serving s) where
    pub service_stops : o.answer ≢ answer.done
        → record { answer = o.answer; state = record { cpu = s.cpu; words = s.words; owners = o.owners; jumpers = o.jumpers; writers = o.writers; readers = o.readers }; rows = rows; count = count } ≡ lent_run budget s₀ rows₀
    service_stops a = stops h (record { answer = o.answer; state = record { cpu = s.cpu; words = s.words; owners = o.owners; jumpers = o.jumpers; writers = o.writers; readers = o.readers } }) (serving_stops s g.form k o e a) a

    pub service_turns : o.answer ≡ answer.done → (caller : ℕ) → caller ≡ s.cpu.prev → (rows' : List Row) → rows' ≡ settled caller o.to o.owned o.jump o.store rows
        → Going s₀ rows₀ (record { cpu = back_with s.cpu o.number o.next o.services; words = s.words; owners = o.owners; jumpers = o.jumpers; writers = o.writers; readers = o.readers }) rows' budget (count + 1)
    service_turns a caller q rows' w =
        let r = serving_runs s g.form k o e a in
        turns h (record { answer = o.answer; state = record { cpu = back_with s.cpu o.number o.next o.services; words = s.words; owners = o.owners; jumpers = o.jumpers; writers = o.writers; readers = o.readers } }) r a rows'
        (w ∙ ap (λ (x : ℕ). settled x o.to o.owned o.jump o.store rows) q ∙ serving_rows s g.form k o e a rows ∙ ap (λ (x : Stepped). moved s x.state rows) (sym r))

-- ---- the state by the arrival that the code keeps

module _ (strict : Bool) (regs : List ℕ) (n pc next : ℕ) (services words owners jumpers writers readers : List ℕ) (prev : ℕ) (jumped : Bool) (arrival : ℕ) where
  abbrev told : State
  told = state_from strict regs n pc prev jumped next services words owners jumpers writers readers

  abbrev kept : State
  kept = state_from strict regs n pc (prev_of arrival) (jumped_of arrival) next services words owners jumpers writers readers

  -- not asked for 15 yet
  pub arrived : prev < 4294967296 → arrival ≡ unasked prev jumped → (s₀ : State) (rows₀ rows : List Row) (budget count : ℕ) → Going s₀ rows₀ told rows budget count → Going s₀ rows₀ kept rows budget count
  arrived h e s₀ rows₀ rows budget count g = simp (e, unasked_prev prev h jumped, unasked_jumped prev h jumped) g

  -- taken apart for a service
  pub called : prev ≡ prev_of arrival → jumped ≡ jumped_of arrival → (o : Serving) → o ≡ serving told → o ≡ serving kept
  called ep ej o e = simp (← ep, ← ej) e

-- at the end of the loop over services the numbers are those of its head or of the loop inside it
module _ (s₀ : State) (rows₀ rows : List Row) (strict : Bool) (budget n next : ℕ) (services owners jumpers writers readers : List ℕ) where
  pub left : (words regs : List ℕ) (pc arrival count : ℕ) (words₁ regs₁ : List ℕ) (pc₁ arrival₁ count₁ : ℕ)
      → words ≡ words₁ → count ≡ count₁ → pc ≡ pc₁ → arrival ≡ arrival₁ → regs ≡ regs₁
      → Going s₀ rows₀ (state_from strict regs₁ n pc₁ (prev_of arrival₁) (jumped_of arrival₁) next services words₁ owners jumpers writers readers) rows budget count₁ → budget ≤ count₁
      → Going s₀ rows₀ (state_from strict regs n pc (prev_of arrival) (jumped_of arrival) next services words owners jumpers writers readers) rows budget count × (budget ≤ count)
  left words regs pc arrival count words₁ regs₁ pc₁ arrival₁ count₁ ew ec ep ea er g h =
      (simp (ew, ec, ep, ea, er) g, omega arith)

-- one step is a run of budget 1
pub one_lent_step : (s : State) (rows : List Row) (r : LentRan) → r ≡ lent_run 1 s rows → record { answer = r.answer; state = r.state; rows = r.rows } ≡ lent_step s rows
unfolding lent_run
one_lent_step s rows r e = ap (λ (x : LentRan). record { answer = x.answer; state = x.state; rows = x.rows }) e ∙ go (eqb (lent_step s rows).answer answer.done) refl
  where
    go : (b : Bool) → eqb (lent_step s rows).answer answer.done ≡ b → record { answer = (lent_run 1 s rows).answer; state = (lent_run 1 s rows).state; rows = (lent_run 1 s rows).rows } ≡ lent_step s rows
    go true f = simp f (ap (λ (a : ℕ). record { answer = a; state = (lent_step s rows).state; rows = (lent_step s rows).rows }) (sym (eqb-true _ _ f)))
    go false f = simp f

pub one_step_lem : (s : State) (r : Ran) → r ≡ run 1 s → record { answer = r.answer; state = r.state } ≡ step s
unfolding run
one_step_lem s r e = ap (λ (x : Ran). record { answer = x.answer; state = x.state }) e ∙ go (eqb (step s).answer answer.done) refl
  where
    go : (b : Bool) → eqb (step s).answer answer.done ≡ b → record { answer = (run 1 s).answer; state = (run 1 s).state } ≡ step s
    go true f = simp f (ap (λ (a : ℕ). record { answer = a; state = (step s).state }) (sym (eqb-true _ _ f)))
    go false f = simp f

-- a run over a table of which nobody asks is the run without one
pub unseen : (budget : ℕ) (s : State) (rows : List lent.Row) → length rows ≡ numbers → (r : LentRan) → r ≡ lent_run budget s (table rows) → ran-told r ≡ run budget s
unseen budget s rows n r e = ap ran-told e ∙ same_run budget s (table rows) (length_table rows ∙ n)
