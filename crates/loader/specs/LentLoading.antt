-- A load that is lent a table: the load without one, with 18 after 27, and the rows filled where it answers 0.
use Rattle.std.specs.Prelude.{◌≡◌, Bool, true, false, cond, not, List, ◌≢◌, ℕ, eqb, length}
use Rattle.std.proofs.Common.{refl, sym, ap, ap₂, ◌∙◌, arith}
use borrow.Author.Tests.{eqb-true, eqb-false, eq-eqb, ne_eqb}
use Rattle.common.specs.Answers as answer
use Rattle.common.specs.Tables.{first_of}
use Rattle.rules.specs.Compartments.{numbers}
use Rattle.rules.specs.State.{Processor, State}
use Rattle.rules.specs.Checks.{lengths_differ}
use Rattle.rules.specs.Laws.Tested.{same_lengths}
use Rattle.rules.proofs.Laws.TestedRows.{lengths_row}
use Rattle.rules.specs.Images.{size_in, load_checks, load_verdict, loaded, not_loaded, load, Loaded}
use Rattle.rules.specs.Rows.{Row, fresh_rows, LentStepped, lent_load}
use Rattle.rules.proofs.Theorems.Rows.{lent_load_lem, load_18}
use Rattle.images.specs.Filling.{length_fields}
use Rattle.form.specs.Form.{lengths_by}
use Rattle.rows.specs.declared.Row as lent
use Rattle.rows.specs.Views.{table}
use Rattle.rows.specs.TableLaws.{length_table}
use Rattle.answers.specs.declared.Refusal.{Refusal}
use Rattle.answers.specs.Numbers.{answer_of}
use Rattle.loader.specs.declared.Loaded as code
use Rattle.loader.specs.Views.{lent, loaded_with}
use Rattle.loader.specs.Loading.{Refused}

module _ (strict : Bool) (bytes words owners jumpers writers readers : List ℕ) (rows : List lent.Row) where
  abbrev old : State
  old = lent words owners jumpers writers readers

  agree : lengths_by strict (length words) (length owners) (length jumpers) (length writers) (length readers) ≡ same_lengths strict old
  unfolding same_lengths
  agree = refl

  -- 18
  pub lacking : lengths_by strict (length words) (length owners) (length jumpers) (length writers) (length readers) ≡ true → length rows ≢ numbers
      → (r : code.Loaded) → Refused strict Refusal.BadRows r → loaded_with r words owners jumpers writers readers rows ≡ lent_load strict bytes old (table rows)
  unfolding not_loaded
  lacking s n r h =
      let d : lengths_differ strict old ≡ false = lengths_row strict old ∙ ap not (sym agree ∙ s) in
      ap₂ (λ (a : ℕ) (c : Processor). record { answer = a; state = record { cpu = c; words = words; owners = owners; jumpers = jumpers; writers = writers; readers = readers }; rows = table rows }) (ap answer_of h.1) h.0
      ∙ sym (load_18 (table rows) strict bytes old (λ q. n (sym (length_table rows) ∙ q)) ∙ simp d)

  module _ (h : lengths_by strict (length words) (length owners) (length jumpers) (length writers) (length readers) ≡ true → length rows ≡ numbers) (l : Loaded) (e : l ≡ load strict bytes old) where
    -- 64 rows, or 27
    either : (P : LentStepped → Type 0) → (length (table rows) ≡ numbers → P (lent_load strict bytes old (table rows)))
        → (length (table rows) ≢ numbers → lengths_differ strict old ≡ true → P (lent_load strict bytes old (table rows))) → P (lent_load strict bytes old (table rows))
    either P all few = go (eqb (length (table rows)) numbers) (same_lengths strict old) refl refl
      where
        go : (c d : Bool) → eqb (length (table rows)) numbers ≡ c → same_lengths strict old ≡ d → P (lent_load strict bytes old (table rows))
        go true d x y = all (eqb-true _ _ x)
        go false false x y = few (eqb-false _ _ x) (lengths_row strict old ∙ ap not y)
        go false true x y = absurd (eqb-false _ _ x (length_table rows ∙ h (agree ∙ y)))

    differ_answer : lengths_differ strict old ≡ true → load strict bytes old ≡ record { answer = answer.lengths_differ; state = not_loaded strict old }
    unfolding load load_verdict load_checks first_of
    differ_answer d = simp d

    pub lent_refused : l.answer ≢ answer.done → record { answer = l.answer; state = l.state; rows = table rows } ≡ lent_load strict bytes old (table rows)
    lent_refused n =
        ap (λ (x : Loaded). record { answer = x.answer; state = x.state; rows = table rows }) e
        ∙ either (λ (o : LentStepped). record { answer = (load strict bytes old).answer; state = (load strict bytes old).state; rows = table rows } ≡ o)
        (λ q. sym (lent_load_lem (table rows) q strict bytes old ∙ simp (ne_eqb (load strict bytes old).answer answer.done (λ z. n (ap (λ (x : Loaded). x.answer) e ∙ z)))))
        (λ q d. sym (load_18 (table rows) strict bytes old q ∙ simp (d, differ_answer d)))

    module _ (a : l.answer ≡ answer.done) where
      accepted : (load strict bytes old).answer ≡ answer.done
      accepted = ap (λ (x : Loaded). x.answer) (sym e) ∙ a

      size_is : l.state.cpu.n ≡ size_in bytes
      unfolding load loaded
      size_is = ap (λ (x : Loaded). x.state.cpu.n) e ∙ simp (accepted) (length_fields bytes 4 (size_in bytes))

      pub lent_accepted : (rows' : List Row) → rows' ≡ cond (eqb (length rows) numbers) (fresh_rows strict l.state.cpu.n) (table rows)
          → record { answer = l.answer; state = l.state; rows = rows' } ≡ lent_load strict bytes old (table rows)
      lent_accepted rows' r =
          ap₂ (λ (x : Loaded) (y : List Row). record { answer = x.answer; state = x.state; rows = y }) e r
          ∙ either (λ (o : LentStepped). record { answer = (load strict bytes old).answer; state = (load strict bytes old).state; rows = cond (eqb (length rows) numbers) (fresh_rows strict l.state.cpu.n) (table rows) } ≡ o)
          (λ q. sym (lent_load_lem (table rows) q strict bytes old ∙ simp (accepted, size_is, eq-eqb (length rows) numbers (sym (length_table rows) ∙ q))))
          (λ q d. let z : ◌≡◌ {A = ℕ} 27 0 = sym (ap (λ (x : Loaded). x.answer) (differ_answer d)) ∙ accepted in absurd (omega arith))
