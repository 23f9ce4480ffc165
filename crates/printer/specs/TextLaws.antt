-- The whole text, as the code comes to it.
use Rattle.std.specs.Prelude.{Err, ◌≡◌, refl, Bool, cond, eqb, ℕ, zero, suc, ◌+◌, ◌*◌, ◌<◌, ◌≤◌, take, replicate}
use Rattle.std.proofs.Math.Path.{sym, ap}
use Rattle.std.proofs.Common.{◌∙◌, subst, length-append}
use mathlib.Core.List.{List, [], ◌∷◌, ◌++◌}
use native.Mathlib.Omega.{arith}
use borrow.Author.Tests.{eq-eqb, ne_eqb, le-leb, lt-leb}
use Rattle.std.proofs.Math.ListN.{length}
use Rattle.numerals.specs.Writing.{Put, put}
use Rattle.text.specs.Puts.{put_of, put_behind, put_whole}
use Rattle.images.specs.Stores.{sets_over}
use Rattle.rules.specs.Images as images
use Rattle.rules.specs.Run as rules
use Rattle.rules.specs.Compartments.{numbers}
use Rattle.rules.specs.State.{State}
use Rattle.rules.specs.Counts.{widest}
use Rattle.rules.specs.Rows as rows
use Rattle.rules.specs.Laws.RowLaws.{length_rows}
use Rattle.rules.proofs.Theorems.Rows.{told, Right, lent_load_lem, same_run}
use Rattle.rules.proofs.BothMachines.LoadedRows.{rows_right}
use Rattle.rows.specs.Views.{table}
use Rattle.machine.specs.declared.Ran.{Ran}
use Rattle.machine.specs.Views.{state_of, ran_of}
use Rattle.answers.specs.declared.Refusal.{Refusal}
use Rattle.answers.specs.Numbers.{number, answer_of}
use Rattle.answers.specs.Results.{number-not-0}
use Rattle.loader.specs.declared.Loaded.{Loaded}
use Rattle.report.specs.Wholes.{widest_whole}
use Rattle.printed.specs.Text.{Line, first_line, Row, row_lines, refused_line, Outcome, refused, text}
use Rattle.printed.specs.Outcome.{budget, memories, line_of, row_of, rows_from, ran_outcome, load_outcome, outcome, ended_by, status, printed_in, print}
use Rattle.printed.proofs.Theorems.Lengths.{longest}
use Rattle.printed.proofs.Theorems.Numbers.{next_most}
use Rattle.printer.specs.Views.{line, lines_of, ran_by, Meant, meant_of}
use Rattle.printer.specs.Made as own

-- ---- a run's text

module _ (r : Ran) (owners writers : List ℕ) (lent : List rows.Row) (wide : ℕ) (ew : wide ≡ widest (state_of r.cpu [] owners [] writers [])) where
  abbrev first : Line
  first = line r.answer r.count r.cpu.pc r.cpu.prev r.cpu.jumped r.cpu.next wide

  abbrev lines : List Row
  lines = lines_of lent 0 r.cpu.next

  text_is : first_line first ++ row_lines lines ≡ text (ran_by r owners writers lent)
  unfolding text
  text_is = ap (λ (k : ℕ). first_line (line r.answer r.count r.cpu.pc r.cpu.prev r.cpu.jumped r.cpu.next k) ++ row_lines lines) ew

  pub ran_put : (out : List ℕ) (p : ℕ) (mid : List ℕ) (n : ℕ) (new : List ℕ) → put_of p mid ≡ put (first_line first) 0 out
      → put_of n new ≡ put (row_lines lines) p mid
      → put_of n new ≡ put (text (ran_by r owners writers lent)) 0 out
  ran_put out p mid n new a b = put_behind (first_line first) (row_lines lines) out 0 p mid n new a b ∙ ap (λ (t : List ℕ). put t 0 out) text_is

  pub ran_length : length (first_line first) ≤ 108 → length (row_lines lines) ≤ 44 * r.cpu.next → length (text (ran_by r owners writers lent)) ≤ 108 + 44 * r.cpu.next
  ran_length h k = let e = ap length text_is in let l = length-append (first_line first) (row_lines lines) in omega arith

-- right rows have the counts of the tags
lines_right : (s : State) (lent : List rows.Row) → Right s lent → (c k : ℕ) → c + k ≤ numbers → lines_of lent c k ≡ rows_from s c k
unfolding lines_of rows_from row_of rows.counts_of
lines_right s lent r c zero h = refl
lines_right s lent r c (suc k) h =
    let e = r.same c (omega arith) in
    let rest = lines_right s lent r (suc c) k (omega arith) in
    λ i. record { number = c; owned = (e i).owned; jumps = (e i).jump; stores = (e i).store } ∷ rest i

-- ---- what comes of an image

-- the table before an image is loaded
abbrev blank_rows : List rows.Row
blank_rows = table (replicate 64 (record { owned = 0; jump = 0; store = 0 }))

module _ (strict : Bool) (input : List ℕ) (l : Loaded) (words owners jumpers writers readers : List ℕ) (lent : List rows.Row)
    (loads : record { answer = answer_of l.answer; state = state_of l.cpu words owners jumpers writers readers; rows = lent } ≡ rows.lent_load strict input memories blank_rows) where
  -- the load without a table
  abbrev plain : images.Loaded
  plain = images.load strict input memories

  is_load : ◌≡◌ {A = rows.LentStepped} (record { answer = answer_of l.answer; state = state_of l.cpu words owners jumpers writers readers; rows = lent })
      (record { answer = plain.answer; state = plain.state; rows = cond (eqb plain.answer 0) (rows.fresh_rows strict (images.size_in input)) blank_rows })
  is_load = loads ∙ lent_load_lem blank_rows refl strict input memories

  same_answer : answer_of l.answer ≡ plain.answer
  same_answer = ap (λ (x : rows.LentStepped). x.answer) is_load

  module _ (refusal : Refusal) (is : l.answer ≡ Err refusal) (k : ℕ) (ek : k ≡ number refusal) where
    same_number : k ≡ plain.answer
    same_number = ek ∙ sym (ap answer_of is) ∙ same_answer

    refused_is : refused k ≡ outcome strict input
    unfolding outcome load_outcome
    refused_is = ap refused same_number ∙ simp (ne_eqb plain.answer 0 (λ z. number-not-0 refusal (sym ek ∙ same_number ∙ z)))

    pub refused_made : (out : List ℕ) (n : ℕ) (new : List ℕ) → put_of n new ≡ put (refused_line k) 0 out
        → record { status = 2; made = put_of n new } ≡ meant_of (outcome strict input) out
    unfolding text status
    refused_made out n new e = ap (λ (p : Put). record { status = 2; made = p }) e ∙ ap (λ (o : Outcome). meant_of o out) refused_is

    pub refused_short : length (refused_line k) ≤ 19 → length (text (outcome strict input)) ≤ longest
    unfolding text
    refused_short h = let e = ap (λ (o : Outcome). length (text o)) refused_is in omega arith

  module _ (z : answer_of l.answer ≡ 0) (r : Ran) (words' owners' jumpers' writers' readers' : List ℕ) (lent' : List rows.Row)
      (runs : record { answer = r.answer; state = state_of r.cpu words' owners' jumpers' writers' readers'; rows = lent'; count = r.count } ≡ rows.lent_run budget (state_of l.cpu words owners jumpers writers readers) lent) where
    ok : plain.answer ≡ 0
    ok = sym same_answer ∙ z

    -- the run from what the loader filled
    is_run : record { answer = r.answer; state = state_of r.cpu words' owners' jumpers' writers' readers'; rows = lent'; count = r.count } ≡ rows.lent_run budget plain.state (rows.fresh_rows strict (images.size_in input))
    is_run =
        runs ∙ ap (λ (x : rows.LentStepped). rows.lent_run budget x.state x.rows) is_load
        ∙ ap (λ (b : Bool). rows.lent_run budget plain.state (cond b (rows.fresh_rows strict (images.size_in input)) blank_rows)) (eq-eqb plain.answer 0 ok)

    plain_run : ran_of r words' owners' jumpers' writers' readers' ≡ rules.run budget plain.state
    plain_run = ap told is_run ∙ same_run budget plain.state (rows.fresh_rows strict (images.size_in input)) (length_rows _ 0 64)

    right : Right (rules.run budget plain.state).state lent'
    right = subst (λ (t : List rows.Row). Right (rules.run budget plain.state).state t) (sym (ap (λ (x : rows.LentRan). x.rows) is_run)) (rows_right strict input memories blank_rows refl ok budget)

    few : r.cpu.next ≤ 64
    few =
        let k = next_most strict input memories ok budget in
        let e = ap (λ (x : rules.Ran). x.state.cpu.next) plain_run in
        omega arith

    ran_is : ran_by r owners' writers' lent' ≡ outcome strict input
    unfolding outcome load_outcome ran_outcome line_of
    ran_is =
        let w = sym (widest_whole r.cpu writers' owners' words' jumpers' readers') in
        let s = lines_right (rules.run budget plain.state).state lent' right 0 r.cpu.next (omega (arith, few)) in
        (λ i. Outcome.ran (line r.answer r.count r.cpu.pc r.cpu.prev r.cpu.jumped r.cpu.next (w i)) (s i))
        ∙ ap (λ (x : rules.Ran). Outcome.ran (line_of x) (rows_from (rules.run budget plain.state).state 0 x.state.cpu.next)) plain_run
        ∙ simp (eq-eqb plain.answer 0 ok)

    pub ran_made : (ended : ℕ) → ended ≡ ended_by r.answer → (out : List ℕ) (n : ℕ) (new : List ℕ)
        → put_of n new ≡ put (text (ran_by r owners' writers' lent')) 0 out
        → record { status = ended; made = put_of n new } ≡ meant_of (outcome strict input) out
    unfolding status
    ran_made ended d out n new e = (λ i. record { status = d i; made = e i }) ∙ ap (λ (o : Outcome). meant_of o out) ran_is

    pub ran_short : length (text (ran_by r owners' writers' lent')) ≤ 108 + 44 * r.cpu.next → length (text (outcome strict input)) ≤ longest
    ran_short h = let e = ap (λ (o : Outcome). length (text o)) ran_is in let k = few in omega arith

-- ---- in the lent buffer

module _ (strict : Bool) (input : List ℕ) (ended n : ℕ) (made : List ℕ)
    (makes : record { status = ended; made = put_of n made } ≡ meant_of (outcome strict input) (replicate longest 0))
    (short : length (text (outcome strict input)) ≤ longest) where
  puts : put_of n made ≡ put (text (outcome strict input)) 0 (replicate longest 0)
  puts = ap (λ (x : Meant). x.made) makes

  len : n ≡ length (text (outcome strict input))
  len = own.made_whole (text (outcome strict input)) longest n made puts short

  pub made_length : n ≤ length made
  made_length = own.made_length (text (outcome strict input)) longest n made puts short

  pub made_count : n ≡ length (take n made)
  made_count = own.made_count (text (outcome strict input)) longest n made puts short

  status_is : ended ≡ status (outcome strict input)
  status_is = ap (λ (x : Meant). x.status) makes

  pub no_room : (out : List ℕ) → length out < n → record { answer = 31; length = 0; status = ended; out = out } ≡ print strict input out
  unfolding print printed_in
  no_room out h = let w = len in simp (lt-leb (length (text (outcome strict input))) (length out) (omega arith), status_is)

  pub has_room : (out : List ℕ) → n ≤ length out → (r : ℕ) (new : List ℕ) → put_of r new ≡ put (take n made) 0 out
      → record { answer = 0; length = n; status = ended; out = new } ≡ print strict input out
  unfolding print printed_in
  has_room out h r new e =
      let w = len in
      let t = own.made_text (text (outcome strict input)) longest n made puts short in
      let p = put_whole (text (outcome strict input)) out 0 (omega arith) r new (e ∙ ap (λ (x : List ℕ). put x 0 out) t) in
      simp (
        le-leb (length (text (outcome strict input))) (length out) (omega arith),
        status_is,
        len,
        p.1 ∙ sets_over (text (outcome strict input)) out (omega arith),
      )
