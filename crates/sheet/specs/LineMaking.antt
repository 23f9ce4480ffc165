-- The line of a run and of an image, as the code comes to it.
use Rattle.std.specs.Prelude.{◌≡◌, ℕ, Err, ◌+◌, ◌≤◌, Bool, true, false, cond, List, [], ◌++◌, length, take, replicate, ◌==◌, refl}
use Rattle.std.proofs.Math.Path.{sym, ap}
use Rattle.std.proofs.Common.{◌∙◌, append_assoc, eq-eqb, ne_eqb, length-append}
use native.Mathlib.Omega.{arith}
use Rattle.common.specs.Answers as answer
use Rattle.numerals.specs.Writing.{Put, put}
use Rattle.text.specs.Puts.{put_of, put_behind}
use Rattle.rules.specs.Images as images
use Rattle.rules.specs.Run as rules
use Rattle.rules.specs.Checks.{instruction_at}
use Rattle.rules.specs.Counts.{widest}
use Rattle.machine.specs.declared.Ran.{Ran}
use Rattle.machine.specs.Views.{state_of, ran_of}
use Rattle.answers.specs.declared.Refusal.{Refusal}
use Rattle.answers.specs.Numbers.{number, answer_of}
use Rattle.answers.specs.Results.{number-not-0}
use Rattle.loader.specs.declared.Loaded.{Loaded}
use Rattle.loader.specs.Views.{loaded_of}
use Rattle.report.specs.Wholes.{widest_whole}
use Rattle.printed.specs.Text.{line_end, Line, first_fields, refused_line}
use Rattle.printed.specs.Outcome.{budget, memories, line_of}
use Rattle.printer.specs.Views.{line}
use Rattle.printer.specs.Made.{made_text}
use Rattle.sheets.specs.Lines.{members, target_writers, Entry, refused, ran, ran_entry, load_entry, entry, writers_text, line_text}
use Rattle.sheets.specs.Totals.{Note, note_of}
use Rattle.sheets.specs.Told as told
use Rattle.sheets.proofs.Theorems.Lengths.{writers_asked, writers_most}
use Rattle.sheet.specs.Views.{Meant, meant_of}

-- ---- the line of a run

module _ (r : Ran) (words owners writers : List ℕ) (wide set : ℕ) (ew : wide ≡ widest (state_of r.cpu [] owners [] writers []))
    (es : set ≡ target_writers (state_of r.cpu words [] [] writers [])) where
  abbrev left : rules.Ran
  left = ran_of r words owners [] writers []

  abbrev first : Line
  first = line r.answer r.count r.cpu.pc r.cpu.prev r.cpu.jumped r.cpu.next wide

  abbrev behind : List ℕ
  behind = writers_text r.answer (members set) ++ line_end

  line_is : first_fields first ++ behind ≡ line_text (ran_entry left)
  unfolding line_text ran_entry line_of target_writers instruction_at
  line_is =
      let w = ew ∙ sym (widest_whole r.cpu writers owners words [] []) in
      let t = ap (λ (x : ℕ). writers_text r.answer (members x)) es ∙ writers_asked r.answer (members (target_writers left.state)) in
      sym (append_assoc (first_fields first) (writers_text r.answer (members set)) line_end)
      ∙ (λ i. first_fields (line r.answer r.count r.cpu.pc r.cpu.prev r.cpu.jumped r.cpu.next (w i)) ++ t i ++ line_end)

  pub line_put : (out : List ℕ) (p : ℕ) (mid : List ℕ) (n : ℕ) (new : List ℕ) → put_of p mid ≡ put (first_fields first) 0 out
      → put_of n new ≡ put behind p mid → put_of n new ≡ put (line_text (ran_entry left)) 0 out
  line_put out p mid n new a b = put_behind (first_fields first) behind out 0 p mid n new a b ∙ ap (λ (t : List ℕ). put t 0 out) line_is

  pub line_short : length (first_fields first) ≤ 107 → length (line_text (ran_entry left)) ≤ 308
  line_short h =
      let e = ap length line_is in
      let l = length-append (first_fields first) behind in
      let k = length-append (writers_text r.answer (members set)) line_end in
      let w = writers_most r.answer set in
      omega arith

-- the jumpers and the readers are not asked
entry_whole : (r : Ran) (words owners jumpers writers readers : List ℕ)
    → ran_entry (ran_of r words owners [] writers []) ≡ ran_entry (ran_of r words owners jumpers writers readers)
unfolding ran_entry line_of target_writers instruction_at
entry_whole r words owners jumpers writers readers =
    let w = widest_whole r.cpu writers owners words [] [] ∙ sym (widest_whole r.cpu writers owners words jumpers readers) in
    ap (λ (k : ℕ). ran (line r.answer r.count r.cpu.pc r.cpu.prev r.cpu.jumped r.cpu.next k)
    (cond (r.answer == answer.store_forbidden) (members (target_writers (state_of r.cpu words owners jumpers writers readers))) [])) w

-- ---- the line of an image

module _ (strict : Bool) (input : List ℕ) (l : Loaded) (words owners jumpers writers readers : List ℕ)
    (loads : loaded_of l words owners jumpers writers readers ≡ images.load strict input memories) where
  module _ (refusal : Refusal) (is : l.answer ≡ Err refusal) (k : ℕ) (ek : k ≡ number refusal) where
    refused_is : refused k ≡ entry strict input
    unfolding entry load_entry
    refused_is = sym (ap load_entry (sym loads) ∙ simp (is, ne_eqb (number refusal) 0 (number-not-0 refusal), ek))

    pub refused_made : (out : List ℕ) (n : ℕ) (new : List ℕ) → put_of n new ≡ put (refused_line k) 0 out
        → record { note = record { refused = true; answer = k; steps = 0 }; made = put_of n new } ≡ meant_of (entry strict input) out
    unfolding line_text note_of
    refused_made out n new e =
        ap (λ (p : Put). record { note = note_of (refused k); made = p }) e ∙ ap (λ (o : Entry). meant_of o out) refused_is

    pub refused_short : length (refused_line k) ≤ 19 → length (line_text (entry strict input)) ≤ 308
    unfolding line_text
    refused_short h = let e = ap (λ (o : Entry). length (line_text o)) refused_is in omega arith

  module _ (z : answer_of l.answer ≡ 0) (r : Ran) (words' owners' jumpers' writers' readers' : List ℕ)
      (runs : ran_of r words' owners' jumpers' writers' readers' ≡ rules.run budget (state_of l.cpu words owners jumpers writers readers)) where
    ran_is : ran_entry (ran_of r words' owners' [] writers' []) ≡ entry strict input
    unfolding entry load_entry
    ran_is =
        let s : load_entry (loaded_of l words owners jumpers writers readers) ≡ ran_entry (rules.run budget (state_of l.cpu words owners jumpers writers readers)) =
        simp (eq-eqb (answer_of l.answer) 0 z) in
        entry_whole r words' owners' jumpers' writers' readers' ∙ ap ran_entry runs ∙ sym s ∙ ap load_entry loads

    pub ran_made : (out : List ℕ) (n : ℕ) (new : List ℕ) → put_of n new ≡ put (line_text (ran_entry (ran_of r words' owners' [] writers' []))) 0 out
        → record { note = record { refused = false; answer = r.answer; steps = r.count }; made = put_of n new } ≡ meant_of (entry strict input) out
    unfolding note_of ran_entry line_of
    ran_made out n new e =
        ap (λ (p : Put). record { note = record { refused = false; answer = r.answer; steps = r.count }; made = p }) e ∙ ap (λ (o : Entry). meant_of o out) ran_is

    pub ran_short : length (line_text (ran_entry (ran_of r words' owners' [] writers' []))) ≤ 308 → length (line_text (entry strict input)) ≤ 308
    ran_short h = let e = ap (λ (o : Entry). length (line_text o)) ran_is in omega arith

-- ---- in the lent buffer

pub made_told : (text : List ℕ) (most n : ℕ) (made : List ℕ) → put_of n made ≡ put text 0 (replicate most 0) → length text ≤ most
    → (out : List ℕ) (t : told.Told) → t ≡ told.tell (take n made) out → t ≡ told.tell text out
made_told text most n made makes short out t e = e ∙ ap (λ (x : List ℕ). told.tell x out) (made_text text most n made makes short)

-- the line and its note
pub line_told : (strict : Bool) (input out : List ℕ) (n : Note) (p : Put) → record { note = n; made = p } ≡ meant_of (entry strict input) out
    → (n ≡ note_of (entry strict input)) × (p ≡ put (line_text (entry strict input)) 0 out)
line_told strict input out n p e = (ap (λ (x : Meant). x.note) e, ap (λ (x : Meant). x.made) e)

pub lined : (strict : Bool) (input out : List ℕ) (n : Note) (t : told.Told) → n ≡ note_of (entry strict input) → t ≡ told.tell (line_text (entry strict input)) out
    → record { told = t; note = n } ≡ told.line strict input out
unfolding told.line
lined strict input out n t a b = λ i. record { told = b i; note = a i }
