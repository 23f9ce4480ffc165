-- Two results that write into a buffer, seen alike, are one with their buffers; so are two that tell an ending or a note besides.
use Rattle.std.specs.Prelude.{◌≡◌, refl, List, ℕ, zero, suc, Result}
use Rattle.std.proofs.Common.{ap, sym, ◌∙◌}
use Rattle.std.specs.Result.{result_unwrap_or}
use Rattle.answers.specs.declared.Refusal.{Refusal}
use Rattle.answers.specs.Numbers.{answer_of}
use Rattle.answers.specs.Results.{same_result}
use Rattle.rules.specs.Images.{Written}
use Rattle.printed.specs.Outcome.{Printed}
use Rattle.printer.specs.declared.Printed as code
use Rattle.printer.specs.declared.Ending.{Ending}
use Rattle.printer.specs.declared.Ending.TheVariants.{Halted, Stopped, Refused, BudgetUsed, NotRun}
use Rattle.printer.specs.Endings.{status_of}
use Rattle.printer.specs.Views.{printed_of}
use Rattle.sheets.specs.Told as told
use Rattle.sheet.specs.declared.Lined as sheet
use Rattle.sheet.specs.Views.{told_of, lined_of}

abbrev seen : Result ℕ Refusal → ℕ × ℕ
seen r = (answer_of r, result_unwrap_or r 0)

result_same : (r q : Result ℕ Refusal) → seen r ≡ seen q → r ≡ q
result_same r q e = same_result seen (λ w. w.0) (λ w. w.1) (λ a. refl) (λ a. refl) (λ x. refl) r q e

pub written_same : (r q : Result ℕ Refusal) (s t : List ℕ) → ◌≡◌ {A = Written} (record { answer = answer_of r; length = result_unwrap_or r 0; out = s }) (record { answer = answer_of q; length = result_unwrap_or q 0; out = t })
    → ◌≡◌ {A = Result ℕ Refusal × List ℕ} (r, s) (q, t)
written_same r q s t e = let f = result_same r q (ap (λ (w : Written). (w.answer, w.length)) e) in λ i. (f i, (e i).out)

-- ---- endings

abbrev ending_of : ℕ → Ending
ending_of zero = Halted
ending_of (suc zero) = Stopped
ending_of (suc (suc zero)) = Refused
ending_of (suc (suc (suc zero))) = BudgetUsed
ending_of (suc (suc (suc (suc n)))) = NotRun

ending_again : (e : Ending) → ending_of (status_of e) ≡ e
ending_again Halted = refl
ending_again Stopped = refl
ending_again Refused = refl
ending_again BudgetUsed = refl
ending_again NotRun = refl

pub ending_same : (x y : Ending) → status_of x ≡ status_of y → x ≡ y
ending_same x y e = sym (ending_again x) ∙ ap ending_of e ∙ ending_again y

pub printed_same : (r q : code.Printed) (s t : List ℕ) → printed_of r s ≡ printed_of q t → ◌≡◌ {A = code.Printed × List ℕ} (r, s) (q, t)
printed_same r q s t e =
    let f = result_same r.length q.length (ap (λ (p : Printed). (p.answer, p.length)) e) in
    let g = ending_same r.ending q.ending (ap (λ (p : Printed). p.status) e) in
    λ i. (record { length = f i; ending = g i }, (e i).out)

-- ---- the sheet's

pub told_same : (r q : Result ℕ Refusal) (s t : List ℕ) → told_of r s ≡ told_of q t → ◌≡◌ {A = Result ℕ Refusal × List ℕ} (r, s) (q, t)
told_same r q s t e = let f = result_same r q (ap (λ (w : told.Told). (w.answer, w.length)) e) in λ i. (f i, (e i).out)

pub lined_same : (r q : sheet.Lined) (s t : List ℕ) → lined_of r s ≡ lined_of q t → ◌≡◌ {A = sheet.Lined × List ℕ} (r, s) (q, t)
lined_same r q s t e =
    let f = result_same r.told q.told (ap (λ (l : told.Lined). (l.told.answer, l.told.length)) e) in
    λ i. (record { told = f i; note = record { refused = (e i).note.refused; answer = (e i).note.answer; steps = (e i).note.steps } }, (e i).told.out)
