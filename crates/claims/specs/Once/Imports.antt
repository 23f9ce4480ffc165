-- "Two outcomes allowed by one promise are proved equal", of texts imported.
use Rattle.std.specs.Prelude.{◌≡◌, refl, List, ℕ, Result, Ok, Err}
use Rattle.std.specs.Result.{result_unwrap_or}
use Rattle.std.proofs.Common.{sym, ap, ap₂, ◌∙◌}
use Rattle.answers.specs.declared.Refusal.{Refusal}
use Rattle.answers.specs.Numbers.{answer_of}
use Rattle.answers.specs.Results.{same_result}
use Rattle.intel_hex.specs.Importing as hex
use Rattle.answers.specs.declared.Fault.{Fault}
use Rattle.importer.specs.Views.{imported_of}
use Rattle.importer.proofs.import.Reads as import
use Rattle.claims.specs.Allowed.{Once, same}

-- an import's result in two: a refusal without its record, and the record
abbrev told : Result ℕ Fault → Result ℕ Refusal
told (Ok n) = Ok n
told (Err fault) = Err fault.refusal

abbrev line : Result ℕ Fault → ℕ
line (Ok n) = 0
line (Err fault) = fault.line

abbrev again : Result ℕ Refusal → ℕ → Result ℕ Fault
again (Ok n) l = Ok n
again (Err refusal) l = Err (record { refusal = refusal; line = l })

whole : (r : Result ℕ Fault) → again (told r) (line r) ≡ r
whole (Ok n) = refl
whole (Err fault) = refl

abbrev seen : Result ℕ Refusal → ℕ × ℕ
seen r = (answer_of r, result_unwrap_or r 0)

told_seen : (r : Result ℕ Fault) (out : List ℕ) → seen (told r) ≡ ((imported_of r out).answer, (imported_of r out).length)
told_seen (Ok n) out = refl
told_seen (Err fault) out = refl

line_seen : (r : Result ℕ Fault) (out : List ℕ) → line r ≡ (imported_of r out).line
line_seen (Ok n) out = refl
line_seen (Err fault) out = refl

out_seen : (r : Result ℕ Fault) (out : List ℕ) → (imported_of r out).out ≡ out
out_seen (Ok n) out = refl
out_seen (Err fault) out = refl

imported_same : (r q : Result ℕ Fault) (s t : List ℕ) → imported_of r s ≡ imported_of q t → ◌≡◌ {A = Result ℕ Fault × List ℕ} (r, s) (q, t)
imported_same r q s t e =
    let p : seen (told r) ≡ seen (told q) = told_seen r s ∙ ap (λ (m : hex.Imported). (m.answer, m.length)) e ∙ sym (told_seen q t) in
    let f : told r ≡ told q = same_result seen (λ (p : ℕ × ℕ). p.0) (λ (p : ℕ × ℕ). p.1) (λ a. refl) (λ a. refl) (λ x. refl) (told r) (told q) p in
    let l : line r ≡ line q = line_seen r s ∙ ap (λ (m : hex.Imported). m.line) e ∙ sym (line_seen q t) in
    let g : r ≡ q = sym (whole r) ∙ ap₂ again f l ∙ whole q in
    let o : s ≡ t = sym (out_seen r s) ∙ ap (λ (m : hex.Imported). m.out) e ∙ out_seen q t in
    λ i. (g i, o i)

-- importer: import, with the buffer

pub import_once : Once import.Post {Out = Result ℕ Fault × List ℕ} (λ κs r s. (r, s.1.1.1.0.now))
import_once κs a r q s t h k = imported_same r q s.1.1.1.0.now t.1.1.1.0.now (same h k)
