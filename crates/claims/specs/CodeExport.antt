-- Request 2026-05 of the code, from words to Intel HEX: of every outcome that the contract of export allows, by value or for C.
use Rattle.std.specs.Prelude.{◌≡◌, List, ◌↔◌, ℕ, ◌^◌, ◌≤◌, ◌<◌, get_or, length, take, drop}
use Rattle.std.proofs.Common.{sym, ap, ◌∙◌, subst}
use Rattle.common.specs.Tables.{Exactly, NoneHolds}
use Rattle.rules.specs.Images.{Written, image_bytes}
use Rattle.intel_hex.specs.Exporting.{text_of, export_checks, export}
use Rattle.intel_hex.specs.Importing.{Imported, import, accepted}
use Rattle.intel_hex.proofs.Laws.Lengths as lengths
use Rattle.intel_hex.proofs.Theorems.Numbers as numbers
use Rattle.intel_hex.proofs.Theorems.Exported as exported
use Rattle.intel_hex.proofs.Theorems.RoundTrip as round_trip
use Rattle.exporter.specs.Views.{exported_of}
use Rattle.exporter.proofs.export.Reads as exporter
use Rattle.host.proofs.kl_export.Reads as kl-export
use Rattle.claims.specs.Allowed.{Promise, Allows, allowed}
use Rattle.claims.specs.CodeImport.{Importer}

-- what the contract of export allows, and that it is what the words mean
pub record Exporter : Type 1 where
  pub Exports : List ℕ → List ℕ → Written → Type 0
  pub exports : (words out : List ℕ) (o : Written) → Exports words out o → o ≡ export words out

-- ---- by value: exporter::export

abbrev pub by_export : Promise exporter.Post (List ℕ × List ℕ) Written
by_export =
    record {
      given = λ κs a. (a.0.now, a.1.0.now);
      left = λ κs r s. exported_of r s.1.0.now;
      meant = λ i. export i.0 i.1;
      says = λ κs a r s h. h;
    }

abbrev pub by_value : Exporter
by_value =
    record {
      Exports = λ words out. Allows exporter.Post by_export (words, out);
      exports = λ words out. allowed exporter.Post by_export (words, out);
    }

-- ---- for C: kl_export

abbrev pub by_kl_export : Promise kl-export.Post (List ℕ × List ℕ) Written
by_kl_export =
    record {
      given = λ κs a. (a.0.now, a.1.0.now);
      left = λ κs r s. record { answer = r; length = s.1.1.0.now; out = s.1.0.now };
      meant = λ i. export i.0 i.1;
      says = λ κs a r s h. h;
    }

abbrev pub for_c : Exporter
for_c =
    record {
      Exports = λ words out. Allows kl-export.Post by_kl_export (words, out);
      exports = λ words out. allowed kl-export.Post by_kl_export (words, out);
    }

-- ---- of any outcome

module _ (code : Exporter) (words out : List ℕ) (o : Written) (h : code.Exports words out o) where
  is : o ≡ export words out
  is = code.exports words out o h

  -- 21 and 31 exactly on their conditions, 21 first; 0 where neither holds
  pub answer_number : (n : ℕ) → (n ≡ 0 → ⊥) → (o.answer ≡ n) ↔ Exactly (export_checks words out) n
  answer_number n k = subst (λ (x : Written). (x.answer ≡ n) ↔ Exactly (export_checks words out) n) (sym is) (numbers.export_number words out n k)

  pub answer_0 : (o.answer ≡ 0) ↔ NoneHolds (export_checks words out)
  answer_0 = subst (λ (x : Written). (x.answer ≡ 0) ↔ NoneHolds (export_checks words out)) (sym is) (numbers.export_done words out)

  -- a refusal leaves the buffer as it was
  pub refusal_keeps : (o.answer ≡ 0 → ⊥) → (o.length ≡ 0) × (o.out ≡ out)
  refusal_keeps n =
      subst (λ (x : Written). (x.length ≡ 0) × (x.out ≡ out)) (sym is) (numbers.export_keeps words out (λ z. n (ap (λ (x : Written). x.answer) is ∙ z)))

  module _ (z : o.answer ≡ 0) where
    done : (export words out).answer ≡ 0
    done = sym (ap (λ (x : Written). x.answer) is) ∙ z

    -- the text of the words, and beyond it what the buffer held
    pub text_is : take o.length o.out ≡ text_of words
    text_is = ap (λ (x : Written). take x.length x.out) is ∙ exported.text_is words out done

    pub rest_kept : drop o.length o.out ≡ drop o.length out
    rest_kept = subst (λ (x : Written). drop x.length x.out ≡ drop x.length out) (sym is) (exported.rest_kept words out done)

    -- "Importing an export gives the same words back", with every registers, every entry below N and a buffer long enough
    pub imports_back : ((i : ℕ) → i < length words → get_or words i 0 < 2 ^ 32) → (regs : List ℕ) (entry : ℕ) (image : List ℕ) → entry < length words
        → length (image_bytes words regs entry) ≤ length image → import (take o.length o.out) regs entry image ≡ accepted words regs entry image
    imports_back small regs entry image below fits =
        let f = exported.accepted words out done in
        ap (λ (t : List ℕ). import t regs entry image) text_is
        ∙ round_trip.text_imported words regs entry image f.least f.most small below fits

    -- by any import of it, by value or for C
    pub imported_back : (importer : Importer) → ((i : ℕ) → i < length words → get_or words i 0 < 2 ^ 32) → (regs : List ℕ) (entry : ℕ) (image : List ℕ) (i : Imported)
        → importer.Imports (record { text = take o.length o.out; regs = regs; entry = entry; out = image }) i → entry < length words → length (image_bytes words regs entry) ≤ length image
        → i ≡ accepted words regs entry image
    imported_back importer small regs entry image i k below fits =
        importer.imports (record { text = take o.length o.out; regs = regs; entry = entry; out = image }) i k
        ∙ imports_back small regs entry image below fits

-- 22,540 bytes are enough
pub text_most : (words : List ℕ) → length words ≤ 2048 → length (text_of words) ≤ 22540
text_most = lengths.text_most
