-- Request 2026-05 of the code, from Intel HEX to an image: of every outcome that the contract of import allows, by value or for C.
use Rattle.std.specs.Prelude.{◌≡◌, Bool, true, List, ◌↔◌, ℕ, ◌/◌, ◌^◌, ◌≤◌, ◌<◌, get_or, length, take, drop}
use Rattle.std.proofs.Common.{sym, ap, ◌∙◌, subst}
use Rattle.common.specs.Tables.{Exactly, NoneHolds}
use Rattle.rules.specs.State.{State}
use Rattle.rules.specs.Images.{Loaded, image_bytes, loaded, load}
use Rattle.intel_hex.specs.Reading.{Said, says, reading}
use Rattle.intel_hex.specs.Importing.{past, words_of, end_checks, Imported, import}
use Rattle.intel_hex.proofs.Theorems.Numbers.{FirstFault}
use Rattle.intel_hex.proofs.Theorems.Numbers as numbers
use Rattle.intel_hex.proofs.Theorems.Accepted.{Says}
use Rattle.intel_hex.proofs.Theorems.Accepted as accepted
use Rattle.intel_hex.proofs.Theorems.Answers.{is_answer, import_answers}
use Rattle.importer.specs.Views.{imported_of}
use Rattle.importer.proofs.import.Reads as importer
use Rattle.host.proofs.kl_import.Reads as kl-import
use Rattle.claims.specs.Allowed.{Promise, Allows, allowed}
use Rattle.claims.specs.Code.{Code}

pub record Given : Type 0 where
  pub text : List ℕ
  pub regs : List ℕ
  pub entry : ℕ
  pub out : List ℕ

abbrev meant_by : Given → Imported
meant_by i = import i.text i.regs i.entry i.out

-- what the contract of import allows, and that it is what the text means
pub record Importer : Type 1 where
  pub Imports : Given → Imported → Type 0
  pub imports : (i : Given) (o : Imported) → Imports i o → o ≡ meant_by i

-- ---- by value: importer::import

abbrev pub by_import : Promise importer.Post Given Imported
by_import =
    record {
      given = λ κs a. record { text = a.0.now; regs = a.1.0.now; entry = a.1.1.0; out = a.1.1.1.0.now };
      left = λ κs r s. imported_of r s.1.1.1.0.now;
      meant = meant_by;
      says = λ κs a r s h. h;
    }

abbrev pub by_value : Importer
by_value = record { Imports = Allows importer.Post by_import; imports = allowed importer.Post by_import }

-- ---- for C: kl_import

abbrev pub by_kl_import : Promise kl-import.Post Given Imported
by_kl_import =
    record {
      given = λ κs a. record { text = a.0.now; regs = a.1.0.now; entry = a.1.1.0; out = a.1.1.1.0.now };
      left = λ κs r s. record { answer = r; line = s.1.1.1.1.0.now; length = s.1.1.1.1.1.0.now; out = s.1.1.1.0.now };
      meant = meant_by;
      says = λ κs a r s h. h;
    }

abbrev pub for_c : Importer
for_c = record { Imports = Allows kl-import.Post by_kl_import; imports = allowed kl-import.Post by_kl_import }

-- ---- of any outcome

module _ (code : Importer) (text regs : List ℕ) (entry : ℕ) (out : List ℕ) (o : Imported) (h : code.Imports (record { text = text; regs = regs; entry = entry; out = out }) o) where
  is : o ≡ import text regs entry out
  is = code.imports (record { text = text; regs = regs; entry = entry; out = out }) o h

  answer_is : o.answer ≡ (import text regs entry out).answer
  answer_is = ap (λ (x : Imported). x.answer) is

  -- 0, 25, 31 or 60 to 68, whatever it is given
  pub some_answer : is_answer o.answer ≡ true
  some_answer = ap is_answer answer_is ∙ import_answers text regs entry out

  -- "Refusals, record by record": a number and a record are told exactly where that record is the first at fault, with that number
  pub answer_record : (n k : ℕ) → 1 ≤ k → ((o.answer ≡ n) × (o.line ≡ k)) ↔ FirstFault text n k
  answer_record n k c = subst (λ (x : Imported). ((x.answer ≡ n) × (x.line ≡ k)) ↔ FirstFault text n k) (sym is) (numbers.import_record text regs entry out n k c)

  -- "at the end 65, 68, 67; then 25, then 31": where no record is at fault, each exactly on its condition, and no line is told
  module _ (s : Said) (said : reading text ≡ says s) where
    pub answer_end : (n : ℕ) → (n ≡ 0 → ⊥) → (o.answer ≡ n) ↔ Exactly (end_checks s regs entry out) n
    answer_end n k = subst (λ (x : Imported). (x.answer ≡ n) ↔ Exactly (end_checks s regs entry out) n) (sym is) (numbers.import_number text regs entry out s said n k)

    pub answer_0 : (o.answer ≡ 0) ↔ NoneHolds (end_checks s regs entry out)
    answer_0 = subst (λ (x : Imported). (x.answer ≡ 0) ↔ NoneHolds (end_checks s regs entry out)) (sym is) (numbers.import_done text regs entry out s said)

    pub no_line : o.line ≡ 0
    no_line = ap (λ (x : Imported). x.line) is ∙ numbers.import_line text regs entry out s said

  -- a refusal leaves the buffer as it was
  pub refusal_keeps : (o.answer ≡ 0 → ⊥) → (o.length ≡ 0) × (o.out ≡ out)
  refusal_keeps n =
      subst (λ (x : Imported). (x.length ≡ 0) × (x.out ≡ out)) (sym is) (numbers.import_keeps text regs entry out (λ z. n (answer_is ∙ z)))

  module _ (z : o.answer ≡ 0) where
    pub done : (import text regs entry out).answer ≡ 0
    done = sym answer_is ∙ z

    -- no record is at fault
    abbrev pub said : Says text
    said = accepted.done_says text regs entry out done

    -- "into image words, four bytes to a word, little-endian, gaps filled with 0": as many as the highest byte's address asks for
    abbrev pub words : List ℕ
    words = words_of said.all.memory

    pub size_is : length words ≡ past said.all.memory / 4
    size_is = accepted.length_words said.all.memory

    -- the image of these words with the caller's registers and entry, and beyond it what the buffer held
    pub image_is : take o.length o.out ≡ image_bytes words regs entry
    image_is = ap (λ (x : Imported). take x.length x.out) is ∙ accepted.image_is text regs entry out done

    pub rest_kept : drop o.length o.out ≡ drop o.length out
    rest_kept = subst (λ (x : Imported). drop x.length x.out ≡ drop x.length out) (sym is) (accepted.rest_kept text regs entry out done)

    -- any load of what it wrote, by value or for C, in either mode: these words, the caller's registers, and pc at the entry
    pub image_loads : (core : Code) (m : Bool) (old : State) (l : Loaded) → core.Loads m (take o.length o.out) old l → length regs ≡ 16
        → ((i : ℕ) → i < length regs → get_or regs i 0 < 2 ^ 32) → length words ≤ length old.words → length old.owners ≡ length old.words
        → length old.jumpers ≡ length old.words → length old.writers ≡ length old.words
        → (m ≡ true → length old.readers ≡ length old.words) → l ≡ record { answer = 0; state = loaded m words regs entry old }
    image_loads core m old l k sixteen small enough w j v r =
        core.loads m (take o.length o.out) old l k
        ∙ ap (λ (x : Imported). load m (take x.length x.out) old) is
        ∙ accepted.imported_loads text regs entry out done m old sixteen small enough w j v r
