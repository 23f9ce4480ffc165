-- Request 2026-02 of the code: of every outcome that the contracts of assemble and disassemble allow, by value or for C.
use Rattle.std.specs.Prelude.{◌≡◌, Bool, List, [], ◌↔◌, ℕ, ◌≤◌, take, drop}
use Rattle.std.proofs.Common.{sym, ap, ◌∙◌, subst}
use Rattle.rules.specs.State.{State}
use Rattle.rules.specs.Images.{Loaded, Written, loaded, load}
use Rattle.sources.specs.Meaning.{Assembled, says, meaning, assemble, no_registers}
use Rattle.sources.specs.Listing.{disassemble}
use Rattle.sources.proofs.Theorems.TextNumbers.{FirstFault}
use Rattle.sources.proofs.Theorems.Assembling.{Fits, TooShort}
use Rattle.sources.proofs.Theorems.Accepted.{Room}
use Rattle.sources.proofs.Listings.ListingBack.{Small}
use Rattle.sources.proofs.Listings.ListingNumbers as listing
use Rattle.assembler.specs.Views.{assembled_of}
use Rattle.assembler.proofs.assemble.Reads as assembler
use Rattle.disassembler.specs.Views.{listed_of}
use Rattle.disassembler.proofs.disassemble.Reads as disassembler
use Rattle.host.proofs.kl_assemble.Reads as kl-assemble
use Rattle.host.proofs.kl_disassemble.Reads as kl-disassemble
use Rattle.claims.specs.Allowed.{Promise, Allows, allowed}
use Rattle.claims.specs.Code.{Code}
use Rattle.claims.specs.Sources as sources

-- what the contracts of assemble and disassemble allow, and that it is what the text, or the words, mean
pub record Assembler : Type 1 where
  pub Assembles : List ℕ → List ℕ → Assembled → Type 0
  pub Disassembles : List ℕ → List ℕ → Written → Type 0
  pub assembles : (text out : List ℕ) (o : Assembled) → Assembles text out o → o ≡ assemble text out
  pub disassembles : (words out : List ℕ) (o : Written) → Disassembles words out o → o ≡ disassemble words out

-- ---- by value: assembler::assemble, disassembler::disassemble

abbrev pub by_assemble : Promise assembler.Post (List ℕ × List ℕ) Assembled
by_assemble =
    record {
      given = λ κs a. (a.0.now, a.1.0.now);
      left = λ κs r s. assembled_of r s.1.0.now;
      meant = λ i. assemble i.0 i.1;
      says = λ κs a r s h. h;
    }

abbrev pub by_disassemble : Promise disassembler.Post (List ℕ × List ℕ) Written
by_disassemble =
    record {
      given = λ κs a. (a.0.now, a.1.0.now);
      left = λ κs r s. listed_of r s.1.0.now;
      meant = λ i. disassemble i.0 i.1;
      says = λ κs a r s h. h;
    }

abbrev pub by_value : Assembler
by_value =
    record {
      Assembles = λ text out. Allows assembler.Post by_assemble (text, out);
      Disassembles = λ words out. Allows disassembler.Post by_disassemble (words, out);
      assembles = λ text out. allowed assembler.Post by_assemble (text, out);
      disassembles = λ words out. allowed disassembler.Post by_disassemble (words, out);
    }

-- ---- for C: kl_assemble, kl_disassemble

abbrev pub by_kl_assemble : Promise kl-assemble.Post (List ℕ × List ℕ) Assembled
by_kl_assemble =
    record {
      given = λ κs a. (a.0.now, a.1.0.now);
      left = λ κs r s. record { answer = r; line = s.1.1.0.now; length = s.1.1.1.0.now; out = s.1.0.now };
      meant = λ i. assemble i.0 i.1;
      says = λ κs a r s h. h;
    }

abbrev pub by_kl_disassemble : Promise kl-disassemble.Post (List ℕ × List ℕ) Written
by_kl_disassemble =
    record {
      given = λ κs a. (a.0.now, a.1.0.now);
      left = λ κs r s. record { answer = r; length = s.1.1.0.now; out = s.1.0.now };
      meant = λ i. disassemble i.0 i.1;
      says = λ κs a r s h. h;
    }

abbrev pub for_c : Assembler
for_c =
    record {
      Assembles = λ text out. Allows kl-assemble.Post by_kl_assemble (text, out);
      Disassembles = λ words out. Allows kl-disassemble.Post by_kl_disassemble (words, out);
      assembles = λ text out. allowed kl-assemble.Post by_kl_assemble (text, out);
      disassembles = λ words out. allowed kl-disassemble.Post by_kl_disassemble (words, out);
    }

-- ---- assembling

module _ (code : Assembler) (text out : List ℕ) (o : Assembled) (h : code.Assembles text out o) where
  is : o ≡ assemble text out
  is = code.assembles text out o h

  -- each answer exactly on its condition
  pub answer_0 : (o.answer ≡ 0) ↔ Fits text out
  answer_0 = subst (λ (x : Assembled). (x.answer ≡ 0) ↔ Fits text out) (sym is) (sources.answer_0 text out)

  pub answer_21 : (o.answer ≡ 21) ↔ (meaning text ≡ says [])
  answer_21 = subst (λ (x : Assembled). (x.answer ≡ 21) ↔ (meaning text ≡ says [])) (sym is) (sources.answer_21 text out)

  pub answer_31 : (o.answer ≡ 31) ↔ TooShort text out
  answer_31 = subst (λ (x : Assembled). (x.answer ≡ 31) ↔ TooShort text out) (sym is) (sources.answer_31 text out)

  pub answer_line : (n k : ℕ) → 50 ≤ n → ((o.answer ≡ n) × (o.line ≡ k)) ↔ FirstFault text n k
  answer_line n k l = subst (λ (x : Assembled). ((x.answer ≡ n) × (x.line ≡ k)) ↔ FirstFault text n k) (sym is) (sources.answer_line text out n k l)

  -- a refusal leaves the buffer as it was, and beyond the length written it keeps its contents
  pub refusal_keeps : (o.answer ≡ 0 → ⊥) → (o.length ≡ 0) × (o.out ≡ out)
  refusal_keeps n =
      subst (λ (x : Assembled). (x.length ≡ 0) × (x.out ≡ out)) (sym is) (sources.refusal_keeps text out (λ z. n (ap (λ (x : Assembled). x.answer) is ∙ z)))

  pub rest_kept : drop o.length o.out ≡ drop o.length out
  rest_kept = subst (λ (x : Assembled). drop x.length x.out ≡ drop x.length out) (sym is) (sources.rest_kept text out)

  -- any load of what it wrote, by value or for C: the words that the text says, registers 0 and pc 0
  pub image_loads : (core : Code) (m : Bool) (old : State) (l : Loaded) → core.Loads m (take o.length o.out) old l → o.answer ≡ 0 → Room m text old
      → (ws : List ℕ) × (meaning text ≡ says ws) × (l ≡ record { answer = 0; state = loaded m ws no_registers 0 old })
  image_loads core m old l k ok room =
      let f = sources.image_loads text out m (sym (ap (λ (x : Assembled). x.answer) is) ∙ ok) old room in
      (f.words, f.said, core.loads m (take o.length o.out) old l k ∙ ap (λ (x : Assembled). load m (take x.length x.out) old) is ∙ f.loads)

-- ---- disassembling

module _ (code : Assembler) (words out : List ℕ) (o : Written) (h : code.Disassembles words out o) where
  is_listing : o ≡ disassemble words out
  is_listing = code.disassembles words out o h

  -- what it wrote reads back as the words that it was lent
  pub reads_back : Small words → o.answer ≡ 0 → meaning (take o.length o.out) ≡ says words
  reads_back small ok =
      ap (λ (x : Written). meaning (take x.length x.out)) is_listing
      ∙ listing.reads_back words out small (sym (ap (λ (x : Written). x.answer) is_listing) ∙ ok)

  pub listing_refused : (o.answer ≡ 0 → ⊥) → (o.length ≡ 0) × (o.out ≡ out)
  listing_refused n =
      subst (λ (x : Written). (x.length ≡ 0) × (x.out ≡ out)) (sym is_listing)
      (listing.refusal_keeps words out (λ z. n (ap (λ (x : Written). x.answer) is_listing ∙ z)))
