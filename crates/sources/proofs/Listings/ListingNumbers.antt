-- What disassembling answers, exactly: a listing in the buffer, or 21 or 31 with the buffer as it was; and what is in the buffer assembles to the words.
use Rattle.std.specs.Prelude.{◌≡◌, Bool, List, ◌↔◌, ◌⊎◌, ℕ, ◌≤◌, ◌<◌, leb, length, take, drop}
use Rattle.std.proofs.Math.Path.{refl}
use Rattle.std.proofs.Common.{sym, ap, ◌∙◌, inl, inr, arith}
use Rattle.std.proofs.Math.Bool.{true, false}
use borrow.Author.Tests.{le-leb, lt-leb, leb-true, leb-false, eqb-true, ne_eqb}
use Rattle.std.proofs.Math.Dec.{eqb}
use Rattle.std.proofs.Math.Seq.{take-append_seam, drop-append_seam}
use Rattle.common.specs.Answers as answer
use Rattle.rules.specs.Images.{over, Written}
use Rattle.sources.specs.Meaning.{says, meaning}
use Rattle.sources.specs.Listing.{listing, list_verdict, disassemble}
use Rattle.sources.proofs.Listings.ListingBack.{Small, listing_back}

module _ (words out : List ℕ) where
  -- 1 to 2,048 words, and the buffer has room for their listing
  pub record Fits : Type 0 where
    pub least : 1 ≤ length words
    pub most : length words ≤ 2048
    pub room : length (listing words) ≤ length out

  -- or it has no room
  pub record TooShort : Type 0 where
    pub least : 1 ≤ length words
    pub most : length words ≤ 2048
    pub short : length out < length (listing words)

  -- "21 for no words or more than 2,048"
  abbrev pub BadSize : Type 0
  BadSize = (length words < 1) ⊎ (2048 < length words)

  -- ---- the number of each condition

  pub fits_0 : Fits → list_verdict words out ≡ answer.done
  unfolding list_verdict
  fits_0 f = simp (le-leb 1 (length words) f.least, le-leb (length words) 2048 f.most, le-leb (length (listing words)) (length out) f.room)

  pub short_31 : TooShort → list_verdict words out ≡ answer.short_buffer
  unfolding list_verdict
  short_31 f = simp (le-leb 1 (length words) f.least, le-leb (length words) 2048 f.most, lt-leb (length (listing words)) (length out) f.short)

  pub size_21 : BadSize → list_verdict words out ≡ answer.bad_size
  unfolding list_verdict
  size_21 (inl h) = simp (lt-leb 1 (length words) h)
  size_21 (inr h) = simp (le-leb 1 (length words) (omega arith), lt-leb (length words) 2048 h)

  -- ---- there is no other condition

  pub data Result : Type 0 where
    fits : Fits → Result
    too_short : TooShort → Result
    bad_size : BadSize → Result

  pub result : Result
  result = go (leb 1 (length words)) (leb (length words) 2048) (leb (length (listing words)) (length out)) refl refl refl
    where
      go : (x y z : Bool) → leb 1 (length words) ≡ x → leb (length words) 2048 ≡ y → leb (length (listing words)) (length out) ≡ z → Result
      go false y z e f g = bad_size (inl (leb-false _ _ e))
      go true false z e f g = bad_size (inr (leb-false _ _ f))
      go true true true e f g = fits (record { least = leb-true _ _ e; most = leb-true _ _ f; room = leb-true _ _ g })
      go true true false e f g = too_short (record { least = leb-true _ _ e; most = leb-true _ _ f; short = leb-false _ _ g })

  -- ---- each number, exactly

  answer_is : (disassemble words out).answer ≡ list_verdict words out
  unfolding disassemble
  answer_is = go (eqb (list_verdict words out) answer.done) refl
    where
      go : (b : Bool) → eqb (list_verdict words out) answer.done ≡ b → (disassemble words out).answer ≡ list_verdict words out
      go true e = simp e (sym (eqb-true _ _ e))
      go false e = simp e

  -- the condition of the number that is answered
  by_verdict : {n : ℕ} {C : Type 0} → (n ≡ answer.done → Fits → C) → (n ≡ answer.short_buffer → TooShort → C) → (n ≡ answer.bad_size → BadSize → C)
      → list_verdict words out ≡ n → C
  by_verdict {n} {C} a b c h = go result
    where
      go : Result → C
      go (fits f) = a (sym h ∙ fits_0 f) f
      go (too_short f) = b (sym h ∙ short_31 f) f
      go (bad_size f) = c (sym h ∙ size_21 f) f

  pub accepts : list_verdict words out ≡ answer.done → Fits
  accepts = by_verdict (λ e f. f) (λ e f. absurd (omega arith)) (λ e f. absurd (omega arith))

  pub answer_0 : ((disassemble words out).answer ≡ answer.done) ↔ Fits
  answer_0 = (λ h. accepts (sym answer_is ∙ h), λ f. answer_is ∙ fits_0 f)

  pub answer_21 : ((disassemble words out).answer ≡ answer.bad_size) ↔ BadSize
  answer_21 = (λ h. by_verdict (λ e f. absurd (omega arith)) (λ e f. absurd (omega arith)) (λ e f. f) (sym answer_is ∙ h), λ f. answer_is ∙ size_21 f)

  pub answer_31 : ((disassemble words out).answer ≡ answer.short_buffer) ↔ TooShort
  answer_31 = (λ h. by_verdict (λ e f. absurd (omega arith)) (λ e f. f) (λ e f. absurd (omega arith)) (sym answer_is ∙ h), λ f. answer_is ∙ short_31 f)

  -- ---- what is left in the buffer

  pub refusal_keeps : ((disassemble words out).answer ≡ answer.done → ⊥) → ((disassemble words out).length ≡ 0) × ((disassemble words out).out ≡ out)
  unfolding disassemble
  refusal_keeps n = let e = ne_eqb (list_verdict words out) answer.done (λ z. n (answer_is ∙ z)) in (simp e, simp e)

  pub listed : Fits → disassemble words out ≡ record { answer = answer.done; length = length (listing words); out = over (listing words) out }
  unfolding disassemble
  listed f = simp (fits_0 f)

  pub text_is : (disassemble words out).answer ≡ answer.done → take (disassemble words out).length (disassemble words out).out ≡ listing words
  text_is h =
      ap (λ (w : Written). take w.length w.out) (listed (answer_0.0 h)) ∙ take-append_seam (listing words) (drop (length (listing words)) out)

  pub rest_kept : drop (disassemble words out).length (disassemble words out).out ≡ drop (disassemble words out).length out
  rest_kept = go result
    where
      refused : (n : ℕ) → (n ≡ answer.done → ⊥) → list_verdict words out ≡ n → drop (disassemble words out).length (disassemble words out).out ≡ drop (disassemble words out).length out
      refused n d e = ap (drop (disassemble words out).length) (refusal_keeps (λ z. d (sym (answer_is ∙ e) ∙ z))).1

      go : Result → drop (disassemble words out).length (disassemble words out).out ≡ drop (disassemble words out).length out
      go (fits f) =
          ap (λ (w : Written). drop w.length w.out) (listed f) ∙ drop-append_seam (listing words) (drop (length (listing words)) out)
          ∙ ap (λ (w : Written). drop w.length out) (sym (listed f))
      go (too_short f) = refused answer.short_buffer (λ e. omega arith) (short_31 f)
      go (bad_size f) = refused answer.bad_size (λ e. omega arith) (size_21 f)

  -- the text in the buffer assembles to the words
  pub reads_back : Small words → (disassemble words out).answer ≡ answer.done
      → meaning (take (disassemble words out).length (disassemble words out).out) ≡ says words
  reads_back s h = ap meaning (text_is h) ∙ listing_back words s (answer_0.0 h).most
