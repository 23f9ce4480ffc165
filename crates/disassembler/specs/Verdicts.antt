-- The disassembler's returns, in the form in which the code comes to them.
use Rattle.std.specs.Prelude.{◌≡◌, Bool, true, false, List, ℕ, ◌≤◌, ◌<◌, leb, length}
use Rattle.std.proofs.Common.{sym, ◌∙◌, inl, inr, arith, leb-true, leb-false, ne_eqb}
use Rattle.answers.specs.declared.Refusal.{Refusal}
use Rattle.answers.specs.Numbers.{number}
use Rattle.answers.specs.Results.{number-not-0}
use Rattle.common.specs.Answers as answer
use Rattle.images.specs.Stores.{sets_over}
use Rattle.sources.specs.Listing.{listing, list_verdict, disassemble}
use Rattle.sources.proofs.Listings.ListingNumbers.{Fits, short_31, size_21, fits_0, accepts, listed}
use Rattle.disassembler.specs.Stores.{Stored}

-- ---- check by check

module _ (words out : List ℕ) where
  pub no_words : length words < 1 → answer.bad_size ≡ list_verdict words out
  no_words h = sym (size_21 words out (inl h))

  pub many_words : 2048 < length words → answer.bad_size ≡ list_verdict words out
  many_words h = sym (size_21 words out (inr h))

  module _ (l : 1 ≤ length words) (m : length words ≤ 2048) (f : Bool) (e : f ≡ leb (length (listing words)) (length out)) where
    pub short_buffer : f ≡ false → answer.short_buffer ≡ list_verdict words out
    short_buffer z = sym (short_31 words out (record { least = l; most = m; short = leb-false _ _ (sym e ∙ z) }))

    pub has_room : f ≡ true → answer.done ≡ list_verdict words out
    has_room z = sym (fits_0 words out (record { least = l; most = m; room = leb-true _ _ (sym e ∙ z) }))

-- ---- the listing

module _ (words out : List ℕ) where
  -- a refusal leaves the buffer
  pub refuses : (r : Refusal) → number r ≡ list_verdict words out → record { answer = number r; length = 0; out = out } ≡ disassemble words out
  unfolding disassemble
  refuses r e = simp (ne_eqb (list_verdict words out) 0 (λ z. number-not-0 r (e ∙ z)), e)

  module _ (e : answer.done ≡ list_verdict words out) where
    accepted : Fits words out
    accepted = accepts words out (sym e)

    pub fits : length (listing words) ≤ length out
    fits = accepted.room

    pub writes : (new : List ℕ) (n : ℕ) → Stored out 0 (listing words) new n → record { answer = answer.done; length = n; out = new } ≡ disassemble words out
    writes new n s =
        let l : n ≡ length (listing words) = omega arith in
        simp (l, s.bytes ∙ sets_over (listing words) out fits) (sym (listed words out accepted))
