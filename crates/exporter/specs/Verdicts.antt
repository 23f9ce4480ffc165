-- The exporter's returns, in the form in which the code comes to them.
use Rattle.std.specs.Prelude.{◌≡◌, List, ℕ, ◌+◌, ◌*◌, ◌/◌, ◌≤◌, ◌<◌, length}
use Rattle.std.proofs.Common.{sym, ◌∙◌, arith}
use borrow.Author.Tests.{le-leb, lt-leb, ne_eqb}
use Rattle.answers.specs.declared.Refusal.{Refusal}
use Rattle.answers.specs.Numbers.{number}
use Rattle.answers.specs.Results.{number-not-0}
use Rattle.common.specs.Answers as answer
use Rattle.common.specs.Tables.{first_of}
use Rattle.images.specs.Stores.{sets_over}
use Rattle.numerals.specs.Writing.{put}
use Rattle.text.specs.Puts.{put_of, put_whole}
use Rattle.intel_hex.specs.Exporting.{text_of, export_checks, export_verdict, export}
use Rattle.intel_hex.proofs.Laws.Lengths.{length_text}
use Rattle.intel_hex.proofs.Theorems.Exported.{fits, exported}

-- ---- check by check

module _ (words out : List ℕ) where
  pub no_words : length words < 1 → answer.bad_size ≡ export_verdict words out
  unfolding export_verdict export_checks first_of
  no_words h = simp (lt-leb 1 (length words) h)

  module _ (l : 1 ≤ length words) where
    pub many_words : 2048 < length words → answer.bad_size ≡ export_verdict words out
    unfolding export_verdict export_checks first_of
    many_words h = simp (le-leb 1 (length words) l, lt-leb (length words) 2048 h)

    module _ (m : length words ≤ 2048) where
      pub short_buffer : length out < 8 * length words + 12 * ((length words + 3) / 4) + 12 → answer.short_buffer ≡ export_verdict words out
      unfolding export_verdict export_checks first_of
      short_buffer h =
          let t = length_text words in
          simp (le-leb 1 (length words) l, le-leb (length words) 2048 m, lt-leb (length (text_of words)) (length out) (omega arith))

      pub has_room : 8 * length words + 12 * ((length words + 3) / 4) + 12 ≤ length out → answer.done ≡ export_verdict words out
      unfolding export_verdict export_checks first_of
      has_room h =
          let t = length_text words in
          simp (le-leb 1 (length words) l, le-leb (length words) 2048 m, le-leb (length (text_of words)) (length out) (omega arith))

-- ---- the text

module _ (words out : List ℕ) where
  -- a refusal leaves the buffer
  pub refuses : (r : Refusal) → number r ≡ export_verdict words out → record { answer = number r; length = 0; out = out } ≡ export words out
  unfolding export
  refuses r e = simp (ne_eqb (export_verdict words out) 0 (λ z. number-not-0 r (e ∙ z)), e)

  module _ (e : answer.done ≡ export_verdict words out) where
    pub most : length words ≤ 2048
    most = (fits words out (sym e)).most

    pub writes : (new : List ℕ) (n : ℕ) → put_of n new ≡ put (text_of words) 0 out → record { answer = answer.done; length = n; out = new } ≡ export words out
    writes new n s =
        let f = fits words out (sym e) in
        let w = put_whole (text_of words) out 0 (omega arith) n new s in
        let l : n ≡ length (text_of words) = omega arith in
        simp (l, w.1 ∙ sets_over (text_of words) out f.room) (sym (exported words out f))
