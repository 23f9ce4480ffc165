-- What an export leaves where no check refuses: the text, and beyond it what the buffer held.
use Rattle.std.specs.Prelude.{◌≡◌, ◌&&◌, List, ℕ, ◌≤◌, length, take, drop}
use Rattle.std.proofs.Common.{sym, ap, ◌∙◌, arith}
use borrow.Author.Tests.{le-leb, leb-true}
use Rattle.std.proofs.Math.Dec.{leb}
use Rattle.std.proofs.Math.Seq.{take-append_seam, drop-append_seam}
use Rattle.common.specs.Answers as answer
use Rattle.common.specs.Tables.{first_of}
use Rattle.common.proofs.Laws.Tests.{both}
use Rattle.rules.specs.Images.{over, Written}
use Rattle.images.specs.Accepted.{passed}
use Rattle.intel_hex.specs.Exporting.{text_of, export_checks, export_verdict, export}
use Rattle.intel_hex.proofs.Theorems.Numbers.{export_verdict_lem}

module _ (words out : List ℕ) where
  -- 1 to 2,048 words, and the buffer has room for their text
  pub record Fits : Type 0 where
    pub least : 1 ≤ length words
    pub most : length words ≤ 2048
    pub room : length (text_of words) ≤ length out

  pub fits : export_verdict words out ≡ answer.done → Fits
  unfolding export_verdict export_checks first_of
  fits z =
      let size = passed (leb 1 (length words) && leb (length words) 2048) _ 21 (omega arith) z in
      let room = passed (leb (length (text_of words)) (length out)) _ 31 (omega arith) size.1 in
      let sizes = both (leb 1 (length words)) _ size.0 in
      record { least = leb-true _ _ sizes.0; most = leb-true _ _ sizes.1; room = leb-true _ _ room.0 }

  pub exported : Fits → export words out ≡ record { answer = answer.done; length = length (text_of words); out = over (text_of words) out }
  unfolding export export_verdict export_checks first_of
  exported f =
      simp (le-leb 1 (length words) f.least, le-leb (length words) 2048 f.most, le-leb (length (text_of words)) (length out) f.room)

  module _ (z : (export words out).answer ≡ answer.done) where
    pub accepted : Fits
    accepted = fits (sym (export_verdict_lem words out) ∙ z)

    pub text_is : take (export words out).length (export words out).out ≡ text_of words
    text_is =
        ap (λ (w : Written). take w.length w.out) (exported accepted) ∙ take-append_seam (text_of words) (drop (length (text_of words)) out)

    pub rest_kept : drop (export words out).length (export words out).out ≡ drop (export words out).length out
    rest_kept =
        ap (λ (w : Written). drop w.length w.out) (exported accepted)
        ∙ drop-append_seam (text_of words) (drop (length (text_of words)) out) ∙ ap (λ (w : Written). drop w.length out) (sym (exported accepted))
