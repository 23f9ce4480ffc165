-- "Importing an export gives the same words back", with the caller's registers and entry.
use Rattle.std.specs.Prelude.{◌≡◌, List, ℕ, ◌%◌, ◌^◌, ◌≤◌, ◌<◌, get_or, length, take}
use Rattle.std.proofs.Common.{ap, ◌∙◌}
use native.Mathlib.Omega.{arith}
use borrow.Author.Tests.{le-leb, lt-ltb, ne_eqb}
use Rattle.common.specs.Answers as answer
use Rattle.common.specs.Tables.{first_of}
use Rattle.rules.specs.Images.{image_bytes, Written}
use Rattle.intel_hex.specs.Importing.{past, end_checks, end_verdict, accepted, import}
use Rattle.intel_hex.specs.Exporting.{text_of, export}
use Rattle.intel_hex.proofs.Theorems.Exported.{exported, text_is}
use Rattle.intel_hex.proofs.Theorems.ReadBack.{memory_of, text_says, past_is, words_are}

module _ (words regs : List ℕ) (entry : ℕ) (out : List ℕ) (least : 1 ≤ length words) (most : length words ≤ 2048)
    (small : (i : ℕ) → i < length words → get_or words i 0 < 2 ^ 32) (below : entry < length words) (fits : length (image_bytes words regs entry) ≤ length out) where
  pub text_imported : import (text_of words) regs entry out ≡ accepted words regs entry out
  unfolding import end_verdict end_checks first_of
  text_imported =
      let p = past_is words most in
      let some : past (memory_of words most) ≡ 0 → ⊥ = λ e. omega arith in
      let fours : past (memory_of words most) % 4 ≡ 0 = omega arith in
      simp (text_says words most, ne_eqb (past (memory_of words most)) 0 some, fours, words_are words most small, lt-ltb entry (length words) below, le-leb (length (image_bytes words regs entry)) (length out) fits)

  -- for every 1 to 2,048 words, every registers, every entry below N, and buffers long enough
  pub imported_back : (text : List ℕ) → length (text_of words) ≤ length text
      → ((export words text).answer ≡ answer.done) × (import (take (export words text).length (export words text).out) regs entry out ≡ accepted words regs entry out)
  imported_back text room =
      let z : (export words text).answer ≡ answer.done = ap (λ (w : Written). w.answer) (exported words text (record { least = least; most = most; room = room })) in
      (z, ap (λ (t : List ℕ). import t regs entry out) (text_is words text z) ∙ text_imported)
