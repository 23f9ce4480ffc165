-- The writer's returns, in the form in which the code comes to them.
use Rattle.std.specs.Prelude.{◌≡◌, ◌&&◌, ℕ, ◌+◌, ◌*◌, ◌≤◌, ◌<◌, ltb, length}
use Rattle.std.proofs.Common.{sym, ◌∙◌, arith}
use Rattle.std.proofs.Math.Path.{ap}
use mathlib.Core.List.{List, [], ◌∷◌, ◌++◌}
use borrow.Author.Tests.{leb-true, lt-ltb, le-ltb, le-leb, lt-leb, ne_eqb}
use Rattle.std.proofs.Math.Dec.{leb}
use Rattle.std.proofs.Math.ListN.{take, length-append}
use Rattle.std.proofs.Math.Seq.{sets}
use Rattle.answers.specs.declared.Refusal.{Refusal}
use Rattle.answers.specs.Numbers.{number}
use Rattle.answers.specs.Results.{number-not-0}
use Rattle.common.specs.Answers as answer
use Rattle.common.specs.Tables.{first_of}
use Rattle.common.proofs.Laws.Tests.{both}
use Rattle.rules.specs.Images.{section, listed, image_bytes, over, write_checks, write_verdict, write}
use Rattle.images.specs.Accepted.{passed}
use Rattle.images.specs.Listed.{listed_take}
use Rattle.images.specs.Sections.{length_section, length_image}
use Rattle.images.specs.Stores.{sets_then, sets_over}

-- ---- check by check

module _ (words regs : List ℕ) (entry : ℕ) (out : List ℕ) where
  pub no_words : length words < 1 → answer.bad_size ≡ write_verdict words regs entry out
  unfolding write_verdict write_checks first_of
  no_words h = simp (lt-leb 1 (length words) h)

  module _ (l : 1 ≤ length words) where
    pub many_words : 2048 < length words → answer.bad_size ≡ write_verdict words regs entry out
    unfolding write_verdict write_checks first_of
    many_words h = simp (le-leb 1 (length words) l, lt-leb (length words) 2048 h)

    module _ (m : length words ≤ 2048) where
      pub bad_entry : length words ≤ entry → answer.bad_entry ≡ write_verdict words regs entry out
      unfolding write_verdict write_checks first_of
      bad_entry h = simp (le-leb 1 (length words) l, le-leb (length words) 2048 m, le-ltb entry (length words) h)

      module _ (b : entry < length words) (k : ℕ) (e : k ≡ length (listed regs)) where
        long : 16 + 4 * length words + 4 * k ≡ length (image_bytes words regs entry)
        long = ap (λ (x : ℕ). 16 + 4 * length words + 4 * x) e ∙ sym (length_image words regs entry)

        pub short_buffer : length out < 16 + 4 * length words + 4 * k → answer.short_buffer ≡ write_verdict words regs entry out
        unfolding write_verdict write_checks first_of
        short_buffer h =
            let g = long in
            simp (le-leb 1 (length words) l, le-leb (length words) 2048 m, lt-ltb entry (length words) b, lt-leb (length (image_bytes words regs entry)) (length out) (omega arith))

        pub has_room : 16 + 4 * length words + 4 * k ≤ length out → answer.done ≡ write_verdict words regs entry out
        unfolding write_verdict write_checks first_of
        has_room h =
            let g = long in
            simp (le-leb 1 (length words) l, le-leb (length words) 2048 m, lt-ltb entry (length words) b, le-leb (length (image_bytes words regs entry)) (length out) (omega arith))

-- ---- the image

module _ (words regs : List ℕ) (entry : ℕ) (out : List ℕ) where
  -- a refusal leaves the buffer
  pub refuses : (r : Refusal) → number r ≡ write_verdict words regs entry out → record { answer = number r; length = 0; out = out } ≡ write words regs entry out
  unfolding write
  refuses r e = simp (ne_eqb (write_verdict words regs entry out) 0 (λ z. number-not-0 r (e ∙ z)), e)

  module _ (z : answer.done ≡ write_verdict words regs entry out) where
    pub fits : (length words ≤ 2048) × (length (image_bytes words regs entry) ≤ length out)
    unfolding write_verdict write_checks first_of
    fits =
        let size = passed (leb 1 (length words) && leb (length words) 2048) _ 21 (omega arith) (sym z) in
        let entry_in = passed (ltb entry (length words)) _ 25 (omega arith) size.1 in
        let room = passed (leb (length (image_bytes words regs entry)) (length out)) _ 31 (omega arith) entry_in.1 in
        (leb-true _ _ (both (leb 1 (length words)) _ size.0).1, leb-true _ _ room.0)

    pub writes : (n : ℕ) (three : List ℕ) → n ≡ length (image_bytes words regs entry) → three ≡ over (image_bytes words regs entry) out
        → record { answer = answer.done; length = n; out = three } ≡ write words regs entry out
    unfolding write
    writes n three ln lo = simp (sym z, ln, lo)

-- three sections, each where the one before ends
module _ (words regs : List ℕ) (entry : ℕ) (out : List ℕ) (k : ℕ) (e : k ≡ length (listed regs)) where
  pub registers : take k regs ≡ listed regs
  registers = ap (λ (x : ℕ). take x regs) e ∙ listed_take regs

  module _ (p q r : ℕ) (ep : p ≡ 0 + 4 + 4 * length words) (eq : q ≡ p + 4 + 4 * length (take k regs)) (er : r ≡ q + 4 + 4 * 1) where
    pub image_length : r ≡ length (image_bytes words regs entry)
    image_length = let l = length_image words regs entry in let t = ap length registers in omega arith

    pub image_stored : length (image_bytes words regs entry) ≤ length out → (one two three : List ℕ)
        → one ≡ sets out 0 (section words) → two ≡ sets one p (section (take k regs))
        → three ≡ sets two q (section (entry ∷ []))
        → three ≡ over (image_bytes words regs entry) out
    unfolding image_bytes
    image_stored fits one two three e1 e2 e3 =
        let w = length_section words in
        let f = length_section (listed regs) in
        let a = length-append (section words) (section (listed regs)) in
        let t = ap length registers in
        let two' : two ≡ sets out 0 (section words ++ section (listed regs)) = e2 ∙ ap (λ (x : List ℕ). sets x p (section (take k regs))) e1 ∙ ap (λ (x : List ℕ). sets (sets out 0 (section words)) p (section x)) registers ∙ sets_then out 0 p (section words) (section (listed regs)) (omega arith) in
        e3 ∙ ap (λ (x : List ℕ). sets x q (section (entry ∷ []))) two'
        ∙ sets_then out 0 q (section words ++ section (listed regs)) (section (entry ∷ [])) (omega arith)
        ∙ sets_over (image_bytes words regs entry) out fits
