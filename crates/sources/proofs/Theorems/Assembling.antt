-- What assembling answers, exactly: an image in the buffer, or 21, 31 or a line's number with the buffer as it was.
use Rattle.std.specs.Prelude.{◌≡◌, Bool, true, false, List, [], ◌∷◌, ◌↔◌, ℕ, ◌≤◌, ◌<◌, leb, length}
use Rattle.std.proofs.Math.Path.{refl}
use Rattle.std.proofs.Common.{sym, ap, ◌∙◌, subst, arith}
use borrow.Author.Tests.{le-leb, lt-leb, leb-true, leb-false}
use Rattle.common.specs.Answers as answer
use Rattle.common.specs.Tables.{first_of}
use Rattle.rules.specs.Images.{over, image_bytes, write_checks, write_verdict, write}
use Rattle.images.specs.Sections.{written}
use Rattle.sources.specs.Meaning.{Meaning, says, refused, meaning, Assembled, no_registers, assemble}
use Rattle.sources.proofs.Laws.LineNumbers.{fault_range}
use Rattle.sources.specs.Texts.{readings, reading}
use Rattle.sources.proofs.Theorems.TextNumbers.{bytes_at, lines_before, FirstFault, refused_exactly, says_most}

-- "The image has entry 0 and lists no registers"
abbrev pub image_for : List ℕ → List ℕ
image_for ws = image_bytes ws no_registers 0

-- the text says words, at least one, and the buffer has room for their image
pub record Fits (text out : List ℕ) : Type 0 where
  pub words : List ℕ
  pub said : meaning text ≡ says words
  pub some : 1 ≤ length words
  pub room : length (image_for words) ≤ length out

-- or it has no room
pub record TooShort (text out : List ℕ) : Type 0 where
  pub words : List ℕ
  pub said : meaning text ≡ says words
  pub some : 1 ≤ length words
  pub short : length out < length (image_for words)

-- a refusal: nothing is written
abbrev pub refusal : ℕ → ℕ → List ℕ → Assembled
refusal number line out = record { answer = number; line = line; length = 0; out = out }

-- the image, and beyond it what the buffer held
abbrev pub accepted : List ℕ → List ℕ → Assembled
accepted words out = record { answer = answer.done; line = 0; length = length (image_for words); out = over (image_for words) out }

module _ (text out : List ℕ) where
  -- ---- what is answered on each condition, whole

  pub assemble_fits : (f : Fits text out) → assemble text out ≡ accepted f.words out
  unfolding assemble
  assemble_fits f =
      let m = says_most text f.words f.said in
      rw (f.said, written f.words no_registers 0 out f.some m f.some f.room) refl

  pub assemble_no_words : meaning text ≡ says [] → assemble text out ≡ refusal answer.bad_size 0 out
  unfolding assemble write write_verdict write_checks first_of
  assemble_no_words h = rw h refl

  pub assemble_short : TooShort text out → assemble text out ≡ refusal answer.short_buffer 0 out
  unfolding assemble write write_verdict write_checks first_of
  assemble_short f =
      let m = says_most text f.words f.said in
      simp (f.said, le-leb 1 (length f.words) f.some, le-leb (length f.words) 2048 m, lt-leb (length (image_for f.words)) (length out) f.short)

  pub assemble_fault : (n k : ℕ) → FirstFault text n k → assemble text out ≡ refusal n k out
  unfolding assemble
  assemble_fault n k f = rw ((refused_exactly text n k).1 f) refl

  -- ---- there is no other condition

  pub data Result : Type 0 where
    fits : Fits text out → Result
    no_words : meaning text ≡ says [] → Result
    too_short : TooShort text out → Result
    faulty : (n k : ℕ) → FirstFault text n k → Result

  pub result : Result
  result = go (meaning text) refl
    where
      room : (ws : List ℕ) → meaning text ≡ says ws → 1 ≤ length ws → (b : Bool) → leb (length (image_for ws)) (length out) ≡ b → Result
      room ws e h true r = fits (record { words = ws; said = e; some = h; room = leb-true _ _ r })
      room ws e h false r = too_short (record { words = ws; said = e; some = h; short = leb-false _ _ r })

      go : (m : Meaning) → meaning text ≡ m → Result
      go (says []) e = no_words e
      go (says (w ∷ ws)) e = room (w ∷ ws) e (omega arith) (leb (length (image_for (w ∷ ws))) (length out)) refl
      go (refused n k) e = faulty n k ((refused_exactly text n k).0 e)

  fault_high : (n k : ℕ) → FirstFault text n k → answer.no_line ≤ n
  fault_high n k f = (fault_range (readings text) (lines_before text k) (reading (bytes_at text k)) n f.faulty).0

  -- ---- each number, exactly

  -- the condition of the number that is answered
  by_answer : {n : ℕ} {C : Type 0} → (n ≡ answer.done → Fits text out → C) → (n ≡ answer.bad_size → meaning text ≡ says [] → C)
      → (n ≡ answer.short_buffer → TooShort text out → C) → (answer.no_line ≤ n → (k : ℕ) → FirstFault text n k → C) → (assemble text out).answer ≡ n → C
  by_answer {n} {C} a b c d h = go result
    where
      number : (x : Assembled) → assemble text out ≡ x → n ≡ x.answer
      number x e = sym h ∙ ap (λ (y : Assembled). y.answer) e

      go : Result → C
      go (fits f) = a (number _ (assemble_fits f)) f
      go (no_words e) = b (number _ (assemble_no_words e)) e
      go (too_short f) = c (number _ (assemble_short f)) f
      go (faulty m k f) =
          let e = number _ (assemble_fault m k f) in
          let g = subst (λ (x : ℕ). FirstFault text x k) (sym e) f in
          d (fault_high n k g) k g

  -- 0: the image is in the buffer
  pub answer_0 : ((assemble text out).answer ≡ answer.done) ↔ Fits text out
  answer_0 = (
    by_answer (λ e f. f) (λ e f. absurd (omega arith)) (λ e f. absurd (omega arith)) (λ e k f. absurd (omega arith)),
    λ f. ap (λ (x : Assembled). x.answer) (assemble_fits f),
  )

  -- 21: no line is at fault, and none holds a word
  pub answer_21 : ((assemble text out).answer ≡ answer.bad_size) ↔ (meaning text ≡ says [])
  answer_21 = (
    by_answer (λ e f. absurd (omega arith)) (λ e f. f) (λ e f. absurd (omega arith)) (λ e k f. absurd (omega arith)),
    λ f. ap (λ (x : Assembled). x.answer) (assemble_no_words f),
  )

  -- 31: some line holds a word, none is at fault, and the image is longer than the buffer
  pub answer_31 : ((assemble text out).answer ≡ answer.short_buffer) ↔ TooShort text out
  answer_31 = (
    by_answer (λ e f. absurd (omega arith)) (λ e f. absurd (omega arith)) (λ e f. f) (λ e k f. absurd (omega arith)),
    λ f. ap (λ (x : Assembled). x.answer) (assemble_short f),
  )

  -- any number from 50 on, with a line: that line is the first at fault, with that number
  pub answer_line : (n k : ℕ) → answer.no_line ≤ n → (((assemble text out).answer ≡ n) × ((assemble text out).line ≡ k)) ↔ FirstFault text n k
  answer_line n k high = (
    λ h. by_answer (λ e f. absurd (omega arith)) (λ e f. absurd (omega arith)) (λ e f. absurd (omega arith)) (λ e j f. same j f h.1) h.0,
    λ f. let e = assemble_fault n k f in (ap (λ (x : Assembled). x.answer) e, ap (λ (x : Assembled). x.line) e),
  )
    where
      same : (j : ℕ) → FirstFault text n j → (assemble text out).line ≡ k → FirstFault text n k
      same j f l = subst (FirstFault text n) (sym (ap (λ (x : Assembled). x.line) (assemble_fault n j f)) ∙ l) f

  -- "Refusals keep the out buffer's contents", and write nothing
  pub refusal_keeps : ((assemble text out).answer ≡ answer.done → ⊥) → ((assemble text out).length ≡ 0) × ((assemble text out).out ≡ out)
  refusal_keeps h =
      by_answer (λ e f. absurd (h (answer_0.1 f))) (λ e f. kept answer.bad_size 0 (assemble_no_words f)) (λ e f. kept answer.short_buffer 0 (assemble_short f))
      (λ e k f. kept (assemble text out).answer k (assemble_fault (assemble text out).answer k f)) refl
    where
      kept : (n k : ℕ) → assemble text out ≡ refusal n k out → ((assemble text out).length ≡ 0) × ((assemble text out).out ≡ out)
      kept n k e = (ap (λ (x : Assembled). x.length) e, ap (λ (x : Assembled). x.out) e)
