-- The returns of an assembly, as the code comes to them; and that what is seen of an outcome is all of it.
use Rattle.std.specs.Prelude.{◌≡◌, refl, List, ℕ, take, Result, Ok, Err}
use Rattle.std.proofs.Math.Path.{sym, ap}
use Rattle.std.proofs.Common.{◌∙◌}
use Rattle.answers.specs.declared.Refusal.{Refusal}
use Rattle.answers.specs.Results.{result_of, result_of-number}
use Rattle.rules.specs.Images as image
use Rattle.sources.specs.Meaning as meant
use Rattle.sources.specs.Meaning.{Meaning, image_of, no_registers, meaning, assemble}
use Rattle.writer.specs.Views.{written_of}
use Rattle.answers.specs.declared.Fault.{Fault}
use Rattle.assembler.specs.Emit.{emitted_of}
use Rattle.assembler.specs.Views.{assembled_of}

module _ (text words out : List ℕ) where
  pub text_refused : (f : Fault) → emitted_of (Err f) words ≡ meaning text → assembled_of (Err f) out ≡ assemble text out
  unfolding assemble
  text_refused f h = ap (λ (x : Meaning). image_of x out) h

  module _ (count : ℕ) (h : emitted_of (Ok count) words ≡ meaning text) (new : List ℕ) where
    written : (r : Result ℕ Refusal) → written_of r new ≡ image.write (take count words) no_registers 0 out
        → record { answer = (written_of r new).answer; line = 0; length = (written_of r new).length; out = new } ≡ assemble text out
    unfolding assemble
    written r w =
        ap (λ (x : image.Written). record { answer = x.answer; line = 0; length = x.length; out = x.out }) w ∙ ap (λ (x : Meaning). image_of x out) h

    pub image_written : (length : ℕ) → written_of (Ok length) new ≡ image.write (take count words) no_registers 0 out → assembled_of (Ok length) new ≡ assemble text out
    image_written length w = written (Ok length) w

    pub image_refused : (refusal : Refusal) → written_of (Err refusal) new ≡ image.write (take count words) no_registers 0 out
        → assembled_of (Err (record { refusal = refusal; line = 0 })) new ≡ assemble text out
    image_refused refusal w = written (Err refusal) w

-- ---- an outcome from what is seen of it

faulty : ℕ → Result ℕ Refusal → Result ℕ Fault
faulty line (Ok length) = Ok length
faulty line (Err refusal) = Err (record { refusal = refusal; line = line })

back : meant.Assembled → Result ℕ Fault × List ℕ
back m = (faulty m.line (result_of m.answer m.length), m.out)

back_again : (a : Result ℕ Fault) (x : List ℕ) → ◌≡◌ {A = Result ℕ Fault × List ℕ} (back (assembled_of a x)) (a, x)
unfolding back faulty
back_again (Ok length) x = refl
back_again (Err f) x = ap (λ (r : Result ℕ Refusal). (faulty f.line r, x)) (result_of-number f.refusal 0)

pub one_assembled : (a b : Result ℕ Fault) (x y : List ℕ) → assembled_of a x ≡ assembled_of b y → ◌≡◌ {A = Result ℕ Fault × List ℕ} (a, x) (b, y)
one_assembled a b x y e = sym (back_again a x) ∙ ap back e ∙ back_again b y
