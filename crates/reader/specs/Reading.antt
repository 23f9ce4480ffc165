-- The reader's returns, in the form in which the code comes to them.
use Rattle.std.specs.Prelude.{◌≡◌, refl, Bool, true, false, List, ◌++◌, ℕ, ◌+◌, ◌-◌, ◌*◌, ◌≤◌, eqb, length, replicate, Ok}
use Rattle.std.proofs.Common.{sym, ap, ◌∙◌, eqb-true, ne_eqb, arith}
use Rattle.common.specs.Answers as answer
use Rattle.rules.specs.Images.{field, fields, size_in, registers_at, registers_in, entry_at, entry_in, regs_of, image_verdict, check}
use Rattle.images.specs.Accepted.{Accepted, accepted}
use Rattle.images.specs.Checking.{check_is}
use Rattle.answers.specs.declared.Refusal.{Refusal}
use Rattle.answers.specs.Numbers.{number}
use Rattle.answers.specs.Results.{number-not-0}
use Rattle.reader.specs.declared.Image.{Image}
use Rattle.reader.specs.Views.{Read, refused, image_of, read_of}

pub says_refusal : (room : ℕ) (bytes : List ℕ) (e : Refusal) → number e ≡ image_verdict room bytes → refused (number e) ≡ image_of room bytes
unfolding image_of
says_refusal room bytes e h = simp (sym h, ne_eqb (number e) answer.done (number-not-0 e))

-- ---- the other way round: what a reading says of the image

verdict_is : (room : ℕ) (bytes : List ℕ) → (image_of room bytes).answer ≡ image_verdict room bytes
unfolding image_of
verdict_is room bytes = go (eqb (image_verdict room bytes) answer.done) refl
  where
    go : (t : Bool) → eqb (image_verdict room bytes) answer.done ≡ t → (image_of room bytes).answer ≡ image_verdict room bytes
    go true e = simp (e, eqb-true (image_verdict room bytes) answer.done e)
    go false e = simp e

pub told : (room : ℕ) (bytes : List ℕ) (e : Refusal) → refused (number e) ≡ image_of room bytes → number e ≡ image_verdict room bytes
told room bytes e h = ap (λ (x : Read). x.answer) h ∙ verdict_is room bytes

pub record Says (room : ℕ) (bytes : List ℕ) (image : Image) : Type 0 where
  pub verdict : image_verdict room bytes ≡ answer.done
  pub size : image.size ≡ size_in bytes
  pub regs : image.regs ≡ regs_of bytes
  pub entry : image.entry ≡ entry_in bytes

pub said : (room : ℕ) (bytes : List ℕ) (image : Image) → read_of (Ok image) ≡ image_of room bytes → Says room bytes image
unfolding image_of
said room bytes image h =
    let z : image_verdict room bytes ≡ answer.done = sym (ap (λ (x : Read). x.answer) h ∙ verdict_is room bytes) in
    record {
      verdict = z;
      size = ap (λ (x : Read). x.size) h ∙ simp z;
      regs = ap (λ (x : Read). x.regs) h ∙ simp z;
      entry = ap (λ (x : Read). x.entry) h ∙ simp z;
    }

-- ---- as the code reads

-- the verdict is 0, and the numbers are read where they stand
module _ (room : ℕ) (bytes : List ℕ) (z : answer.done ≡ image_verdict room bytes) where
  pub took : Accepted room bytes
  took = accepted room bytes (sym z)

  module _ (size : ℕ) (s : size ≡ size_in bytes) (count : ℕ) (r : count ≡ field bytes (4 + 4 * size)) where
    count_is : count ≡ registers_in bytes
    count_is = r ∙ ap (λ (x : ℕ). field bytes (4 + 4 * x)) s

    pub placed : (count ≤ 16) × (length bytes ≡ 16 + 4 * size + 4 * count)
    placed =
        let c = count_is in
        let m = took.count_most in
        let l = took.length_is in
        (omega arith, omega arith)

    pub says : (regs : List ℕ) → regs ≡ fields bytes (4 + 4 * size + 4) count ++ replicate (16 - count) 0
        → (entry : ℕ) → entry ≡ field bytes (4 + 4 * size + 8 + 4 * count)
        → record { answer = answer.done; size = size; regs = regs; entry = entry } ≡ image_of room bytes
    unfolding image_of
    says regs g entry f =
        let c = count_is in
        let end : 4 + 4 * size + 8 + 4 * count ≡ entry_at bytes + 4 = omega arith in
        let regs' : regs ≡ regs_of bytes = g ∙ ap (λ (x : ℕ). fields bytes (4 + 4 * x + 4) count ++ replicate (16 - count) 0) s ∙ ap (λ (k : ℕ). fields bytes (registers_at bytes + 4) k ++ replicate (16 - k) 0) c in
        let entry' : entry ≡ entry_in bytes = f ∙ ap (field bytes) end in
        simp (sym z, s, regs', entry')

-- ---- the check: what the image says for memories of 2,048 places, but for registers and entry

pub says_check : (bytes : List ℕ) (x : Read) → x ≡ image_of 2048 bytes → record { answer = x.answer; size = x.size } ≡ check bytes
unfolding image_of
says_check bytes x i = simp i (go (eqb (image_verdict 2048 bytes) answer.done) refl)
  where
    read : Read
    read = image_of 2048 bytes

    go : (t : Bool) → eqb (image_verdict 2048 bytes) answer.done ≡ t → record { answer = read.answer; size = read.size } ≡ check bytes
    go true e = simp (check_is, eqb-true (image_verdict 2048 bytes) answer.done e)
    go false e = simp (e, check_is)
