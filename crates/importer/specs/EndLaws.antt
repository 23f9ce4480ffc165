-- The end of an import, as the code comes to it.
use Rattle.std.specs.Prelude.{◌≡◌, Bool, true, false, cond, not, List, map, ◌≢◌, eqb, Result, Err}
use Rattle.std.proofs.Math.Path.{refl, sym, ap}
use Rattle.std.proofs.Common.{◌∙◌, arith, take_at}
use Prim.Native.Nat.{ℕ, ◌/◌, ◌%◌, ◌≤◌}
use borrow.Author.Tests.{ne_eqb, le-leb}
use lib.ListN.{length, take, drop, length-append}
use Rattle.common.specs.Answers as answer
use Rattle.common.specs.Tables.{first_of}
use Rattle.rules.specs.Images as image
use Rattle.rules.specs.Images.{fields, over}
use Rattle.images.specs.Filling.{length_fields}
use Rattle.intel_hex.specs.Reading.{Reading, says, refused, reading}
use Rattle.intel_hex.specs.Importing as meant
use Rattle.intel_hex.specs.Importing.{past, filled, words_of, end_checks, end_verdict, refusal, accepted, image_of, import}
use Rattle.intel_hex.proofs.Theorems.Accepted.{past_most}
use Rattle.answers.specs.declared.Refusal.{Refusal}
use Rattle.answers.specs.declared.Fault.{Fault}
use Rattle.importer.specs.declared.reading.Said as code
use Rattle.answers.specs.Numbers.{number}
use Rattle.importer.specs.Views.{imported_of, ended_of, said}

-- what the writer hands out, as an import's
abbrev seen : image.Written → meant.Imported
seen w = record { answer = w.answer; line = 0; length = w.length; out = w.out }

-- ---- 65, 68 and 67

module _ (ended : Bool) (base : ℕ) (m regs : List ℕ) (entry : ℕ) (out : List ℕ) where
  abbrev whole : ℕ → Type 0
  whole k = refusal k 0 out ≡ image_of (says (said ended base m)) regs entry out

  pub no_end : not ended ≡ true → whole answer.no_end
  unfolding end_verdict end_checks first_of
  no_end h = simp h

  module _ (h : not ended ≡ false) (p : ℕ) (ep : p ≡ past m) where
    pub no_data : p ≡ 0 → whole answer.no_data
    unfolding end_verdict end_checks first_of
    no_data z = simp (h, ← ep, z)

    module _ (n : p ≢ 0) where
      pub part_word : p % 4 ≢ 0 → whole answer.part_word
      unfolding end_verdict end_checks first_of
      part_word k = simp (h, ← ep, ne_eqb p 0 n, ne_eqb (p % 4) 0 k)

      -- ---- then 25 and 31, which are the writer's

      module _ (k : p % 4 ≡ 0) (l : length m ≡ 8192) (ws : List ℕ) (ew : ws ≡ words_of m) where
        many : length ws ≡ p / 4
        unfolding words_of
        many = ap length ew ∙ length_fields (map filled m) 0 (past m / 4) ∙ ap (λ (x : ℕ). x / 4) (sym ep)

        some : 1 ≤ length ws
        some = let z = many in let d : 4 ≤ p = omega arith in omega arith

        few : length ws ≤ 2048
        few = let z = many in let y = past_most m in omega arith

        same : end_verdict (said ended base m) regs entry out ≡ image.write_verdict ws regs entry out
        unfolding end_verdict end_checks first_of image.write_verdict image.write_checks
        same = simp (h, ← ep, ne_eqb p 0 n, k, ← ew, le-leb 1 (length ws) some, le-leb (length ws) 2048 few)

        pub image_written : (answer length : ℕ) (new : List ℕ) → record { answer = answer; length = length; out = new } ≡ image.write ws regs entry out
            → record { answer = answer; line = 0; length = length; out = new } ≡ image_of (says (said ended base m)) regs entry out
        unfolding image.write
        image_written answer length new e = ap seen e ∙ both (eqb v 0) ∙ rw (same, sym ew) refl
          where
            v : ℕ
            v = image.write_verdict ws regs entry out

            both : (b : Bool) → seen (cond b (record { answer = 0; length = lib.ListN.length (image.image_bytes ws regs entry); out = over (image.image_bytes ws regs entry) out }) (record { answer = v; length = 0; out = out })) ≡ cond b (accepted ws regs entry out) (refusal v 0 out)
            both true = refl
            both false = refl

-- ---- the words, put over what was there

pub few_words : (m : List ℕ) (p : ℕ) → p ≡ past m → length m ≡ 8192 → p / 4 ≤ 2048
few_words m p e l = let y = past_most m in omega arith

module _ (m old ws : List ℕ) (n : ℕ) (e : ws ≡ over (fields (map filled m) 0 n) old) where
  pub words_there : n ≤ length ws
  words_there =
      let f = length_fields (map filled m) 0 n in
      let a = length-append (fields (map filled m) 0 n) (drop (length (fields (map filled m) 0 n)) old) in
      rw e (omega arith)

  pub words_put : n ≡ past m / 4 → take n ws ≡ words_of m
  unfolding words_of
  words_put k =
      rw e (take_at (fields (map filled m) 0 n) (drop (length (fields (map filled m) 0 n)) old) n (length_fields (map filled m) 0 n))
      ∙ ap (fields (map filled m) 0) k

-- ---- all of it

module _ (text regs : List ℕ) (entry : ℕ) (out : List ℕ) where
  pub text_refused : (fault : Fault) → refused (number fault.refusal) fault.line ≡ reading text → imported_of (Err fault) out ≡ import text regs entry out
  unfolding import
  text_refused fault h = ap (λ (x : Reading). image_of x regs entry out) h

  pub text_said : (m : List ℕ) (s : code.Said) → says (said s.ended s.base m) ≡ reading text → (r : Result ℕ Refusal) (new : List ℕ)
      → ended_of r new ≡ image_of (says (said s.ended 0 m)) regs entry out → (q : Result ℕ Fault) → imported_of q new ≡ ended_of r new → imported_of q new ≡ import text regs entry out
  unfolding import end_verdict end_checks
  text_said m s h r new g q e = e ∙ g ∙ ap (λ (x : Reading). image_of x regs entry out) h
