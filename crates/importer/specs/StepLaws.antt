-- A line's verdict, its bytes put, and all lines, as the code comes to them.
use Rattle.std.specs.Prelude.{◌≡◌, Bool, true, cond, ◌&&◌, ◌||◌, List, [], ◌∷◌, ◌≢◌, ℕ, ◌+◌, ◌-◌, ◌<◌, ◌≤◌, eqb, ltb, get_or, length, take}
use Rattle.std.proofs.Math.Path.{refl}
use Rattle.std.proofs.Common.{sym, ◌∙◌}
use Rattle.std.proofs.Math.Bool.{false, not, and-true, and-false}
use native.Mathlib.Omega.{arith}
use borrow.Author.Tests.{lt-ltb, le-ltb, ne_eqb, ltb-false}
use Rattle.std.proofs.lemmas.List.Edits.{sets}
use Rattle.std.proofs.Math.Seq.{take-length}
use Rattle.common.specs.Answers as answer
use Rattle.common.specs.Tables.{first_of, NoneHolds}
use Rattle.common.proofs.Laws.TableLaws.{nonzero, done_otherwise}
use Rattle.intel_hex.specs.Records.{line, body, octet, octets, count, type, data_type, end_type, base_type, base_of}
use Rattle.intel_hex.specs.Reading.{room, Said, beyond, any_given, given, record_checks, record_verdict, with_record}
use Rattle.answers.specs.declared.Refusal.{Refusal}
use Rattle.answers.specs.Numbers.{number}
use Rattle.answers.specs.Results.{number-not-0}
use Rattle.importer.specs.Views.{said}
use Rattle.importer.specs.Steps.{address_of, data_verdict, verdict_by, Fits, memory_by, stepped}

-- ---- a line's record

module _ (bytes : List ℕ) where
  pub no_return_lem : (n : ℕ) → n ≡ length bytes → get_or bytes (n - 1) 0 ≢ 13 → (n ≤ length bytes) × (take n bytes ≡ body bytes)
  unfolding body
  no_return_lem n e h = rw e ((omega arith, rw (ne_eqb (get_or bytes (length bytes - 1) 0) 13 (rw e at h), take-length bytes) refl))

  pub no_byte : length bytes ≡ 0 → (length bytes ≤ length bytes) × (take (length bytes) bytes ≡ body bytes)
  no_byte z = no_return_lem (length bytes) refl (go bytes z)
    where
      go : (bs : List ℕ) → length bs ≡ 0 → get_or bs (length bs - 1) 0 ≢ 13
      go [] z e = absurd (omega arith)
      go (b ∷ bs) z e = absurd (omega arith)

  pub one_return : get_or bytes (length bytes - 1) 0 ≡ 13 → (length bytes - 1 ≤ length bytes) × (take (length bytes - 1) bytes ≡ body bytes)
  unfolding body
  one_return e = (omega arith, rw e refl)

-- ---- 63 and 64

module _ (base : ℕ) (m r : List ℕ) (n : ℕ) (e : n ≡ octet r 0) where
  pub no_bytes : n ≡ 0 → answer.done ≡ data_verdict base m r
  unfolding data_verdict beyond any_given
  no_bytes z = simp (← e, z, and-false (ltb room (address_of base r + 0)))

  module _ (some : n ≢ 0) (few : n ≤ 272) (at : ℕ) (f : at ≡ address_of base r) where
    pub far : room - n < at → answer.beyond_memory ≡ data_verdict base m r
    unfolding data_verdict beyond
    far h = simp (← f, ← e, lt-ltb room (at + n) (omega arith), ne_eqb n 0 some)

    module _ (h : at ≤ room - n) (g : Bool) (eg : g ≡ given m at n) where
      pub twice : g ≡ true → answer.byte_twice ≡ data_verdict base m r
      unfolding data_verdict beyond
      twice t = simp (← f, ← e, le-ltb room (at + n) (omega arith), ← eg, t)

      pub once : g ≡ false → answer.done ≡ data_verdict base m r
      unfolding data_verdict beyond
      once t = simp (← f, ← e, le-ltb room (at + n) (omega arith), ← eg, t)

-- ---- a line's verdict, by its record

data_rows : (base : ℕ) (m r : List ℕ) (b : Bool)
    → cond (b && beyond (address_of base r) (count r)) answer.beyond_memory (cond (b && given m (address_of base r) (count r)) answer.byte_twice answer.done)
    ≡ cond b (data_verdict base m r) answer.done
unfolding data_verdict
data_rows base m r true = refl
data_rows base m r false = refl

pub verdict_is : (s : Said) (whole : Bool) (r bytes : List ℕ) → r ≡ body bytes → verdict_by s whole r ≡ record_verdict s (line bytes whole)
unfolding verdict_by record_verdict record_checks first_of
verdict_is s whole r bytes e = simp (← e, data_rows)

-- what no check refuses has its places
pub fitting : (s : Said) (whole : Bool) (r bytes : List ℕ) → r ≡ body bytes → answer.done ≡ verdict_by s whole r → Fits s.base r
unfolding record_verdict record_checks NoneHolds beyond nonzero
fitting s whole r bytes e v t n =
    let d = v ∙ verdict_is s whole r bytes e in
    let h = (done_otherwise (record_verdict s (line bytes whole)) (record_checks s (line bytes whole)) refl refl).0 (sym d) in
    let b : (eqb (type r) data_type && (ltb room (address_of s.base r + count r) && not (eqb (count r) 0))) ≡ false = rw (sym e) at h.1.1.1.1.0 in
    ltb-false room (address_of s.base r + count r) (sym (and-true (ltb room (address_of s.base r + count r))) ∙ rw (t, ne_eqb (count r) 0 n) at b)

-- ---- the bytes of a data record, put

module _ (base : ℕ) (m r : List ℕ) (t : ℕ) (et : t ≡ octet r 3) where
  pub keeps_other : t ≢ 0 → m ≡ memory_by base r m
  unfolding memory_by
  keeps_other n = simp (← et, ne_eqb t 0 n)

  module _ (z : t ≡ 0) (n : ℕ) (en : n ≡ octet r 0) where
    pub keeps_none : n ≡ 0 → m ≡ memory_by base r m
    unfolding memory_by octets
    keeps_none y = simp (← et, z, ← en, y)

    module _ (at : ℕ) (ea : at ≡ address_of base r) where
      pub has_places : Fits base r → n ≢ 0 → n ≤ 272 → (n ≤ 272) × (at + n ≤ 8192)
      has_places f some few =
          let l : address_of base r + octet r 0 ≤ room = f (sym et ∙ z) (λ y. some (en ∙ y)) in
          (few, rw (ea, en) l)

      pub keeps_bytes : (new : List ℕ) → new ≡ sets m at (octets r 4 n) → new ≡ memory_by base r m
      unfolding memory_by
      keeps_bytes new e = e ∙ simp (← et, z, ← en, ← ea)

-- ---- one line

module _ (s : Said) (whole : Bool) (r bytes : List ℕ) (er : r ≡ body bytes) where
  pub line_refused : (e : Refusal) → number e ≡ verdict_by s whole r → record { answer = number e; now = s } ≡ stepped s (line bytes whole)
  unfolding stepped
  line_refused e h =
      let v = h ∙ verdict_is s whole r bytes er in
      simp (← v, ne_eqb (number e) answer.done (number-not-0 e))

  pub line_said : answer.done ≡ verdict_by s whole r → (ended : Bool) → ended ≡ (s.ended || eqb (type r) end_type)
      → (base : ℕ) → base ≡ cond (eqb (type r) base_type) (base_of r) s.base → (m : List ℕ) → m ≡ memory_by s.base r s.memory
      → record { answer = answer.done; now = said ended base m } ≡ stepped s (line bytes whole)
  unfolding stepped with_record memory_by
  line_said h ended ee base eb m em =
      let v = h ∙ verdict_is s whole r bytes er in
      simp (← v, ← er, ee, eb, em)
