-- What the checking call answers, and how the filling call's answer over any memories comes from it.
use Rattle.std.specs.Prelude.{◌≡◌, refl, Bool, false, ◌&&◌, not, List, ◌↔◌, ℕ, ◌≤◌, eqb, length}
use Rattle.std.proofs.Math.Path.{sym, ap}
use Rattle.std.proofs.Common.{◌∙◌, arith}
use Rattle.std.proofs.Math.Bool.{true, cond, and-false}
use borrow.Author.Tests.{le-leb}
use Rattle.std.proofs.Math.Dec.{leb}
use Rattle.common.specs.Answers as answer
use Rattle.common.specs.Tables.{first_of, Exactly, NoneHolds}
use Rattle.common.proofs.Laws.TableLaws.{nonzero, on_its_condition, done_otherwise}
use Rattle.rules.specs.State.{State}
use Rattle.rules.specs.Checks.{lengths_differ}
use Rattle.rules.specs.Images.{whole, size_in, entry_checks, register_checks, image_checks, image_verdict, loaded, not_loaded, blank, load_checks, load_verdict, load, Checked, told, four_memories, check}
use Rattle.images.specs.Filling.{length_fields}
use Rattle.images.specs.Accepted.{Accepted, accepts, load_accepted, one_length}

-- an answer with N where it is 0, and with 0 where it is not
abbrev pub sized : ℕ → List ℕ → Checked
sized v bytes = record { answer = v; size = cond (eqb v answer.done) (size_in bytes) 0 }

pub told_load_lem : (m : Bool) (bytes : List ℕ) (old : State) → told (load m bytes old) ≡ sized (load_verdict m bytes old) bytes
unfolding load loaded not_loaded blank
told_load_lem m bytes old = go (eqb (load_verdict m bytes old) answer.done) refl
  where
    go : (t : Bool) → eqb (load_verdict m bytes old) answer.done ≡ t → told (load m bytes old) ≡ sized (load_verdict m bytes old) bytes
    go true e = simp (e, length_fields)
    go false e = simp e

-- 28, apart from the checks behind it: N is whole, 1 to 2,048 and above the lent length
unfoldable pub outgrows : ℕ → List ℕ → Bool
outgrows lent bytes = whole bytes 0 1 && (leb 1 (size_in bytes) && leb (size_in bytes) 2048) && not (leb (size_in bytes) lent)

rows : (w a b s : Bool) (x : ℕ)
    → cond (not w) 20 (cond (not (a && b)) 21 (cond (not s) 28 x))
    ≡ cond (w && (a && b) && not s) 28 (cond (not w) 20 (cond (not (a && b)) 21 (cond (not b) 28 x)))
rows false a b s x = refl
rows true false b s x = refl
rows true true false s x = refl
rows true true true false x = refl
rows true true true true x = refl

-- 28 goes before every check behind it, and no other answer depends on the lent length
pub verdict_apart : (lent : ℕ) (bytes : List ℕ) → image_verdict lent bytes ≡ cond (outgrows lent bytes) answer.short_memory (image_verdict 2048 bytes)
unfolding image_verdict image_checks first_of outgrows
verdict_apart lent bytes = rows (whole bytes 0 1) (leb 1 (size_in bytes)) (leb (size_in bytes) 2048) (leb (size_in bytes) lent) _

-- ---- the check by its checks: those of an image over 2,048 places

agreeing : (m : Bool) (bytes : List ℕ) (old : State) → lengths_differ m old ≡ false → load_verdict m bytes old ≡ image_verdict (length old.words) bytes
unfolding load_verdict load_checks image_verdict first_of
agreeing m bytes old e = simp e

four_agree : lengths_differ false four_memories ≡ false
unfolding lengths_differ four_memories
four_agree = refl

four_long : length four_memories.words ≡ 2048
unfolding four_memories
four_long = refl

pub check_is : (bytes : List ℕ) → check bytes ≡ sized (image_verdict 2048 bytes) bytes
unfolding check
check_is bytes =
    told_load_lem false bytes four_memories
    ∙ ap (λ (v : ℕ). sized v bytes) (agreeing false bytes four_memories four_agree ∙ ap (λ (n : ℕ). image_verdict n bytes) four_long)

answer_is : (bytes : List ℕ) → (check bytes).answer ≡ image_verdict 2048 bytes
answer_is bytes = ap (λ (c : Checked). c.answer) (check_is bytes)

-- each number exactly on its condition
pub check_number : (bytes : List ℕ) (k : ℕ) → (k ≡ answer.done → ⊥) → ((check bytes).answer ≡ k) ↔ Exactly (image_checks 2048 bytes) k
unfolding image_verdict
check_number bytes = on_its_condition (check bytes).answer (image_checks 2048 bytes) (answer_is bytes)

pub check_done : (bytes : List ℕ) → ((check bytes).answer ≡ answer.done) ↔ NoneHolds (image_checks 2048 bytes)
unfolding image_verdict image_checks register_checks entry_checks nonzero
check_done bytes = done_otherwise (check bytes).answer (image_checks 2048 bytes) (answer_is bytes) refl

-- N with 0, and 0 with a refusal
pub check_size : (bytes : List ℕ) → (check bytes).size ≡ cond (eqb (check bytes).answer answer.done) (size_in bytes) 0
check_size bytes = ap (λ (c : Checked). c.size) (check_is bytes) ∙ ap (λ (v : ℕ). cond (eqb v answer.done) (size_in bytes) 0) (sym (answer_is bytes))

-- ---- the load by the check, in either mode and whatever the memories hold

-- memories of so many places each; in the sheet's mode the fifth may have any
pub record Places (m : Bool) (old : State) (places : ℕ) : Type 0 where
  pub words : length old.words ≡ places
  pub owners : length old.owners ≡ places
  pub jumpers : length old.jumpers ≡ places
  pub writers : length old.writers ≡ places
  pub readers : m ≡ true → length old.readers ≡ places

agree : (m : Bool) (old : State) (k : ℕ) → Places m old k → lengths_differ m old ≡ false
agree m old k p =
    let w = sym p.words in
    one_length m old (p.owners ∙ w) (p.jumpers ∙ w) (p.writers ∙ w) (λ e. p.readers e ∙ w)

module _ (m : Bool) (bytes : List ℕ) (old : State) where
  -- 27, then 28, then what the check answers
  pub load_by_check : (load m bytes old).answer
      ≡ cond (lengths_differ m old) answer.lengths_differ (cond (outgrows (length old.words) bytes) answer.short_memory (check bytes).answer)
  unfolding load load_verdict load_checks image_verdict first_of
  load_by_check =
      ap (λ (v : ℕ). cond (lengths_differ m old) answer.lengths_differ v) (verdict_apart (length old.words) bytes
      ∙ ap (λ (v : ℕ). cond (outgrows (length old.words) bytes) answer.short_memory v) (sym (answer_is bytes)))

  -- one verdict, one answer and one N
  same_verdict : load_verdict m bytes old ≡ image_verdict 2048 bytes → told (load m bytes old) ≡ check bytes
  same_verdict h = told_load_lem m bytes old ∙ ap (λ (v : ℕ). sized v bytes) h ∙ sym (check_is bytes)

  -- over memories of 2,048 places
  pub same : Places m old 2048 → told (load m bytes old) ≡ check bytes
  same p = same_verdict (agreeing m bytes old (agree m old 2048 p) ∙ ap (λ (n : ℕ). image_verdict n bytes) p.words)

  -- what the check accepts is accepted over memories of N places or more
  pub accepted_then : (k : ℕ) → Places m old k → (check bytes).answer ≡ answer.done → (check bytes).size ≤ k → told (load m bytes old) ≡ check bytes
  unfolding outgrows
  accepted_then k p z l =
      let n : (check bytes).size ≡ size_in bytes = check_size bytes ∙ simp z in
      let w = p.words in
      let fits : leb (size_in bytes) (length old.words) ≡ true = le-leb (size_in bytes) (length old.words) (omega arith) in
      same_verdict (agreeing m bytes old (agree m old k p) ∙ verdict_apart (length old.words) bytes ∙ simp (fits, and-false))

  -- and what a load accepted, over any memories, the check accepts with the same N
  pub accepted_before : (load m bytes old).answer ≡ answer.done → told (load m bytes old) ≡ check bytes
  unfolding load load_verdict load_checks image_verdict first_of
  accepted_before z = same_verdict (z ∙ sym (accepts 2048 bytes (roomier (load_accepted m bytes old z).image)))
    where
      roomier : Accepted (length old.words) bytes → Accepted 2048 bytes
      roomier a =
          record {
            size_least = a.size_least;
            size_most = a.size_most;
            size_lent = a.size_most;
            count_most = a.count_most;
            last = a.last;
            one_entry = a.one_entry;
            entry_below = a.entry_below;
            length_is = a.length_is;
          }
