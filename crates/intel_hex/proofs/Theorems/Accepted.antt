-- An imported image is one that the loader accepts, with the words that the text says and the caller's registers and entry.
use Rattle.std.specs.Prelude.{◌≡◌, refl, Bool, true, false, cond, List, [], ◌∷◌, map, ℕ, suc, ◌+◌, ◌*◌, ◌/◌, ◌%◌, ◌^◌, ◌≤◌, ◌<◌, ltb, eqb, get_or, length, take, drop}
use Rattle.std.proofs.Common.{sym, ap, ◌∙◌, arith}
use borrow.Author.Tests.{not-false, ltb-true, leb-true, eqb-true, eqb-false}
use Rattle.std.proofs.lemmas.List.{length-replicate}
use Rattle.std.proofs.Math.ListN.{get_or-map}
use Rattle.std.proofs.lemmas.List.Edits.{sets}
use Rattle.std.proofs.Math.Seq.{length-sets, take-append_seam, drop-append_seam}
use Rattle.common.specs.Answers as answer
use Rattle.common.specs.Tables.{NoneHolds}
use Rattle.rules.specs.State.{State}
use Rattle.rules.specs.Images.{field, image_bytes, loaded, load}
use Rattle.images.specs.Filling.{length_fields, get_d_fields}
use Rattle.images.specs.Sections.{written}
use Rattle.images.specs.RoundTrip.{read_again}
use Rattle.intel_hex.specs.Records.{Line, lines, body, type, data_of, data_type}
use Rattle.intel_hex.specs.Reading.{room, none, Said, nothing, address, record_verdict, with_record, Reading, says, refused, from, reading}
use Rattle.intel_hex.specs.Importing.{past, filled, words_of, end_checks, Imported, accepted, import}
use Rattle.intel_hex.proofs.Theorems.Numbers.{says_not, import_done, import_accepted, import_fault, refused_exactly}

-- ---- the words of a memory

pub past_most : (l : List ℕ) → past l ≤ length l
unfolding past
past_most [] = omega arith
past_most (x ∷ xs) = go (eqb (past xs) 0) (ltb x none) (past_most xs)
  where
    go : (a b : Bool) → past xs ≤ length xs → cond a (cond b 1 0) (suc (past xs)) ≤ suc (length xs)
    go true true h = omega arith
    go true false h = omega arith
    go false b h = omega arith

filled_small : (x : ℕ) → filled x < 256
filled_small x = go (ltb x none) refl
  where
    go : (b : Bool) → ltb x none ≡ b → cond b x 0 < 256
    go true e = ltb-true x none e
    go false e = omega arith

field_small : (l : List ℕ) (p : ℕ) → field (map filled l) p < 2 ^ 32
unfolding field
field_small l p =
    let a : get_or (map filled l) p 0 < 256 = at p in
    let b : get_or (map filled l) (p + 1) 0 < 256 = at (p + 1) in
    let c : get_or (map filled l) (p + 2) 0 < 256 = at (p + 2) in
    let d : get_or (map filled l) (p + 3) 0 < 256 = at (p + 3) in
    omega arith
  where
    at : (i : ℕ) → get_or (map filled l) i 0 < 256
    at i = let e : get_or (map filled l) i 0 ≡ filled (get_or l i none) = get_or-map filled l i none in rw e (filled_small (get_or l i none))

pub length_words : (memory : List ℕ) → length (words_of memory) ≡ past memory / 4
unfolding words_of
length_words memory = length_fields (map filled memory) 0 (past memory / 4)

words_small : (memory : List ℕ) (i : ℕ) → i < length (words_of memory) → get_or (words_of memory) i 0 < 2 ^ 32
unfolding words_of
words_small memory i h =
    let l = length_words memory in
    rw (get_d_fields (map filled memory) 0 (past memory / 4) i (omega arith)) (field_small memory (0 + 4 * i))

-- ---- what is said has the memory's room

with_room : (s : Said) (r : List ℕ) → length (with_record s r).memory ≡ length s.memory
unfolding with_record
with_room s r = go (eqb (type r) data_type)
  where
    go : (b : Bool) → length (cond b (sets s.memory (address s r) (data_of r)) s.memory) ≡ length s.memory
    go true = length-sets s.memory (address s r) (data_of r)
    go false = refl

from_room : (s : Said) (m : ℕ) (ls : List Line) (t : Said) → from s m ls ≡ says t → length t.memory ≡ length s.memory
unfolding from
from_room s m [] t h = ap memory_in (sym h)
  where
    memory_in : Reading → ℕ
    memory_in (says u) = length u.memory
    memory_in (refused n k) = 0
from_room s m (l ∷ ls) t h = go (eqb (record_verdict s l) answer.done) refl (from_room (with_record s (body l.bytes)) (suc m) ls t)
  where
    go : (b : Bool) → eqb (record_verdict s l) answer.done ≡ b
        → (from (with_record s (body l.bytes)) (suc m) ls ≡ says t → length t.memory ≡ length (with_record s (body l.bytes)).memory) → length t.memory ≡ length s.memory
    go true e ih = ih (rw e at h) ∙ with_room s (body l.bytes)
    go false e ih = let g : refused (record_verdict s l) (suc m) ≡ says t = rw e at h in says_not t _ _ (sym g)

pub said_room : (text : List ℕ) (s : Said) → reading text ≡ says s → length s.memory ≡ room
unfolding reading
said_room text s h = from_room nothing 0 (lines text) s h ∙ length-replicate room none

-- ---- an accepted text

pub record Says (text : List ℕ) : Type 0 where
  pub all : Said
  pub read : reading text ≡ says all

module _ (text regs : List ℕ) (entry : ℕ) (out : List ℕ) (done : (import text regs entry out).answer ≡ answer.done) where
  -- no record is at fault
  pub done_says : Says text
  done_says = go (reading text) refl
    where
      go : (m : Reading) → reading text ≡ m → Says text
      go (says s) e = record { all = s; read = e }
      go (refused n k) e =
          let f = (refused_exactly text n k).0 e in
          let z : n ≡ answer.done = sym (ap (λ (x : Imported). x.answer) (import_fault text regs entry out n k f)) ∙ done in
          absurd (f.fault.fails z)

  abbrev pub words : List ℕ
  words = words_of done_says.all.memory

  -- it says 1 to 2,048 words, the entry is below their number, and the image has room
  pub record Fits : Type 0 where
    pub least : 1 ≤ length words
    pub most : length words ≤ 2048
    pub below : entry < length words
    pub room_is : length (image_bytes words regs entry) ≤ length out

  pub fits : Fits
  unfolding end_checks NoneHolds
  fits =
      let s = done_says.all in
      let h = (import_done text regs entry out s done_says.read).0 done in
      let n = length_words s.memory in
      let m = past_most s.memory in
      let r = said_room text s done_says.read in
      let some : past s.memory ≡ 0 → ⊥ = eqb-false (past s.memory) 0 h.1.0 in
      let fours : past s.memory % 4 ≡ 0 = eqb-true (past s.memory % 4) 0 (not-false _ h.1.1.0) in
      record {
        least = omega arith;
        most = omega arith;
        below = ltb-true entry (length words) (not-false _ h.1.1.1.0);
        room_is = leb-true (length (image_bytes words regs entry)) (length out) (not-false _ h.1.1.1.1.0);
      }

  whole : import text regs entry out ≡ accepted words regs entry out
  whole = import_accepted text regs entry out done_says.all done_says.read done

  -- the image of the words stands at the front, and beyond it what the buffer held
  pub image_is : take (import text regs entry out).length (import text regs entry out).out ≡ image_bytes words regs entry
  image_is =
      ap (λ (x : Imported). take x.length x.out) whole
      ∙ take-append_seam (image_bytes words regs entry) (drop (length (image_bytes words regs entry)) out)

  pub rest_kept : drop (import text regs entry out).length (import text regs entry out).out ≡ drop (import text regs entry out).length out
  rest_kept = rw whole (drop-append_seam (image_bytes words regs entry) (drop (length (image_bytes words regs entry)) out))

  -- over any memories of one length that have room for the words, in either mode
  pub imported_loads : (strict : Bool) (old : State) → length regs ≡ 16 → ((i : ℕ) → i < length regs → get_or regs i 0 < 2 ^ 32)
      → length words ≤ length old.words → length old.owners ≡ length old.words → length old.jumpers ≡ length old.words
      → length old.writers ≡ length old.words → (strict ≡ true → length old.readers ≡ length old.words)
      → load strict (take (import text regs entry out).length (import text regs entry out).out) old ≡ record { answer = answer.done; state = loaded strict words regs entry old }
  imported_loads strict old sixteen small enough o j w r =
      let f = fits in
      let again = read_again strict words regs entry out old f.least f.most (words_small done_says.all.memory) sixteen small f.below f.room_is enough o j w r in
      let wrote = written words regs entry out f.least f.most f.below f.room_is in
      rw whole (rw wrote at again.1)
