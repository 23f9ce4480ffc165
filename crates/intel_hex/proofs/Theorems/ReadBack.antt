-- The text of words says these words: each record passes every check behind those before it, and the bytes stand at their addresses.
use Rattle.std.specs.Prelude.{◌≡◌, Bool, get_or, drop, replicate}
use Rattle.std.proofs.Math.Path.{refl, ap}
use Rattle.std.proofs.Common.{sym, ◌∙◌, take-add, length-take-le}
use Rattle.std.proofs.Math.Bool.{true, false}
use mathlib.Core.List.{List, [], ◌∷◌, ◌++◌, append_assoc, map}
use Prim.Native.Nat.{ℕ, zero, suc, ◌+◌, ◌*◌, ◌/◌, ◌^◌, ◌≤◌, ◌<◌}
use Rattle.std.proofs.Math.Nat.{add-zero}
use native.Mathlib.Omega.{arith}
use borrow.Author.Tests.{le-ltb}
use Rattle.std.proofs.Math.ListN.{length, take, length-take, length-replicate}
use Rattle.std.proofs.lemmas.List.Edits.{sets}
use Rattle.std.proofs.Math.Seq.{take_all}
use Rattle.common.specs.Answers as answer
use Rattle.common.specs.Tables.{first_of}
use Rattle.numerals.specs.Bytes.{feed}
use Rattle.rules.specs.Images.{all_bytes, fields, over}
use Rattle.images.specs.Sections.{length_all_bytes}
use Rattle.images.specs.Stores.{sets_then, sets_over}
use Rattle.intel_hex.specs.Records.{line, lines, offset, data_type, end_type, wrong_count, known}
use Rattle.intel_hex.specs.Reading.{room, none, Said, address, beyond, given, record_checks, record_verdict, with_record, says, from, reading}
use Rattle.intel_hex.specs.Importing.{past, filled, words_of}
use Rattle.intel_hex.specs.Exporting.{fields_of, record_of, data_record, end_record, chunk, records, records_in, text_of}
use Rattle.intel_hex.proofs.Laws.Bounds.{Below, below_take, below_drop, below_of}
use Rattle.intel_hex.proofs.Laws.Written.{Parts, written}
use Rattle.intel_hex.proofs.Laws.Memories.{drop_none, take_none, none_given, drop_sets, past_front, filled_front, fields_front, bytes_below}

abbrev pub said : Bool → List ℕ → Said
said ended memory = record { ended = ended; base = 0; memory = memory }

-- ---- one record

-- a data record behind records without a base
module _ (at : ℕ) (bytes memory : List ℕ) (few : length bytes < 256) (small : Below 256 bytes) (fits : at + length bytes ≤ room)
    (free : given memory at (length bytes) ≡ false) where
  abbrev r : List ℕ
  r = record_of (fields_of at data_type bytes)

  parts : Parts at data_type bytes
  parts = written at data_type bytes few (omega arith) (omega arith) small

  at_is : address (said false memory) r ≡ at
  at_is = let o : offset r ≡ at = parts.offset_is in omega (arith, o)

  data_passes : record_verdict (said false memory) (line r true) ≡ answer.done
  unfolding record_verdict record_checks first_of wrong_count known beyond
  data_passes =
      let p = parts in
      simp (p.whole, p.formed_is, p.sums_up_lem, p.type_is, p.count_is, at_is, le-ltb room (at + length bytes) fits, free)

  data_said : with_record (said false memory) r ≡ said false (sets memory at bytes)
  unfolding with_record
  data_said = let p = parts in simp (p.type_is, p.data_is, at_is)

  data_read : (n : ℕ) (rest : List ℕ) → from (said false memory) n (lines (data_record at bytes ++ feed ∷ rest)) ≡ from (said false (sets memory at bytes)) (suc n) (lines rest)
  unfolding from data_record
  data_read n rest = let p = parts in rw (p.one_line rest, p.whole, data_passes, data_said) refl

-- the end record
end_read : (memory : List ℕ) (n : ℕ) → from (said false memory) n (lines (end_record ++ feed ∷ [])) ≡ says (said true memory)
unfolding from end_record record_verdict record_checks first_of wrong_count known beyond with_record lines
end_read memory n =
    let p = written 0 end_type [] (omega arith) (omega arith) (omega arith) tt in
    rw (p.one_line [], p.whole, p.formed_is, p.sums_up_lem, p.count_is, p.type_is) refl

-- ---- all records

-- the memory with the first n bytes
abbrev front : List ℕ → ℕ → List ℕ
front bytes n = sets (replicate room none) 0 (take n bytes)

module _ (bytes : List ℕ) (small : Below none bytes) (most : length bytes ≤ room) where
  free : (p n : ℕ) → given (front bytes p) p n ≡ false
  free p n =
      let l = length-take p bytes in
      let d : drop p (front bytes p) ≡ drop p (replicate room none) = drop_sets (take p bytes) (replicate room none) 0 p (omega arith) in
      rw d (take_none n (drop p (replicate room none)) (drop_none p (replicate room none) (none_given room)))

  next : (i : ℕ) → 16 * i ≤ length bytes → sets (front bytes (16 * i)) (16 * i) (chunk bytes i) ≡ front bytes (16 * suc i)
  next i h =
      let l = length-take-le (16 * i) bytes h in
      let e : 16 * suc i ≡ 16 * i + 16 = omega arith in
      sets_then (replicate room none) 0 (16 * i) (take (16 * i) bytes) (chunk bytes i) (omega arith)
      ∙ ap (sets (replicate room none) 0) (sym (take-add (16 * i) 16 bytes)) ∙ ap (front bytes) (sym e)

  all_read : (i k n : ℕ) (rest : List ℕ) → 16 * (i + k) ≤ length bytes + 15
      → from (said false (front bytes (16 * i))) n (lines (records bytes i k ++ rest)) ≡ from (said false (front bytes (16 * (i + k)))) (n + k) (lines rest)
  unfolding records
  all_read i zero n rest h = rw (add-zero i, add-zero n) refl
  all_read i (suc k) n rest h =
      let c = length-take 16 (drop (16 * i) bytes) in
      let a : i + suc k ≡ suc i + k = omega arith in
      let b : n + suc k ≡ suc n + k = omega arith in
      let s : Below 256 (chunk bytes i) = below_take 256 16 (drop (16 * i) bytes) (below_drop 256 (16 * i) bytes small) in
      ap (λ (t : List ℕ). from (said false (front bytes (16 * i))) n (lines t)) (append_assoc (data_record (16 * i) (chunk bytes i)) (feed ∷ records bytes (suc i) k) rest)
      ∙ data_read (16 * i) (chunk bytes i) (front bytes (16 * i)) (omega arith) s (omega arith) (free (16 * i) (length (chunk bytes i))) n (records bytes (suc i) k ++ rest)
      ∙ ap (λ (m : List ℕ). from (said false m) (suc n) (lines (records bytes (suc i) k ++ rest))) (next i (omega arith))
      ∙ all_read (suc i) k (suc n) rest (omega arith)
      ∙ ap (λ (j : ℕ). from (said false (front bytes (16 * j))) (suc n + k) (lines rest)) (sym a)
      ∙ ap (λ (j : ℕ). from (said false (front bytes (16 * (i + suc k)))) j (lines rest)) (sym b)

-- ---- the words

module _ (words : List ℕ) (most : length words ≤ 2048) where
  abbrev pub memory_of : List ℕ
  memory_of = over (all_bytes words) (replicate room none)

  pub text_says : reading (text_of words) ≡ says (said true memory_of)
  unfolding reading text_of
  text_says =
      let l = length_all_bytes words in
      let k = records_in words in
      let b = bytes_below words in
      let all : take (16 * (0 + k)) (all_bytes words) ≡ all_bytes words = take_all (16 * (0 + k)) (all_bytes words) (omega arith) in
      let r = length-replicate room none in
      all_read (all_bytes words) b (omega arith) 0 k 0 (end_record ++ feed ∷ []) (omega arith)
      ∙ end_read (front (all_bytes words) (16 * (0 + k))) (0 + k)
      ∙ ap (λ (t : List ℕ). says (said true (sets (replicate room none) 0 t))) all
      ∙ ap (λ (m : List ℕ). says (said true m)) (sets_over (all_bytes words) (replicate room none) (omega arith))

  pub past_is : past memory_of ≡ 4 * length words
  past_is =
      past_front (all_bytes words) (drop (length (all_bytes words)) (replicate room none)) (bytes_below words)
      (drop_none (length (all_bytes words)) (replicate room none) (none_given room))
      ∙ length_all_bytes words

  pub words_are : ((i : ℕ) → i < length words → get_or words i 0 < 2 ^ 32) → words_of memory_of ≡ words
  unfolding words_of
  words_are small =
      let p = past_is in
      let n : past memory_of / 4 ≡ length words = omega arith in
      ap (fields (map filled memory_of) 0) n
      ∙ ap (λ (m : List ℕ). fields m 0 (length words)) (filled_front (all_bytes words) (drop (length (all_bytes words)) (replicate room none)) (bytes_below words))
      ∙ fields_front words (map filled (drop (length (all_bytes words)) (replicate room none))) (below_of 4294967296 words small)
