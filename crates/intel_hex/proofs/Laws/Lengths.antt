-- How long the text of words is.
use Rattle.std.specs.Prelude.{◌≡◌, List, [], ◌∷◌, ◌++◌, ℕ, zero, suc, ◌+◌, ◌-◌, ◌*◌, ◌≤◌, min, length, drop}
use Rattle.std.proofs.Common.{arith, length-append, length-take, length-drop}
use Rattle.numerals.specs.Bytes.{feed}
use Rattle.rules.specs.Images.{all_bytes}
use Rattle.images.specs.Sections.{length_all_bytes}
use Rattle.intel_hex.specs.Records.{data_type, end_type}
use Rattle.intel_hex.specs.Exporting.{data_record, end_record, chunk, records, records_in, text_of}
use Rattle.intel_hex.proofs.Laws.Written.{length_record}

length_data : (at : ℕ) (bytes : List ℕ) → length (data_record at bytes) ≡ 2 * length bytes + 11
unfolding data_record
length_data at bytes = length_record at data_type bytes

-- twelve bytes a record, and two for each byte of the words
pub length_records : (bytes : List ℕ) (i k : ℕ) → length (records bytes i k) ≡ 12 * k + 2 * min (16 * k) (length bytes - 16 * i)
unfolding records
length_records bytes i zero = omega arith
length_records bytes i (suc k) =
    let a = length-append (data_record (16 * i) (chunk bytes i)) (feed ∷ records bytes (suc i) k) in
    let r = length_data (16 * i) (chunk bytes i) in
    let t = length-take 16 (drop (16 * i) bytes) in
    let d = length-drop (16 * i) bytes in
    let ih = length_records bytes (suc i) k in
    omega arith

pub length_text : (words : List ℕ) → length (text_of words) ≡ 8 * length words + 12 * records_in words + 12
unfolding text_of end_record
length_text words =
    let a = length-append (records (all_bytes words) 0 (records_in words)) (end_record ++ feed ∷ []) in
    let b = length-append end_record (feed ∷ []) in
    let e = length_record 0 end_type [] in
    let r = length_records (all_bytes words) 0 (records_in words) in
    let l = length_all_bytes words in
    omega arith

-- a buffer of 22,540 bytes is long enough for each image
pub text_most : (words : List ℕ) → length words ≤ 2048 → length (text_of words) ≤ 22540
text_most words m = let l = length_text words in omega arith
