-- The text of words: type 00 records of 16 bytes, the last perhaps shorter, and an end record.
use Rattle.std.specs.Prelude.{cond, ◌&&◌, not, List, [], ◌∷◌, ◌++◌, ℕ, zero, suc, ◌+◌, ◌-◌, ◌*◌, ◌/◌, ◌%◌, leb, eqb, length, take, drop}
use Rattle.common.specs.Answers as answer
use Rattle.common.specs.Tables.{Check, on, first_of}
use Rattle.numerals.specs.Bytes.{feed}
use Rattle.numerals.specs.Numerals.{digits}
use Rattle.rules.specs.Images.{all_bytes, over, Written}
use Rattle.intel_hex.specs.Records.{colon, data_type, end_type, sum}

-- ---- a record

-- "written in upper case"
unfoldable pub pairs : List ℕ → List ℕ
pairs [] = []
pairs (x ∷ xs) = digits 16 2 x ++ pairs xs

-- what makes the bytes of a record sum up to 0 modulo 256
abbrev pub checksum : List ℕ → ℕ
checksum octets = (256 - sum octets % 256) % 256

-- the bytes of a record before its checksum
abbrev pub fields_of : ℕ → ℕ → List ℕ → List ℕ
fields_of at type bytes = length bytes ∷ at / 256 ∷ at % 256 ∷ type ∷ bytes

abbrev pub record_of : List ℕ → List ℕ
record_of octets = colon ∷ pairs (octets ++ checksum octets ∷ [])

unfoldable pub data_record : ℕ → List ℕ → List ℕ
data_record at bytes = record_of (fields_of at data_type bytes)

unfoldable pub end_record : List ℕ
end_record = record_of (fields_of 0 end_type [])

-- ---- the text

-- "records of 16 bytes, the last perhaps shorter": the bytes of record i
abbrev pub chunk : List ℕ → ℕ → List ℕ
chunk bytes i = take 16 (drop (16 * i) bytes)

-- k records from record i on, each "written with LF"
unfoldable pub records : List ℕ → ℕ → ℕ → List ℕ
records bytes i zero = []
records bytes i (suc k) = data_record (16 * i) (chunk bytes i) ++ feed ∷ records bytes (suc i) k

-- four words to a record
abbrev pub records_in : List ℕ → ℕ
records_in words = (length words + 3) / 4

unfoldable pub text_of : List ℕ → List ℕ
text_of words = records (all_bytes words) 0 (records_in words) ++ (end_record ++ feed ∷ [])

-- ---- "export 21, then 31"

unfoldable pub export_checks : List ℕ → List ℕ → List Check
export_checks words out =
    on answer.bad_size (not (leb 1 (length words) && leb (length words) 2048))
    ∷ on answer.short_buffer (not (leb (length (text_of words)) (length out)))
    ∷ []

unfoldable pub export_verdict : List ℕ → List ℕ → ℕ
export_verdict words out = first_of (export_checks words out)

unfoldable pub export : List ℕ → List ℕ → Written
export words out =
    cond (eqb (export_verdict words out) answer.done)
    (record { answer = answer.done; length = length (text_of words); out = over (text_of words) out })
    (record { answer = export_verdict words out; length = 0; out = out })
