-- What a text says so far, and what its next record says: the bytes by their addresses, or the first record at fault with its number.
use Rattle.std.specs.Prelude.{Bool, false, cond, ◌&&◌, ◌||◌, not, List, [], ◌∷◌, ℕ, suc, ◌+◌, ◌*◌, ltb, eqb, take, drop, replicate}
use Rattle.std.proofs.lemmas.List.Edits.{sets}
use Rattle.common.specs.Answers as answer
use Rattle.common.specs.Tables.{Check, on, first_of}
use Rattle.intel_hex.specs.Records.{Line, lines, body, count, offset, type, data_of, data_type, end_type, base_type, base_of, formed, wrong_count, sums_up, known}

-- 2,048 words in bytes
abbrev pub room : ℕ
room = 8192

-- what a place holds where no byte was given
abbrev pub none : ℕ
none = 256

-- whether the end record was read, bits 16 to 31 of the addresses, and each place's byte
pub record Said : Type 0 where
  pub ended : Bool
  pub base : ℕ
  pub memory : List ℕ

abbrev pub nothing : Said
nothing = record { ended = false; base = 0; memory = replicate room none }

-- the address of a record's first byte; its others follow
abbrev pub address : Said → List ℕ → ℕ
address s r = 65536 * s.base + offset r

-- ---- the checks of a record, behind what was said before

-- some byte has an address beyond the memory: the last, if there is one, has the highest
unfoldable pub beyond : ℕ → ℕ → Bool
beyond at n = ltb room (at + n) && not (eqb n 0)

unfoldable pub any_given : List ℕ → Bool
any_given [] = false
any_given (x ∷ xs) = ltb x none || any_given xs

-- some place from `at` on, of n places, has its byte
abbrev pub given : List ℕ → ℕ → ℕ → Bool
given memory at n = any_given (take n (drop at memory))

-- "66 anything after the end record, 60 bad character or length, 61 checksum, 62 other record type, 63 address beyond 2,048 words, 64
-- byte given twice"
unfoldable pub record_checks : Said → Line → List Check
record_checks s l =
    on answer.after_end s.ended
    ∷ on answer.bad_record (not l.whole || not (formed (body l.bytes)) || wrong_count (body l.bytes))
    ∷ on answer.bad_sum (not (sums_up (body l.bytes)))
    ∷ on answer.other_type (not (known (body l.bytes)))
    ∷ on answer.beyond_memory (eqb (type (body l.bytes)) data_type && beyond (address s (body l.bytes)) (count (body l.bytes)))
    ∷ on answer.byte_twice (eqb (type (body l.bytes)) data_type && given s.memory (address s (body l.bytes)) (count (body l.bytes)))
    ∷ []

unfoldable pub record_verdict : Said → Line → ℕ
record_verdict s l = first_of (record_checks s l)

-- ---- what is said with a record that no check refuses

unfoldable pub with_record : Said → List ℕ → Said
with_record s r =
    record {
      ended = s.ended || eqb (type r) end_type;
      base = cond (eqb (type r) base_type) (base_of r) s.base;
      memory = cond (eqb (type r) data_type) (sets s.memory (address s r) (data_of r)) s.memory;
    }

-- ---- all records: the first at fault decides

pub data Reading : Type 0 where
  says : Said → Reading
  refused : ℕ → ℕ → Reading

-- the lines behind line n, counted from 1
unfoldable pub from : Said → ℕ → List Line → Reading
from s n [] = says s
from s n (l ∷ ls) =
    cond (eqb (record_verdict s l) answer.done) (from (with_record s (body l.bytes)) (suc n) ls) (refused (record_verdict s l) (suc n))

unfoldable pub reading : List ℕ → Reading
reading text = from nothing 0 (lines text)
