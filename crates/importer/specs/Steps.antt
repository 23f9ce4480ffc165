-- One line, as the code takes it: its verdict, the places its bytes go to, and what is said then.
use Rattle.std.specs.Prelude.{◌≡◌, Bool, cond, not, ◌||◌, List, ℕ, ◌+◌, ◌*◌, ◌≤◌, eqb, Result, ⊤}
use Rattle.std.proofs.lemmas.List.Edits.{sets}
use Rattle.common.specs.Answers as answer
use Rattle.intel_hex.specs.Records.{Line, body, count, offset, type, data_of, data_type, formed, wrong_count, sums_up, known}
use Rattle.intel_hex.specs.Reading.{room, Said, beyond, given, record_verdict, with_record}
use Rattle.answers.specs.declared.Refusal.{Refusal}
use Rattle.answers.specs.Numbers.{answer_of}
use Rattle.importer.specs.declared.reading.Said as code
use Rattle.importer.specs.Views.{said}

-- the address of a record's first byte, behind a base
abbrev pub address_of : ℕ → List ℕ → ℕ
address_of base r = 65536 * base + offset r

-- the rows of a data record alone: 63 and 64
unfoldable pub data_verdict : ℕ → List ℕ → List ℕ → ℕ
data_verdict base memory r =
    cond (beyond (address_of base r) (count r)) answer.beyond_memory (cond (given memory (address_of base r) (count r)) answer.byte_twice answer.done)

-- the verdict on a line that has this record
unfoldable pub verdict_by : Said → Bool → List ℕ → ℕ
verdict_by s whole r =
    cond s.ended answer.after_end
    (cond (not whole || not (formed r) || wrong_count r) answer.bad_record
    (cond (not (sums_up r)) answer.bad_sum
    (cond (not (known r)) answer.other_type
    (cond (eqb (type r) data_type) (data_verdict s.base s.memory r) answer.done))))

-- a data record's bytes, if it has some, have their places
abbrev pub Fits : ℕ → List ℕ → Type 0
Fits base r = type r ≡ data_type → (count r ≡ 0 → ⊥) → address_of base r + count r ≤ room

unfoldable pub memory_by : ℕ → List ℕ → List ℕ → List ℕ
memory_by base r memory = cond (eqb (type r) data_type) (sets memory (address_of base r) (data_of r)) memory

-- what is said behind a line, and the line's answer
pub record Stepped : Type 0 where
  pub answer : ℕ
  pub now : Said

abbrev pub step_of : Result ⊤ Refusal → code.Said → List ℕ → Stepped
step_of r s memory = record { answer = answer_of r; now = said s.ended s.base memory }

unfoldable pub stepped : Said → Line → Stepped
stepped s l =
    cond (eqb (record_verdict s l) answer.done)
    (record { answer = answer.done; now = with_record s (body l.bytes) })
    (record { answer = record_verdict s l; now = s })
