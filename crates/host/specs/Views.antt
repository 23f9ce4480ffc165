-- What is seen of the host calls' outcomes.
use Rattle.std.specs.Prelude.{List, [], ◌∷◌, ℕ}
use Rattle.common.specs.Words as words
use Rattle.rules.specs.Images as images
use Rattle.rules.specs.Rows as rows
use Rattle.reasons.specs.Why as reasons
use Rattle.sources.specs.Meaning as sources
use Rattle.intel_hex.specs.Importing as hex
use Rattle.rows.specs.declared.Row.{Row}
use Rattle.rows.specs.Views.{table}
use Rattle.machine.specs.Views.{state_of}
use Rattle.machine.specs.declared.Processor.{Processor}

-- ---- what the contracts see

abbrev pub loaded_by : Processor → ℕ → List ℕ → List ℕ → List ℕ → List ℕ → List ℕ → List Row → rows.LentStepped
loaded_by cpu answer words owners jumpers writers readers lent = record { answer = answer; state = state_of cpu words owners jumpers writers readers; rows = table lent }

abbrev pub checked_by : ℕ → ℕ → images.Checked
checked_by answer n = record { answer = answer; size = n }

abbrev pub stepped_by : Processor → ℕ → List ℕ → List ℕ → List ℕ → List ℕ → List ℕ → List Row → rows.LentStepped
stepped_by cpu answer words owners jumpers writers readers lent = record { answer = answer; state = state_of cpu words owners jumpers writers readers; rows = table lent }

abbrev pub ran_by : Processor → ℕ → ℕ → List ℕ → List ℕ → List ℕ → List ℕ → List ℕ → List Row → rows.LentRan
ran_by cpu answer count words owners jumpers writers readers lent = record { answer = answer; state = state_of cpu words owners jumpers writers readers; rows = table lent; count = count }

-- all that a decoding hands back or may change
pub record DecodeOutcome : Type 0 where
  pub answer : ℕ
  pub fields : List ℕ

abbrev pub decoded_by : ℕ → List ℕ → DecodeOutcome
decoded_by answer fields = record { answer = answer; fields = fields }

-- the fields in the order in which the host gets them
abbrev pub laid_out : words.Decoded → DecodeOutcome
laid_out d = record { answer = d.answer; fields = d.op ∷ d.a ∷ d.b ∷ d.low ∷ [] }

-- all that a reason hands back or may change
pub record WhyOutcome : Type 0 where
  pub answer : ℕ
  pub told : List ℕ

abbrev pub told_by : ℕ → List ℕ → WhyOutcome
told_by answer told = record { answer = answer; told = told }

-- the numbers in the order in which the host gets them
abbrev pub all_told : reasons.Why → WhyOutcome
all_told w = record { answer = w.answer; told = w.answer ∷ w.set ∷ w.fault ∷ w.place ∷ w.owner ∷ w.value ∷ w.bits ∷ [] }

abbrev pub encoded_by : ℕ → ℕ → words.Encoded
encoded_by answer word = record { answer = answer; word = word }

abbrev pub written_by : ℕ → ℕ → List ℕ → images.Written
written_by answer length out = record { answer = answer; length = length; out = out }

abbrev pub assembled_by : ℕ → ℕ → ℕ → List ℕ → sources.Assembled
assembled_by answer line length out = record { answer = answer; line = line; length = length; out = out }

abbrev pub imported_by : ℕ → ℕ → ℕ → List ℕ → hex.Imported
imported_by answer line length out = record { answer = answer; line = line; length = length; out = out }
