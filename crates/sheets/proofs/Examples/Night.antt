-- The sheet of image one, image two and an empty file, from their bytes, by computation over the definitions; and writers from 0 to 63.
use Rattle.std.specs.Prelude.{◌≡◌, refl, true, false, List, [], ◌∷◌, ◌++◌, ℕ, ◌+◌, ◌^◌, replicate}
use Rattle.common.specs.Words.{row, allowed, decode}
use Rattle.common.specs.Instructions.{arithmetic, branch, pc_after, regs_after, words_after, jumps}
use Rattle.common.specs.Services.{service_count, is_service, service_at, is_service_number}
use Rattle.common.specs.AddressSets.{pairs_at, set_at, inside, ordered, good_set, is_empty, in_set, all_from, within}
use Rattle.common.specs.Tables.{first_of}
use Rattle.rules.specs.Compartments.{member, insert, up_to, service_numbers, main_alone, size_below}
use Rattle.rules.specs.State.{first_number, in_memory, has_owner, owner_at, jumpers_at, writers_at, readers_at, owns, may_jump, may_store, may_read, reads}
use Rattle.rules.specs.Checks as checks
use Rattle.rules.specs.Step as step
use Rattle.rules.specs.Run.{run}
use Rattle.rules.specs.Images.{field, fields, entry_checks, last_zero, register_checks, image_checks, load_checks, blank, loaded, not_loaded, load_verdict, load, all_bytes, section, listed, image_bytes}
use Rattle.rules.specs.Counts.{writer_count, most_below, widest}
use Rattle.rules.proofs.Examples.Samples.{image_one, image_two}
use Rattle.numerals.specs.Bytes.{bytes}
use Rattle.numerals.specs.Numerals.{width_by, decimal}
use Rattle.printed.specs.Text as text
use Rattle.printed.specs.Outcome.{line_of}
use Rattle.sheets.specs.Lines as lines
use Rattle.sheets.specs.Totals as totals
use Rattle.sheets.specs.Told.{none, added, tally}
use Rattle.sheets.proofs.Theorems.Images.{entries}

-- an image of these words: no registers, entry 0
abbrev image : List ℕ → List ℕ
image words = image_bytes words (replicate 16 0) 0

-- main isolates a word that 4 may write, so 5 owns it, and then stores to it
abbrev image_shared : List ℕ
image_shared =
    17825807 ∷ 18874379 ∷ 19922956 ∷ 20975616 ∷ 188743680 ∷ 17825804 ∷ 19922955 ∷ 188743680 ∷ 22020115 ∷ 156565504 ∷ 218103808 ∷ 0 ∷ 1 ∷ 19 ∷ 20
    ∷ 1 ∷ 18 ∷ 19 ∷ 0 ∷ 0 ∷ []

abbrev night : List (List ℕ)
night = image image_one ∷ image image_two ∷ [] ∷ []

abbrev says : List ℕ → List ℕ
says input = lines.line_text (lines.entry false input)

pub record Night : Type 0 where
  pub one : says (image image_one) ≡ bytes "answer 16 steps 3 pc 3 prev 0 jumped 0 next 4 widest 1" ++ text.line_end
  -- nobody is in W of the word that it would store to
  pub two : says (image image_two) ≡ bytes "answer 7 steps 7 pc 6 prev 0 jumped 0 next 5 widest 1 writers" ++ text.line_end
  pub shared : says (image image_shared) ≡ bytes "answer 7 steps 11 pc 9 prev 0 jumped 0 next 6 widest 2 writers 4" ++ text.line_end
  pub nothing : says [] ≡ bytes "refused 20" ++ text.line_end
  pub writers : lines.numbers_text (lines.members (2 ^ 0 + 2 ^ 9 + 2 ^ 10 + 2 ^ 63)) ≡ bytes " 0 9 10 63"
  -- what the program counts is what the lines say
  pub counted : tally none (entries false night) ≡ totals.totals (entries false night)
  pub all : totals.totals_text false (totals.totals (entries false night))
      ≡ bytes "images 3 refused 1 halted 0 stopped 2 0 3 0 4 0 5 0 6 0 7 1 8 0 9 0 10 0 11 0 12 0 13 0 16 1 budget 0 steps 10" ++ text.line_end
  -- of no images, in strict mode, in which 17 is listed too
  pub empty : totals.totals_text true (totals.totals [])
      ≡ bytes "images 0 refused 0 halted 0 stopped 2 0 3 0 4 0 5 0 6 0 7 0 8 0 9 0 10 0 11 0 12 0 13 0 16 0 17 0 budget 0 steps 0" ++ text.line_end

pub sheet : Night
unfolding writer_count most_below widest size_below row allowed decode arithmetic branch pc_after regs_after words_after jumps service_count is_service service_at is_service_number pairs_at set_at inside ordered good_set is_empty in_set all_from within member insert up_to service_numbers main_alone first_number in_memory has_owner owner_at jumpers_at writers_at readers_at owns may_jump may_store may_read reads checks.lengths_differ checks.bad_form checks.no_place checks.wrong_owner checks.no_arrival checks.instruction_at checks.no_instruction checks.stray_bit checks.load_outside checks.load_forbidden checks.store_outside checks.store_forbidden checks.halts checks.good_sets checks.bad_sets checks.empty_set checks.sets_within checks.not_within checks.not_owned checks.returns checks.no_return checks.no_number checks.checks checks.verdict step.ran_instruction step.map_from step.owned step.joined step.joined_services step.isolated step.jump_added step.store_added step.read_added step.ran_service step.commit step.step run field fields first_of entry_checks last_zero register_checks image_checks load_checks blank loaded not_loaded load_verdict load all_bytes section listed image_bytes decimal width_by text.field text.first_fields text.refused_line line_of lines.members_from lines.target_writers lines.ran_entry lines.load_entry lines.entry lines.numbers_text lines.writers_text lines.line_text totals.note_of totals.count_of totals.ended_from totals.steps_of totals.totals totals.is_stop totals.stops_from totals.stops_text totals.totals_text none added tally entries
sheet = record { one = refl; two = refl; shared = refl; nothing = refl; writers = refl; counted = refl; all = refl; empty = refl }
