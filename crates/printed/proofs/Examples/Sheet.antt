-- What is printed of image one, of image two and of an empty input, from their bytes, by computation over the definitions.
use Rattle.std.specs.Prelude.{◌≡◌, refl, false, List, [], ◌++◌, ℕ, replicate}
use Rattle.common.specs.Words.{row, allowed, decode}
use Rattle.common.specs.Instructions.{arithmetic, branch, pc_after, regs_after, words_after, jumps}
use Rattle.common.specs.Services.{service_count, is_service, service_at, is_service_number}
use Rattle.common.specs.AddressSets.{pairs_at, set_at, inside, ordered, good_set, is_empty, in_set, all_from, within}
use Rattle.common.specs.Tables.{first_of}
use Rattle.rules.specs.Compartments.{member, insert, up_to, service_numbers, main_alone, size_below}
use Rattle.rules.specs.State.{first_number, in_memory, has_owner, owner_at, jumpers_at, writers_at, readers_at, owns, may_jump, may_store, may_read, reads}
use Rattle.rules.specs.Checks as checks
use Rattle.rules.specs.Step as step
use Rattle.rules.specs.Run.{run}
use Rattle.rules.specs.Images.{field, fields, entry_checks, last_zero, register_checks, image_checks, load_checks, blank, loaded, not_loaded, load_verdict, load, all_bytes, section, listed, image_bytes}
use Rattle.rules.specs.Counts.{count_from, address_count, owned_count, jump_count, store_count, writer_count, most_below, widest}
use Rattle.rules.proofs.Examples.Samples.{image_one, image_two}
use Rattle.numerals.specs.Bytes.{bytes}
use Rattle.numerals.specs.Numerals.{width_by, decimal}
use Rattle.printed.specs.Text as text
use Rattle.printed.specs.Outcome as outcome

-- an image of these words: no registers, entry 0
abbrev image : List ℕ → List ℕ
image words = image_bytes words (replicate 16 0) 0

abbrev prints : List ℕ → List ℕ
prints input = text.text (outcome.outcome false input)

abbrev line : List ℕ → List ℕ
line words = words ++ text.line_end

pub record Sheet : Type 0 where
  pub one : prints (image image_one)
      ≡ line (bytes "answer 16 steps 3 pc 3 prev 0 jumped 0 next 4 widest 1") ++ line (bytes "0 4 3 0") ++ line (bytes "1 1 4 0") ++ line (bytes "2 1 4 0")
      ++ line (bytes "3 1 4 0")
  pub two : prints (image image_two)
      ≡ line (bytes "answer 7 steps 7 pc 6 prev 0 jumped 0 next 5 widest 1") ++ line (bytes "0 12 3 0") ++ line (bytes "1 1 13 0") ++ line (bytes "2 1 13 0")
      ++ line (bytes "3 1 13 0") ++ line (bytes "4 1 0 0")
  -- an empty input
  pub nothing : prints [] ≡ line (bytes "refused 20")

pub sheet : Sheet
unfolding count_from address_count owned_count jump_count store_count writer_count most_below widest size_below row allowed decode arithmetic branch pc_after regs_after words_after jumps service_count is_service service_at is_service_number pairs_at set_at inside ordered good_set is_empty in_set all_from within member insert up_to service_numbers main_alone first_number in_memory has_owner owner_at jumpers_at writers_at readers_at owns may_jump may_store may_read reads checks.lengths_differ checks.bad_form checks.no_place checks.wrong_owner checks.no_arrival checks.instruction_at checks.no_instruction checks.stray_bit checks.load_outside checks.load_forbidden checks.store_outside checks.store_forbidden checks.halts checks.good_sets checks.bad_sets checks.empty_set checks.sets_within checks.not_within checks.not_owned checks.returns checks.no_return checks.no_number checks.checks checks.verdict step.ran_instruction step.map_from step.owned step.joined step.joined_services step.isolated step.jump_added step.store_added step.read_added step.ran_service step.commit step.step run field fields first_of entry_checks last_zero register_checks image_checks load_checks blank loaded not_loaded load_verdict load all_bytes section listed image_bytes decimal width_by text.field text.first_fields text.first_line text.row_line text.row_lines text.text outcome.line_of outcome.row_of outcome.rows_from outcome.ran_outcome outcome.load_outcome outcome.outcome text.refused_line
sheet = record { one = refl; two = refl; nothing = refl }
