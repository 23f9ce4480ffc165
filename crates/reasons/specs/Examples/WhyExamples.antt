-- What is told of given states, by computation: the stops of image one and image two, and isolates that are refused.
use Rattle.std.specs.Prelude.{◌≡◌, refl, Bool, true, false, List, [], ◌∷◌, ℕ}
use Rattle.common.specs.Tables.{first_of}
use Rattle.common.specs.Words.{row, allowed, decode}
use Rattle.common.specs.Services.{service_count, is_service, service_at, is_service_number}
use Rattle.common.specs.AddressSets.{pairs_at, set_at, inside, ordered, good_set, is_empty, in_set, all_from, within}
use Rattle.rules.specs.Compartments.{member}
use Rattle.rules.specs.State.{State, first_number, in_memory, has_owner, owner_at, jumpers_at, writers_at, readers_at, owns, may_jump, may_store, may_read, reads}
use Rattle.rules.specs.Checks as checks
use Rattle.rules.proofs.Examples.Samples.{image_two}
use Rattle.reasons.specs.First.{first_not, first_pair, first_set}
use Rattle.reasons.specs.Why.{told, owner_or, stray_bits, set_fault, fault_at, bad_set, may_give, wide_set, out_at, return_fault, form_fault, rows, row_of, why}

-- main, in the sheet's mode, the tags as loaded
abbrev loaded : List ℕ → List ℕ → ℕ → ℕ → List ℕ → List ℕ → State
loaded words regs n pc owners jumpers =
    record {
      cpu = record { n = n; regs = regs; pc = pc; prev = 0; jumped = true; next = 5; services = 1 ∷ 1 ∷ 1 ∷ 1 ∷ []; strict = false };
      words = words;
      owners = owners;
      jumpers = jumpers;
      writers = owners;
      readers = [];
    }

-- image one: the word 7 is a Nop with three bits too many
pub stray : why (loaded (7 ∷ []) [] 1 0 (0 ∷ []) (15 ∷ [])) ≡ told 16 0 0 0 0 7 7
unfolding why rows row_of stray_bits checks.verdict checks.checks first_of checks.bad_form checks.lengths_differ checks.no_place checks.wrong_owner checks.no_arrival checks.no_instruction checks.stray_bit checks.instruction_at decode allowed row is_service service_count is_service_number owner_at in_memory
stray = refl

-- isolate with J' from 4098 on: 4099 is nothing in this mode
pub beyond_services : why (loaded (1 ∷ 0 ∷ 1 ∷ 1 ∷ 4098 ∷ 4100 ∷ 0 ∷ []) (0 ∷ 0 ∷ 3 ∷ 6 ∷ []) 7 4096 (0 ∷ 0 ∷ 0 ∷ 0 ∷ 0 ∷ 0 ∷ 0 ∷ []) (15 ∷ 15 ∷ 15 ∷ 15 ∷ 15 ∷ 15 ∷ 15 ∷ []))
    ≡ told 10 2 0 4099 64 0 0
unfolding why rows row_of out_at wide_set may_give owner_or first_set first_pair first_not checks.verdict checks.checks first_of checks.bad_form checks.lengths_differ checks.no_place checks.wrong_owner checks.no_arrival checks.no_instruction checks.stray_bit checks.load_outside checks.load_forbidden checks.store_outside checks.store_forbidden checks.halts checks.bad_sets checks.good_sets checks.empty_set checks.not_within checks.sets_within checks.instruction_at decode allowed row is_service service_count service_at is_service_number has_owner owner_at jumpers_at writers_at readers_at owns may_jump may_store may_read reads in_memory member good_set inside ordered set_at pairs_at is_empty within all_from
beyond_services = refl

-- isolate whose J' has a pair that does not rise, behind one that does
pub wrong_pair : why (loaded (1 ∷ 0 ∷ 1 ∷ 2 ∷ 3 ∷ 4 ∷ 5 ∷ 5 ∷ []) (0 ∷ 0 ∷ 3 ∷ 0 ∷ []) 8 4096 (0 ∷ 0 ∷ 0 ∷ 0 ∷ 0 ∷ 0 ∷ 0 ∷ 0 ∷ []) (15 ∷ 15 ∷ 15 ∷ 15 ∷ 15 ∷ 15 ∷ 15 ∷ 15 ∷ []))
    ≡ told 8 2 2 6 0 5 0
unfolding why rows row_of bad_set set_fault fault_at first_set first_pair first_not checks.verdict checks.checks first_of checks.bad_form checks.lengths_differ checks.no_place checks.wrong_owner checks.no_arrival checks.no_instruction checks.stray_bit checks.load_outside checks.load_forbidden checks.store_outside checks.store_forbidden checks.halts checks.bad_sets checks.good_sets checks.instruction_at decode allowed row is_service service_count service_at is_service_number has_owner owner_at jumpers_at writers_at readers_at owns may_jump may_store may_read reads in_memory member good_set inside ordered set_at pairs_at is_empty within all_from
wrong_pair = refl
