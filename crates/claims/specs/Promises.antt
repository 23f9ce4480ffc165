-- The sheet's promises, of the rules: the lines marked P, each number on its condition, a run's budget and count, places from N on; the four idle programs.
use Rattle.std.specs.Prelude.{◌≡◌, Bool, true, false, cond, ◌&&◌, not, List, [], ◌∷◌, ◌↔◌, ℕ, suc, ◌+◌, ◌*◌, ◌≤◌, ◌<◌, ltb, leb, eqb, length}
use Rattle.common.specs.Opcodes as is
use Rattle.common.specs.Words.{instruction, none, op_of, a_of, b_of, low_of, decode, encode}
use Rattle.common.proofs.Laws.WordLaws as words
use Rattle.common.proofs.Laws.WordLaws.{Allowed, Above, Outside}
use Rattle.common.specs.Instructions.{forward, back, offset, reg}
use Rattle.common.specs.AddressSets.{is_empty, in_set}
use Rattle.rules.specs.State.{State}
use Rattle.rules.specs.Checks.{set_a, good_sets, sets_within, returns}
use Rattle.rules.specs.Step.{step}
use Rattle.rules.specs.Run.{run}
use Rattle.rules.specs.Images.{field, whole, size_in, registers_at, registers_in, entry_at, entry_in, entry_checks, last_zero, register_checks, image_checks, load_checks, load, image_bytes, write_checks, write}
use Rattle.rules.proofs.Examples.Lines.{At, TagsAsLoaded, Called, table, All}
use Rattle.rules.proofs.Examples.LineProofs.{lines}
use Rattle.common.specs.Tables.{on, Exactly, NoneHolds}
use Rattle.rules.specs.Checks as of
use Rattle.rules.proofs.Theorems.Numbers as numbers
use Rattle.rules.proofs.Theorems.ImageNumbers as image_numbers
use Rattle.rules.proofs.Theorems.Additive as additive
use Rattle.rules.proofs.Theorems.Counted as counts
use Rattle.rules.proofs.Theorems.Grows as grows
use Rattle.rules.proofs.Laws.FormLaws.{Lent}
use Rattle.rules.proofs.Theorems.Rest.{Kept}
use Rattle.rules.proofs.Theorems.Rest as rest
use Rattle.rules.proofs.Theorems.Alike.{Alike, AlikeRuns}
use Rattle.rules.proofs.Theorems.Alike as alike

-- ==== "The P lines are proved of the rules as a single table under one claim"

pub p_lines : All table
p_lines = lines

-- the same eight rows spelled out. At s w: w is at pc, and 14, 2, 15 and 4 pass; Called s: pc is at isolate, and 14, 4, 8,
-- 9 and 10 pass
pub p_lines_spelled :
    ((decode 0x01200007 ≡ instruction is.const 2 0 7) × (decode 0x00000007 ≡ none 16))
    × ((decode 0x0C10FFFF ≡ instruction is.bnz 1 0 0xFFFF) × (offset 0xFFFF ≡ back 1)
    × (decode 0x0C107FFF ≡ instruction is.bnz 1 0 0x7FFF) × (offset 0x7FFF ≡ forward 32767)
    × (decode 0x0C108000 ≡ instruction is.bnz 1 0 0x8000) × (offset 0x8000 ≡ back 32768))
    × ((decode 0x0D000000 ≡ instruction is.halt 0 0 0) × (decode 0x0E000000 ≡ none 3))
    × ((decode 0x03120003 ≡ instruction is.add 1 2 3) × (decode 0x03120013 ≡ none 16))
    × ((s : State) → length s.cpu.regs ≡ 16 → reg s.cpu.regs 1 ≡ 4294967295 → reg s.cpu.regs 2 ≡ 1
    → (At s 0x03120003 → ((step s).answer ≡ 0) × (reg (step s).state.cpu.regs 3 ≡ 0))
    × (At s 0x07120003 → ((step s).answer ≡ 0) × (reg (step s).state.cpu.regs 3 ≡ 0)))
    × ((s : State) → At s 0x0C10FFFF → s.cpu.pc ≡ 0 → (reg s.cpu.regs 1 ≡ 0 → ⊥)
    → ((step s).answer ≡ 0) × ((step s).state.cpu.pc ≡ 4294967295) × ((step (step s).state).answer ≡ 2))
    × ((s : State) (word k : ℕ) → At s word → decode word ≡ instruction is.jump k 0 0 → reg s.cpu.regs k ≡ 4096 → TagsAsLoaded s
    → good_sets s 0 ≡ true → is_empty (set_a s) ≡ false → sets_within s 0 ≡ true → in_set (set_a s) 0 ≡ false
    → (reg s.cpu.regs 15 ≡ 0
    → ((run 2 s).answer ≡ 0) × ((run 2 s).count ≡ 2) × ((run 2 s).state.cpu.pc ≡ 0) × (of.no_arrival (run 2 s).state ≡ false))
    × (reg s.cpu.regs 15 ≡ 4096 → ((run 2 s).answer ≡ 12) × ((run 2 s).count ≡ 1)))
    × ((s : State) → Called s → returns s s.cpu.prev ≡ true
    → (s.cpu.next ≡ 63 → ((step s).answer ≡ 0) × ((step s).state.cpu.next ≡ 64)) × (s.cpu.next ≡ 64 → (step s).answer ≡ 13))
p_lines_spelled =
    (lines.0, lines.1.0, lines.1.1.0, lines.1.1.1.0, lines.1.1.1.1.0, lines.1.1.1.1.1.0, lines.1.1.1.1.1.1.0, lines.1.1.1.1.1.1.1.0)

-- ==== "each number being given exactly on its condition": a check with that number holds, and none before it in the list

pub step_number : (s : State) (k : ℕ) → (k ≡ 0 → ⊥)
    → ((step s).answer ≡ k)
    ↔ Exactly (
    on 14 (of.bad_form s)
    ∷ on 2 (of.no_place s)
    ∷ on 15 (of.wrong_owner s)
    ∷ on 4 (of.no_arrival s)
    ∷ on 3 (of.no_instruction s)
    ∷ on 16 (of.stray_bit s)
    ∷ on 5 (of.load_outside s)
    ∷ on 17 (of.load_forbidden s)
    ∷ on 6 (of.store_outside s)
    ∷ on 7 (of.store_forbidden s)
    ∷ on 1 (of.halts s)
    ∷ on 8 (of.bad_sets s)
    ∷ on 9 (of.empty_set s)
    ∷ on 10 (of.not_within s)
    ∷ on 11 (of.not_owned s)
    ∷ on 12 (of.no_return s)
    ∷ on 13 (of.no_number s)
    ∷ []
    ) k
unfolding of.checks
step_number = numbers.step_number

-- 0 where no check of that list holds
pub step_done : (s : State) → ((step s).answer ≡ 0) ↔ NoneHolds (of.checks s)
step_done = numbers.step_done

pub load_number : (m : Bool) (bytes : List ℕ) (old : State) (k : ℕ) → (k ≡ 0 → ⊥)
    → ((load m bytes old).answer ≡ k)
    ↔ Exactly (
    on 27 (of.lengths_differ m old)
    ∷ on 20 (not (whole bytes 0 1))
    ∷ on 21 (not (leb 1 (size_in bytes) && leb (size_in bytes) 2048))
    ∷ on 28 (not (leb (size_in bytes) (length old.words)))
    ∷ on 20 (not (whole bytes 4 (size_in bytes)))
    ∷ on 20 (not (whole bytes (registers_at bytes) 1))
    ∷ on 22 (not (leb (registers_in bytes) 16))
    ∷ on 20 (not (whole bytes (registers_at bytes + 4) (registers_in bytes)))
    ∷ on 23 (not (eqb (registers_in bytes) 0) && eqb (field bytes (registers_at bytes + 4 * registers_in bytes)) 0)
    ∷ on 20 (not (whole bytes (entry_at bytes) 1))
    ∷ on 24 (not (eqb (field bytes (entry_at bytes)) 1))
    ∷ on 20 (not (whole bytes (entry_at bytes) 2))
    ∷ on 25 (not (ltb (entry_in bytes) (size_in bytes)))
    ∷ on 26 (not (eqb (length bytes) (entry_at bytes + 8)))
    ∷ []
    ) k
unfolding load_checks image_checks register_checks entry_checks last_zero
load_number = image_numbers.load_number

pub load_done : (m : Bool) (bytes : List ℕ) (old : State) → ((load m bytes old).answer ≡ 0) ↔ NoneHolds (load_checks m bytes old)
load_done = image_numbers.load_done

pub write_number : (words regs : List ℕ) (entry : ℕ) (out : List ℕ) (k : ℕ) → (k ≡ 0 → ⊥)
    → ((write words regs entry out).answer ≡ k)
    ↔ Exactly (
    on 21 (not (leb 1 (length words) && leb (length words) 2048))
    ∷ on 25 (not (ltb entry (length words)))
    ∷ on 31 (not (leb (length (image_bytes words regs entry)) (length out)))
    ∷ []
    ) k
unfolding write_checks
write_number = image_numbers.write_number

pub write_done : (words regs : List ℕ) (entry : ℕ) (out : List ℕ) → ((write words regs entry out).answer ≡ 0) ↔ NoneHolds (write_checks words regs entry out)
write_done = image_numbers.write_done

-- Above: a field is above the largest value that its row of the table has, 0 where it is unused: a bit is set that the opcode does not use;
-- Outside: that, or the opcode is above 13; Allowed: neither
pub decode_numbers : (word : ℕ)
    → (((decode word).answer ≡ 3) ↔ (13 < op_of word))
    × (((decode word).answer ≡ 16) ↔ ((op_of word < 14) × Above (op_of word) (a_of word) (b_of word) (low_of word)))
    × (((decode word).answer ≡ 0) ↔ Allowed (op_of word) (a_of word) (b_of word) (low_of word))
decode_numbers word = (words.decode_3 word, words.decode_16 word, words.decode_0 word)

pub encode_numbers : (op a b low : ℕ)
    → (((encode op a b low).answer ≡ 30) ↔ Outside op a b low) × (((encode op a b low).answer ≡ 0) ↔ Allowed op a b low)
encode_numbers op a b low = (words.encode_30 op a b low, words.encode_0 op a b low)

-- ==== "A run with a budget"

-- "Budget 0 looks at nothing and answers 0 with count 0"
pub budget_0 : (s : State) → run 0 s ≡ record { answer = 0; state = s; count = 0 }
budget_0 = additive.run_zero

-- "A run of m + n steps equals m, then n if the first answered 0, the counts added"
pub budgets_add : (m n : ℕ) (s : State)
    → run (m + n) s
    ≡ cond (eqb (run m s).answer 0)
    (record { answer = (run n (run m s).state).answer; state = (run n (run m s).state).state; count = (run m s).count + (run n (run m s).state).count })
    (run m s)
unfolding additive.and_then
budgets_add = additive.run_adds

-- "the count is the number of steps answering 0 and the state is that after them": so many steps all ran, and left that
-- state
pub counted : (budget : ℕ) (s : State)
    → ((run budget s).count ≤ budget)
    × (run (run budget s).count s ≡ record { answer = 0; state = (run budget s).state; count = (run budget s).count })
counted = counts.counted

-- a budget that is used was used in steps
pub used : (budget : ℕ) (s : State) → (run budget s).answer ≡ 0 → (run budget s).count ≡ budget
used = counts.used

-- "Numbers are never used again"
pub next_never_falls : (budget : ℕ) (s : State) → s.cpu.next ≤ (run budget s).state.cpu.next
next_never_falls = grows.run_next_never_falls

pub next_grows : (s : State) → ((step s).state.cpu.next ≡ suc s.cpu.next) ↔ (((step s).answer ≡ 0) × (s.cpu.pc ≡ 4096))
next_grows = grows.next_grows_iff

-- ==== "the memories lent may be longer, and no step reads or changes a place from N on"

-- changed: any state, whatever its form and the answer; any number of steps. Kept: each memory is as long as it was, and the same from
-- place N on
pub nothing_changed : (budget : ℕ) (s : State) → Kept s (run budget s).state
nothing_changed = rest.run_keeps_rest

-- read: Alike, one record over two sets of memories that agree below N, each of one length of its own (Lent); they give the same answer
-- and count, and are alike again
pub nothing_read : (budget : ℕ) (s t : State) → Lent s → Lent t → Alike s t → AlikeRuns (run budget s) (run budget t)
nothing_read = alike.run_alike

-- ==== "Four idle programs have to be turned away". None meets its contract: a contract has one outcome (`step_once`, `run_once`,
-- `load_once` in Once.Machine), and that outcome is what the rules say (`by_value` and `for_c` in Code):
--
-- 1. One that stops or refuses always: `agree` in CodeAgreement gives the answers of the abstract machine, which goes on wherever
--    the paper's rules do; `step_done` and `load_done` in CodeRefusals give 0 wherever no condition holds.
-- 2. One that answers the same always: `step_number` in CodeRefusals, two ways; the lines `p_lines` have steps that answer 0, 2, 12
--    and 13.
-- 3. One that moves nothing: `steps` of Code, whose state is the rules'; rows 5 to 8 of `p_lines` have a register, pc and next that
--    move.
-- 4. A run that steps once and then only counts, or makes its count up: `counted` and `used` in CodeSteps: the count is that of the
--    steps that answered 0, and the state is that after them.
