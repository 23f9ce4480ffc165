-- The answer of a step as a nest of tests, by cases of what pc is at, as the code comes to it; TestedRows shows that it is the table's.
use Rattle.std.specs.Prelude.{Bool, cond, ◌&&◌, ◌||◌, not, ℕ, ltb, leb, eqb, length}
use Rattle.common.specs.Answers as answer
use Rattle.common.specs.Opcodes as is
use Rattle.common.specs.Words.{Decoded}
use Rattle.common.specs.Instructions.{reg}
use Rattle.common.specs.Services.{isolate, is_service, is_service_number}
use Rattle.common.specs.AddressSets.{is_empty}
use Rattle.rules.specs.Compartments.{numbers}
use Rattle.rules.specs.State.{State, first_number, in_memory, has_owner, owner_at, owns, may_jump, may_store, reads}
use Rattle.rules.specs.Checks.{instruction_at, set_a, good_sets, sets_within, returns}

-- ---- 14: what the state's form must be

-- in strict mode the readers too; the mode is an argument, as the loader does not look at the old record
unfoldable pub same_lengths : Bool → State → Bool
same_lengths strict s =
    eqb (length s.owners) (length s.words) && eqb (length s.jumpers) (length s.words) && eqb (length s.writers) (length s.words)
    && (not strict || eqb (length s.readers) (length s.words))

-- not "the four lent memories (words, owners, I, W) differ in length, or N is not 1 to 2,048 or is above that length"
unfoldable pub sized : State → Bool
sized s = same_lengths s.cpu.strict s && leb 1 s.cpu.n && leb s.cpu.n 2048 && leb s.cpu.n (length s.words)

-- not "next is not 4 to 64; or the pc number is not below next"; in strict mode "14 wants next from 5 to 64"
unfoldable pub numbered : State → Bool
numbered s = leb (first_number s.cpu.strict) s.cpu.next && leb s.cpu.next numbers && ltb s.cpu.prev s.cpu.next

-- not "it is 1, 2 or 3 while pc is a service address"; in strict mode "14 and 15 treat 4 as they treat 1 to 3"
unfoldable pub seated : State → Bool
seated s = not (is_service_number s.cpu.strict s.cpu.prev && is_service s.cpu.strict s.cpu.pc)

unfoldable pub formed : State → Bool
formed s = sized s && numbered s && seated s

-- ---- 15 and 4: the word at pc, and arrival

-- "the owner of the word at pc is 1, 2, 3 or not below next"
unfoldable pub bad_owner : State → Bool
bad_owner s = in_memory s s.cpu.pc && (is_service_number s.cpu.strict (owner_at s s.cpu.pc) || leb s.cpu.next (owner_at s s.cpu.pc))

-- "Allowed when pc's owner is the pc number, or the flag is jumped and the pc number is in I at pc"
unfoldable pub arrives : State → Bool
arrives s = eqb (owner_at s s.cpu.pc) s.cpu.prev || (s.cpu.jumped && may_jump s s.cpu.prev s.cpu.pc)

-- ---- 3, 16, 5, 17, 6, 7 and 1: at a memory word, which compartment c owns

-- the address that a Load or a Store names
abbrev pub target : State → Decoded → ℕ
target s i = reg s.cpu.regs i.a

-- "Store: 6 likewise, then 7 unless the owner of the instruction owns the target or is in the target's W"
unfoldable pub store_verdict : State → ℕ → ℕ → ℕ
store_verdict s c x = cond (in_memory s x) (cond (owns s c x || may_store s c x) answer.done answer.store_forbidden) answer.store_outside

-- "Load: 5 if the address is not below N"; "17 after 5 for an unreadable Load"
unfoldable pub load_verdict : State → ℕ → ℕ → ℕ
load_verdict s c x = cond (in_memory s x) (cond (reads s c x) answer.done answer.load_forbidden) answer.load_outside

-- "Halt answers 1"
unfoldable pub instruction_verdict : State → ℕ → Decoded → ℕ
instruction_verdict s c i =
    cond (eqb i.op is.load) (load_verdict s c (target s i))
    (cond (eqb i.op is.store) (store_verdict s c (target s i))
    (cond (eqb i.op is.halt) answer.halt answer.done))

-- "3 if it does not decode", or 16: the decoder's answer; "then the instruction"
unfoldable pub word_verdict : State → ℕ → Decoded → ℕ
word_verdict s c i = cond (eqb i.answer answer.done) (instruction_verdict s c i) i.answer

-- ---- 8 to 13: at a service, which compartment c called

-- "8 if .. Then 9 if A' is empty. Then 10 unless .. Then 12 unless .. Then 13 if next is 64"
unfoldable pub isolate_verdict : State → ℕ → ℕ
isolate_verdict s c =
    cond (good_sets s c)
    (cond (is_empty (set_a s)) answer.empty_set
    (cond (sets_within s c)
    (cond (returns s c) (cond (eqb s.cpu.next numbers) answer.no_number answer.done) answer.no_return)
    answer.not_within))
    answer.bad_set

-- "r1 is the address. 11 unless the caller owns it, then 12 unless the caller owns r15"
unfoldable pub add_verdict : State → ℕ → ℕ
add_verdict s c =
    cond (owns s c (reg s.cpu.regs 1)) (cond (owns s c (reg s.cpu.regs 15)) answer.done answer.no_return) answer.not_owned

unfoldable pub service_verdict : State → ℕ → ℕ
service_verdict s c = cond (eqb s.cpu.pc isolate) (isolate_verdict s c) (add_verdict s c)

-- ---- "One step, checks in this order"

unfoldable pub tested : State → ℕ
tested s =
    cond (formed s)
    (cond (has_owner s s.cpu.pc)
    (cond (bad_owner s) answer.bad_owner
    (cond (arrives s)
    (cond (in_memory s s.cpu.pc) (word_verdict s (owner_at s s.cpu.pc) (instruction_at s)) (service_verdict s s.cpu.prev))
    answer.no_arrival))
    answer.no_place)
    answer.bad_form
