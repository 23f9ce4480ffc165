-- Why a step answers its number: the answer, and for each answer the numbers that show its cause.
use Rattle.std.specs.Prelude.{Bool, false, cond, ◌&&◌, ◌||◌, not, List, [], ◌∷◌, ℕ, suc, ◌+◌, ◌-◌, ◌*◌, ◌%◌, max, ltb, leb, eqb, get_or, length}
use Rattle.common.specs.Answers as answer
use Rattle.common.specs.Opcodes as is
use Rattle.common.specs.Words.{row, op_of, a_of, b_of, low_of, pack}
use Rattle.common.specs.Instructions.{reg}
use Rattle.common.specs.AddressSets.{Pair, set_at, inside, ordered, within}
use Rattle.rules.specs.Compartments.{numbers}
use Rattle.rules.specs.State.{State, first_number, in_memory, has_owner, owner_at, owns, may_jump, may_store, may_read, reads}
use Rattle.rules.specs.Checks.{lengths_differ, owner, named, good_in, verdict}
use Rattle.reasons.specs.First.{first_not, first_out, first_disordered, first_set}

-- what is told; a number that says nothing of an answer is 0 there
pub record Why : Type 0 where
  -- what the step answers
  pub answer : ℕ
  -- 8, 9 and 10, which set: 1 A', 2 J', 3 S', 4 R'
  pub set : ℕ
  -- 8, 12 and 14: what is wrong
  pub fault : ℕ
  -- the address that the answer is about
  pub place : ℕ
  -- who owns that address
  pub owner : ℕ
  -- 3 and 16: the word; 5 and 6: N; 8: the word at the place; 13: 64
  pub value : ℕ
  -- 3 and 16: the bits of the word that its opcode leaves unused and that are not 0
  pub bits : ℕ

abbrev pub told : ℕ → ℕ → ℕ → ℕ → ℕ → ℕ → ℕ → Why
told a set fault place owner value bits = record { answer = a; set = set; fault = fault; place = place; owner = owner; value = value; bits = bits }

-- nothing to tell
abbrev pub plain : ℕ → Why
plain a = told a 0 0 0 0 0 0

-- ---- an address and who owns it

-- told in an owner's place where an address is neither a word nor a service
abbrev pub no_one : ℕ
no_one = numbers

unfoldable pub owner_or : State → ℕ → ℕ
owner_or s x = cond (has_owner s x) (owner_at s x) no_one

-- ---- 3 and 16

-- what of a field is above its largest value, which is all ones
abbrev pub beyond : ℕ → ℕ → ℕ
beyond x most = x - x % suc most

-- "An unused bit must be 0": those that are not; of an opcode that is none of the fourteen nothing is told
unfoldable pub stray_bits : ℕ → ℕ
stray_bits word =
    cond (ltb (op_of word) is.count)
    (pack 0 (beyond (a_of word) (row (op_of word)).a) (beyond (b_of word) (row (op_of word)).b) (beyond (low_of word) (row (op_of word)).low))
    0

abbrev pub word_at : State → ℕ → ℕ
word_at s x = get_or s.words x 0

-- ---- 8: which set, and what is wrong with it

abbrev pub outside : ℕ
outside = 1

abbrev pub disordered : ℕ
disordered = 2

abbrev pub unreadable : ℕ
unreadable = 3

-- the register that points at it has the set's number
abbrev pub pointer : State → ℕ → ℕ
pointer s r = reg s.cpu.regs r

abbrev pub set_by : State → ℕ → List Pair
set_by s r = set_at s.words (pointer s r)

-- how many words the set has, its count too
abbrev pub extent : State → ℕ → ℕ
extent s r = suc (2 * word_at s (pointer s r))

unfoldable pub set_fault : List ℕ → ℕ → ℕ → ℕ
set_fault words n q = cond (inside words n q) (cond (ordered (set_at words q)) unreadable disordered) outside

-- of the set at q its first word that is outside memory, begins a pair with first >= past, or may not be read
unfoldable pub fault_at : List ℕ → ℕ → (ℕ → Bool) → ℕ → ℕ
fault_at words n reads q =
    cond (inside words n q)
    (cond (ordered (set_at words q)) (first_not reads q (suc (2 * get_or words q 0))) (q + 1 + 2 * first_disordered (set_at words q)))
    (max q n)

unfoldable pub bad_set : State → ℕ
bad_set s = first_set (good_in s s.cpu.prev)

-- ---- 10: which set, and which address

-- "A' is within A, J' within A or J, S' within A or S", "R' within A or R": what compartment c may hand over in set r
unfoldable pub may_give : State → ℕ → ℕ → ℕ → Bool
may_give s c r x =
    owns s c x || cond (eqb r 1) false (cond (eqb r 2) (may_jump s c x) (cond (eqb r 3) (may_store s c x) (may_read s c x)))

unfoldable pub wide_set : State → ℕ
wide_set s = first_set (λ r. within (set_by s r) (may_give s s.cpu.prev r))

unfoldable pub out_at : State → ℕ → ℕ → ℕ
out_at s c r = first_out (may_give s c r) (set_by s r)

-- ---- 12: the caller's own word is taken away by A', or it is not the caller's own word

abbrev pub not_own : ℕ
not_own = 1

abbrev pub taken : ℕ
taken = 2

unfoldable pub return_fault : State → ℕ
return_fault s = cond (in_memory s (pointer s 15) && owns s s.cpu.prev (pointer s 15)) taken not_own

-- ---- 14: the first part of the form that is not in order

abbrev pub lengths : ℕ
lengths = 1

abbrev pub size : ℕ
size = 2

abbrev pub numbering : ℕ
numbering = 3

abbrev pub number : ℕ
number = 4

abbrev pub seat : ℕ
seat = 5

unfoldable pub form_fault : State → ℕ
form_fault s =
    cond (lengths_differ s.cpu.strict s) lengths
    (cond (leb 1 s.cpu.n && leb s.cpu.n 2048 && leb s.cpu.n (length s.words))
    (cond (leb (first_number s.cpu.strict) s.cpu.next && leb s.cpu.next 64) (cond (ltb s.cpu.prev s.cpu.next) seat number) numbering)
    size)

-- ---- the table: a row for each answer that has something to tell

abbrev pub about_word : State → ℕ → Why
about_word s a = told a 0 0 s.cpu.pc 0 (word_at s s.cpu.pc) (stray_bits (word_at s s.cpu.pc))

abbrev pub about_size : State → ℕ → Why
about_size s a = told a 0 0 (named s) 0 s.cpu.n 0

abbrev pub about_target : State → ℕ → Why
about_target s a = told a 0 0 (named s) (owner s (named s)) 0 0

abbrev pub about_set : State → ℕ → Why
about_set s r =
    let x = fault_at s.words s.cpu.n (reads s s.cpu.prev) (pointer s r) in
    told answer.bad_set r (set_fault s.words s.cpu.n (pointer s r)) x 0 (word_at s x) 0

abbrev pub about_gift : State → ℕ → Why
about_gift s r = told answer.not_within r 0 (out_at s s.cpu.prev r) (owner_or s (out_at s s.cpu.prev r)) 0 0

unfoldable pub rows : State → List Why
rows s =
    told answer.no_place 0 0 s.cpu.pc 0 0 0
    ∷ about_word s answer.no_instruction
    ∷ about_word s answer.stray_bit
    ∷ told answer.no_arrival 0 0 s.cpu.pc (owner_at s s.cpu.pc) 0 0
    ∷ about_size s answer.load_outside
    ∷ about_size s answer.store_outside
    ∷ about_target s answer.store_forbidden
    ∷ about_target s answer.load_forbidden
    ∷ about_set s (bad_set s)
    ∷ told answer.empty_set 1 0 (pointer s 1) 0 0 0
    ∷ about_gift s (wide_set s)
    ∷ told answer.not_owned 0 0 (pointer s 1) (owner_or s (pointer s 1)) 0 0
    ∷ told answer.no_return 0 (return_fault s) (pointer s 15) (owner_or s (pointer s 15)) 0 0
    ∷ told answer.no_number 0 0 0 0 numbers 0
    ∷ told answer.bad_form 0 (form_fault s) 0 0 0 0
    ∷ told answer.bad_owner 0 0 s.cpu.pc (owner s s.cpu.pc) 0 0
    ∷ []

-- the row of an answer
unfoldable pub row_of : ℕ → List Why → Why
row_of a [] = plain a
row_of a (w ∷ ws) = cond (eqb a w.answer) w (row_of a ws)

unfoldable pub why : State → Why
why s = row_of (verdict s) (rows s)
