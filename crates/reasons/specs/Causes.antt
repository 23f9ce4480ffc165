-- What the told numbers must be to show the cause of an answer, answer by answer.
use Rattle.std.specs.Prelude.{◌≡◌, Bool, true, false, ◌&&◌, ◌||◌, ◌⊎◌, ℕ, ◌+◌, ◌*◌, ◌≤◌, ◌<◌, leb, get_or, length}
use Rattle.common.specs.Opcodes as is
use Rattle.common.specs.Words.{op_of}
use Rattle.common.specs.Services.{isolate, is_service, is_service_number}
use Rattle.common.specs.AddressSets.{inside, ordered, in_set, within}
use Rattle.rules.specs.Compartments.{member, empty}
use Rattle.rules.specs.State.{State, first_number, in_memory, owner_at, jumpers_at, owns, reads}
use Rattle.rules.specs.Checks.{lengths_differ, owner, instruction_at, named, good_in}
use Rattle.rules.proofs.Theorems.Worded.{AtAdd}
use Rattle.reasons.specs.Why.{Why, owner_or, stray_bits, word_at, pointer, set_by, extent, may_give, outside, disordered, unreadable, not_own, taken, lengths, size, numbering, number, seat}

module _ (s : State) (w : Why) where
  -- 2
  pub record NoPlace : Type 0 where
    pub place : w.place ≡ s.cpu.pc
    pub no_word : s.cpu.n ≤ w.place
    pub no_service : is_service s.cpu.strict w.place ≡ false

  -- 3 and 16: the word at pc, and its bits that its opcode leaves unused
  pub record WordAtPc : Type 0 where
    pub place : w.place ≡ s.cpu.pc
    pub there : w.place < s.cpu.n
    pub value : w.value ≡ word_at s w.place
    pub bits : w.bits ≡ stray_bits w.value

  -- 3: the opcode is none of the fourteen
  pub record NoInstruction : Type 0 where
    pub word : WordAtPc
    pub unknown : is.count ≤ op_of w.value

  -- 16: it is one of them, and a bit is set that it leaves unused
  pub record StrayBit : Type 0 where
    pub word : WordAtPc
    pub known : op_of w.value < is.count
    pub stray : 0 < w.bits

  -- 4: pc is another's, and no jump that is allowed came there
  pub record NoArrival : Type 0 where
    pub place : w.place ≡ s.cpu.pc
    pub whose : w.owner ≡ owner_at s w.place
    pub another : w.owner ≡ s.cpu.prev → ⊥
    pub no_jump : (s.cpu.jumped && member (jumpers_at s w.place) s.cpu.prev) ≡ false

  -- 5, by a Load, and 6, by a Store: the address is not below N
  pub record Outside (op : ℕ) : Type 0 where
    pub there : s.cpu.pc < s.cpu.n
    pub instruction : (instruction_at s).op ≡ op
    pub place : w.place ≡ named s
    pub value : w.value ≡ s.cpu.n
    pub above : w.value ≤ w.place

  -- 17, by a Load, and 7, by a Store: the target is another's, and the set there, of readers or of writers, does not have the storing or
  -- loading compartment
  pub record Forbidden (op : ℕ) (granted : ℕ → ℕ) : Type 0 where
    pub there : s.cpu.pc < s.cpu.n
    pub instruction : (instruction_at s).op ≡ op
    pub place : w.place ≡ named s
    pub whose : w.owner ≡ owner s w.place
    pub another : w.owner ≡ owner s s.cpu.pc → ⊥
    pub not_granted : member (granted w.place) (owner s s.cpu.pc) ≡ false

  -- 8: a word of the set is not inside memory
  pub record OutsideWord : Type 0 where
    pub above : s.cpu.n ≤ w.place
    pub from : pointer s w.set ≤ w.place
    pub below : w.place < pointer s w.set + extent s w.set

  -- or the set is inside, and the word begins the first pair that has first >= past
  pub record WrongPair : Type 0 where
    pub whole : inside s.words s.cpu.n (pointer s w.set) ≡ true
    pub index : ℕ
    pub place : w.place ≡ pointer s w.set + 1 + 2 * index
    pub counted : index < word_at s (pointer s w.set)
    pub wrong : word_at s (w.place + 1) ≤ word_at s w.place
    pub before : (j : ℕ) → j < index → word_at s (pointer s w.set + 1 + 2 * j) < word_at s (pointer s w.set + 1 + 2 * j + 1)

  -- or its pairs are in order too, and the word is the first that the caller may not read
  pub record UnreadWord : Type 0 where
    pub whole : inside s.words s.cpu.n (pointer s w.set) ≡ true
    pub rises : ordered (set_by s w.set) ≡ true
    pub from : pointer s w.set ≤ w.place
    pub below : w.place < pointer s w.set + extent s w.set
    pub not_read : reads s s.cpu.prev w.place ≡ false
    pub before : (x : ℕ) → pointer s w.set ≤ x → x < w.place → reads s s.cpu.prev x ≡ true

  pub data BadWord : Type 0 where
    out_of_memory : w.fault ≡ outside → OutsideWord → BadWord
    wrong_pair : w.fault ≡ disordered → WrongPair → BadWord
    not_readable : w.fault ≡ unreadable → UnreadWord → BadWord

  -- one of the sets that the mode has, those before it passing the test
  pub record OneSet (test : ℕ → Bool) : Type 0 where
    pub first : 1 ≤ w.set
    pub last : w.set ≤ 4
    pub fourth : w.set ≡ 4 → s.cpu.strict ≡ true
    pub before : (r : ℕ) → 1 ≤ r → r < w.set → test r ≡ true

  pub record BadSet : Type 0 where
    pub called : s.cpu.pc ≡ isolate
    pub one : OneSet (good_in s s.cpu.prev)
    pub word : BadWord
    pub value : w.value ≡ word_at s w.place

  -- 9: A' has no pair
  pub record EmptySet : Type 0 where
    pub called : s.cpu.pc ≡ isolate
    pub set : w.set ≡ 1
    pub place : w.place ≡ pointer s 1
    pub no_pairs : word_at s w.place ≡ 0

  -- 10: the sets before it are within reach; this one has an address that the caller may not give
  pub record OutOfReach : Type 0 where
    pub called : s.cpu.pc ≡ isolate
    pub one : OneSet (λ r. within (set_by s r) (may_give s s.cpu.prev r))
    pub named : in_set (set_by s w.set) w.place ≡ true
    pub not_given : may_give s s.cpu.prev w.set w.place ≡ false
    pub whose : w.owner ≡ owner_or s w.place

  -- 11
  pub record NotOwned : Type 0 where
    pub called : AtAdd s
    pub place : w.place ≡ pointer s 1
    pub whose : w.owner ≡ owner_or s w.place
    pub another : owns s s.cpu.prev w.place ≡ false

  -- 12: r15 is not a word of the caller's, or A' takes it away; at an add it is not the caller's
  pub data LostWord : Type 0 where
    not_callers : w.fault ≡ not_own → s.cpu.pc ≡ isolate → (in_memory s w.place && owns s s.cpu.prev w.place) ≡ false → LostWord
    not_adders : w.fault ≡ not_own → AtAdd s → owns s s.cpu.prev w.place ≡ false → LostWord
    taken_away : w.fault ≡ taken → s.cpu.pc ≡ isolate → in_set (set_by s 1) w.place ≡ true → LostWord

  pub record NoReturn : Type 0 where
    pub place : w.place ≡ pointer s 15
    pub whose : w.owner ≡ owner_or s w.place
    pub lost : LostWord

  -- 13
  pub record NoNumber : Type 0 where
    pub called : s.cpu.pc ≡ isolate
    pub value : w.value ≡ s.cpu.next
    pub all_used : w.value ≡ 64

  -- 14: the first part that is not in order
  pub data BadForm : Type 0 where
    not_alike : w.fault ≡ lengths → lengths_differ s.cpu.strict s ≡ true → BadForm
    not_sized : w.fault ≡ size → (s.cpu.n ≡ 0) ⊎ ((2048 < s.cpu.n) ⊎ (length s.words < s.cpu.n)) → BadForm
    not_numbered : w.fault ≡ numbering → (s.cpu.next < first_number s.cpu.strict) ⊎ (64 < s.cpu.next) → BadForm
    not_below : w.fault ≡ number → s.cpu.next ≤ s.cpu.prev → BadForm
    not_seated : w.fault ≡ seat → is_service_number s.cpu.strict s.cpu.prev ≡ true → is_service s.cpu.strict s.cpu.pc ≡ true → BadForm

  -- 15
  pub record BadOwner : Type 0 where
    pub place : w.place ≡ s.cpu.pc
    pub there : w.place < s.cpu.n
    pub whose : w.owner ≡ owner s w.place
    pub wrong : (is_service_number s.cpu.strict w.owner || leb s.cpu.next w.owner) ≡ true
