-- Request 2026-07: what strict mode is for, and the sheet's mode spelled; every other claim is stated of either mode where it stands.
use Rattle.std.specs.Prelude.{◌≡◌, true, false, ◌&&◌, ◌||◌, List, ◌⊎◌, ℕ, ltb, leb}
use Rattle.std.proofs.Common.{inl, inr, ⊎_elim}
use Rattle.common.specs.Opcodes as is_op_lem
use Rattle.common.specs.Instructions.{reg}
use Rattle.common.specs.Services.{service_count, is_service, is_service_number}
use Rattle.common.specs.AddressSets.{in_set}
use Rattle.paper.specs.Abstract as paper
use Rattle.paper.proofs.Theorems.Property as property
use Rattle.rules.specs.Compartments.{empty, insert, service_numbers}
use Rattle.rules.specs.State.{State, first_number, in_memory, owner_at, owns, may_read}
use Rattle.rules.specs.Checks.{instruction_at, named, set_r}
use Rattle.rules.specs.Step.{step}
use Rattle.rules.specs.Run.{run}
use Rattle.rules.specs.Images.{load}
use Rattle.rules.proofs.Theorems.Readers as readers
use Rattle.rules.proofs.Theorems.Sheet as sheet
use Rattle.rules.proofs.Theorems.Unread as unread

-- ---- strict mode, of any state

-- a Load that ran read a word below N that the owner of the instruction owned, or was a reader of, before the step
pub load_read : (s : State) → s.cpu.strict ≡ true → (step s).answer ≡ 0 → in_memory s s.cpu.pc ≡ true → (instruction_at s).op ≡ is_op_lem.load
    → (in_memory s (named s) ≡ true)
    × ((owns s (owner_at s s.cpu.pc) (named s) || may_read s (owner_at s s.cpu.pc) (named s)) ≡ true)
load_read = readers.load_read

-- who becomes a reader, and by whose call: c may read x after a step and could not before only where c added itself to a word of its own,
-- or where c is the compartment that was made, and its maker, who owned x or was a reader there, put x in R'
pub new_reader : (s : State) (c x : ℕ) → may_read (step s).state c x ≡ true
    → (may_read s c x ≡ true)
    ⊎ (((c ≡ s.cpu.prev) × (x ≡ reg s.cpu.regs 1) × (owns s s.cpu.prev x ≡ true))
    ⊎ ((c ≡ s.cpu.next) × (in_set (set_r s) x ≡ true) × ((owns s s.cpu.prev x || may_read s s.cpu.prev x) ≡ true)))
new_reader s c x h = ⊎_elim inl (λ n. inr (spelled n)) (readers.new_reader s c x h)
  where
    spelled : readers.NewReader s c x
        → ((c ≡ s.cpu.prev) × (x ≡ reg s.cpu.regs 1) × (owns s s.cpu.prev x ≡ true))
        ⊎ ((c ≡ s.cpu.next) × (in_set (set_r s) x ≡ true) × ((owns s s.cpu.prev x || may_read s s.cpu.prev x) ≡ true))
    spelled (readers.added a b d) = inl (a, b, d)
    spelled (readers.given a b d) = inr (a, b, d)

-- the same of the abstract machine: a Load that runs reads its own compartment or its read targets
pub reading : (a : paper.State) → a.fenced ≡ true → paper.verdict a ≡ 0 → paper.in_memory a a.pc ≡ true → (paper.instruction_at a).op ≡ is_op_lem.load
    → (paper.A-of a (paper.current a) (paper.target a (paper.instruction_at a)) || paper.R-of a (paper.current a) (paper.target a (paper.instruction_at a))) ≡ true
reading = property.reading

-- ---- the sheet's mode: three services, numbers from 4 on, I of every word {1, 2, 3} after loading

pub numbers : (service_count false ≡ 3) × (first_number false ≡ 4) × (service_numbers false ≡ insert (insert (insert empty 1) 2) 3)
    × ((x : ℕ) → is_service false x ≡ (leb 4096 x && ltb x 4099)) × ((c : ℕ) → is_service_number false c ≡ (leb 1 c && leb c 3))
numbers = let n = sheet.numbers in (n.count, n.first, n.set, n.place, n.number)

-- the fifth memory is neither looked at nor changed, whatever the state and whatever its length:
-- with any other in its place a load, a step and a run give the same answer, count, record, words, owners, I and W, and leave that other as it was
abbrev instead : State → List ℕ → State
instead s others = record { cpu = s.cpu; words = s.words; owners = s.owners; jumpers = s.jumpers; writers = s.writers; readers = others }

pub load_unread : (bytes : List ℕ) (old : State) (others : List ℕ)
    → load false bytes (instead old others) ≡ record { answer = (load false bytes old).answer; state = instead (load false bytes old).state others }
load_unread = unread.load_unread

pub step_unread : (s : State) → s.cpu.strict ≡ false → (others : List ℕ)
    → step (instead s others) ≡ record { answer = (step s).answer; state = instead (step s).state others }
step_unread = unread.step_unread

pub run_unread : (budget : ℕ) (s : State) → s.cpu.strict ≡ false → (others : List ℕ)
    → run budget (instead s others) ≡ record { answer = (run budget s).answer; state = instead (run budget s).state others; count = (run budget s).count }
run_unread = unread.run_unread
