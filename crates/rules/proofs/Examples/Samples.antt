-- Image one and image two of the sheet, 60 isolates, and in strict mode a Load refused and granted and 59 isolates: on both machines by computation.
use Rattle.std.specs.Prelude.{◌≡◌, refl, Bool, true, false, List, [], ◌∷◌, ℕ, replicate, length}
use Rattle.common.specs.Answers as answer
use Rattle.common.specs.Tables.{first_of}
use Rattle.common.specs.Words.{row, allowed, decode}
use Rattle.common.specs.Instructions.{bit, arithmetic, branch, pc_after, regs_after, words_after, jumps}
use Rattle.common.specs.Services.{isolate, service_count, is_service, service_at, is_service_number}
use Rattle.common.specs.AddressSets.{pairs_at, set_at, inside, ordered, good_set, is_empty, in_set, all_from, within}
use Rattle.paper.specs.Abstract as paper
use Rattle.rules.specs.Compartments.{member, insert, up_to, service_numbers, main_alone}
use Rattle.rules.specs.State.{State, first_number, in_memory, has_owner, owner_at, jumpers_at, writers_at, readers_at, owns, may_jump, may_store, may_read, reads}
use Rattle.rules.specs.Checks as checks
use Rattle.rules.specs.Step as step
use Rattle.rules.specs.Run.{Ran, run}
use Rattle.rules.specs.Images.{field, fields, entry_checks, last_zero, register_checks, image_checks, load_checks, blank, loaded, not_loaded, load_verdict, load, all_bytes, section, listed, image_bytes}
use Rattle.rules.proofs.BothMachines.Agreement.{tagged, abstract}

-- "The Store puts 7 over the Halt, and 00000007 does not decode"
abbrev pub image_one : List ℕ
image_one = 0x01100003 ∷ 0x01200007 ∷ 0x09120000 ∷ 0x0D000000 ∷ []

-- "13 words: Const 9 r1, Const 8 r2, Const 8 r3, Const 4096 r4, Jal r4, Const 12 r5, Store r5 r1, Halt, then 0, 1, 12, 13, Halt"
abbrev pub image_two : List ℕ
image_two =
    0x01100009 ∷ 0x01200008 ∷ 0x01300008 ∷ 0x01401000 ∷ 0x0B400000 ∷ 0x0150000C ∷ 0x09510000 ∷ 0x0D000000 ∷ 0 ∷ 1 ∷ 12 ∷ 13 ∷ 0x0D000000 ∷ []

-- a loop that isolates the words from 20 on, one after the other: r1 points at a set of one address, which the loop moves on
abbrev pub image_many : List ℕ
image_many =
    0x01100010 ∷ 0x01200013 ∷ 0x01300013 ∷ 0x01401000 ∷ 0x01600001 ∷ 0x01700011 ∷ 0x01800012 ∷ 0x01900008 ∷ 0x0B400000 ∷ 0x087A0000 ∷ 0x03A6000A
    ∷ 0x097A0000 ∷ 0x088A0000 ∷ 0x03A6000A ∷ 0x098A0000 ∷ 0x0A900000 ∷ 1 ∷ 20 ∷ 21 ∷ 0 ∷ replicate 62 0

-- the same with 4096 in r5, as strict mode takes R' from r4
abbrev pub image_many_strict : List ℕ
image_many_strict =
    0x01100011 ∷ 0x01200014 ∷ 0x01300014 ∷ 0x01400014 ∷ 0x01501000 ∷ 0x01600001 ∷ 0x01700012 ∷ 0x01800013 ∷ 0x01900009 ∷ 0x0B500000 ∷ 0x087A0000 ∷ 0x03A6000A
    ∷ 0x097A0000 ∷ 0x088A0000 ∷ 0x03A6000A ∷ 0x098A0000 ∷ 0x0A900000 ∷ 1 ∷ 21 ∷ 22 ∷ 0 ∷ replicate 62 0

-- isolates the word at 13, a reagent maker's, then loads it
abbrev pub image_refused : List ℕ
image_refused =
    0x0110000A ∷ 0x01200009 ∷ 0x01300009 ∷ 0x01400009 ∷ 0x01501000 ∷ 0x0B500000 ∷ 0x0160000D ∷ 0x08670000 ∷ 0x0D000000 ∷ 0 ∷ 1 ∷ 13 ∷ 14 ∷ 0x0D000000 ∷ []

-- adds the word at 16 as a read target before
abbrev pub image_granted : List ℕ
image_granted =
    0x01100010 ∷ 0x01501003 ∷ 0x0B500000 ∷ 0x0110000D ∷ 0x0120000C ∷ 0x0130000C ∷ 0x0140000C ∷ 0x01501000 ∷ 0x0B500000 ∷ 0x01600010 ∷ 0x08670000 ∷ 0x0D000000
    ∷ 0 ∷ 1 ∷ 16 ∷ 17 ∷ 0x0D000000 ∷ []

-- no registers, entry 0
abbrev bytes : List ℕ → List ℕ
bytes words = image_bytes words (replicate 16 0) 0

-- image one byte by byte, so that the order of bytes does not rest on writer and reader agreeing
abbrev one_bytes : List ℕ
one_bytes =
    4 ∷ 0 ∷ 0 ∷ 0 ∷ 0x03 ∷ 0x00 ∷ 0x10 ∷ 0x01 ∷ 0x07 ∷ 0x00 ∷ 0x20 ∷ 0x01 ∷ 0x00 ∷ 0x00 ∷ 0x12 ∷ 0x09 ∷ 0x00 ∷ 0x00 ∷ 0x00 ∷ 0x0D
    ∷ 0 ∷ 0 ∷ 0 ∷ 0 ∷ 1 ∷ 0 ∷ 0 ∷ 0 ∷ 0 ∷ 0 ∷ 0 ∷ 0 ∷ []

-- memories longer than N, with something in them
abbrev lent : State
lent =
    record {
      cpu = record { n = 9; regs = []; pc = 9; prev = 9; jumped = true; next = 9; services = []; strict = false };
      words = replicate 90 0x0D000000;
      owners = replicate 90 6;
      jumpers = replicate 90 7;
      writers = replicate 90 8;
      readers = replicate 90 5;
    }

-- where a run stands, as the run program prints it: answer, steps, pc, prev, jumped, next
unfoldable pub seen : Ran → List ℕ
seen r = r.answer ∷ r.count ∷ r.state.cpu.pc ∷ r.state.cpu.prev ∷ bit r.state.cpu.jumped ∷ r.state.cpu.next ∷ []

-- with the number of compartments for next
unfoldable pub paper_seen : paper.Ran → List ℕ
paper_seen r = r.answer ∷ r.count ∷ r.state.pc ∷ r.state.prev ∷ bit r.state.jumped ∷ length r.state.comps ∷ []

pub record Stands (m : Bool) (budget : ℕ) (words : List ℕ) (here there : List ℕ) : Type 0 where
  pub loads : (load m (bytes words) lent).answer ≡ answer.done
  pub on_tags : seen (tagged m budget (bytes words) lent) ≡ here
  pub on_sets : paper_seen (abstract m budget (bytes words)) ≡ there

-- answer 16 steps 3 pc 3 prev 0 jumped 0 next 4
abbrev three : List ℕ
three = answer.stray_bit ∷ 3 ∷ 3 ∷ 0 ∷ 0 ∷ 4 ∷ []

-- "It isolates {12}, then answers 7 with count 7 at pc 6, next 5"
abbrev seven : List ℕ
seven = answer.store_forbidden ∷ 7 ∷ 6 ∷ 0 ∷ 0 ∷ 5 ∷ []

-- all 64 compartments are there, and pc is at isolate again
abbrev sixty : List ℕ
sixty = answer.done ∷ 549 ∷ isolate ∷ 0 ∷ 1 ∷ 64 ∷ []

-- where a run stands on both machines
abbrev stands : ℕ → ℕ → ℕ → ℕ → ℕ → ℕ → List ℕ
stands answer count pc prev jumped next = answer ∷ count ∷ pc ∷ prev ∷ jumped ∷ next ∷ []

abbrev Both : Bool → ℕ → List ℕ → List ℕ → Type 0
Both m budget words here = Stands m budget words here here

pub record Samples : Type 0 where
  pub written : bytes image_one ≡ one_bytes
  -- at most 100,000 steps, as the run program
  pub one : Stands false 100000 image_one three three
  pub two : Stands false 100000 image_two seven seven
  -- "From an image, 60 isolates can run"
  pub many : Stands false 549 image_many sixty sixty
  -- at the next step the machines part: 13 here, and a 65th compartment there
  pub parts : Stands false 550 image_many (answer.no_number ∷ 549 ∷ isolate ∷ 0 ∷ 1 ∷ 64 ∷ []) (answer.done ∷ 550 ∷ 9 ∷ 1 ∷ 1 ∷ 65 ∷ [])
  -- strict mode: 17 at the Load, which runs in the sheet's mode
  pub refused : Both true 100000 image_refused (stands answer.load_forbidden 8 7 0 0 6)
  pub free : Both false 100000 image_refused (stands answer.halt 9 8 0 0 5)
  -- with 4099 before, the Load runs; in the sheet's mode 4099 is no place
  pub granted : Both true 100000 image_granted (stands answer.halt 13 11 0 0 6)
  pub nowhere : Both false 100000 image_granted (stands answer.no_place 3 4099 0 1 4)
  -- r4 is 4096 in image two: no set
  pub fourth : Both true 100000 image_two (stands answer.bad_set 5 isolate 0 1 5)
  -- from an image, 59 isolates can run, and at the 60th the machines part
  pub many_strict : Both true 541 image_many_strict (stands answer.done 541 isolate 0 1 64)
  pub parts_strict : Stands true 542 image_many_strict (stands answer.no_number 541 isolate 0 1 64) (stands answer.done 542 10 1 1 65)

pub samples : Samples
unfolding seen paper_seen row allowed decode arithmetic branch pc_after regs_after words_after jumps service_count is_service service_at is_service_number pairs_at set_at inside ordered good_set is_empty in_set all_from within member insert up_to service_numbers main_alone first_number in_memory has_owner owner_at jumpers_at writers_at readers_at owns may_jump may_store may_read reads checks.lengths_differ checks.bad_form checks.no_place checks.wrong_owner checks.no_arrival checks.instruction_at checks.no_instruction checks.stray_bit checks.load_outside checks.load_forbidden checks.store_outside checks.store_forbidden checks.halts checks.good_sets checks.bad_sets checks.empty_set checks.sets_within checks.not_within checks.not_owned checks.returns checks.no_return checks.no_number checks.checks checks.verdict step.ran_instruction step.map_from step.owned step.joined step.joined_services step.isolated step.jump_added step.store_added step.read_added step.ran_service step.commit step.step run field fields first_of entry_checks last_zero register_checks image_checks load_checks blank loaded not_loaded load_verdict load all_bytes section listed image_bytes paper.in_memory paper.reads paper.service_comps paper.initial_comps paper.initial paper.holder paper.arrives paper.instruction_at paper.ran_instruction paper.good_sets paper.sets_within paper.returns paper.isolated paper.jump_added paper.store_added paper.read_added paper.ran_service paper.checks paper.verdict paper.commit paper.step paper.run
samples =
    record {
      written = refl;
      one = record { loads = refl; on_tags = refl; on_sets = refl };
      two = record { loads = refl; on_tags = refl; on_sets = refl };
      many = record { loads = refl; on_tags = refl; on_sets = refl };
      parts = record { loads = refl; on_tags = refl; on_sets = refl };
      refused = record { loads = refl; on_tags = refl; on_sets = refl };
      free = record { loads = refl; on_tags = refl; on_sets = refl };
      granted = record { loads = refl; on_tags = refl; on_sets = refl };
      nowhere = record { loads = refl; on_tags = refl; on_sets = refl };
      fourth = record { loads = refl; on_tags = refl; on_sets = refl };
      many_strict = record { loads = refl; on_tags = refl; on_sets = refl };
      parts_strict = record { loads = refl; on_tags = refl; on_sets = refl };
    }
