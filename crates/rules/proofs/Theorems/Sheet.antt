-- The sheet's mode is the sheet's machine: what the mode decides, spelled for that mode.
use Rattle.std.specs.Prelude.{◌≡◌, refl, Bool, true, false, cond, ◌&&◌, [], ℕ, ltb, leb, drop}
use Rattle.std.proofs.Math.Bool.{and-true}
use Rattle.common.specs.Answers as answer
use Rattle.common.specs.Instructions.{reg}
use Rattle.common.specs.Services.{service_count, is_service, is_service_number}
use Rattle.common.specs.AddressSets.{set_at, inside, ordered}
use Rattle.common.proofs.Laws.Meaning.{good_free}
use Rattle.rules.specs.Compartments.{insert, empty, up_to, service_numbers}
use Rattle.rules.specs.State.{State, first_number, in_memory, reads}
use Rattle.rules.specs.Checks.{set_r, good_in, good_sets}
use Rattle.rules.specs.Laws.Tested.{load_verdict}
use Rattle.rules.specs.Step.{ran_instruction, jump_added, store_added, read_added, step}
use Rattle.rules.proofs.Laws.StepLaws.{step_cases}
use Rattle.rules.proofs.BothMachines.ReadTags.{no_more_sets}

pub record Numbers : Type 0 where
  pub count : service_count false ≡ 3
  pub first : first_number false ≡ 4
  pub set : service_numbers false ≡ insert (insert (insert empty 1) 2) 3
  pub place : (x : ℕ) → is_service false x ≡ (leb 4096 x && ltb x 4099)
  pub number : (c : ℕ) → is_service_number false c ≡ (leb 1 c && leb c 3)

pub numbers : Numbers
unfolding service_count first_number service_numbers up_to is_service is_service_number
numbers = record { count = refl; first = refl; set = refl; place = λ x. refl; number = λ c. refl }

-- in either mode no set past the services' changes: in the sheet's mode not the fourth
pub step_more_sets : (s : State) → drop (service_count s.cpu.strict) (step s).state.cpu.services ≡ drop (service_count s.cpu.strict) s.cpu.services
unfolding ran_instruction jump_added store_added read_added
step_more_sets s =
    step_cases s (λ (t : State). drop (service_count s.cpu.strict) t.cpu.services ≡ drop (service_count s.cpu.strict) s.cpu.services) refl
    (λ p m v. refl) (λ p m is. no_more_sets s p m is) (λ p m a. (refl, refl, λ z. refl))

module _ (s : State) (e : s.cpu.strict ≡ false) where
  -- "Reading is free to all"
  pub free : (c x : ℕ) → reads s c x ≡ true
  unfolding reads
  free c x = simp e

  pub load_free : (c x : ℕ) → load_verdict s c x ≡ cond (in_memory s x) answer.done answer.load_outside
  unfolding load_verdict
  load_free c x = simp (free c x)

  abbrev plain : ℕ → Bool
  plain r = inside s.words s.cpu.n (reg s.cpu.regs r) && ordered (set_at s.words (reg s.cpu.regs r))

  -- 8 asks of three sets that they are inside and ordered, and r4 is not looked at
  pub sets : (c : ℕ) → good_sets s c ≡ (plain 1 && plain 2 && plain 3)
  unfolding good_sets
  sets c =
      let g : (r : ℕ) → good_in s c r ≡ plain r = λ r. good_free s.words s.cpu.n (reads s c) (reg s.cpu.regs r) (free c) in
      simp (e, g, and-true)

  pub fourth : set_r s ≡ []
  fourth = simp e
