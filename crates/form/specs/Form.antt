-- Check 14 by the numbers that the code looks at.
use Rattle.std.specs.Prelude.{◌≡◌, refl, Bool, ◌&&◌, ◌||◌, not, ℕ, ltb, leb, eqb, length}
use Rattle.std.proofs.Math.Bool.{and_assoc}
use Rattle.common.specs.Services.{is_service, is_service_number}
use Rattle.rules.specs.State.{State, first_number}
use Rattle.rules.specs.Laws.Tested.{same_lengths, sized, numbered, seated, formed}

abbrev pub lengths_by : Bool → ℕ → ℕ → ℕ → ℕ → ℕ → Bool
lengths_by strict words owners jumpers writers readers = eqb owners words && eqb jumpers words && eqb writers words && (not strict || eqb readers words)

abbrev pub room_by : ℕ → ℕ → Bool
room_by n words = leb 1 n && leb n 2048 && leb n words

abbrev pub numbered_by : Bool → ℕ → ℕ → Bool
numbered_by strict next prev = leb (first_number strict) next && leb next 64 && ltb prev next

abbrev pub seated_by : Bool → ℕ → ℕ → Bool
seated_by strict prev pc = not (is_service_number strict prev && is_service strict pc)

unfoldable pub formed_by : Bool → ℕ → ℕ → ℕ → ℕ → ℕ → ℕ → ℕ → ℕ → ℕ → Bool
formed_by strict n pc prev next words owners jumpers writers readers =
    lengths_by strict words owners jumpers writers readers && room_by n words && numbered_by strict next prev && seated_by strict prev pc

-- what is asked is the rules' check, of a state
abbrev pub lengths_of : Bool → State → Bool
lengths_of strict s = lengths_by strict (length s.words) (length s.owners) (length s.jumpers) (length s.writers) (length s.readers)

abbrev pub form_of : State → Bool
form_of s =
    formed_by s.cpu.strict s.cpu.n s.cpu.pc s.cpu.prev s.cpu.next (length s.words) (length s.owners) (length s.jumpers) (length s.writers)
    (length s.readers)

pub lengths_by_lem : (strict : Bool) (s : State) → same_lengths strict s ≡ lengths_of strict s
unfolding same_lengths
lengths_by_lem strict s = refl

pub formed_by_lem : (s : State) → formed s ≡ form_of s
unfolding formed sized same_lengths numbered seated formed_by
formed_by_lem s = simp and_assoc
