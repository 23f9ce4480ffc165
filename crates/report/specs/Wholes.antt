-- The memories that a count is not lent play no part in it.
use Rattle.std.specs.Prelude.{◌≡◌, List, [], ℕ}
use Rattle.std.proofs.Math.Path.{refl}
use Rattle.rules.specs.State.{in_memory, has_owner, owner_at, jumpers_at, writers_at, owns, may_jump, may_store}
use Rattle.rules.specs.Counts.{address_count, owned_count, jump_count, store_count, widest}
use Rattle.machine.specs.declared.Processor.{Processor}
use Rattle.machine.specs.Views.{state_of}

module _ (cpu : Processor) (owners : List ℕ) (c : ℕ) where
  pub owned_whole : (words jumpers writers readers : List ℕ) → owned_count (state_of cpu words owners jumpers writers readers) c ≡ owned_count (state_of cpu [] owners [] [] []) c
  unfolding owned_count address_count owns has_owner owner_at in_memory
  owned_whole words jumpers writers readers = refl

module _ (cpu : Processor) (jumpers : List ℕ) (c : ℕ) where
  pub jumps_whole : (words owners writers readers : List ℕ) → jump_count (state_of cpu words owners jumpers writers readers) c ≡ jump_count (state_of cpu [] [] jumpers [] []) c
  unfolding jump_count address_count may_jump jumpers_at in_memory
  jumps_whole words owners writers readers = refl

module _ (cpu : Processor) (writers : List ℕ) where
  pub stores_whole : (c : ℕ) (words owners jumpers readers : List ℕ) → store_count (state_of cpu words owners jumpers writers readers) c ≡ store_count (state_of cpu [] [] [] writers []) c
  unfolding store_count address_count may_store writers_at in_memory
  stores_whole c words owners jumpers readers = refl

  pub widest_whole : (owners words jumpers readers : List ℕ) → widest (state_of cpu words owners jumpers writers readers) ≡ widest (state_of cpu [] owners [] writers [])
  unfolding widest
  widest_whole owners words jumpers readers = refl
