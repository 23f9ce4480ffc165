-- How pc came to where it is, in one number: the pc number, with what it has more where the flag is jumped and where 15 is still to be asked.
use Rattle.std.specs.Prelude.{◌≡◌, refl, Bool, cond, ◌&&◌, ℕ, ◌+◌, ◌/◌, ◌%◌, ◌<◌, ltb, eqb}
use Rattle.std.proofs.Math.Bool.{true, false}
use native.Mathlib.Omega.{arith}
use borrow.Author.Tests.{eq-eqb, ne_eqb, eqb-true, ltb-false}

-- the pc number, and the flag
unfoldable pub prev_of : ℕ → ℕ
prev_of arrival = arrival % 4294967296

unfoldable pub jumped_of : ℕ → Bool
jumped_of arrival = eqb (arrival / 4294967296 % 2) 1

-- after a Jump or a Jal of a compartment; after any other instruction of it the arrival is its number alone
abbrev pub leapt : ℕ → ℕ
leapt owner = owner + 4294967296

-- where it is not known that prev passes 15
unfoldable pub unasked : ℕ → Bool → ℕ
unasked prev jumped = prev + cond jumped 12884901888 8589934592

-- at a word of the compartment that just ran, without a jump
unfoldable pub home : ℕ → ℕ → Bool
home arrival owner = ltb arrival 4294967296 && eqb owner arrival

-- ---- each reads back

module _ (c : ℕ) (h : c < 4294967296) where
  pub own_prev : prev_of c ≡ c
  unfolding prev_of
  own_prev = omega arith

  pub own_still : jumped_of c ≡ false
  unfolding jumped_of
  own_still = ne_eqb (c / 4294967296 % 2) 1 (λ e. omega arith)

  pub leapt_prev : prev_of (leapt c) ≡ c
  unfolding prev_of
  leapt_prev = omega arith

  pub leapt_jumped : jumped_of (leapt c) ≡ true
  unfolding jumped_of
  leapt_jumped = eq-eqb ((c + 4294967296) / 4294967296 % 2) 1 (omega arith)

  pub unasked_prev : (jumped : Bool) → prev_of (unasked c jumped) ≡ c
  unfolding prev_of unasked
  unasked_prev true = omega arith
  unasked_prev false = omega arith

  pub unasked_jumped : (jumped : Bool) → jumped_of (unasked c jumped) ≡ jumped
  unfolding jumped_of unasked
  unasked_jumped true = eq-eqb ((c + 12884901888) / 4294967296 % 2) 1 (omega arith)
  unasked_jumped false = ne_eqb ((c + 8589934592) / 4294967296 % 2) 1 (λ e. omega arith)

pub unasked_far : (c : ℕ) (jumped : Bool) → unasked c jumped < 4294967296 → ⊥
unfolding unasked
unasked_far c true h = omega arith
unasked_far c false h = omega arith

-- the code compares an owner of 32 bits alone
pub is_home : (arrival owner : ℕ) → owner < 4294967296 → eqb owner arrival ≡ home arrival owner
unfolding home
is_home arrival owner h = go (eqb owner arrival) (ltb arrival 4294967296) refl refl
  where
    go : (t u : Bool) → eqb owner arrival ≡ t → ltb arrival 4294967296 ≡ u → t ≡ (u && t)
    go true true e f = refl
    go true false e f = let k = eqb-true owner arrival e in let l = ltb-false arrival 4294967296 f in absurd (omega arith)
    go false true e f = refl
    go false false e f = refl
