-- Request 2026-01, "look first, load later": the checking call beside the filling call, of the rules and of every outcome of the code.
use Rattle.std.specs.Prelude.{◌≡◌, refl, Bool, true, false, cond, ◌&&◌, not, List, ◌↔◌, ◌⊎◌, ℕ, ◌≤◌, leb, eqb, length, take}
use Rattle.std.proofs.Common.{sym, ap, subst, inl, inr, arith, leb-true}
use Rattle.std.proofs.Math.Bool.{or-true, and-false}
use Rattle.std.proofs.Math.Decide.{ℕ_discrete}
use Rattle.common.specs.Tables.{first_of, Exactly, NoneHolds}
use Rattle.common.proofs.Laws.Tests.{both}
use Rattle.rules.specs.State.{State}
use Rattle.rules.specs.Checks.{lengths_differ}
use Rattle.rules.specs.Images as images
use Rattle.rules.specs.Images.{whole, size_in, entry_checks, register_checks, image_checks, image_verdict, load, told, four_memories, check}
use Rattle.images.specs.Checking as checking
use Rattle.images.specs.Checking.{Places, outgrows}
use Rattle.images.specs.Prefix.{load_prefix}
use Rattle.claims.specs.Demands.{given}
use Rattle.claims.specs.Code.{Code}

-- ==== of the rules

-- "The checking call answers what the filling call would over four memories of 2,048 places": in either mode, of five in strict mode,
-- whatever they hold; answer and N
pub same : (m : Bool) (bytes : List ℕ) (old : State) → Places m old 2048 → told (load m bytes old) ≡ check bytes
same = checking.same

-- 0 or 20 to 26, so "only the filling call gives 27 and 28"
pub check_answers : (bytes : List ℕ) → ((check bytes).answer ≡ 0) ⊎ ((20 ≤ (check bytes).answer) × ((check bytes).answer ≤ 26))
unfolding image_verdict image_checks register_checks entry_checks first_of
check_answers bytes = go (ℕ_discrete (check bytes).answer 0)
  where
    small : ℕ → Bool
    small k = leb 20 k && leb k 26

    -- above 2,048 N is refused with 20 or 21 at once; else no check is 28
    tested : (b : Bool) → leb (size_in bytes) 2048 ≡ b → ((check bytes).answer ≡ 0 → ⊥) → small (check bytes).answer ≡ true
    tested true e n =
        given small (image_checks 2048 bytes) (check bytes).answer (simp (e, or-true)) ((checking.check_number bytes (check bytes).answer n).0 refl)
    tested false e n = simp (checking.check_is, e, and-false) (first (whole bytes 0 1))
      where
        first : (w : Bool) → small (cond (not w) 20 21) ≡ true
        first true = refl
        first false = refl

    go : Dec ((check bytes).answer ≡ 0) → ((check bytes).answer ≡ 0) ⊎ ((20 ≤ (check bytes).answer) × ((check bytes).answer ≤ 26))
    go (yes z) = inl z
    go (no n) = let t = both _ _ (tested (leb (size_in bytes) 2048) refl n) in inr (leb-true _ _ t.0, leb-true _ _ t.1)

pub never_27_28 : (bytes : List ℕ) → ((check bytes).answer ≡ 27 → ⊥) × ((check bytes).answer ≡ 28 → ⊥)
never_27_28 bytes = (not_above (check_answers bytes) 27 (omega arith), not_above (check_answers bytes) 28 (omega arith))
  where
    not_above : {v : ℕ} → (v ≡ 0) ⊎ ((20 ≤ v) × (v ≤ 26)) → (k : ℕ) → 27 ≤ k → v ≡ k → ⊥
    not_above (inl z) k l e = omega arith
    not_above (inr h) k l e = let b = h.1 in omega arith

-- each of them exactly on its condition: the loader's checks over 2,048 places, in its order
pub check_number : (bytes : List ℕ) (k : ℕ) → (k ≡ 0 → ⊥) → ((check bytes).answer ≡ k) ↔ Exactly (image_checks 2048 bytes) k
check_number = checking.check_number

pub check_done : (bytes : List ℕ) → ((check bytes).answer ≡ 0) ↔ NoneHolds (image_checks 2048 bytes)
check_done = checking.check_done

-- "tells N or the refusal": N with 0, and 0 with a refusal
pub check_size : (bytes : List ℕ) → (check bytes).size ≡ cond (eqb (check bytes).answer 0) (size_in bytes) 0
check_size = checking.check_size

-- of an input longer than any image it answers what it answers of its first 8,273 bytes
pub check_prefix : (bytes : List ℕ) → check bytes ≡ check (take 8273 bytes)
unfolding check
check_prefix bytes = ap told (load_prefix false bytes four_memories)

-- the filling call "by itself answers as the one call did": 27, then 28 as soon as N is whole and 1 to 2,048, then what the check answers
abbrev pub filling : Bool → List ℕ → State → ℕ → ℕ
filling m bytes old checked =
    cond (lengths_differ m old) 27
    (cond (whole bytes 0 1 && (leb 1 (size_in bytes) && leb (size_in bytes) 2048) && not (leb (size_in bytes) (length old.words))) 28 checked)

pub load_by_check : (m : Bool) (bytes : List ℕ) (old : State) → (load m bytes old).answer ≡ filling m bytes old (check bytes).answer
unfolding outgrows
load_by_check = checking.load_by_check

-- ==== of the code: of every outcome that the contracts of check and load allow, by value or for C

module _ (code : Code) (bytes : List ℕ) (c : images.Checked) (h : code.Checks bytes c) where
  of_check : (P : images.Checked → Type 0) → P (check bytes) → P c
  of_check P = subst P (sym (code.checks bytes c h))

  pub answers : (c.answer ≡ 0) ⊎ ((20 ≤ c.answer) × (c.answer ≤ 26))
  answers = of_check (λ (x : images.Checked). (x.answer ≡ 0) ⊎ ((20 ≤ x.answer) × (x.answer ≤ 26))) (check_answers bytes)

  pub never : (c.answer ≡ 27 → ⊥) × (c.answer ≡ 28 → ⊥)
  never = of_check (λ (x : images.Checked). (x.answer ≡ 27 → ⊥) × (x.answer ≡ 28 → ⊥)) (never_27_28 bytes)

  pub number : (k : ℕ) → (k ≡ 0 → ⊥) → (c.answer ≡ k) ↔ Exactly (image_checks 2048 bytes) k
  number k n = of_check (λ (x : images.Checked). (x.answer ≡ k) ↔ Exactly (image_checks 2048 bytes) k) (check_number bytes k n)

  pub done : (c.answer ≡ 0) ↔ NoneHolds (image_checks 2048 bytes)
  done = of_check (λ (x : images.Checked). (x.answer ≡ 0) ↔ NoneHolds (image_checks 2048 bytes)) (check_done bytes)

  pub size : c.size ≡ cond (eqb c.answer 0) (size_in bytes) 0
  size = of_check (λ (x : images.Checked). x.size ≡ cond (eqb x.answer 0) (size_in bytes) 0) (check_size bytes)

  -- beside a load of the same bytes, in any mode and over any memories
  module _ (m : Bool) (old : State) (l : images.Loaded) (k : code.Loads m bytes old l) where
    of_load : (P : images.Loaded → Type 0) → P (load m bytes old) → P l
    of_load P = subst P (sym (code.loads m bytes old l k))

    pub same_as_load : Places m old 2048 → told l ≡ c
    same_as_load p = of_load (λ (x : images.Loaded). told x ≡ c) (of_check (λ (x : images.Checked). told (load m bytes old) ≡ x) (same m bytes old p))

    -- what the check accepted is loaded, with the N that it told, into memories of N places or more
    pub accepted_then : (places : ℕ) → Places m old places → c.answer ≡ 0 → c.size ≤ places → told l ≡ c
    accepted_then places p =
        of_load (λ (x : images.Loaded). c.answer ≡ 0 → c.size ≤ places → told x ≡ c)
        (of_check (λ (x : images.Checked). x.answer ≡ 0 → x.size ≤ places → told (load m bytes old) ≡ x)
        (checking.accepted_then m bytes old places p))

    -- what was loaded, into whatever memories, the check accepts with the same N
    pub accepted_before : l.answer ≡ 0 → told l ≡ c
    accepted_before =
        of_load (λ (x : images.Loaded). x.answer ≡ 0 → told x ≡ c)
        (of_check (λ (x : images.Checked). (load m bytes old).answer ≡ 0 → told (load m bytes old) ≡ x) (checking.accepted_before m bytes old))

    -- 28 before what the check answers: an image cut short with N above the lent length is 28 here, and 20 there
    pub by_check : l.answer ≡ filling m bytes old c.answer
    by_check =
        of_load (λ (x : images.Loaded). x.answer ≡ filling m bytes old c.answer)
        (of_check (λ (x : images.Checked). (load m bytes old).answer ≡ filling m bytes old x.answer) (load_by_check m bytes old))
