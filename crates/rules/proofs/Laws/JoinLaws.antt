-- Whose a word is after an isolate, and who is in the sets of a memory after a compartment number joined some of them.
use Rattle.std.specs.Prelude.{◌≡◌, Bool, ◌&&◌, ◌||◌, List, ℕ, ◌≤◌, ◌<◌, get_or, length}
use Rattle.std.proofs.Math.Path.{refl, ap}
use Rattle.std.proofs.Common.{sym, ◌∙◌, subst, arith, get_or-set_same, get_or-set_other}
use Rattle.std.proofs.Math.Bool.{true, false, cond, or-false}
use Rattle.std.proofs.Math.Decide.{ℕ_discrete}
use borrow.Author.Tests.{ltb-true, ltb-false, lt-ltb, eq-eqb, ne_eqb}
use Rattle.std.proofs.Math.Dec.{ltb, eqb}
use Rattle.common.specs.AddressSets.{Pair, in_set}
use Rattle.rules.specs.Compartments.{numbers, member, insert, empty}
use Rattle.rules.specs.Laws.CompartmentLaws.{member_empty, member_insert}
use Rattle.rules.specs.State.{State, in_memory, readers_at, may_read}
use Rattle.rules.specs.Step.{below, owned, joined, join_at}
use Rattle.rules.proofs.Laws.TagLaws.{get_d_map, member_insert_if}

pub owner_after : (n : ℕ) (ps : List Pair) (k : ℕ) (owners : List ℕ) → n ≤ length owners → (x : ℕ) → x < n
    → get_or (owned n ps k owners) x 0 ≡ cond (in_set ps x) k (get_or owners x 0)
unfolding owned
owner_after n ps k owners fits x h = get_d_map (λ x owner. cond (below n ps x) k owner) owners x (omega arith) ∙ simp (lt-ltb x n h)

-- the sets below n are those of a memory, and past it stands another
module _ (n : ℕ) (sets : List ℕ) (k : ℕ) (fits : n ≤ length sets) (small : k < numbers) (c x : ℕ) where
  -- at one place
  pub join_one : (r other : ℕ) → r < n
      → member (cond (ltb x n) (get_or (join_at sets r k) x empty) other) c ≡ (member (cond (ltb x n) (get_or sets x empty) other) c || (eqb x r && eqb c k))
  join_one r other h = go (ltb x n) refl (ℕ_discrete x r)
    where
      go : (b : Bool) → ltb x n ≡ b → Dec (x ≡ r)
          → member (cond b (get_or (join_at sets r k) x empty) other) c ≡ (member (cond b (get_or sets x empty) other) c || (eqb x r && eqb c k))
      go true e (yes q) =
          subst (λ (y : ℕ). member (get_or (join_at sets r k) y empty) c ≡ (member (get_or sets y empty) c || (eqb y r && eqb c k))) (sym q)
          (ap (λ (s : ℕ). member s c) (get_or-set_same sets r (insert (get_or sets r empty) k) empty (omega arith)) ∙ member_insert (get_or sets r empty) k c small
          ∙ simp (eq-eqb r r refl))
      go true e (no q) =
          ap (λ (s : ℕ). member s c) (get_or-set_other sets r x (insert (get_or sets r empty) k) empty q) ∙ simp (ne_eqb x r q, or-false)
      go false e d =
          let l : n ≤ x = ltb-false _ _ e in
          simp (ne_eqb x r (λ q. omega arith), or-false)

  -- wherever a set of addresses says, and the other one too
  pub join_all : (ps : List Pair) (new other : ℕ) → (ltb x n ≡ false → member new c ≡ (member other c || (in_set ps x && eqb c k)))
      → member (cond (ltb x n) (get_or (joined n ps k sets) x empty) new) c ≡ (member (cond (ltb x n) (get_or sets x empty) other) c || (in_set ps x && eqb c k))
  unfolding joined
  join_all ps new other out = go (ltb x n) refl
    where
      go : (b : Bool) → ltb x n ≡ b
          → member (cond b (get_or (joined n ps k sets) x empty) new) c ≡ (member (cond b (get_or sets x empty) other) c || (in_set ps x && eqb c k))
      go true e =
          let l : x < n = ltb-true _ _ e in
          ap (λ (s : ℕ). member s c) (get_d_map (λ x set. cond (below n ps x) (insert set k) set) sets x (omega arith)) ∙ simp e (member_insert_if (in_set ps x) (get_or sets x empty) k c small)
      go false e = out e

-- ---- who is a reader, in either mode

module _ (s : State) (c x : ℕ) where
  pub read_strict : s.cpu.strict ≡ true → may_read s c x ≡ member (cond (ltb x s.cpu.n) (get_or s.readers x empty) empty) c
  unfolding may_read readers_at in_memory
  read_strict e = simp e

  pub read_open : s.cpu.strict ≡ false → may_read s c x ≡ false
  unfolding may_read readers_at
  read_open e = simp (e, member_empty)
