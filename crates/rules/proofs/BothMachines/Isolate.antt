-- An isolate that runs leaves two states that match again.
use Rattle.std.specs.Prelude.{◌≡◌, Bool, ◌&&◌, ◌||◌, List, ◌≢◌, get_or}
use Rattle.std.proofs.Math.Path.{refl, ap, subst}
use Rattle.std.proofs.Common.{sym, ap₂, ◌∙◌}
use Rattle.std.proofs.Math.Bool.{true, false, cond, or-false}
use Prim.Native.Nat.{ℕ, suc, ◌+◌, ◌-◌, ◌≤◌, ◌<◌}
use native.Mathlib.Omega.{arith}
use borrow.Author.Tests.{ltb-true, eqb-true, ne_eqb}
use Rattle.std.proofs.Math.Dec.{ltb, eqb}
use Rattle.std.proofs.Math.ListN.{length}
use Rattle.common.specs.Services.{isolate, service_count, is_service}
use Rattle.common.proofs.Laws.ServiceLaws.{service_range}
use Rattle.common.specs.AddressSets.{in_set}
use Rattle.common.proofs.Laws.AddressSetLaws.{within_at}
use Rattle.common.proofs.Laws.Tests.{both}
use Rattle.paper.specs.Abstract as paper
use Rattle.paper.proofs.Laws.CompLaws.{split_length, split_test, split_gone, split_stays}
use Rattle.rules.specs.Compartments.{numbers, member, insert, empty}
use Rattle.rules.specs.Laws.CompartmentLaws.{member_empty}
use Rattle.rules.specs.State.{State, in_memory, has_owner, owner_at, jumpers_at, writers_at, owns, may_jump, may_store, may_read}
use Rattle.rules.specs.Checks.{set_a, set_j, set_s, set_r}
use Rattle.rules.specs.Step.{owned, joined_services, isolated}
use Rattle.rules.proofs.Laws.FormLaws.{Lent, lent_memories}
use Rattle.rules.proofs.Laws.Passed.{Passes, owned_inside, Isolates, number_left}
use Rattle.rules.proofs.Laws.TagLaws.{get_d_map, member_insert_if}
use Rattle.rules.proofs.Laws.JoinLaws.{owner_after, join_all}
use Rattle.rules.proofs.BothMachines.ReadTags.{none, read_tags}
use Rattle.rules.proofs.BothMachines.Match.{Match, Inv, shadow}
use Rattle.rules.proofs.BothMachines.Verdicts.{sets_read}
use Rattle.rules.proofs.BothMachines.Commits.{caller_there, service_current}

module _ (s : State) (C : List paper.Comp) (m : Match s (shadow s C)) (inv : Inv s) (passes : Passes s) (out : in_memory s s.cpu.pc ≡ false)
    (is : Isolates s s.cpu.prev) where
  abbrev p : ℕ
  p = s.cpu.prev

  abbrev next : ℕ
  next = s.cpu.next

  -- the sets A', J', S' and R'
  abbrev to_a : ℕ → Bool
  to_a = in_set (set_a s)

  abbrev to_j : ℕ → Bool
  to_j = in_set (set_j s)

  abbrev to_s : ℕ → Bool
  to_s = in_set (set_s s)

  abbrev to_r : ℕ → Bool
  to_r = in_set (set_r s)

  free : next < numbers
  free = number_left s p inv.formed is

  abbrev lent : Lent s
  lent = lent_memories s inv.formed

  A-owned : (x : ℕ) → to_a x ≡ true → owns s p x ≡ true
  A-owned x e = within_at (set_a s) (owns s p) x is.A e

  -- ---- the tags after isolate

  store_tags : (c x : ℕ) → may_store (isolated s) c x ≡ (may_store s c x || (to_s x && eqb c next))
  unfolding may_store isolated writers_at in_memory
  store_tags c x =
      join_all s.cpu.n s.writers next (omega (arith, lent.writers, lent.enough)) free c x (set_s s) empty empty
      (λ e. simp (none s passes out is (set_s s) (may_store s p) x is.S e (simp (e, member_empty)), or-false))

  -- a service's set, where J' may have it
  service_tags : (c x : ℕ) → is_service s.cpu.strict x ≡ true
      → member (get_or (joined_services (set_j s) next s.cpu.services) (x - isolate) empty) c ≡ (member (get_or s.cpu.services (x - isolate) empty) c || (to_j x && eqb c next))
  unfolding joined_services
  service_tags c x f =
      let r : (isolate ≤ x) × (x < isolate + service_count s.cpu.strict) = service_range s.cpu.strict x f in
      let l : x - isolate < length s.cpu.services = omega (arith, inv.sets) in
      let y : isolate + (x - isolate) ≡ x = omega arith in
      ap (λ (z : ℕ). member z c) (get_d_map (λ i set. cond (to_j (isolate + i)) (insert set next) set) s.cpu.services (x - isolate) l)
      ∙ member_insert_if (to_j (isolate + (x - isolate))) (get_or s.cpu.services (x - isolate) empty) next c free
      ∙ ap (λ (z : ℕ). member (get_or s.cpu.services (x - isolate) empty) c || (to_j z && eqb c next)) y

  jump_tags : (c x : ℕ) → may_jump (isolated s) c x ≡ (may_jump s c x || (to_j x && eqb c next))
  unfolding may_jump isolated jumpers_at in_memory
  jump_tags c x =
      join_all s.cpu.n s.jumpers next (omega (arith, lent.jumpers, lent.enough)) free c x (set_j s) _ _ (outside (is_service s.cpu.strict x) refl)
    where
      outside : (b : Bool) → is_service s.cpu.strict x ≡ b → ltb x s.cpu.n ≡ false
          → member (cond (is_service s.cpu.strict x) (get_or (joined_services (set_j s) next s.cpu.services) (x - isolate) empty) empty) c
          ≡ (member (cond (is_service s.cpu.strict x) (get_or s.cpu.services (x - isolate) empty) empty) c || (to_j x && eqb c next))
      outside true f e = simp f (service_tags c x f)
      outside false f e = simp (f, none s passes out is (set_j s) (may_jump s p) x is.J e (simp (e, f, member_empty)), or-false)

  owner_tag : (x : ℕ) → x < s.cpu.n → get_or (owned s.cpu.n (set_a s) next s.owners) x 0 ≡ cond (to_a x) next (get_or s.owners x 0)
  owner_tag = owner_after s.cpu.n (set_a s) next s.owners (omega (arith, lent.owners, lent.enough))

  own_gone : (c x : ℕ) → to_a x ≡ true → owns (isolated s) c x ≡ eqb next c
  unfolding owns isolated owner_at has_owner in_memory
  own_gone c x e = let i : ltb x s.cpu.n ≡ true = owned_inside s passes out x (A-owned x e) in simp (i, owner_tag x (ltb-true _ _ i), e)

  own_stays : (c x : ℕ) → to_a x ≡ false → owns (isolated s) c x ≡ owns s c x
  unfolding owns isolated owner_at has_owner in_memory
  own_stays c x e = go (ltb x s.cpu.n) refl
    where
      go : (b : Bool) → ltb x s.cpu.n ≡ b → owns (isolated s) c x ≡ owns s c x
      go true i = simp (i, owner_tag x (ltb-true _ _ i), e)
      go false i = simp i

  -- ---- the compartments after isolate

  abbrev child : paper.Comp
  child = record { A = to_a; J = to_j; S = to_s; R = to_r }

  abbrev C' : List paper.Comp
  C' = paper.split C p child

  there : p < length C
  there = caller_there s C m inv

  -- an address has one owner
  one_owner : (x : ℕ) → owns s p x ≡ true → (d : ℕ) → d ≢ p → (paper.comp C d).A x ≡ false
  unfolding owns
  one_owner x o d e =
      let t = both (has_owner s x) (eqb (owner_at s x) p) o in
      let q : owner_at s x ≡ p = eqb-true _ _ t.1 in
      m.A d x ∙ simp (t.0, q, ne_eqb p d (λ z. e (sym z)))

  A-is : (c x : ℕ) → (paper.comp C' c).A x ≡ owns (isolated s) c x
  A-is c x = go (to_a x) refl
    where
      go : (b : Bool) → to_a x ≡ b → (paper.comp C' c).A x ≡ owns (isolated s) c x
      go true e =
          split_gone C p child there x e (one_owner x (A-owned x e)) c ∙ ap (λ (k : ℕ). eqb k c) m.count ∙ sym (own_gone c x e)
      go false e = split_stays C p child there x e c ∙ m.A c x ∙ sym (own_stays c x e)

  J-is : (c x : ℕ) → (paper.comp C' c).J x ≡ may_jump (isolated s) c x
  J-is c x =
      split_test C p child there (λ (k : paper.Comp). k.J x) refl refl c ∙ ap₂ (λ (b : Bool) (k : ℕ). b || (to_j x && eqb c k)) (m.J c x) m.count
      ∙ sym (jump_tags c x)

  S-is : (c x : ℕ) → (paper.comp C' c).S x ≡ may_store (isolated s) c x
  S-is c x =
      split_test C p child there (λ (k : paper.Comp). k.S x) refl refl c ∙ ap₂ (λ (b : Bool) (k : ℕ). b || (to_s x && eqb c k)) (m.S c x) m.count
      ∙ sym (store_tags c x)

  R-is : (c x : ℕ) → (paper.comp C' c).R x ≡ may_read (isolated s) c x
  R-is c x =
      split_test C p child there (λ (k : paper.Comp). k.R x) refl refl c ∙ ap₂ (λ (b : Bool) (k : ℕ). b || (to_r x && eqb c k)) (m.R c x) m.count
      ∙ sym (read_tags s passes out is c x)

  -- both machines read the same sets
  isolated_is : paper.isolated (shadow s C) ≡ paper.returned (shadow s C) C'
  unfolding paper.isolated
  isolated_is = let r = sets_read s C m inv p is.good in simp (r.A, r.J, r.S, r.R)

  pub isolate_match : Match (isolated s) (paper.isolated (shadow s C))
  unfolding isolated
  isolate_match = subst (λ (a : paper.State). Match (isolated s) a) (sym isolated_is) same
    where
      same : Match (isolated s) (paper.returned (shadow s C) C')
      same =
          record {
            words = refl;
            regs = refl;
            pc = refl;
            prev = service_current s C m inv passes out;
            jumped = refl;
            count = split_length C p child ∙ ap suc m.count;
            A = A-is;
            J = J-is;
            S = S-is;
            R = R-is;
            fenced = refl;
          }
