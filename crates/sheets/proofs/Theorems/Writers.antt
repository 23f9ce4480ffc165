-- "lowest number first": the list of writers is exactly the members of the set, each once, ascending.
use Rattle.std.specs.Prelude.{◌≡◌, Bool, List, [], ◌∷◌, ◌↔◌, ◌⊎◌, leb}
use Rattle.std.proofs.Math.Path.{refl}
use Rattle.std.proofs.Common.{sym, subst, true≢false, inl, inr, ⊎_elim, leb-true, leb-false}
use Rattle.std.proofs.Math.Bool.{true, false}
use Prim.Native.Nat.{ℕ, zero, suc, ◌+◌, ◌≤◌, ◌<◌, ◌^◌}
use native.Mathlib.Omega.{arith}
use Rattle.std.proofs.Math.Decide.{ℕ_discrete}
use Rattle.common.proofs.Laws.Tests.{clash}
use Rattle.rules.specs.Compartments.{numbers, member}
use Rattle.rules.specs.Laws.CompartmentLaws.{member_high}
use Rattle.sheets.specs.Lines.{members_from, members}

-- x stands in the list
unfoldable pub In : ℕ → List ℕ → Type 0
In x [] = ⊥
In x (y ∷ ys) = (x ≡ y) ⊎ In x ys

-- each is above all before it
unfoldable pub Ascending : List ℕ → Type 0
Ascending [] = record {}
Ascending (x ∷ xs) = ((y : ℕ) → In y xs → x < y) × Ascending xs

module _ (set : ℕ) where
  -- among the k numbers from c on
  abbrev Among : ℕ → ℕ → ℕ → Type 0
  Among k c x = (c ≤ x) × (x < c + k) × (member set x ≡ true)

  listed : (k c x : ℕ) → In x (members_from k c set) → Among k c x
  unfolding members_from In
  listed zero c x h = absurd h
  listed (suc k) c x h = go (member set c) refl h (listed k (suc c) x)
    where
      later : Among k (suc c) x → Among (suc k) c x
      later r =
          let a : suc c ≤ x = r.0 in
          let b : x < suc c + k = r.1 in
          (omega arith, omega arith, r.2)

      go : (b : Bool) → member set c ≡ b → In x (members_from (suc k) c set) → (In x (members_from k (suc c) set) → Among k (suc c) x) → Among (suc k) c x
      go true e i ih =
          let j : (x ≡ c) ⊎ In x (members_from k (suc c) set) = simp e at i in
          ⊎_elim (λ (s : x ≡ c). (omega arith, omega arith, subst (λ (y : ℕ). member set y ≡ true) (sym s) e)) (λ y. later (ih y)) j
      go false e i ih = let j : In x (members_from k (suc c) set) = simp e at i in later (ih j)

  found : (k c x : ℕ) → Among k c x → In x (members_from k c set)
  unfolding members_from In
  found zero c x a = let l : x < c + 0 = a.1 in let g : c ≤ x = a.0 in absurd (omega arith)
  found (suc k) c x a = go (member set c) refl (ℕ_discrete x c) (found k (suc c) x)
    where
      go : (b : Bool) → member set c ≡ b → Dec (x ≡ c) → (Among k (suc c) x → In x (members_from k (suc c) set)) → In x (members_from (suc k) c set)
      go true e (yes s) ih = simp e (inl s)
      go true e (no n) ih = let l : x < c + suc k = a.1 in let g : c ≤ x = a.0 in simp e (inr (ih (omega arith, omega arith, a.2)))
      go false e (yes s) ih = clash (subst (λ (y : ℕ). member set y ≡ true) s a.2) e
      go false e (no n) ih = let l : x < c + suc k = a.1 in let g : c ≤ x = a.0 in simp e (ih (omega arith, omega arith, a.2))

  rising : (k c : ℕ) → Ascending (members_from k c set)
  unfolding members_from Ascending
  rising zero c = record {}
  rising (suc k) c = go (member set c) refl (rising k (suc c))
    where
      above : (y : ℕ) → In y (members_from k (suc c) set) → c < y
      above y i = let l : suc c ≤ y = (listed k (suc c) y i).0 in omega arith

      go : (b : Bool) → member set c ≡ b → Ascending (members_from k (suc c) set) → Ascending (members_from (suc k) c set)
      go true e ih = simp e (above, ih)
      go false e ih = simp e ih

  -- exactly the members, of a set of 64 bits
  pub exactly : set < 2 ^ numbers → (x : ℕ) → In x (members set) ↔ (member set x ≡ true)
  exactly h x = (λ i. (listed numbers 0 x i).2, λ m. found numbers 0 x (omega arith, low (leb numbers x) refl m, m))
    where
      low : (b : Bool) → leb numbers x ≡ b → member set x ≡ true → x < 0 + numbers
      low true e m = clash m (member_high set x h (leb-true numbers x e))
      low false e m = let l = leb-false numbers x e in omega arith

  -- each once, lowest first
  pub ascending : Ascending (members set)
  ascending = rising numbers 0
