-- Which set is at fault, and where, in the forms in which the code comes to it.
use Rattle.std.specs.Prelude.{◌≡◌, refl, Option, Some, None, unwrap_or, Bool, true, false, List}
use Rattle.std.proofs.Math.Path.{sym, ap, fun_ext}
use Rattle.std.proofs.Common.{◌∙◌}
use Rattle.std.proofs.Math.Bool.{or-false}
use Prim.Native.Nat.{ℕ, suc, ◌+◌, ◌-◌, ◌*◌, ◌/◌, ◌≤◌, ◌<◌, max}
use native.Mathlib.Omega.{arith}
use borrow.Author.Tests.{lt-ltb, le-ltb, le-leb, lt-leb}
use Rattle.std.proofs.Math.ListN.{get_or}
use Rattle.common.specs.AddressSets.{pairs_at, set_at, inside, ordered, all_from, good_set, within}
use Rattle.common.proofs.Laws.Tests.{clash}
use Rattle.rules.specs.State.{State, owns, reads}
use Rattle.address_sets.specs.SetLaws.{in_order}
use Rattle.reach.specs.ReachLaws.{reaches_own, reaches_jump, reaches_store, reaches_read}
use Rattle.reach.specs.ReadLaws.{all_read}
use Rattle.reasons.specs.First.{first_not, first_out, first_disordered, first_set}
use Rattle.reasons.specs.Why.{outside, disordered, unreadable, set_by, set_fault, fault_at, may_give, out_at}
use Rattle.reasons.specs.Laws.FirstLaws.{first_disordered_lem}
use Rattle.why.specs.declared.next_step.NewSet.{NewSet}
use Rattle.why.specs.declared.next_step.NewSet.TheVariants.{Owned, Jump, Store, Read}
use Rattle.why.specs.Views.{set_number}
use Rattle.why.specs.Giving.{gives}
use Rattle.why.specs.WalkLaws.{IsFirstNot}

-- ---- what is wrong with the set at q, and where

module _ (words : List ℕ) (n q : ℕ) where
  -- what the code finds is what is told
  pub record Told (reads : ℕ → Bool) (fault place : ℕ) : Type 0 where
    pub fault_is : fault ≡ set_fault words n q
    pub place_is : place ≡ fault_at words n reads q

  pub begins : (reads : ℕ → Bool) → n ≤ q → Told reads outside q
  unfolding inside set_fault fault_at
  begins reads h = record { fault_is = sym (simp (le-ltb q n h)); place_is = sym (simp (le-ltb q n h) (largest q n h)) }
    where
      largest : (x y : ℕ) → y ≤ x → max x y ≡ x
      largest x y m = omega arith

  -- k is the count, as the code read it
  module _ (h : q < n) (k : ℕ) (e : k ≡ get_or words q 0) where
    pub ends : (reads : ℕ → Bool) → (n - q - 1) / 2 < k → Told reads outside n
    unfolding inside set_fault fault_at
    ends reads l =
        let z = lt-leb (q + 1 + 2 * get_or words q 0) n (omega arith) in
        record { fault_is = sym (simp (z, lt-ltb q n h)); place_is = sym (simp (z, lt-ltb q n h) (largest q n (omega arith))) }
      where
        largest : (x y : ℕ) → x ≤ y → max x y ≡ y
        largest x y m = omega arith

    module _ (l : k ≤ (n - q - 1) / 2) where
      is_inside : inside words n q ≡ true
      unfolding inside
      is_inside = let z = le-leb (q + 1 + 2 * get_or words q 0) n (omega arith) in simp (z, lt-ltb q n h)

      order_is : in_order words n q ≡ ordered (set_at words q)
      order_is = simp is_inside

      module _ (f : in_order words n q ≡ false) where
        pub not_ordered : ordered (set_at words q) ≡ false
        not_ordered = sym order_is ∙ f

        -- the place of the pair is counted without wrapping
        pub pair_fits : q + 1 + 2 * first_disordered (set_at words q) < n
        unfolding set_at
        pair_fits = let d = first_disordered_lem words (q + 1) (get_or words q 0) not_ordered in let c : first_disordered (pairs_at words (q + 1) (get_or words q 0)) < get_or words q 0 = d.counted in omega arith

        pub at_pair : (reads : ℕ → Bool) (j : ℕ) → j ≡ first_disordered (set_at words q) → Told reads disordered (q + 1 + 2 * j)
        unfolding set_fault fault_at
        at_pair reads j g = record { fault_is = sym (simp (is_inside, not_ordered)); place_is = ap (λ (j : ℕ). q + 1 + 2 * j) g ∙ sym (simp (is_inside, not_ordered)) }

      module _ (f : in_order words n q ≡ true) where
        is_ordered : ordered (set_at words q) ≡ true
        is_ordered = sym order_is ∙ f

        pub at_unread : (reads : ℕ → Bool) (x : ℕ) → x ≡ first_not reads q (suc (2 * get_or words q 0)) → Told reads unreadable x
        unfolding set_fault fault_at
        at_unread reads x g = record { fault_is = sym (simp (is_inside, is_ordered)); place_is = g ∙ sym (simp (is_inside, is_ordered)) }

-- ---- the first of the sets, of which the fourth is not asked

pub same_first : (test other : ℕ → Bool) → test 1 ≡ other 1 → test 2 ≡ other 2 → test 3 ≡ other 3 → first_set test ≡ first_set other
unfolding first_set
same_first test other a b c = simp (a, b, c)

-- ---- what the caller may give away in a set

module _ (s : State) where
  pub gives_is : (set : NewSet) → (set_number set ≡ 4 → s.cpu.strict ≡ true) → (x : ℕ) → gives set s x ≡ may_give s s.cpu.prev (set_number set) x
  unfolding may_give
  gives_is Owned e x = reaches_own s s.cpu.prev x ∙ sym (or-false (owns s s.cpu.prev x))
  gives_is Jump e x = reaches_jump s s.cpu.prev x
  gives_is Store e x = reaches_store s s.cpu.prev x
  gives_is Read e x = reaches_read s s.cpu.prev (e refl) x

  module _ (set : NewSet) (e : set_number set ≡ 4 → s.cpu.strict ≡ true) where
    pub gives_within : within (set_by s (set_number set)) (gives set s) ≡ within (set_by s (set_number set)) (may_give s s.cpu.prev (set_number set))
    gives_within = ap (within (set_by s (set_number set))) (fun_ext (gives_is set e))

    pub out_is : first_out (gives set s) (set_by s (set_number set)) ≡ out_at s s.cpu.prev (set_number set)
    unfolding out_at
    out_is = ap (λ (t : ℕ → Bool). first_out t (set_by s (set_number set))) (fun_ext (gives_is set e))

-- a word may be unreadable in strict mode alone
module _ (s : State) (words : List ℕ) (q : ℕ) (bad : good_set words s.cpu.n (reads s s.cpu.prev) q ≡ false) (order : in_order words s.cpu.n q ≡ true) where
  is_strict : s.cpu.strict ≡ true
  is_strict = go s.cpu.strict refl
    where
      go : (b : Bool) → s.cpu.strict ≡ b → s.cpu.strict ≡ true
      go true e = e
      go false e = clash (sym (all_read words s.cpu.n q order s s.cpu.prev e)) bad

  reads_is : (x : ℕ) → gives Read s x ≡ reads s s.cpu.prev x
  unfolding reads
  reads_is x = reaches_read s s.cpu.prev is_strict x ∙ simp is_strict

  pub unread_is : (found : Option ℕ) → IsFirstNot (gives Read s) q (q + 1 + 2 * get_or words q 0) found → unwrap_or found q ≡ first_not (reads s s.cpu.prev) q (suc (2 * get_or words q 0))
  unfolding good_set
  unread_is None h =
      clash (ap (λ (t : ℕ → Bool). all_from t q (suc (2 * get_or words q 0))) (sym (fun_ext reads_is)) ∙ ap (all_from (gives Read s) q) (sym length_is) ∙ h) (simp order at bad)
    where
      length_is : q + 1 + 2 * get_or words q 0 - q ≡ suc (2 * get_or words q 0)
      length_is = omega arith
  unread_is (Some x) h =
      h.1 ∙ ap (first_not (gives Read s) q) length_is ∙ ap (λ (t : ℕ → Bool). first_not t q (suc (2 * get_or words q 0))) (fun_ext reads_is)
    where
      length_is : q + 1 + 2 * get_or words q 0 - q ≡ suc (2 * get_or words q 0)
      length_is = omega arith
