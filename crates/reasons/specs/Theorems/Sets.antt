-- 8 and 10: what is told of the caller's sets.
use Rattle.std.specs.Prelude.{◌≡◌, Bool, cond, ◌&&◌, ◌||◌, not, ℕ, suc, ◌+◌, ◌-◌, ◌*◌, ◌≤◌, ◌<◌, max, leb, eqb, get_or}
use Rattle.std.proofs.Math.Path.{refl, fun_ext}
use Rattle.std.proofs.Common.{sym, ap, ◌∙◌}
use Rattle.std.proofs.Math.Bool.{true, false, or-false}
use native.Mathlib.Omega.{arith}
use borrow.Author.Tests.{ltb-true, ltb-false, leb-true, leb-false, eqb-true, not-true}
use Rattle.std.proofs.Math.Dec.{ltb}
use Rattle.common.specs.Services.{isolate}
use Rattle.common.specs.AddressSets.{set_at, inside, ordered, all_from, good_set, in_set, within}
use Rattle.common.proofs.Laws.Tests.{both, clash}
use Rattle.common.proofs.Laws.AddressSetLaws.{within_if}
use Rattle.rules.specs.State.{State, owns, may_jump, may_store, may_read, reads}
use Rattle.rules.specs.Checks.{good_in, good_sets, bad_sets, sets_within, not_within}
use Rattle.reasons.specs.First.{first_set, first_disordered}
use Rattle.reasons.specs.Why.{Why, word_at, pointer, set_by, extent, set_fault, fault_at, bad_set, may_give, wide_set, out_at, about_set, about_gift}
use Rattle.reasons.specs.Causes.{BadWord, out_of_memory, wrong_pair, not_readable, OneSet, BadSet, OutOfReach}
use Rattle.reasons.specs.Laws.FirstLaws.{first_fails, out_fails, first_disordered_lem, Failing, set_fails}

-- ---- 8

module _ (s : State) (r : ℕ) where
  -- a set that is not inside memory has its first word there, or its first word from N on
  not_inside : inside s.words s.cpu.n (pointer s r) ≡ false → s.cpu.n < pointer s r + extent s r
  unfolding inside
  not_inside h = go (ltb (pointer s r) s.cpu.n) refl
    where
      go : (b : Bool) → ltb (pointer s r) s.cpu.n ≡ b → s.cpu.n < pointer s r + extent s r
      go true e = let l = leb-false (pointer s r + 1 + 2 * word_at s (pointer s r)) s.cpu.n (simp e at h) in omega arith
      go false e = let l = ltb-false (pointer s r) s.cpu.n e in omega arith

  bad_word : good_in s s.cpu.prev r ≡ false → BadWord s (about_set s r)
  unfolding good_set set_fault fault_at set_at
  bad_word h = go (inside s.words s.cpu.n (pointer s r)) (ordered (set_by s r)) refl refl
    where
      go : (a b : Bool) → inside s.words s.cpu.n (pointer s r) ≡ a → ordered (set_by s r) ≡ b → BadWord s (about_set s r)
      go false b e f =
          let l = not_inside e in
          simp e (out_of_memory refl (record { above = omega arith; from = omega arith; below = omega arith }))
      go true false e f =
          let d = first_disordered_lem s.words (pointer s r + 1) (word_at s (pointer s r)) f in
          simp (e, f)
          (wrong_pair refl (record { whole = e; index = first_disordered (set_by s r); place = refl; counted = d.counted; wrong = d.wrong; before = d.before }))
      go true true e f =
          let d = first_fails (reads s s.cpu.prev) (extent s r) (pointer s r) (simp (e, f) at h) in
          simp (e, f) (not_readable refl (record { whole = e; rises = f; from = d.from; below = d.below; not_read = d.fails; before = d.before }))

one_set : (s : State) (w : Why) (test : ℕ → Bool) → Failing s.cpu.strict test w.set → OneSet s w test
one_set s w test f = record { first = f.first; last = f.last; fourth = f.fourth; before = f.before }

pub bad_set_fails : (s : State) → bad_sets s ≡ true → Failing s.cpu.strict (good_in s s.cpu.prev) (bad_set s)
unfolding bad_sets good_sets bad_set
bad_set_fails s h = set_fails s.cpu.strict (good_in s s.cpu.prev) (not-true _ (both (eqb s.cpu.pc isolate) (not (good_sets s s.cpu.prev)) h).1)

pub bad_set_lem : (s : State) → bad_sets s ≡ true → BadSet s (about_set s (bad_set s))
unfolding bad_sets
bad_set_lem s h =
    let f = bad_set_fails s h in
    record { called = eqb-true _ _ (both (eqb s.cpu.pc isolate) (not (good_sets s s.cpu.prev)) h).0; one = one_set s _ _ f; word = bad_word s _ f.fails; value = refl }

-- ---- 10

module _ (s : State) (c : ℕ) where
  -- by the sets' numbers, what the check asks
  pub sets_are : sets_within s c ≡ (within (set_by s 1) (may_give s c 1) && within (set_by s 2) (may_give s c 2) && within (set_by s 3) (may_give s c 3) && (not s.cpu.strict || within (set_by s 4) (may_give s c 4)))
  unfolding sets_within may_give
  sets_are = simp (fun_ext (λ (x : ℕ). or-false (owns s c x)), within_if s.cpu.strict (set_by s 4) (λ x. owns s c x || may_read s c x))

pub wide_set_fails : (s : State) → not_within s ≡ true → Failing s.cpu.strict (λ r. within (set_by s r) (may_give s s.cpu.prev r)) (wide_set s)
unfolding not_within wide_set
wide_set_fails s h =
    set_fails s.cpu.strict (λ r. within (set_by s r) (may_give s s.cpu.prev r))
    (sym (sets_are s s.cpu.prev) ∙ not-true _ (both (eqb s.cpu.pc isolate) (not (sets_within s s.cpu.prev)) h).1)

pub not_within_lem : (s : State) → not_within s ≡ true → OutOfReach s (about_gift s (wide_set s))
unfolding not_within out_at
not_within_lem s h =
    let f = wide_set_fails s h in
    let o = out_fails (may_give s s.cpu.prev (wide_set s)) (set_by s (wide_set s)) f.fails in
    record {
      called = eqb-true _ _ (both (eqb s.cpu.pc isolate) (not (sets_within s s.cpu.prev)) h).0;
      one = one_set s _ _ f;
      named = o.0;
      not_given = o.1;
      whose = refl;
    }
