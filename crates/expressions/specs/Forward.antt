-- Every reader goes forward: what it reads ends where it began or behind.
use Rattle.std.specs.Prelude.{◌≡◌, Bool, List, length, Ok, Err}
use Rattle.std.proofs.Math.Path.{refl}
use Rattle.std.proofs.Math.Bool.{true, false}
use Rattle.std.proofs.Math.Option.{Option}
use Prim.Native.Nat.{ℕ, zero, suc, ◌≤◌}
use native.Mathlib.Omega.{arith}
use Rattle.std.proofs.Math.Dec.{eqb}
use Rattle.sources.specs.Labels.{Site}
use Rattle.tokens.specs.Streams.{token_at}
use Rattle.tokens.specs.StreamLaws.{next_on}
use Rattle.values.specs.Refusals.{Checked, times}
use Rattle.expressions.specs.declared.Read.{Read}
use Rattle.expressions.specs.Readers.{Reading, next_of, joined, opposed, is_star, is_sign, by_sign, more, closed, factor_by, product_by, first_by, sum_by, inside, factor_at, product_at, expression_at}

abbrev pub Forward : (ℕ → Reading) → Type 0
Forward item = (at : ℕ) → at ≤ next_of (item at)

joined_next : (f : Checked → Checked → Checked) (r : Read) (s : Reading) → next_of (joined f r s) ≡ next_of s
unfolding joined
joined_next f r (Ok s) = refl
joined_next f r (Err s) = refl

opposed_next : (r : Reading) → next_of (opposed r) ≡ next_of r
unfolding opposed
opposed_next (Ok r) = refl
opposed_next (Err s) = refl

module _ (text : List ℕ) where
  closed_forward : (r : Reading) → next_of r ≤ next_of (closed text r)
  unfolding closed
  closed_forward (Err s) = omega arith
  closed_forward (Ok r) = go (eqb (token_at text r.next).kind 17) refl (next_on text r.next)
    where
      go : (b : Bool) → eqb (token_at text r.next).kind 17 ≡ b → r.next ≤ (token_at text r.next).next → r.next ≤ next_of (closed text (Ok r))
      go true e h = simp e h
      go false e h = simp e h

  factor_forward : (labels : List ℕ → Option Site) (dot : ℕ) (within : ℕ → Reading) → Forward within → Forward (factor_by text labels dot within)
  unfolding factor_by
  factor_forward labels dot within f at =
      go (eqb (token_at text at).kind 9) refl (eqb (token_at text at).kind 8) refl (eqb (token_at text at).kind 15) refl (eqb (token_at text at).kind 16) refl (next_on text at) (f (token_at text at).next)
    where
      go : (w : Bool) → eqb (token_at text at).kind 9 ≡ w → (x : Bool) → eqb (token_at text at).kind 8 ≡ x → (y : Bool) → eqb (token_at text at).kind 15 ≡ y → (z : Bool) → eqb (token_at text at).kind 16 ≡ z
          → at ≤ (token_at text at).next → (token_at text at).next ≤ next_of (within (token_at text at).next) → at ≤ next_of (factor_by text labels dot within at)
      go true a x b y c z d h i = simp a h
      go false a true b y c z d h i = simp (a, b) h
      go false a false b true c z d h i = simp (a, b, c) h
      go false a false b false c true d h i = simp (a, b, c, d) (omega arith)
      go false a false b false c false d h i = simp (a, b, c, d) h

  module _ (operator : ℕ → Bool) (by : ℕ → Checked → Checked → Checked) (item : ℕ → Reading) where
    -- what a turn of `more` comes to
    abbrev pub turned : Read → Reading
    turned r = joined (by (token_at text r.next).kind) r (item (token_at text r.next).next)

    module _ (f : Forward item) where
      pub turn_on : (r : Read) → (token_at text r.next).next ≤ next_of (turned r)
      turn_on r =
          let i : (token_at text r.next).next ≤ next_of (item (token_at text r.next).next) = f (token_at text r.next).next in
          let j : next_of (turned r) ≡ next_of (item (token_at text r.next).next) = joined_next (by (token_at text r.next).kind) r (item (token_at text r.next).next) in
          omega arith

      more_forward : (k : ℕ) (r : Reading) → next_of r ≤ next_of (more text operator by item k r)
      unfolding more
      more_forward zero r = omega arith
      more_forward (suc k) (Err s) = omega arith
      more_forward (suc k) (Ok r) = go (operator (token_at text r.next).kind) refl (more_forward k (turned r)) (next_on text r.next) (turn_on r)
        where
          go : (x : Bool) → operator (token_at text r.next).kind ≡ x → next_of (turned r) ≤ next_of (more text operator by item k (turned r)) → r.next ≤ (token_at text r.next).next
              → (token_at text r.next).next ≤ next_of (turned r) → r.next ≤ next_of (more text operator by item (suc k) (Ok r))
          go false e ih h i = simp e (omega arith)
          go true e ih h i = simp e (omega arith)

  product_forward : (factor : ℕ → Reading) → Forward factor → Forward (product_by text factor)
  unfolding product_by
  product_forward factor f at =
      let a : at ≤ next_of (factor at) = f at in
      let m : next_of (factor at) ≤ next_of (more text is_star (λ kind. times) factor (length text) (factor at)) = more_forward is_star (λ kind. times) factor f (length text) (factor at) in
      omega arith

  first_forward : (product : ℕ → Reading) → Forward product → Forward (first_by text product)
  unfolding first_by
  first_forward product f at = go (eqb (token_at text at).kind 13) refl
    where
      go : (x : Bool) → eqb (token_at text at).kind 13 ≡ x → at ≤ next_of (first_by text product at)
      go false e = simp e (f at)
      go true e =
          let h : at ≤ (token_at text at).next = next_on text at in
          let i : (token_at text at).next ≤ next_of (product (token_at text at).next) = f (token_at text at).next in
          let j : next_of (opposed (product (token_at text at).next)) ≡ next_of (product (token_at text at).next) = opposed_next (product (token_at text at).next) in
          simp e (omega arith)

  sum_forward : (product : ℕ → Reading) → Forward product → Forward (sum_by text product)
  unfolding sum_by
  sum_forward product f at =
      let a : at ≤ next_of (first_by text product at) = first_forward product f at in
      let m : next_of (first_by text product at) ≤ next_of (more text is_sign by_sign product (length text) (first_by text product at)) = more_forward is_sign by_sign product f (length text) (first_by text product at) in
      omega arith

  module _ (labels : List ℕ → Option Site) (dot : ℕ) where
    inside_forward : (d : ℕ) → Forward (inside text labels dot d)
    unfolding inside
    inside_forward zero at = omega arith
    inside_forward (suc d) at =
        let s : at ≤ next_of (expression_at text labels dot d at) = sum_forward (product_at text labels dot d) (product_forward (factor_at text labels dot d) (factor_forward labels dot (inside text labels dot d) (inside_forward d))) at in
        let c : next_of (expression_at text labels dot d at) ≤ next_of (closed text (expression_at text labels dot d at)) = closed_forward (expression_at text labels dot d at) in
        omega arith

    pub factors_forward : (d : ℕ) → Forward (factor_at text labels dot d)
    factors_forward d = factor_forward labels dot (inside text labels dot d) (inside_forward d)

    pub products_forward : (d : ℕ) → Forward (product_at text labels dot d)
    products_forward d = product_forward (factor_at text labels dot d) (factors_forward d)
