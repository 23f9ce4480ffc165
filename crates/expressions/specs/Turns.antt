-- Turns of a loop that reads on as long as an operator is there: what was read so far comes to the whole.
use Rattle.std.specs.Prelude.{◌≡◌, Bool, false, List, Ok, Err}
use Rattle.std.proofs.Math.Path.{refl, sym, ap}
use Rattle.std.proofs.Common.{◌∙◌}
use Rattle.std.proofs.Math.Bool.{true}
use Rattle.std.proofs.Math.Option.{Option}
use Prim.Native.Nat.{ℕ, zero, suc, ◌+◌, ◌-◌, ◌<◌, ◌≤◌}
use native.Mathlib.Omega.{arith}
use Rattle.std.proofs.Math.ListN.{length}
use Rattle.common.proofs.Laws.Tests.{clash}
use Rattle.sources.specs.Labels.{Site}
use Rattle.tokens.specs.Streams.{Handed, token_at}
use Rattle.tokens.specs.StreamLaws.{There, there}
use Rattle.values.specs.Refusals.{Checked, times}
use Rattle.expressions.specs.declared.Read.{Read}
use Rattle.expressions.specs.declared.Stop.{Stop}
use Rattle.expressions.specs.Readers.{Reading, next_of, joined, is_star, is_sign, by_sign, more, product_by, sum_by, factor_at, product_at, first_at, expression_at}
use Rattle.expressions.specs.Forward.{Forward, turned, turn_on, factors_forward, products_forward}

module _ (text : List ℕ) (operator : ℕ → Bool) (by : ℕ → Checked → Checked → Checked) (item : ℕ → Reading) where
  abbrev onward : ℕ → Reading → Reading
  onward = more text operator by item

  -- what has been read so far comes to the whole, in no more turns than there are bytes left
  pub record Comes (r whole : Reading) : Type 0 where
    pub turns : ℕ
    pub enough : length text ≤ turns + next_of r
    pub comes : onward turns r ≡ whole

  pub starts : (r : Reading) → Comes r (onward (length text) r)
  starts r = record { turns = length text; enough = omega arith; comes = refl }

  -- ---- the loop is left: at a refusal, and where no operator is there

  module _ (whole : Reading) where
    module _ (s : Stop) where
      stays_stopped : (k : ℕ) → onward k (Err s) ≡ Err s
      unfolding more
      stays_stopped zero = refl
      stays_stopped (suc k) = refl

      pub stopped : Comes (Err s) whole → Err s ≡ whole
      stopped c = sym (stays_stopped c.turns) ∙ c.comes

    module _ (r : Read) (t : Handed) (e : t ≡ token_at text r.next) (o : operator t.kind ≡ false) where
      stays_ended : (k : ℕ) → onward k (Ok r) ≡ Ok r
      unfolding more
      stays_ended zero = refl
      stays_ended (suc k) = simp (sym e, o)

      pub ended : Comes (Ok r) whole → Ok r ≡ whole
      ended c = sym (stays_ended c.turns) ∙ c.comes

  -- ---- a turn; `none`: the end of the line is no operator

  module _ (none : operator 0 ≡ false) (f : Forward item) (r : Read) (t : Handed) (e : t ≡ token_at text r.next) (o : operator t.kind ≡ true) (u : Reading) (eu : u ≡ joined (by t.kind) r (item t.next)) where
    is_turned : u ≡ turned text operator by item r
    is_turned = eu ∙ ap (λ (x : Handed). joined (by x.kind) r (item x.next)) e

    goes_on : (r.next < next_of u) × (r.next < length text)
    goes_on =
        let a : There text r.next = there text r.next (λ z. clash (ap (λ (x : Handed). operator x.kind) (sym e) ∙ o) (ap operator z ∙ none)) in
        let b : r.next < (token_at text r.next).next = a.onward in
        let c : (token_at text r.next).next ≤ length text = a.within in
        let d : (token_at text r.next).next ≤ next_of (turned text operator by item r) = turn_on text operator by item f r in
        let g : next_of u ≡ next_of (turned text operator by item r) = ap next_of is_turned in
        (omega arith, omega arith)

    turn_falls : length text - next_of u < length text - r.next
    turn_falls =
        let a : r.next < next_of u = goes_on.0 in
        let b : r.next < length text = goes_on.1 in
        omega arith

    turn_again : (whole : Reading) → Comes (Ok r) whole → Comes u whole
    unfolding more
    turn_again whole c =
        let a : r.next < next_of u = goes_on.0 in
        let b : r.next < length text = goes_on.1 in
        let n : length text ≤ c.turns + r.next = c.enough in
        let k : c.turns ≡ suc (c.turns - 1) = omega arith in
        let step : onward (suc (c.turns - 1)) (Ok r) ≡ onward (c.turns - 1) (turned text operator by item r) = simp (sym e, o) in
        record {
          turns = c.turns - 1;
          enough = omega arith;
          comes = ap (onward (c.turns - 1)) is_turned ∙ sym step ∙ ap (λ (j : ℕ). onward j (Ok r)) (sym k) ∙ c.comes;
        }

-- ---- products and sums

module _ (text : List ℕ) (labels : List ℕ → Option Site) (dot d : ℕ) where
  abbrev pub ProductComes : Reading → Reading → Type 0
  ProductComes = Comes text is_star (λ kind. times) (factor_at text labels dot d)

  abbrev pub SumComes : Reading → Reading → Type 0
  SumComes = Comes text is_sign by_sign (product_at text labels dot d)

  module _ (r : Read) (t : Handed) (e : t ≡ token_at text r.next) (u : Reading) where
    module _ (o : is_star t.kind ≡ true) (eu : u ≡ joined times r (factor_at text labels dot d t.next)) where
      pub product_falls : length text - next_of u < length text - r.next
      product_falls = turn_falls text is_star (λ kind. times) (factor_at text labels dot d) refl (factors_forward text labels dot d) r t e o u eu

      pub product_again : (whole : Reading) → ProductComes (Ok r) whole → ProductComes u whole
      product_again = turn_again text is_star (λ kind. times) (factor_at text labels dot d) refl (factors_forward text labels dot d) r t e o u eu

    module _ (o : is_sign t.kind ≡ true) (eu : u ≡ joined (by_sign t.kind) r (product_at text labels dot d t.next)) where
      pub sum_falls : length text - next_of u < length text - r.next
      sum_falls = turn_falls text is_sign by_sign (product_at text labels dot d) refl (products_forward text labels dot d) r t e o u eu

      pub sum_again : (whole : Reading) → SumComes (Ok r) whole → SumComes u whole
      sum_again = turn_again text is_sign by_sign (product_at text labels dot d) refl (products_forward text labels dot d) r t e o u eu

  module _ (at : ℕ) (r : Reading) where
    pub product_starts : r ≡ factor_at text labels dot d at → ProductComes r (product_at text labels dot d at)
    unfolding product_by
    product_starts e = rw e (starts text is_star (λ kind. times) (factor_at text labels dot d) (factor_at text labels dot d at))

    pub sum_starts : r ≡ first_at text labels dot d at → SumComes r (expression_at text labels dot d at)
    unfolding sum_by
    sum_starts e = rw e (starts text is_sign by_sign (product_at text labels dot d) (first_at text labels dot d at))
