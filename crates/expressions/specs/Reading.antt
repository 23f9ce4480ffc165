-- The laws of the readers, as the code comes to them.
use Rattle.std.specs.Prelude.{◌≡◌, refl, ◌≢◌, List, true, false, Ok, Err}
use Rattle.std.proofs.Common.{sym, ◌∙◌}
use Rattle.std.proofs.Math.Path.{ap}
use Rattle.std.proofs.Math.Option.{Option}
use Prim.Native.Nat.{ℕ, suc, ◌-◌}
use native.Mathlib.Omega.{arith}
use borrow.Author.Tests.{eq-eqb, ne_eqb}
use Rattle.answers.specs.declared.Refusal.TheVariants.{NoLine, TooDeep}
use Rattle.grammar.specs.Laws.Runs.{name_at}
use Rattle.sources.specs.Labels.{Site}
use Rattle.tokens.specs.Streams.{Handed, token_at}
use Rattle.values.specs.Refusals.{Checked, number, negated}
use Rattle.expressions.specs.declared.Read.{Read}
use Rattle.expressions.specs.declared.Stop.{Stop}
use Rattle.expressions.specs.Readers.{Reading, good, stop, joined, opposed, named, closed, factor_by, first_by, inside, expression_at}

-- ---- one reading after another

module _ (f : Checked → Checked → Checked) (r : Read) (x : Reading) where
  pub joined_good : (s : Read) → Ok s ≡ x → (v : Checked) → v ≡ f r.value s.value → good s.next v ≡ joined f r x
  unfolding joined
  joined_good s e v h = simp (sym e, h)

  pub joined_stop : (s : Stop) → Err s ≡ x → Err s ≡ joined f r x
  unfolding joined
  joined_stop s e = simp (sym e)

module _ (text : List ℕ) where
  -- ---- the closing bracket

  module _ (r : Read) (t : Handed) (e : t ≡ token_at text r.next) where
    pub closed_missing : t.kind ≢ 17 → stop NoLine t.next ≡ closed text (Ok r)
    unfolding closed
    closed_missing n = simp (sym e, ne_eqb t.kind 17 n)

    pub closed_done : t.kind ≡ 17 → good t.next r.value ≡ closed text (Ok r)
    unfolding closed
    closed_done k = simp (sym e, eq-eqb t.kind 17 k)

  -- ---- a factor

  module _ (labels : List ℕ → Option Site) (dot : ℕ) (within : ℕ → Reading) (at : ℕ) (t : Handed) (e : t ≡ token_at text at) where
    module _ (v : Checked) where
      pub factor_number : t.kind ≡ 9 → v ≡ number t.value → good t.next v ≡ factor_by text labels dot within at
      unfolding factor_by
      factor_number k h = simp (sym e, k, h)

      pub factor_name : t.kind ≡ 8 → v ≡ named (labels (name_at text t.place)) → good t.next v ≡ factor_by text labels dot within at
      unfolding factor_by
      factor_name k h = simp (sym e, k, h)

      pub factor_dot : t.kind ≡ 15 → v ≡ number dot → good t.next v ≡ factor_by text labels dot within at
      unfolding factor_by
      factor_dot k h = simp (sym e, k, h)

    pub factor_inside : t.kind ≡ 16 → (r : Reading) → r ≡ within t.next → r ≡ factor_by text labels dot within at
    unfolding factor_by
    factor_inside k r g = simp (sym e, k) g

    pub factor_none : t.kind ≢ 9 → t.kind ≢ 8 → t.kind ≢ 15 → t.kind ≢ 16 → stop NoLine t.next ≡ factor_by text labels dot within at
    unfolding factor_by
    factor_none number name dot left = simp (sym e, ne_eqb t.kind 9 number, ne_eqb t.kind 8 name, ne_eqb t.kind 15 dot, ne_eqb t.kind 16 left)

  -- ---- inside a bracket

  module _ (labels : List ℕ → Option Site) (dot d at : ℕ) where
    pub inside_none : d ≡ 0 → stop TooDeep at ≡ inside text labels dot d at
    unfolding inside
    inside_none z = rw z refl

    module _ (n : d ≢ 0) where
      pub inside_some : (r : Reading) → r ≡ expression_at text labels dot (d - 1) at → closed text r ≡ inside text labels dot d at
      unfolding inside
      inside_some r e =
          let k : d ≡ suc (d - 1) = omega arith in
          ap (closed text) e ∙ ap (λ (j : ℕ). inside text labels dot j at) (sym k)

      pub inside_stopped : (s : Stop) → Err s ≡ expression_at text labels dot (d - 1) at → Err s ≡ inside text labels dot d at
      unfolding closed
      inside_stopped s e = inside_some (Err s) e

  -- ---- the first product

  module _ (product : ℕ → Reading) (at : ℕ) (t : Handed) (e : t ≡ token_at text at) where
    pub first_plain : t.kind ≢ 13 → product at ≡ first_by text product at
    unfolding first_by
    first_plain n = simp (sym e, ne_eqb t.kind 13 n)

    module _ (k : t.kind ≡ 13) where
      pub first_minus : (r : Read) → Ok r ≡ product t.next → (v : Checked) → v ≡ negated r.value → good r.next v ≡ first_by text product at
      unfolding first_by opposed
      first_minus r g v h = simp (sym e, k, sym g, h)

      pub first_stopped : (s : Stop) → Err s ≡ product t.next → Err s ≡ first_by text product at
      unfolding first_by opposed
      first_stopped s g = simp (sym e, k, sym g)
