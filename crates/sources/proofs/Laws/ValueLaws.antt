-- An expression has a value exactly where its names have numbers and no value on the way leaves the bounds; and so in a field.
use Rattle.std.specs.Prelude.{◌≡◌, refl, Bool, true, false, cond, ◌&&◌, List, [], ◌∷◌, ◌++◌, ◌↔◌, ◌⊎◌, ℕ, suc, ◌-◌, ℤ, pos, negsuc, neg_ℤ, ◌*ℤ◌}
use Rattle.std.proofs.Common.{sym, ap, ◌∙◌, inl, inr, ⊎_elim, arith, leb-true, le-leb}
use Rattle.std.proofs.Math.Bool.{and-true}
use Rattle.std.proofs.Math.Logic.{⊎_map}
use Rattle.std.proofs.Math.Option.{Option, none, some}
use Rattle.common.proofs.Laws.Tests as tests
use Rattle.common.proofs.Laws.Tests.{clash}
use Rattle.grammar.specs.Trees.{Expr, product, negative, more, Product, factor, times, Factor, literal, label, here, group}
use Rattle.sources.specs.Values.{Valued, is, unknown, outside, lies, bounded, both, after, by_sign, value_e, value_p, value_f}
use Rattle.sources.specs.Words.{twos, in_field}
use Rattle.sources.proofs.Laws.Each.{each, each_append, each_of, of_each, each_fails, fails_each}
use Rattle.sources.specs.Laws.OnTheWay.{names_e, names_p, names_f, Within, plain_e, plain_p, plain_f, way_e, way_p, way_f, Known, Unknown, Stays, Leaves}

-- ---- bounds

lies_within : (below above : ℕ) (z : ℤ) → (lies below above z ≡ true) ↔ Within below above z
unfolding lies
lies_within below above (pos n) = (leb-true n above, le-leb n above)
lies_within below above (negsuc n) = (leb-true (suc n) below, le-leb (suc n) below)

lies_beyond : (below above : ℕ) (z : ℤ) → (lies below above z ≡ false) ↔ (Within below above z → ⊥)
lies_beyond below above z = (λ e w. clash ((lies_within below above z).1 w) e, λ n. go n (lies below above z) refl)
  where
    go : (Within below above z → ⊥) → (b : Bool) → lies below above z ≡ b → lies below above z ≡ false
    go n true e = absurd (n ((lies_within below above z).0 e))
    go n false e = e

-- ---- a value as two tests and a plain number

-- whether the names are known, and whether the values are within their bounds
abbrev verdict : {A : Type 0} → Bool → Bool → A → Valued A
verdict true true a = is a
verdict true false a = outside
verdict false w a = unknown

abbrev stays : ℤ → Bool
stays z = lies 2147483648 4294967295 z

picked : {A : Type 0} (b : Bool) (a : A) → cond b (is a) outside ≡ verdict true b a
picked true a = refl
picked false a = refl

one_verdict : (z : ℤ) → bounded z ≡ verdict true (stays z && true) z
unfolding bounded
one_verdict z = picked (stays z) z ∙ ap (λ (b : Bool). verdict true b z) (sym (and-true (stays z)))

after_verdict : (z : ℤ) (f : ℤ → ℤ) (k w : Bool) → after (λ a. bounded (f a)) (verdict k w z) ≡ verdict k (w && (stays (f z) && true)) (f z)
after_verdict z f true true = one_verdict (f z)
after_verdict z f true false = refl
after_verdict z f false w = refl

both_verdict : (f : ℤ → ℤ → ℤ) (a b : ℤ) (k w l v : Bool)
    → both (λ x y. bounded (f x y)) (verdict k w a) (verdict l v b) ≡ verdict (k && l) (w && v && (stays (f a b) && true)) (f a b)
both_verdict f a b true true true true = one_verdict (f a b)
both_verdict f a b true true true false = refl
both_verdict f a b true true false v = refl
both_verdict f a b true false true true = refl
both_verdict f a b true false true false = refl
both_verdict f a b true false false v = refl
both_verdict f a b false w l v = refl

-- what a verdict says, as conditions
module _ {A : Type 0} (k w : Bool) (a : A) (v : Valued A) (told : v ≡ verdict k w a) where
  is_exactly : {K W : Type 0} (b : A) → (k ≡ true) ↔ K → (w ≡ true) ↔ W → (v ≡ is b) ↔ (K × W × (a ≡ b))
  is_exactly {K} {W} b known within = (
    λ h. let x = verdict_is k w (sym told ∙ h) in (known.0 x.0, within.0 x.1, x.2),
    λ h. told ∙ ap (λ (c : Bool). verdict c w a) (known.1 h.0) ∙ ap (λ (c : Bool). verdict true c a) (within.1 h.1) ∙ ap is h.2,
  )
    where
      verdict_is : (c d : Bool) → verdict c d a ≡ is b → (c ≡ true) × (d ≡ true) × (a ≡ b)
      verdict_is true true h = (refl, refl, cc)
      verdict_is true false h = let z : ◌≡◌ {A = ℕ} 0 1 = cc in absurd (omega arith)
      verdict_is false d h = let z : ◌≡◌ {A = ℕ} 0 1 = cc in absurd (omega arith)

  unknown_exactly : {U : Type 0} → (k ≡ false) ↔ U → (v ≡ unknown) ↔ U
  unknown_exactly {U} lost = (λ h. lost.0 (verdict_unknown k w (sym told ∙ h)), λ u. told ∙ ap (λ (c : Bool). verdict c w a) (lost.1 u))
    where
      verdict_unknown : (c d : Bool) → verdict c d a ≡ unknown → c ≡ false
      verdict_unknown true true h = let z : ◌≡◌ {A = ℕ} 0 1 = cc in absurd (omega arith)
      verdict_unknown true false h = let z : ◌≡◌ {A = ℕ} 0 1 = cc in absurd (omega arith)
      verdict_unknown false d h = refl

  outside_exactly : {K L : Type 0} → (k ≡ true) ↔ K → (w ≡ false) ↔ L → (v ≡ outside) ↔ (K × L)
  outside_exactly {K} {L} known leaves = (
    λ h. let x = verdict_outside k w (sym told ∙ h) in (known.0 x.0, leaves.0 x.1),
    λ h. told ∙ ap (λ (c : Bool). verdict c w a) (known.1 h.0) ∙ ap (λ (c : Bool). verdict true c a) (leaves.1 h.1),
  )
    where
      verdict_outside : (c d : Bool) → verdict c d a ≡ outside → (c ≡ true) × (d ≡ false)
      verdict_outside true true h = let z : ◌≡◌ {A = ℕ} 0 1 = cc in absurd (omega arith)
      verdict_outside true false h = (refl, refl)
      verdict_outside false d h = let z : ◌≡◌ {A = ℕ} 0 1 = cc in absurd (omega arith)

-- ---- in a field

not_both : (a b : Bool) → ((a && b) ≡ false) ↔ ((a ≡ false) ⊎ (b ≡ false))
not_both true b = (λ h. inr h, ⊎_elim (λ h. clash refl h) (λ h. h))
not_both false b = (λ h. inl refl, λ h. refl)

in_field_verdict : (below above size : ℕ) (z : ℤ) (k w : Bool)
    → after (in_field below above size) (verdict k w z) ≡ verdict k (w && lies below above z) (twos size z)
unfolding in_field
in_field_verdict below above size (pos n) true true = picked (lies below above (pos n)) n
in_field_verdict below above size (negsuc n) true true = picked (lies below above (negsuc n)) (size - suc n)
in_field_verdict below above size z true false = refl
in_field_verdict below above size z false w = refl

module _ (labels : List ℕ → Option ℕ) (dot : ℕ) where
  abbrev numbered : List ℕ → Bool
  numbered x = there (labels x)
    where
      there : Option ℕ → Bool
      there (some n) = true
      there none = false

  label_verdict : (x : List ℕ) → value_f labels dot (label x) ≡ verdict (numbered x && true) (stays (plain_f labels dot (label x)) && true) (plain_f labels dot (label x))
  label_verdict x = go (labels x) refl
    where
      go : (o : Option ℕ) → labels x ≡ o → value_f labels dot (label x) ≡ verdict (numbered x && true) (stays (plain_f labels dot (label x)) && true) (plain_f labels dot (label x))
      go (some n) e = rw e (one_verdict (pos n))
      go none e = rw e

  -- v is the verdict on these names and these values on the way, the last of which is z
  record Tells (v : Valued ℤ) (names : List (List ℕ)) (way : List ℤ) (z : ℤ) : Type 0 where
    told : v ≡ verdict (each numbered names) (each stays way) z

  negated : {x : Valued ℤ} {ns : List (List ℕ)} {us : List ℤ} {a : ℤ} → Tells x ns us a → Tells (after (λ i. bounded (neg_ℤ i)) x) ns (us ++ neg_ℤ a ∷ []) (neg_ℤ a)
  negated {ns} {us} {a} e = record { told = rw (e.told, each_append) (after_verdict a neg_ℤ (each numbered ns) (each stays us)) }

  joined : (f : ℤ → ℤ → ℤ) {x y : Valued ℤ} {ns ms : List (List ℕ)} {us vs : List ℤ} {a b : ℤ} → Tells x ns us a → Tells y ms vs b
      → Tells (both (λ i j. bounded (f i j)) x y) (ns ++ ms) (us ++ vs ++ f a b ∷ []) (f a b)
  joined f {ns} {ms} {us} {vs} {a} {b} d e = record {
    told = simp (d.told, e.told, each_append) (both_verdict f a b (each numbered ns) (each stays us) (each numbered ms) (each stays vs));
  }

  mutual
    verdict_e : (e : Expr) → Tells (value_e labels dot e) (names_e e) (way_e labels dot e) (plain_e labels dot e)
    verdict_e (product p) = verdict_p p
    verdict_e (negative p) = negated (verdict_p p)
    verdict_e (more e s p) = joined (by_sign s) (verdict_e e) (verdict_p p)

    verdict_p : (p : Product) → Tells (value_p labels dot p) (names_p p) (way_p labels dot p) (plain_p labels dot p)
    verdict_p (factor f) = verdict_f f
    verdict_p (times p f) = joined ◌*ℤ◌ (verdict_p p) (verdict_f f)

    verdict_f : (f : Factor) → Tells (value_f labels dot f) (names_f f) (way_f labels dot f) (plain_f labels dot f)
    verdict_f (literal n) = record { told = one_verdict (pos n) }
    verdict_f (label x) = record { told = label_verdict x }
    verdict_f here = record { told = one_verdict (pos dot) }
    verdict_f (group e) = verdict_e e

  -- ---- the two tests as conditions

  numbered_is : (x : List ℕ) → numbered x ≡ true → (n : ℕ) × (labels x ≡ some n)
  numbered_is x h = go (labels x) refl
    where
      go : (o : Option ℕ) → labels x ≡ o → (n : ℕ) × (labels x ≡ some n)
      go (some n) e = (n, e)
      go none e = clash h (rw e)

  numbered_not : (x : List ℕ) → numbered x ≡ false → labels x ≡ none
  numbered_not x h = go (labels x) refl
    where
      go : (o : Option ℕ) → labels x ≡ o → labels x ≡ none
      go (some n) e = clash (rw e) h
      go none e = e

  all_known : (e : Expr) → (each numbered (names_e e) ≡ true) ↔ Known labels e
  all_known e = (
    λ h x m. numbered_is x (each_of numbered m h),
    λ k. of_each numbered (names_e e) (λ x m. rw (k x m).1),
  )

  one_unknown : (e : Expr) → (each numbered (names_e e) ≡ false) ↔ Unknown labels e
  one_unknown e = (
    λ h. let f = each_fails numbered (names_e e) h in record { name = f.at; used = f.there; no_number = numbered_not f.at f.fails },
    λ u. fails_each numbered (names_e e) (record { at = u.name; there = u.used; fails = rw u.no_number }),
  )

  all_stay : (e : Expr) → (each stays (way_e labels dot e) ≡ true) ↔ Stays labels dot e
  all_stay e = (
    λ h z m. (lies_within 2147483648 4294967295 z).0 (each_of stays m h),
    λ k. of_each stays (way_e labels dot e) (λ z m. (lies_within 2147483648 4294967295 z).1 (k z m)),
  )

  one_leaves : (e : Expr) → (each stays (way_e labels dot e) ≡ false) ↔ Leaves labels dot e
  one_leaves e = (
    λ h. let f = each_fails stays (way_e labels dot e) h in record { at = f.at; reached = f.there; beyond = (lies_beyond 2147483648 4294967295 f.at).0 f.fails },
    λ l. fails_each stays (way_e labels dot e) (record { at = l.at; there = l.reached; fails = (lies_beyond 2147483648 4294967295 l.at).1 l.beyond }),
  )

  -- ---- a value, exactly

  module _ (e : Expr) where
    -- it has a value where each of its names has a number and no value on the way leaves the bounds; then it is the plain value
    pub value_is : (z : ℤ) → (value_e labels dot e ≡ is z) ↔ (Known labels e × Stays labels dot e × (plain_e labels dot e ≡ z))
    value_is z = is_exactly _ _ _ _ (verdict_e e).told z (all_known e) (all_stay e)

    -- it is unknown where one of its names has no number
    pub value_unknown : (value_e labels dot e ≡ unknown) ↔ Unknown labels e
    value_unknown = unknown_exactly _ _ _ _ (verdict_e e).told (one_unknown e)

    -- it is outside where each has one, and some value on the way leaves the bounds
    pub value_outside : (value_e labels dot e ≡ outside) ↔ (Known labels e × Leaves labels dot e)
    value_outside = outside_exactly _ _ _ _ (verdict_e e).told (all_known e) (one_leaves e)

  -- ---- in a field, exactly

  module _ (below above size : ℕ) (e : Expr) where
    abbrev field : Valued ℕ
    field = after (in_field below above size) (value_e labels dot e)

    -- the last value does not fit the field
    abbrev Misfits : Type 0
    Misfits = Within below above (plain_e labels dot e) → ⊥

    field_verdict : field ≡ verdict (each numbered (names_e e)) (each stays (way_e labels dot e) && lies below above (plain_e labels dot e)) (twos size (plain_e labels dot e))
    field_verdict =
        ap (after (in_field below above size)) (verdict_e e).told
        ∙ in_field_verdict below above size (plain_e labels dot e) (each numbered (names_e e)) (each stays (way_e labels dot e))

    both_exactly : ((each stays (way_e labels dot e) && lies below above (plain_e labels dot e)) ≡ true) ↔ (Stays labels dot e × Within below above (plain_e labels dot e))
    both_exactly =
        let l = lies_within below above (plain_e labels dot e) in (
          λ h. let x = tests.both (each stays (way_e labels dot e)) (lies below above (plain_e labels dot e)) h in ((all_stay e).0 x.0, l.0 x.1),
          λ h. simp ((all_stay e).1 h.0, l.1 h.1),
        )

    either_exactly : ((each stays (way_e labels dot e) && lies below above (plain_e labels dot e)) ≡ false) ↔ (Leaves labels dot e ⊎ Misfits)
    either_exactly =
        let l = lies_beyond below above (plain_e labels dot e) in
        let x = not_both (each stays (way_e labels dot e)) (lies below above (plain_e labels dot e)) in
        (λ h. ⊎_map (one_leaves e).0 l.0 (x.0 h), λ h. x.1 (⊎_map (one_leaves e).1 l.1 h))

    -- besides, the last value fits the field; and then it stands there
    pub field_is : (n : ℕ) → (field ≡ is n)
        ↔ (Known labels e × (Stays labels dot e × Within below above (plain_e labels dot e)) × (twos size (plain_e labels dot e) ≡ n))
    field_is n = is_exactly _ _ _ _ field_verdict n (all_known e) both_exactly

    pub field_unknown : (field ≡ unknown) ↔ Unknown labels e
    field_unknown = unknown_exactly _ _ _ _ field_verdict (one_unknown e)

    -- it is outside where each name has a number, and some value on the way leaves the bounds or the last does not fit the field
    pub field_outside : (field ≡ outside) ↔ (Known labels e × (Leaves labels dot e ⊎ Misfits))
    field_outside = outside_exactly _ _ _ _ field_verdict (all_known e) either_exactly
