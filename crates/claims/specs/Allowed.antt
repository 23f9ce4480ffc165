-- How a claim names a contract: what its `ensures` says of an outcome, the outcomes that it allows, and that two of them are the same.
use Rattle.std.specs.Prelude.{◌≡◌, refl}
use Rattle.std.proofs.Common.{sym, ap, ◌∙◌}

-- ---- a contract is named by its plain reading, `post κs a r s`: of the lifetimes, the arguments, the result and the parameters at exit

module _ {K : Type 0} {A R S : K → Type 0} (post : (κs : K) → A κs → R κs → S κs → Type 0) where
  -- two outcomes that it allows are the same, all that the call hands back or may change being `left`
  abbrev pub Once : {Out : Type 0} (left : (κs : K) → R κs → S κs → Out) → Type 0
  Once left = (κs : K) (a : A κs) (r q : R κs) (s t : S κs) → post κs a r s → post κs a q t → left κs r s ≡ left κs q t

  -- how what is given to the call and what it leaves are seen, and that the one is what `meant` makes of the other
  pub record Promise (In Out : Type 0) : Type 0 where
    pub given : (κs : K) → A κs → In
    pub left : (κs : K) → R κs → S κs → Out
    pub meant : In → Out
    pub says : (κs : K) (a : A κs) (r : R κs) (s : S κs) → post κs a r s → left κs r s ≡ meant (given κs a)

  -- an outcome that it allows: given i, the call left o
  pub record Allows {In Out : Type 0} (p : Promise In Out) (i : In) (o : Out) : Type 0 where
    pub κs : K
    pub a : A κs
    pub r : R κs
    pub s : S κs
    pub contract : post κs a r s
    pub enters : p.given κs a ≡ i
    pub leaves : p.left κs r s ≡ o

  -- every outcome of the contract is one
  pub outcome : {In Out : Type 0} (p : Promise In Out) (κs : K) (a : A κs) (r : R κs) (s : S κs) → post κs a r s → Allows p (p.given κs a) (p.left κs r s)
  outcome p κs a r s h = record { κs = κs; a = a; r = r; s = s; contract = h; enters = refl; leaves = refl }

  -- and it is what was meant
  pub allowed : {In Out : Type 0} (p : Promise In Out) (i : In) (o : Out) → Allows p i o → o ≡ p.meant i
  allowed p i o h = sym h.leaves ∙ p.says h.κs h.a h.r h.s h.contract ∙ ap p.meant h.enters

-- two outcomes that are one definition; seen in one way, from which `back` gets them back
pub same : {X : Type 0} {x y z : X} → x ≡ z → y ≡ z → x ≡ y
same h k = h ∙ sym k

pub same_by : {X Y : Type 0} (back : X → Y) {x y z : X} → x ≡ z → y ≡ z → back x ≡ back y
same_by back h k = ap back (same h k)
