-- What the grammar writes of an expression is read back with its value, and reading stops behind it.
use Rattle.std.specs.Prelude.{◌≡◌, Bool, true, List, [], ◌∷◌, ◌++◌, eqb, ltb, length, ℤ, neg_ℤ, ◌*ℤ◌}
use Rattle.std.proofs.Math.Path.{refl, ap}
use Rattle.std.proofs.Common.{sym, ◌∙◌, append_assoc, arith, ltb-false}
use Rattle.std.proofs.Math.Bool.{false}
use Rattle.std.proofs.Math.Option.{Option, none, some, map}
use Prim.Native.Nat.{ℕ, zero, suc, ◌+◌, ◌≤◌, ◌<◌}
use Rattle.std.proofs.lemmas.Bool.{lt-leb}
use Rattle.grammar.specs.Tokens.{Token, number, name, minus, star, dot, left, right}
use Rattle.grammar.specs.Trees.{Sign, adding, taking, Expr, product, negative, more, Product, factor, times, Factor, literal, label, here, group, depth_e, depth_p, depth_f}
use Rattle.grammar.specs.Grammar.{sign_of, write_e, write_p, write_f}
use Rattle.grammar.specs.Laws.Runs.{name_at}
use Rattle.sources.specs.Values as meaning
use Rattle.sources.specs.Labels.{Site}
use Rattle.grammar.specs.Reading.Kinds.{kind_of, clip}
use Rattle.tokens.specs.Streams.{stream, token_at}
use Rattle.tokens.specs.Heads.{head_kind, head_kind_lem, Head, head}
use Rattle.values.specs.Refusals as value
use Rattle.values.specs.Refusals.{Checked, meant, number_means, unknown_means, plus_means, minus_means, times_means, negated_means}
use Rattle.expressions.specs.Readers as reader
use Rattle.expressions.specs.Readers.{Reading}

-- what is written first of a product is no minus sign
mutual
  factor_head : (f : Factor) (us : List Token) → eqb (head_kind (write_f f ++ us)) 13 ≡ false
  factor_head (literal n) us = refl
  factor_head (label x) us = refl
  factor_head here us = refl
  factor_head (group e) us = refl

  product_head : (p : Product) (us : List Token) → eqb (head_kind (write_p p ++ us)) 13 ≡ false
  product_head (factor f) us = factor_head f us
  product_head (times p f) us =
      ap (λ (ts : List Token). eqb (head_kind ts) 13) (append_assoc (write_p p) (star ∷ write_f f) us) ∙ product_head p (star ∷ write_f f ++ us)

-- the first token behind does not go on with a product
abbrev pub NoStar : List Token → Type 0
NoStar us = reader.is_star (head_kind us) ≡ false

-- .. nor with a sum
abbrev pub NoSign : List Token → Type 0
NoSign us = reader.is_sign (head_kind us) ≡ false

sign_no_star : (s : Sign) (us : List Token) → NoStar (sign_of s ∷ us)
sign_no_star adding us = refl
sign_no_star taking us = refl

sign_is_sign : (s : Sign) → reader.is_sign (kind_of (sign_of s)) ≡ true
sign_is_sign adding = refl
sign_is_sign taking = refl

-- ---- values

number_clip : (n : ℕ) → meaning.number (clip n) ≡ meaning.number n
unfolding clip meaning.bounded meaning.lies
number_clip n = go (ltb n 4294967296) refl
  where
    go : (b : Bool) → ltb n 4294967296 ≡ b → meaning.number (clip n) ≡ meaning.number n
    go true e = rw e refl
    go false e = let l : 4294967296 ≤ n = ltb-false n 4294967296 e in simp (e, lt-leb n 4294967295 (omega arith))

by_sign_means : (s : Sign) (v w : Checked)
    → meant (reader.by_sign (kind_of (sign_of s)) v w) ≡ meaning.both (λ a b. meaning.bounded (meaning.by_sign s a b)) (meant v) (meant w)
by_sign_means adding v w = plus_means v w
by_sign_means taking v w = minus_means v w

named_means : (o : Option Site) → meant (reader.named o) ≡ meaning.known (map (λ (s : Site). s.words) o)
named_means (some s) = number_means s.words
named_means none = unknown_means

-- ---- readings

module _ (text : List ℕ) where
  module _ (labels : List ℕ → Option Site) (dot' : ℕ) where
    abbrev pub numbers : List ℕ → Option ℕ
    numbers x = map (λ (s : Site). s.words) (labels x)

    -- a reading from a place on came to a value and stopped before these tokens
    pub record ReadsTo (at : ℕ) (r : Reading) (v : meaning.Valued ℤ) (us : List Token) : Type 0 where
      pub next : ℕ
      pub val : Checked
      pub came : r ≡ reader.good next val
      pub means : meant val ≡ v
      pub onward : at < next
      pub rest : stream text next ≡ us

    -- .. where it may still go on: with turns enough for the bytes that are left
    record Turning (operator : ℕ → Bool) (by : ℕ → Checked → Checked → Checked) (item : ℕ → Reading) (at : ℕ) (r : Reading) (v : meaning.Valued ℤ) (us : List Token) : Type 0 where
      turns : ℕ
      next : ℕ
      val : Checked
      enough : length text ≤ turns + next
      came : r ≡ reader.more text operator by item turns (reader.good next val)
      means : meant val ≡ v
      onward : at < next
      rest : stream text next ≡ us

    module _ (operator : ℕ → Bool) (by : ℕ → Checked → Checked → Checked) (item : ℕ → Reading) (at : ℕ) (r : Reading) where
      -- the first item
      starts : (x : Reading) (v : meaning.Valued ℤ) (us : List Token) → r ≡ reader.more text operator by item (length text) x → ReadsTo at x v us → Turning operator by item at r v us
      starts x v us e s =
          record {
            turns = length text;
            next = s.next;
            val = s.val;
            enough = omega arith;
            came = e ∙ ap (reader.more text operator by item (length text)) s.came;
            means = s.means;
            onward = s.onward;
            rest = s.rest;
          }

      -- no operator follows: the reading is over
      ends : (v : meaning.Valued ℤ) (us : List Token) → operator (head_kind us) ≡ false → Turning operator by item at r v us → ReadsTo at r v us
      unfolding reader.more
      ends v us h t =
          let k : operator (token_at text t.next).kind ≡ false = ap operator (head_kind_lem text t.next ∙ ap head_kind t.rest) ∙ h in
          record { next = t.next; val = t.val; came = t.came ∙ stays t.turns k; means = t.means; onward = t.onward; rest = t.rest }
        where
          stays : (n : ℕ) → operator (token_at text t.next).kind ≡ false → reader.more text operator by item n (reader.good t.next t.val) ≡ reader.good t.next t.val
          stays zero k = refl
          stays (suc n) k = simp k

      -- an operator follows: another item
      goes_on : (v w u : meaning.Valued ℤ) (t : Token) (us vs : List Token) → operator (kind_of t) ≡ true → Turning operator by item at r v (t ∷ us)
          → ((p : ℕ) → stream text p ≡ us → ReadsTo p (item p) w vs)
          → ((a b : Checked) → meant a ≡ v → meant b ≡ w → meant (by (kind_of t) a b) ≡ u)
          → Turning operator by item at r u vs
      unfolding reader.more reader.joined
      goes_on v w u t us vs o s i m = go s.turns refl
        where
          h : Head text s.next t us
          h = head text s.next t us s.rest

          j : ReadsTo (token_at text s.next).next (item (token_at text s.next).next) w vs
          j = i (token_at text s.next).next h.rest

          go : (n : ℕ) → s.turns ≡ n → Turning operator by item at r u vs
          go zero e =
              let a : s.next < (token_at text s.next).next = h.onward in
              let b : (token_at text s.next).next ≤ length text = h.within in
              let l : length text ≤ s.turns + s.next = s.enough in
              absurd (omega arith)
          go (suc n) e =
              let a : s.next < (token_at text s.next).next = h.onward in
              let b : (token_at text s.next).next < j.next = j.onward in
              let l : length text ≤ s.turns + s.next = s.enough in
              let c : at < s.next = s.onward in
              let k : operator (token_at text s.next).kind ≡ true = ap operator h.kind ∙ o in
              let turn : reader.more text operator by item (suc n) (reader.good s.next s.val)
              ≡ reader.more text operator by item n (reader.joined (by (token_at text s.next).kind) (reader.read s.next s.val) (item (token_at text s.next).next)) = simp k in
              let join : reader.joined (by (token_at text s.next).kind) (reader.read s.next s.val) (item (token_at text s.next).next)
              ≡ reader.good j.next (by (token_at text s.next).kind s.val j.val) = rw j.came refl in
              record {
                turns = n;
                next = j.next;
                val = by (token_at text s.next).kind s.val j.val;
                enough = omega arith;
                came = s.came ∙ ap (λ (x : ℕ). reader.more text operator by item x (reader.good s.next s.val)) e ∙ turn ∙ ap (reader.more text operator by item n) join;
                means = ap (λ (x : ℕ). meant (by x s.val j.val)) h.kind ∙ m s.val j.val s.means j.means;
                onward = omega arith;
                rest = j.rest;
              }

    -- ---- the readers of the grammar's parts, with d brackets to open

    abbrev factor_at : ℕ → ℕ → Reading
    factor_at = reader.factor_at text labels dot'

    abbrev product_at : ℕ → ℕ → Reading
    product_at = reader.product_at text labels dot'

    abbrev pub expression_at : ℕ → ℕ → Reading
    expression_at = reader.expression_at text labels dot'

    atom : (at : ℕ) (t : Token) (us : List Token) (r : Reading) (v : Checked) (w : meaning.Valued ℤ) → stream text at ≡ t ∷ us → r ≡ reader.good (token_at text at).next v → meant v ≡ w → ReadsTo at r w us
    atom at t us r v w e c m =
        let h = head text at t us e in
        record { next = (token_at text at).next; val = v; came = c; means = m; onward = h.onward; rest = h.rest }

    -- a bracket and the expression inside, with its closing bracket
    grouped : (d at : ℕ) (e : Expr) (us : List Token) → stream text at ≡ left ∷ write_e e ++ right ∷ us
        → ((p : ℕ) → stream text p ≡ write_e e ++ right ∷ us → ReadsTo p (expression_at d p) (meaning.value_e numbers dot' e) (right ∷ us))
        → ReadsTo at (factor_at (suc d) at) (meaning.value_e numbers dot' e) us
    unfolding reader.factor_by reader.inside reader.closed
    grouped d at e us s i =
        let h = head text at left (write_e e ++ right ∷ us) s in
        let j = i (token_at text at).next h.rest in
        let c = head text j.next right us j.rest in
        let x : at < (token_at text at).next = h.onward in
        let y : (token_at text at).next < j.next = j.onward in
        let z : j.next < (token_at text j.next).next = c.onward in
        record {
          next = (token_at text j.next).next;
          val = j.val;
          came = simp (h.kind, j.came, c.kind);
          means = j.means;
          onward = omega arith;
          rest = c.rest;
        }

    -- a product ends where no star follows
    no_more : (at d : ℕ) (v : meaning.Valued ℤ) (us : List Token) → NoStar us
        → Turning reader.is_star (λ kind. value.times) (factor_at d) at (product_at d at) v us → ReadsTo at (product_at d at) v us
    no_more at d v us n t = ends reader.is_star (λ kind. value.times) (factor_at d) at (product_at d at) v us n t

    mutual
      unfolding reader.factor_by reader.product_by reader.sum_by reader.first_by reader.opposed

      reads_factor : (f : Factor) (d at : ℕ) (us : List Token) → depth_f f ≤ d → stream text at ≡ write_f f ++ us
          → ReadsTo at (factor_at d at) (meaning.value_f numbers dot' f) us
      reads_factor (literal n) d at us l e =
          let h = head text at (number n) us e in
          atom at (number n) us _ (value.number (token_at text at).value) _ e (simp h.kind)
          (number_means (token_at text at).value ∙ ap meaning.number h.number ∙ number_clip n)
      reads_factor (label x) d at us l e =
          let h = head text at (name x) us e in
          atom at (name x) us _ (reader.named (labels (name_at text (token_at text at).place))) _ e (simp h.kind)
          (named_means (labels (name_at text (token_at text at).place)) ∙ ap (λ (y : List ℕ). meaning.known (numbers y)) (sym (h.named x refl)))
      reads_factor here d at us l e =
          let h = head text at dot us e in
          atom at dot us _ (value.number dot') _ e (simp h.kind) (number_means dot')
      reads_factor (group e) zero at us l s = absurd (omega arith)
      reads_factor (group e) (suc d) at us l s =
          grouped d at e us (s ∙ ap (λ (ts : List Token). left ∷ ts) (append_assoc (write_e e) (right ∷ []) us))
          (λ p q. ends reader.is_sign reader.by_sign (product_at d) p (expression_at d p) _ (right ∷ us) refl (reads_sums e d p (right ∷ us) (omega arith) refl q))

      reads_products : (p : Product) (d at : ℕ) (us : List Token) → depth_p p ≤ d → stream text at ≡ write_p p ++ us
          → Turning reader.is_star (λ kind. value.times) (factor_at d) at (product_at d at) (meaning.value_p numbers dot' p) us
      reads_products (factor f) d at us l e = starts _ _ _ _ _ (factor_at d at) _ us refl (reads_factor f d at us l e)
      reads_products (times p f) d at us l e =
          goes_on _ _ _ _ _ (meaning.value_p numbers dot' p) (meaning.value_f numbers dot' f) _ star (write_f f ++ us) us refl
          (reads_products p d at (star ∷ write_f f ++ us) (omega arith) (e ∙ append_assoc (write_p p) (star ∷ write_f f) us))
          (λ q s. reads_factor f d q us (omega arith) s)
          (λ a b g h. times_means a b ∙ ap (λ (v : meaning.Valued ℤ). meaning.both (λ x y. meaning.bounded (x *ℤ y)) v (meant b)) g ∙ ap (meaning.both (λ x y. meaning.bounded (x *ℤ y)) (meaning.value_p numbers dot' p)) h)

      reads_sums : (e : Expr) (d at : ℕ) (us : List Token) → depth_e e ≤ d → NoStar us → stream text at ≡ write_e e ++ us
          → Turning reader.is_sign reader.by_sign (product_at d) at (expression_at d at) (meaning.value_e numbers dot' e) us
      reads_sums (product p) d at us l n e =
          let k : eqb (token_at text at).kind 13 ≡ false = ap (λ (x : ℕ). eqb x 13) (head_kind_lem text at ∙ ap head_kind e) ∙ product_head p us in
          starts _ _ _ _ _ (product_at d at) _ us (simp k) (no_more at d _ us n (reads_products p d at us l e))
      reads_sums (negative p) d at us l n e =
          let h = head text at minus (write_p p ++ us) e in
          let j = no_more (token_at text at).next d _ us n (reads_products p d (token_at text at).next us l h.rest) in
          let x : at < (token_at text at).next = h.onward in
          let y : (token_at text at).next < j.next = j.onward in
          let c : reader.first_by text (product_at d) at ≡ reader.good j.next (value.negated j.val) = simp (h.kind, j.came) in
          starts _ _ _ _ _ (reader.first_by text (product_at d) at) _ us refl
          (record {
            next = j.next;
            val = value.negated j.val;
            came = c;
            means = negated_means j.val ∙ ap (meaning.after (λ a. meaning.bounded (neg_ℤ a))) j.means;
            onward = omega arith;
            rest = j.rest;
          })
      reads_sums (more e s p) d at us l n q =
          goes_on _ _ _ _ _ (meaning.value_e numbers dot' e) (meaning.value_p numbers dot' p) _ (sign_of s) (write_p p ++ us) us (sign_is_sign s)
          (reads_sums e d at (sign_of s ∷ write_p p ++ us) (omega arith) (sign_no_star s (write_p p ++ us)) (q ∙ append_assoc (write_e e) (sign_of s ∷ write_p p) us))
          (λ x y. no_more x d _ us n (reads_products p d x us (omega arith) y))
          (λ a b g h. by_sign_means s a b ∙ ap (λ (v : meaning.Valued ℤ). meaning.both (λ x y. meaning.bounded (meaning.by_sign s x y)) v (meant b)) g ∙ ap (meaning.both (λ x y. meaning.bounded (meaning.by_sign s x y)) (meaning.value_e numbers dot' e)) h)

    -- what is written of an expression is read back with its value, and reading stops behind it
    pub reads_expression : (e : Expr) (d at : ℕ) (us : List Token) → depth_e e ≤ d → NoStar us → NoSign us → stream text at ≡ write_e e ++ us
        → ReadsTo at (expression_at d at) (meaning.value_e numbers dot' e) us
    reads_expression e d at us l n m q = ends reader.is_sign reader.by_sign (product_at d) at (expression_at d at) _ us m (reads_sums e d at us l n q)
