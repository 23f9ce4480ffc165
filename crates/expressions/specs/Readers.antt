-- Readers of expressions: a reader takes a place of the text and gives the place behind what it read and the value, or where it
-- stopped and why.
--
-- A reader is made of the readers of its parts, so none here calls itself but through `inside`, which has one bracket less to open.
use Rattle.std.specs.Prelude.{Bool, cond, ◌||◌, List, ℕ, zero, suc, eqb, length, Result, Ok, Err}
use Rattle.std.proofs.Math.Option.{Option, none, some}
use Rattle.grammar.specs.Laws.Runs.{name_at}
use Rattle.sources.specs.Labels.{Site}
use Rattle.tokens.specs.Streams.{token_at}
use Rattle.answers.specs.declared.Refusal.{Refusal}
use Rattle.answers.specs.declared.Refusal.TheVariants.{NoLine, TooDeep}
use Rattle.values.specs.Refusals.{Checked, number, unknown, plus, minus, times, negated}
use Rattle.expressions.specs.declared.Read.{Read}
use Rattle.expressions.specs.declared.Stop.{Stop}

-- ---- results

abbrev pub Reading : Type 0
Reading = Result Read Stop

abbrev pub read : ℕ → Checked → Read
read next v = record { next = next; value = v }

abbrev pub good : ℕ → Checked → Reading
good next v = Ok (read next v)

abbrev pub stop : Refusal → ℕ → Reading
stop refusal next = Err (record { refusal = refusal; next = next })

-- the place that a reading came to
abbrev pub next_of : Reading → ℕ
next_of (Ok r) = r.next
next_of (Err s) = s.next

-- one reading after another
unfoldable pub joined : (Checked → Checked → Checked) → Read → Reading → Reading
joined f r (Ok s) = good s.next (f r.value s.value)
joined f r (Err s) = Err s

unfoldable pub opposed : Reading → Reading
opposed (Ok r) = good r.next (negated r.value)
opposed (Err s) = Err s

-- ---- kinds of tokens that join

abbrev pub is_star : ℕ → Bool
is_star kind = eqb kind 14

abbrev pub is_sign : ℕ → Bool
is_sign kind = eqb kind 12 || eqb kind 13

abbrev pub by_sign : ℕ → Checked → Checked → Checked
by_sign kind = cond (eqb kind 13) minus plus

-- a label's value
abbrev pub named : Option Site → Checked
named (some s) = number s.words
named none = unknown

-- ---- readers, made of the readers of their parts

module _ (text : List ℕ) where
  -- as long as an operator is there, the operator and another item; at most k of them
  unfoldable pub more : (ℕ → Bool) → (ℕ → Checked → Checked → Checked) → (ℕ → Reading) → ℕ → Reading → Reading
  more operator by item zero r = r
  more operator by item (suc k) (Err s) = Err s
  more operator by item (suc k) (Ok r) =
      let t = token_at text r.next in
      cond (operator t.kind) (more operator by item k (joined (by t.kind) r (item t.next))) (Ok r)

  -- the closing bracket behind an expression in brackets
  unfoldable pub closed : Reading → Reading
  closed (Ok r) = let t = token_at text r.next in cond (eqb t.kind 17) (good t.next r.value) (stop NoLine t.next)
  closed (Err s) = Err s

  -- `labels` tells where a label is defined first; `dot` is the line's own address
  module _ (labels : List ℕ → Option Site) (dot : ℕ) where
    -- a number, a label, the dot, or a bracket and what is inside
    unfoldable pub factor_by : (ℕ → Reading) → ℕ → Reading
    factor_by inside at =
        let t = token_at text at in
        cond (eqb t.kind 9) (good t.next (number t.value))
        (cond (eqb t.kind 8) (good t.next (named (labels (name_at text t.place))))
        (cond (eqb t.kind 15) (good t.next (number dot))
        (cond (eqb t.kind 16) (inside t.next) (stop NoLine t.next))))

  -- each operator is a byte of the text, so there are no more of them than bytes
  unfoldable pub product_by : (ℕ → Reading) → ℕ → Reading
  product_by factor at = more is_star (λ kind. times) factor (length text) (factor at)

  unfoldable pub first_by : (ℕ → Reading) → ℕ → Reading
  first_by product at =
      let t = token_at text at in
      cond (eqb t.kind 13) (opposed (product t.next)) (product at)

  unfoldable pub sum_by : (ℕ → Reading) → ℕ → Reading
  sum_by product at = more is_sign by_sign product (length text) (first_by product at)

  -- ---- with d more brackets to open

  module _ (labels : List ℕ → Option Site) (dot : ℕ) where
    unfoldable pub inside : ℕ → ℕ → Reading
    inside zero at = stop TooDeep at
    inside (suc d) at = closed (sum_by (product_by (factor_by labels dot (inside d))) at)

    abbrev pub factor_at : ℕ → ℕ → Reading
    factor_at d = factor_by labels dot (inside d)

    abbrev pub product_at : ℕ → ℕ → Reading
    product_at d = product_by (factor_at d)

    abbrev pub first_at : ℕ → ℕ → Reading
    first_at d = first_by (product_at d)

    abbrev pub expression_at : ℕ → ℕ → Reading
    expression_at d = sum_by (product_at d)
