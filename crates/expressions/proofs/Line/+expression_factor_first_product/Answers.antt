-- Each return and each turn of the calls expression, first, product, factor is a law of the readers.
use Rattle.std.proofs.Common.{sym, ap, ◌∙◌}
use Rattle.std.proofs.lemmas.Result.{err_from_is_err_and}
use borrow.Author.Tests.{eq-eqb, ne_eqb}
use Rattle.tokens.specs.Kinds.{seen, kind_number, other_kind, are_other, are_same}
use Rattle.tokens.specs.declared.Kind.TheVariants.{Minus, Star}
use Rattle.expressions.specs.Turns.{product_falls, product_again, sum_falls, sum_again, stopped, ended, product_starts, sum_starts}
use Rattle.expressions.specs.Reading.{joined_good, joined_stop, factor_number, factor_name, factor_dot, factor_none, factor_inside, inside_none, inside_some, inside_stopped, first_plain, first_minus, first_stopped}
use Rattle.expressions.proofs.Line.+expression_factor_first_product.Goals as goal

pub expression-returns-in_err-read : goal.expression-returns-in_err-read
expression-returns-in_err-read t c = let p = err_from_is_err_and c.from_residual.result c.from_residual.ensures.1 in
    rw (p.1, p.2) (stopped _ _ _ _ _ _ (sum_starts _ _ _ _ _ _ (c.in_err-read.ensures {u = tt})))

pub expression-loop-t-init : goal.expression-loop-t-init
expression-loop-t-init t c = sum_starts _ _ _ _ _ _ (c.in_ok-read.ensures {u = tt})

pub expression-returns-then-not-is_sign : goal.expression-returns-then-not-is_sign
expression-returns-then-not-is_sign t c = ended _ _ _ _ _ _ (seen c.token-t.result) c.token-t.ensures (sym c.is_sign.ensures ∙ c.if-not-is_sign.true) c.loop-t.invariant

pub expression-returns-in_err-product : goal.expression-returns-in_err-product
expression-returns-in_err-product t c = let p = err_from_is_err_and c.from_residual-in_err-product.result c.from_residual-in_err-product.ensures.1 in
    let u = joined_stop _ _ _ _ (c.in_err-product.ensures {u = tt}) in
    rw (p.1, p.2) (stopped _ _ _ _ _ _ (sum_again _ _ _ _ _ (seen c.token-t.result) c.token-t.ensures _ (sym c.is_sign.ensures ∙ c.if-not-is_sign.false) u _ c.loop-t.invariant))

pub expression-loop-t-smaller : goal.expression-loop-t-smaller
expression-loop-t-smaller t c = let u = joined_good _ _ _ _ (c.in_ok-product.ensures {u = tt}) _ c.summed.ensures in
    sum_falls _ _ _ _ _ (seen c.token-t.result) c.token-t.ensures _ (sym c.is_sign.ensures ∙ c.if-not-is_sign.false) u

pub expression-loop-t-preserved : goal.expression-loop-t-preserved
expression-loop-t-preserved t c = let u = joined_good _ _ _ _ (c.in_ok-product.ensures {u = tt}) _ c.summed.ensures in
    sum_again _ _ _ _ _ (seen c.token-t.result) c.token-t.ensures _ (sym c.is_sign.ensures ∙ c.if-not-is_sign.false) u _ c.loop-t.invariant

pub factor-returns-in_err-inside-in-Left-2 : goal.factor-returns-in_err-inside-in-Left-2
factor-returns-in_err-inside-in-Left-2 t c = let p = err_from_is_err_and c.from_residual.result c.from_residual.ensures.1 in
    rw (p.1, p.2) (factor_inside _ _ _ _ _ (seen c.token-t.result) c.token-t.ensures (ap kind_number c.in-Left-2.is) _ (inside_stopped _ _ _ _ _ c.if-depth-eq0.false _ (c.in_err-inside-in-Left-2.ensures {u = tt})))

pub factor-returns-in-Number : goal.factor-returns-in-Number
factor-returns-in-Number t c = factor_number _ _ _ _ _ (seen c.token-t.result) c.token-t.ensures _ (ap kind_number c.in-Number.is) c.number.ensures

pub factor-returns-in-Name : goal.factor-returns-in-Name
factor-returns-in-Name t c = factor_name _ _ _ _ _ (seen c.token-t.result) c.token-t.ensures _ (ap kind_number c.in-Name.is) c.label.ensures

pub factor-returns-in-Dot : goal.factor-returns-in-Dot
factor-returns-in-Dot t c = factor_dot _ _ _ _ _ (seen c.token-t.result) c.token-t.ensures _ (ap kind_number c.in-Dot.is) c.number-in-Dot.ensures

pub factor-returns-in-Left : goal.factor-returns-in-Left
factor-returns-in-Left t c = factor_inside _ _ _ _ _ (seen c.token-t.result) c.token-t.ensures (ap kind_number c.in-Left.is) _ (inside_none _ _ _ _ _ c.if-depth-eq0.true)

pub factor-returns-in_ok-inside-in-Left-2 : goal.factor-returns-in_ok-inside-in-Left-2
factor-returns-in_ok-inside-in-Left-2 t c = c.closed.ensures ∙ factor_inside _ _ _ _ _ (seen c.token-t.result) c.token-t.ensures (ap kind_number c.in-Left-2.is) _ (inside_some _ _ _ _ _ c.if-depth-eq0.false _ (c.in_ok-inside-in-Left-2.ensures {u = tt}))

pub factor-returns-in_default : goal.factor-returns-in_default
factor-returns-in_default t c = let n = c.in_default in
    factor_none _ _ _ _ _ (seen c.token-t.result) c.token-t.ensures (other_kind _ _ n.not-Number) (other_kind _ _ n.not-Name) (other_kind _ _ n.not-Dot) (other_kind _ _ n.not-Left)

pub first-returns-then-ne : goal.first-returns-then-ne
first-returns-then-ne t c = c.product.ensures ∙ first_plain _ _ _ (seen c.token-t.result) c.token-t.ensures (are_other _ Minus _ c.ne.ensures c.if-ne.true)

pub first-returns-in_err-product : goal.first-returns-in_err-product
first-returns-in_err-product t c = let p = err_from_is_err_and c.from_residual.result c.from_residual.ensures.1 in
    rw (p.1, p.2) (first_stopped _ _ _ (seen c.token-t.result) c.token-t.ensures (are_same _ Minus _ c.ne.ensures c.if-ne.false) _ (c.in_err-product.ensures {u = tt}))

pub first-returns : goal.first-returns
first-returns t c = first_minus _ _ _ (seen c.token-t.result) c.token-t.ensures (are_same _ Minus _ c.ne.ensures c.if-ne.false) _ (c.in_ok-product.ensures {u = tt}) _ c.negated.ensures

pub product-returns-in_err-read : goal.product-returns-in_err-read
product-returns-in_err-read t c = let p = err_from_is_err_and c.from_residual.result c.from_residual.ensures.1 in
    rw (p.1, p.2) (stopped _ _ _ _ _ _ (product_starts _ _ _ _ _ _ (c.in_err-read.ensures {u = tt})))

pub product-loop-t-init : goal.product-loop-t-init
product-loop-t-init t c = product_starts _ _ _ _ _ _ (c.in_ok-read.ensures {u = tt})

pub product-returns-then-ne : goal.product-returns-then-ne
product-returns-then-ne t c = ended _ _ _ _ _ _ (seen c.token-t.result) c.token-t.ensures (ne_eqb _ 14 (are_other _ Star _ c.ne.ensures c.if-ne.true)) c.loop-t.invariant

pub product-returns-in_err-factor : goal.product-returns-in_err-factor
product-returns-in_err-factor t c = let p = err_from_is_err_and c.from_residual-in_err-factor.result c.from_residual-in_err-factor.ensures.1 in
    let u = joined_stop _ _ _ _ (c.in_err-factor.ensures {u = tt}) in
    rw (p.1, p.2) (stopped _ _ _ _ _ _ (product_again _ _ _ _ _ (seen c.token-t.result) c.token-t.ensures _ (eq-eqb _ 14 (are_same _ Star _ c.ne.ensures c.if-ne.false)) u _ c.loop-t.invariant))

pub product-loop-t-smaller : goal.product-loop-t-smaller
product-loop-t-smaller t c = let u = joined_good _ _ _ _ (c.in_ok-factor.ensures {u = tt}) _ c.times.ensures in
    product_falls _ _ _ _ _ (seen c.token-t.result) c.token-t.ensures _ (eq-eqb _ 14 (are_same _ Star _ c.ne.ensures c.if-ne.false)) u

pub product-loop-t-preserved : goal.product-loop-t-preserved
product-loop-t-preserved t c = let u = joined_good _ _ _ _ (c.in_ok-factor.ensures {u = tt}) _ c.times.ensures in
    product_again _ _ _ _ _ (seen c.token-t.result) c.token-t.ensures _ (eq-eqb _ 14 (are_same _ Star _ c.ne.ensures c.if-ne.false)) u _ c.loop-t.invariant
