-- From the place reached on, in the row reached, the pass comes to the line's shape.
use Rattle.std.proofs.Common.{◌∙◌, arith}
use Rattle.std.proofs.lemmas.Result.{err_from_is_err_and}
use Rattle.tokens.specs.Kinds.{is_kind, no_kind}
use Rattle.tokens.specs.declared.Kind.TheVariants.{None}
use Rattle.syntax.specs.Rows.{end_shape}
use Rattle.syntax.specs.Passes.{begins, kind_below, goes_forward, refused, ends, sticks, goes_on}
use Rattle.syntax.specs.Seen.{answer_large}
use Rattle.syntax.proofs.shape.Goals as goal

pub loop-behind-init : goal.loop-behind-init
loop-behind-init c = begins _ _

pub level-requires : goal.level-requires
level-requires c = c.loop-behind.invariant.shallow

pub returns-in_err-behind : goal.returns-in_err-behind
returns-in_err-behind c =
    let p = err_from_is_err_and c.from_residual.result c.from_residual.ensures.1 in
    rw (p.1, p.2) (refused _ _ _ c.token-t.ensures _ _ _ c.loop-behind.invariant _ c.in_err-behind.ensures.level (answer_large c.in_err-behind.field-0.0))

pub bounds-rows-state : goal.bounds-rows-state
bounds-rows-state c = c.loop-behind.invariant.row

pub bounds-rows-column : goal.bounds-rows-column
bounds-rows-column c = omega (arith, c.column.ensures, kind_below _ _ _ c.token-t.ensures)

pub ended-requires : goal.ended-requires
ended-requires c = rw (c.column.ensures ∙ is_kind _ None _ c.eq.ensures c.if-eq.true) (end_shape _ c.loop-behind.invariant.row _ c.table-rows.ensures)

pub returns-then-eq : goal.returns-then-eq
returns-then-eq c = c.ended.ensures ∙ ends _ _ _ c.token-t.ensures _ _ _ c.loop-behind.invariant _ c.in_ok-behind.ensures.level c.in_ok-behind.ensures.few _ c.table-rows.ensures _ c.column.ensures (is_kind _ None _ c.eq.ensures c.if-eq.true)

pub returns-then-next-eq-X : goal.returns-then-next-eq-X
returns-then-next-eq-X c = sticks _ _ _ c.token-t.ensures _ _ _ c.loop-behind.invariant _ c.in_ok-behind.ensures.level c.in_ok-behind.ensures.few _ c.table-rows.ensures _ c.column.ensures (no_kind _ None _ c.eq.ensures c.if-eq.false) c.if-next-eq-X.true

pub loop-behind-smaller : goal.loop-behind-smaller
loop-behind-smaller c = goes_forward _ _ _ c.token-t.ensures (no_kind _ None _ c.eq.ensures c.if-eq.false)

pub loop-behind-preserved : goal.loop-behind-preserved
loop-behind-preserved c = rw c.from-state.ensures (goes_on _ _ _ c.token-t.ensures _ _ _ c.loop-behind.invariant _ c.in_ok-behind.ensures.level c.in_ok-behind.ensures.few _ c.table-rows.ensures _ c.column.ensures (no_kind _ None _ c.eq.ensures c.if-eq.false) c.if-next-eq-X.false)
