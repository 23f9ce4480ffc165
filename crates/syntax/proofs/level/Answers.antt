-- Case by case.
use Rattle.std.proofs.Common.{◌≡◌, sym, ap, ◌∙◌, arith}
use Rattle.tokens.specs.Kinds.{kind_number, other_kind}
use Rattle.syntax.specs.Levels.{too_deep, deeper, not_open, shallower, at_none, not_outside, same}
use Rattle.syntax.proofs.level.Goals as goal

pub returns-in-Left-clause-level : goal.returns-in-Left-clause-level
returns-in-Left-clause-level c = too_deep _ _ (ap kind_number c.in-Left.is) c.if-depth-eq-DEEPEST.true

pub returns-in-Left-2-clause-level : goal.returns-in-Left-2-clause-level
returns-in-Left-2-clause-level c = deeper _ _ (ap kind_number c.in-Left.is) c.if-depth-eq-DEEPEST.false

pub returns-in-Right-clause-level : goal.returns-in-Right-clause-level
returns-in-Right-clause-level c = not_open _ _ (ap kind_number c.in-Right.is) c.if-depth-eq0.true

pub returns-in-Right-2-clause-level : goal.returns-in-Right-2-clause-level
returns-in-Right-2-clause-level c = shallower _ _ (ap kind_number c.in-Right.is) c.if-depth-eq0.false

pub returns-in_default-clause-level : goal.returns-in_default-clause-level
returns-in_default-clause-level c = not_outside _ (other_kind _ _ c.in_default.not-Left) (other_kind _ _ c.in_default.not-Right) _ (λ z. omega arith) (sym c.outside.ensures ∙ c.if-outside.true)

pub returns-in_default-2-clause-level : goal.returns-in_default-2-clause-level
returns-in_default-2-clause-level c = same _ (other_kind _ _ c.in_default.not-Left) (other_kind _ _ c.in_default.not-Right) _ (sym c.outside.ensures ∙ c.if-outside.false)

pub returns-in_default-2-2-clause-level : goal.returns-in_default-2-2-clause-level
returns-in_default-2-2-clause-level c =
    let z : c.args.depth ≡ 0 = omega arith in
    z ∙ at_none _ (other_kind _ _ c.in_default-2.not-Left) (other_kind _ _ c.in_default-2.not-Right) _ z
