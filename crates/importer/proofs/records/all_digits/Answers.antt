-- From the place reached on, digits decide.
use Rattle.std.proofs.Common.{refl, sym, ◌∙◌}
use Rattle.importer.specs.RecordLaws.{no_digit, some_digit, digits_stop, digits_turn, digits_end}
use Rattle.importer.proofs.records.all_digits.Goals as goal

pub returns-then-is_none : goal.returns-then-is_none
returns-then-is_none c = digits_stop _ _ c.loop-i-test.true _ refl (no_digit _ _ _ c.digit.ensures.number c.is_none.ensures c.if-is_none.true) ∙ sym c.loop-i.invariant

pub loop-i-preserved : goal.loop-i-preserved
loop-i-preserved c = c.loop-i.invariant ∙ digits_turn _ _ c.loop-i-test.true _ refl (some_digit _ _ _ c.digit.ensures.number c.digit.ensures.below c.is_none.ensures c.if-is_none.false)

pub returns : goal.returns
returns c = digits_end _ _ c.loop-i-test.false ∙ sym c.loop-i.invariant
