-- Each return is a case of the definition.
use Rattle.std.proofs.Common.{refl, ap, ◌∙◌}
use Rattle.tokens.specs.Kinds.{kind_number, other_kind}
use Rattle.tokens.specs.Bytes.{is_gone, is_there}
use Rattle.tokens.specs.Reading.{none_past, none_there, sign_there, number_there, word_there}
use Rattle.tokens.proofs.reading.token.Goals as goal

pub returns-then-place-text : goal.returns-then-place-text
returns-then-place-text c = c.ended.ensures ∙ none_past _ _ _ c.skip-place.ensures c.if-place-text.true

pub returns-in-None : goal.returns-in-None
returns-in-None c = c.ended-in-None.ensures ∙ none_there _ _ _ c.skip-place.ensures c.if-place-text.false _ refl _ refl _ c.mark.ensures (ap kind_number c.in-None.is)

pub returns-in_default : goal.returns-in_default
returns-in_default c =
    sign_there _ _ _ c.skip-place.ensures c.if-place-text.false _ refl _ refl _ c.mark.ensures
    (is_gone 0 _ _ c.folded.ensures _ c.is_none.ensures c.if-is_none.true)
    (other_kind _ _ c.in_default.not-None)

pub returns-then-b-le57 : goal.returns-then-b-le57
returns-then-b-le57 c =
    number_there _ _ _ c.skip-place.ensures c.if-place-text.false _ refl _ refl (is_there 0 _ _ c.folded.ensures _ c.is_none.ensures c.if-is_none.false) c.if-b-le57.true _ c.number.ensures

pub returns-else-b-le57 : goal.returns-else-b-le57
returns-else-b-le57 c =
    word_there _ _ _ c.skip-place.ensures c.if-place-text.false _ refl _ refl (is_there 0 _ _ c.folded.ensures _ c.is_none.ensures c.if-is_none.false) c.if-b-le57.false _ c.word.ensures
