-- What is left of the word, behind the number of its digits so far.
use Rattle.std.proofs.Common.{◌≤◌, refl, sym, ◌∙◌, arith}
use Rattle.tokens.specs.Bytes.{digit_of, unless_some, unless_none}
use Rattle.tokens.specs.Numerals.{most, numeral_past, numeral_ends, numeral_turn, numeral_stray}
use Rattle.tokens.specs.Worth.{held_most}
use Rattle.tokens.proofs.numbers.numeral.Goals as goal
use Rattle.tokens.proofs.numbers.numeral.Goals.{in_default-digit-via-in-Some-digit+else-d-base, in_default-digit-via-in_default-digit}

pub returns-in_default-digit : goal.returns-in_default-digit
returns-in_default-digit c = let x = c.loop-p in
    let s = unless_some 0 _ _ (sym c.in-Some.is ∙ c.folded.ensures) in
    let large : c.args.base ≤ digit_of c.in-Some.c = elim c.in_default-digit.branch [
      | in_default-digit-via-in-Some-digit+else-d-base w ↦ omega (arith, (unless_some 16 _ _ (sym w.in-Some-digit.is ∙ c.digit.ensures)).0)
      | in_default-digit-via-in_default-digit w ↦ omega (arith, unless_none 16 _ (sym w.in_default-digit.is ∙ c.digit.ensures))
    ] in
    numeral_stray c.args.text.now _ x.p _ x.value _ s.0 s.1 _ refl large _ c.spelled.ensures ∙ sym x.invariant.1

pub loop-p-preserved : goal.loop-p-preserved
loop-p-preserved c = let x = c.loop-p in
    let s = unless_some 0 _ _ (sym c.in-Some.is ∙ c.folded.ensures) in
    let d = unless_some 16 _ _ (sym c.in-Some-digit.is ∙ c.digit.ensures) in
    (rw c.joined-value.ensures (held_most most _), x.invariant.1 ∙ numeral_turn c.args.text.now _ x.p _ x.value _ s.0 s.1 _ d.0 c.if-d-base.true c.requires _ c.joined-value.ensures)

pub returns-after-loop-p : goal.returns-after-loop-p
returns-after-loop-p c = let x = c.loop-p in
    numeral_past c.args.text.now _ x.p _ x.value c.loop-p-test.false x.invariant.0 ∙ sym x.invariant.1

pub returns-in_default : goal.returns-in_default
returns-in_default c = let x = c.loop-p in
    numeral_ends c.args.text.now _ x.p _ x.value _ refl (unless_none 0 _ (sym c.in_default.is ∙ c.folded.ensures)) x.invariant.0 ∙ sym x.invariant.1
