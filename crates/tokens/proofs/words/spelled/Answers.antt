-- What is left of the word, behind the key of its bytes so far.
use Rattle.std.proofs.Common.{refl, sym, ◌∙◌}
use Rattle.tokens.specs.Bytes.{unless_some, unless_none}
use Rattle.tokens.specs.Words.{spelled_past, spelled_ends, spelled_turn}
use Rattle.tokens.specs.Keys.{longest}
use Rattle.tokens.specs.Worth.{held_most}
use Rattle.tokens.proofs.words.spelled.Goals as goal

pub loop-p-preserved : goal.loop-p-preserved
loop-p-preserved c = let x = c.loop-p in
    let s = unless_some 0 _ _ (sym c.in-Some.is ∙ c.folded.ensures) in
    (rw c.joined-key.ensures (held_most longest _), x.invariant.1 ∙ spelled_turn c.args.text.now x.p x.key _ s.0 s.1 _ (rw (← c.from.ensures) c.joined-key.ensures))

pub returns-after-loop-p : goal.returns-after-loop-p
returns-after-loop-p c = let x = c.loop-p in
    spelled_past c.args.text.now x.p x.key c.loop-p-test.false x.invariant.0 ∙ sym x.invariant.1

pub returns-in_default : goal.returns-in_default
returns-in_default c = let x = c.loop-p in
    spelled_ends c.args.text.now x.p x.key _ refl (unless_none 0 _ (sym c.in_default.is ∙ c.folded.ensures)) x.invariant.0 ∙ sym x.invariant.1
