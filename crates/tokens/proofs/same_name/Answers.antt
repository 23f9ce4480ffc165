-- The words are the same if what is left of them is.
use Rattle.std.proofs.Common.{refl, sym, ◌∙◌, arith}
use Rattle.tokens.specs.Bytes.{none_tells, is_gone, is_there}
use Rattle.tokens.specs.Names.{names_end, names_differ, names_agree, second_within, names_past}
use Rattle.tokens.proofs.same_name.Goals as goal

pub returns-then-is_none : goal.returns-then-is_none
returns-then-is_none c = let x = c.loop-p in
    none_tells 0 _ _ c.folded-then-is_none.ensures _ c.is_none-then-is_none.ensures
    ∙ names_end c.args.text.now x.p x.q _ _ c.byte-x.ensures c.byte-y.ensures _ refl (is_gone 0 _ _ c.folded.ensures _ c.is_none.ensures c.if-is_none.true) _ refl
    ∙ sym x.invariant

pub returns-then-x-y : goal.returns-then-x-y
returns-then-x-y c = let x = c.loop-p in
    names_differ c.args.text.now x.p x.q _ _ c.byte-x.ensures c.byte-y.ensures _ refl (is_there 0 _ _ c.folded.ensures _ c.is_none.ensures c.if-is_none.false) c.if-x-y.true ∙ sym x.invariant

pub overflow_add-q : goal.overflow_add-q
overflow_add-q c = let x = c.loop-p in
    omega (arith, second_within c.args.text.now x.p x.q _ _ c.byte-x.ensures c.byte-y.ensures _ refl (is_there 0 _ _ c.folded.ensures _ c.is_none.ensures c.if-is_none.false) c.if-x-y.false)

pub loop-p-preserved : goal.loop-p-preserved
loop-p-preserved c = let x = c.loop-p in
    x.invariant ∙ names_agree c.args.text.now x.p x.q _ _ c.byte-x.ensures c.byte-y.ensures _ refl (is_there 0 _ _ c.folded.ensures _ c.is_none.ensures c.if-is_none.false) c.if-x-y.false

pub returns : goal.returns
returns c = let x = c.loop-p in
    none_tells 0 _ _ c.folded-2.ensures _ c.is_none-2.ensures ∙ names_past c.args.text.now x.p x.q _ c.loop-p-test.false c.byte.ensures _ refl ∙ sym x.invariant
