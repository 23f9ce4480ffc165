-- The hash of what is left of the name, from the hash of what is passed.
use Rattle.std.proofs.Common.{sym, ◌∙◌, arith}
use Rattle.tokens.specs.Names.{name_past, name_none}
use Rattle.tokens.specs.Bytes.{is_gone, is_there, none_folded, some_folded}
use Rattle.label_table.specs.Steps.{hash_more, hash_end}
use Rattle.label_table.proofs.hash.Goals as goal

pub returns-then-is_none : goal.returns-then-is_none
returns-then-is_none c = let x = c.loop-p in let text = c.args.text.now in
    let ends = name_none text x.p (none_folded _ (is_gone 0 _ _ c.folded.ensures _ c.is_none.ensures c.if-is_none.true)) in
    (sym (hash_end text x.h x.p ends) ∙ x.invariant.1, x.invariant.0)

pub loop-p-preserved : goal.loop-p-preserved
loop-p-preserved c = let x = c.loop-p in let text = c.args.text.now in
    (omega arith, rw c.from.ensures (sym (hash_more text x.h x.p (some_folded _ (is_there 0 _ _ c.folded.ensures _ c.is_none.ensures c.if-is_none.false))) ∙ x.invariant.1))

pub returns : goal.returns
returns c = let x = c.loop-p in let text = c.args.text.now in
    (sym (hash_end text x.h x.p (name_past text x.p c.loop-p-test.false)) ∙ x.invariant.1, x.invariant.0)
