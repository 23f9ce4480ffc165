-- What is left to walk finds what the whole chain does.
use Rattle.std.proofs.Common.{◌∙◌, ◌+◌, ◌-◌, arith}
use Rattle.label_table.specs.Table.{most, blank}
use Rattle.label_table.specs.Steps.{looked_begins, no_more, no_entry, is_found, walk_on, not_found}
use Rattle.label_table.proofs.Table.find.Goals as goal

pub loop-turn-init : goal.loop-turn-init
loop-turn-init c = looked_begins _ _ _ _ c.hash.ensures.0

pub returns-in_err-next : goal.returns-in_err-next
returns-in_err-next c = c.from_residual.ensures ∙ no_more _ _ _ _ _ _ c.loop-turn.invariant (c.in_err-next.was {u = tt})

pub returns-in_err-entry : goal.returns-in_err-entry
returns-in_err-entry c = let at = c.in_err-entry.ensures {u = tt} in
    c.from_residual-in_err-entry.ensures ∙ no_entry _ _ _ _ _ _ c.loop-turn.invariant _ (c.in_ok-next.was {u = tt}) at.lookup.3

pub returns-then-same_name : goal.returns-then-same_name
returns-then-same_name c = let at = c.in_ok-entry.ensures {u = tt} in
    is_found _ _ _ _ _ _ c.loop-turn.invariant _ (c.in_ok-next.was {u = tt}) (most - (c.loop-turn._turn + 1)) (omega arith) at.lookup.3.0 _ (at.lookup.3.1 blank) _ c.same_name.ensures c.if-same_name.true

pub loop-turn-preserved : goal.loop-turn-preserved
loop-turn-preserved c = let at = c.in_ok-entry.ensures {u = tt} in
    walk_on _ _ _ _ _ _ c.loop-turn.invariant _ (c.in_ok-next.was {u = tt}) _ (omega arith) at.lookup.3.0 _ (at.lookup.3.1 blank) _ c.same_name.ensures c.if-same_name.false

pub returns : goal.returns
returns c = not_found _ _ _ _ _ _ c.loop-turn.invariant (omega arith)
