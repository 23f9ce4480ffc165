-- Outside memory, not in order, or else not readable.
use Rattle.std.proofs.Common.{◌+◌, ◌*◌, ◌∙◌, sym, subst, arith}
use Rattle.rules.specs.State.{reads}
use Rattle.why.specs.declared.next_step.NewSet.TheVariants.{Read}
use Rattle.why.specs.Views.{before}
use Rattle.why.specs.Giving.{gives}
use Rattle.why.specs.WalkLaws.{IsFirstNot}
use Rattle.why.specs.SetLaws.{begins, ends, not_ordered, pair_fits, at_pair, at_unread, unread_is}
use Rattle.why.proofs.next_step.NextStep.set_fault.Goals as goal

pub returns-then-n-q : goal.returns-then-n-q
returns-then-n-q c =
    let t = begins _ _ _ (reads (before c.args.self.now) c.args.self.now.cpu.prev) c.if-n-q.true in
    record { fault = t.fault_is; place = t.place_is }

pub returns-then-n-q-2 : goal.returns-then-n-q-2
returns-then-n-q-2 c =
    let t = ends _ _ _ c.if-n-q.false _ c.count-k.ensures (reads (before c.args.self.now) c.args.self.now.cpu.prev) c.if-n-q-2.true in
    record { fault = t.fault_is; place = t.place_is }

pub first_disordered-j-requires : goal.first_disordered-j-requires
first_disordered-j-requires c = not_ordered _ _ _ c.if-n-q.false _ c.count-k.ensures c.if-n-q-2.false (sym c.if-not-is_in_order.ensures)

pub overflow_mul-result : goal.overflow_mul-result
overflow_mul-result c = omega (arith, c.first_disordered-j.ensures, pair_fits _ _ _ c.if-n-q.false _ c.count-k.ensures c.if-n-q-2.false (sym c.if-not-is_in_order.ensures))

pub overflow_add-result-then-not-is_in_order : goal.overflow_add-result-then-not-is_in_order
overflow_add-result-then-not-is_in_order c = omega (arith, c.first_disordered-j.ensures, pair_fits _ _ _ c.if-n-q.false _ c.count-k.ensures c.if-n-q-2.false (sym c.if-not-is_in_order.ensures))

pub returns-then-not-is_in_order : goal.returns-then-not-is_in_order
returns-then-not-is_in_order c =
    let t = at_pair _ _ _ c.if-n-q.false _ c.count-k.ensures c.if-n-q-2.false (sym c.if-not-is_in_order.ensures) (reads (before c.args.self.now) c.args.self.now.cpu.prev) _ c.first_disordered-j.ensures in
    record { fault = t.fault_is; place = t.place_is }

pub returns : goal.returns
returns c =
    let s = before c.args.self.now in
    let found = subst (λ k. IsFirstNot (gives Read s) c.args.set.now.at (c.args.set.now.at + 1 + 2 * k) c.first_not-unread.result) c.count-k.ensures c.first_not-unread.ensures in
    let t = at_unread _ _ _ c.if-n-q.false _ c.count-k.ensures c.if-n-q-2.false (sym c.if-not-is_in_order.ensures) (reads s s.cpu.prev) _ (c.unwrap_or.ensures ∙ unread_is s c.args.set.now.words.now c.args.set.now.at c.requires (sym c.if-not-is_in_order.ensures) _ found) in
    record { fault = t.fault_is; place = t.place_is }
