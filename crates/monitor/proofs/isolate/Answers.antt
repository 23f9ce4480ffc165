-- The checks decide: nothing changes, or each memory and the services change as the rules have it.
use Rattle.std.proofs.Common.{ap, refl}
use Rattle.std.proofs.lemmas.Result.{err_from_is_err_and}
use Rattle.address_sets.specs.SetLaws.{set_of}
use Rattle.monitor.specs.CallLaws.{isolate_stops, isolate_runs}
use Rattle.monitor.proofs.isolate.Goals as goal

pub returns-in_err-isolate_verdict : goal.returns-in_err-isolate_verdict
returns-in_err-isolate_verdict c =
    let p = err_from_is_err_and c.from_residual.result c.from_residual.ensures.1 in
    rw (p.1, p.2) (isolate_stops _ _ c.in_err-isolate_verdict.ensures)

pub returns : goal.returns
returns c =
    isolate_runs _ c.in_ok-isolate_verdict.ensures _ _ _ _ (ap set_of c.set.ensures) (ap set_of c.set-jumps.ensures) (ap set_of c.set-2.ensures) (ap set_of c.set-3.ensures)
    _ _ _ _ _ _ _ _ _ _ c.join_services-services.ensures c.own-owned.ensures c.join-jump.ensures c.join-store.ensures c.join_readers.ensures c.services_joined-gates.ensures refl
