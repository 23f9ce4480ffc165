-- "Two outcomes allowed by one promise are proved equal", of memories of one's own, n places each.
use Rattle.std.specs.Prelude.{ℕ, List}
use Rattle.std.proofs.Common.{ap}
use mir.Val.{Fits}
use mir.Syntax.{w64}
use Rattle.rules.specs.State.{State}
use Rattle.rules.specs.Step as rules
use Rattle.rules.specs.Run as rules-run
use Rattle.rules.specs.Images as images
use Rattle.rules.specs.Rows.{Row, LentStepped, LentRan}
use Rattle.rows.specs.Views.{table}
use Rattle.machine.specs.declared.Stepped.{Stepped}
use Rattle.machine.specs.declared.Ran.{Ran}
use Rattle.machine.specs.Views.{processor_of}
use Rattle.loader.specs.declared.Loaded.{Loaded}
use Rattle.loader.specs.declared.room.Room.{Room}
use Rattle.loader.proofs.room.Room.new.Reads as new
use Rattle.loader.proofs.room.Room.lent.Reads as lent
use Rattle.loader.proofs.room.Room.load.Reads as load
use Rattle.loader.proofs.room.Room.load_rows.Reads as load_rows
use Rattle.loader.proofs.room.Room.run.Reads as run
use Rattle.loader.proofs.room.Room.run_rows.Reads as run_rows
use Rattle.loader.proofs.room.Room.step.Reads as step
use Rattle.claims.specs.Memories.{Lists}
use Rattle.claims.specs.Once.Machine.{one_answer}
use Rattle.claims.specs.Allowed.{Once, same, same_by}

module _ (n : ℕ) (fits : Fits w64 n) where
  abbrev room_of : State → Room n
  room_of s = record { words = s.words; owners = s.owners; jumpers = s.jumpers; writers = s.writers; readers = s.readers }

  pub new_once : Once (new.Post n fits) (λ κs r s. r)
  new_once κs a r q s t = same

  -- what is lent
  pub lent_once : Once (lent.Post n fits) {Out = Lists} (λ κs r s. (r.words.now, (r.owners.now, r.jumpers.now, r.writers.now, r.readers.now)))
  lent_once κs a r q s t h k =
      λ i. (same h.0 k.0 i, (same h.1.0 k.1.0 i, same h.1.1.0 k.1.1.0 i, same h.1.1.1.0 k.1.1.1.0 i, same h.1.1.1.1 k.1.1.1.1 i))

  pub load_once : Once (load.Post n fits) {Out = Loaded × Room n} (λ κs r s. (r, s.0.now))
  load_once κs a r q s t h k =
      let e = same h k in
      λ i. (record { cpu = processor_of (e i).state.cpu; answer = one_answer r.answer q.answer (ap (λ (m : images.Loaded). m.answer) e) i }, room_of (e i).state)

  pub load_rows_once : Once (load_rows.Post n fits) {Out = Loaded × Room n × List Row} (λ κs r s. (r, s.0.now, table s.1.1.1.0.now))
  load_rows_once κs a r q s t h k =
      let e = same h k in
      λ i. (record { cpu = processor_of (e i).state.cpu; answer = one_answer r.answer q.answer (ap (λ (m : LentStepped). m.answer) e) i }, room_of (e i).state, (e i).rows)

  pub run_once : Once (run.Post n fits) {Out = Ran × Room n} (λ κs r s. (r, s.0.now))
  run_once κs a r q s t =
      same_by (λ (m : rules-run.Ran). (record { cpu = processor_of m.state.cpu; answer = m.answer; count = m.count }, room_of m.state))

  pub run_rows_once : Once (run_rows.Post n fits) {Out = Ran × Room n × List Row} (λ κs r s. (r, s.0.now, table s.1.1.1.0.now))
  run_rows_once κs a r q s t =
      same_by (λ (m : LentRan). (record { cpu = processor_of m.state.cpu; answer = m.answer; count = m.count }, room_of m.state, m.rows))

  pub step_once : Once (step.Post n fits) {Out = Stepped × Room n} (λ κs r s. (r, s.0.now))
  step_once κs a r q s t = same_by (λ (m : rules.Stepped). (record { cpu = processor_of m.state.cpu; answer = m.answer }, room_of m.state))
