-- "Two outcomes allowed by one promise are proved equal", of the machine: sets of numbers, words, one instruction, services, step and run, images.
use Rattle.std.specs.Prelude.{◌≡◌, ℕ, List, refl, Result, Ok, Err, ⊤}
use Rattle.std.proofs.Common.{sym, ap, ◌∙◌}
use Rattle.common.specs.Words as words
use Rattle.rules.specs.Step as rules
use Rattle.rules.specs.Run as rules-run
use Rattle.rules.specs.Images as images
use Rattle.answers.specs.declared.Refusal.{Refusal}
use Rattle.compartments.specs.declared.Set.{Set}
use Rattle.answers.specs.Numbers.{answer_of}
use Rattle.answers.specs.Results.{result_of, result_of-number, same_result}
use Rattle.instructions.specs.declared.Instruction.{Instruction}
use Rattle.instructions.specs.Views.{decoded, encoded}
use Rattle.monitor.specs.declared.Isolated.{Isolated}
use Rattle.monitor.specs.Outcomes.{Isolating, isolating_of, Adding, adding_of}
use Rattle.service.specs.Served.{Serving}
use Rattle.service.specs.declared.Served.{Served}
use Rattle.machine.specs.declared.Stepped.{Stepped}
use Rattle.machine.specs.declared.Ran.{Ran}
use Rattle.machine.specs.Views.{processor_of}
use Rattle.answers.specs.Results.{same_result}
use Rattle.reader.specs.Views.{read_of, checked_of}
use Rattle.loader.specs.declared.Loaded.{Loaded}
use Rattle.compartments.proofs.Set.none.Reads as none
use Rattle.compartments.proofs.Set.of_services.Reads as of-services
use Rattle.compartments.proofs.Set.contains.Reads as contains
use Rattle.compartments.proofs.Set.insert.Reads as insert
use Rattle.compartments.proofs.Set.count.Reads as count
use Rattle.compartments.proofs.Set.lowest.Reads as lowest
use Rattle.instructions.proofs.used.Reads as used
use Rattle.instructions.proofs.fits.Reads as fits
use Rattle.instructions.proofs.fields.Reads as fields
use Rattle.instructions.proofs.decode.Reads as decode
use Rattle.instructions.proofs.encode.Reads as encode
use Rattle.moves.proofs.decide.Reads as decide
use Rattle.monitor.proofs.isolate_verdict.Reads as isolate-verdict
use Rattle.monitor.proofs.isolate.Reads as isolate
use Rattle.monitor.proofs.add_target.Reads as add-target
use Rattle.service.proofs.serve.Reads as serve
use Rattle.machine.proofs.Processor.step.Reads as step
use Rattle.machine.proofs.Processor.run.Reads as run
use Rattle.machine.proofs.Processor.step_rows.Reads as step-rows
use Rattle.machine.proofs.Processor.run_rows.Reads as run-rows
use Rattle.rules.specs.Rows.{Row, LentStepped, LentRan}
use Rattle.rows.specs.Views.{table}
use Rattle.reader.proofs.number.Reads as number
use Rattle.reader.proofs.read.Reads as read
use Rattle.reader.proofs.check.Reads as check
use Rattle.loader.proofs.load.Reads as load
use Rattle.loader.proofs.load_rows.Reads as load_rows
use Rattle.writer.proofs.write.Reads as write
use Rattle.claims.specs.Once.Written.{written_same}
use Rattle.claims.specs.Allowed.{Once, same, same_by}
use Rattle.claims.specs.Memories.{Tags, tags, Lists, lists, lists_of}

-- compartments::Set: none, of_services, contains, insert, count, lowest

abbrev set : ℕ → Set
set n = record { 0 = n }

pub none_once : Once none.Post (λ κs r s. r)
none_once κs a r q s t = same_by set

pub of_services_once : Once of-services.Post (λ κs r s. r)
of_services_once κs a r q s t = same_by set

pub contains_once : Once contains.Post (λ κs r s. r)
contains_once κs a r q s t = same

pub insert_once : Once insert.Post (λ κs r s. r)
insert_once κs a r q s t = same_by set

pub count_once : Once count.Post (λ κs r s. r)
count_once κs a r q s t = same

pub lowest_once : Once lowest.Post (λ κs r s. r)
lowest_once κs a r q s t = same

-- instructions: used, fits, fields, decode, encode

pub used_once : Once used.Post (λ κs r s. r)
used_once κs a r q s t = same

abbrev standing_in : words.Decoded → Instruction
standing_in d = record { op = d.op; a = d.a; b = d.b; low = d.low }

pub fits_once : Once fits.Post (λ κs r s. r)
fits_once κs a r q s t = same

pub fields_once : Once fields.Post (λ κs r s. r)
fields_once κs a r q s t = same_by standing_in

pub decode_once : Once decode.Post (λ κs r s. r)
decode_once κs a r q s t h k = same_result decoded (λ d. d.answer) standing_in (λ i. refl) (λ i. refl) (λ e. refl) r q (same h k)

pub encode_once : Once encode.Post (λ κs r s. r)
encode_once κs a r q s t h k = same_result encoded (λ e. e.answer) (λ e. e.word) (λ w. refl) (λ w. refl) (λ e. refl) r q (same h k)

-- moves: decide

pub decide_once : Once decide.Post (λ κs r s. r)
decide_once κs a r q s t = same

-- monitor: isolate_verdict; isolate, with the owners, jumpers, writers and readers; add_target, with the sets

-- two results that hand on nothing are one, where they answer the same
pub one_answer : (r q : Result ⊤ Refusal) → answer_of r ≡ answer_of q → r ≡ q
one_answer = same_result answer_of (λ n. n) (λ n. tt) (λ u. refl) (λ u. refl) (λ e. refl)

pub isolate_verdict_once : Once isolate-verdict.Post (λ κs r s. r)
isolate_verdict_once κs a r q s t h k = one_answer r q (same h k)

-- what is seen of a result and of the memories tells them

isolated_in : Isolating → Result Isolated Refusal × Tags
isolated_in m = (result_of m.answer (record { services = m.services; owned = m.owned; jump = m.jump; store = m.store }), (m.owners, m.jumpers, m.writers, m.readers))

is_isolated : (services o j w d : List ℕ) (r : Result Isolated Refusal) → isolated_in (isolating_of services r o j w d) ≡ (r, (o, j, w, d))
unfolding isolated_in
is_isolated services o j w d (Ok i) = refl
is_isolated services o j w d (Err e) = ap (λ (r : Result Isolated Refusal). (r, (o, j, w, d))) (result_of-number e _)

pub isolate_once : Once isolate.Post {Out = Result Isolated Refusal × Tags} (λ κs r s. (r, tags s.1.1))
isolate_once κs a r q s t h k = sym (is_isolated a.0.now.services _ _ _ _ r) ∙ same_by isolated_in h k ∙ is_isolated a.0.now.services _ _ _ _ q

added_in : Adding → Result ℕ Refusal × List ℕ
added_in m = (result_of m.answer m.joined, m.sets)

is_added : (sets : List ℕ) (r : Result ℕ Refusal) → added_in (adding_of r sets) ≡ (r, sets)
unfolding added_in
is_added sets (Ok n) = refl
is_added sets (Err e) = ap (λ (r : Result ℕ Refusal). (r, sets)) (result_of-number e _)

pub add_target_once : Once add-target.Post {Out = Result ℕ Refusal × List ℕ} (λ κs r s. (r, s.1.1.0.now))
add_target_once κs a r q s t h k = sym (is_added _ r) ∙ same_by added_in h k ∙ is_added _ q

-- service: serve, with the owners, jumpers, writers and readers

pub serve_once : Once serve.Post {Out = Served × Tags} (λ κs r s. (r, tags s.1.1.1.1))
serve_once κs a r q s t h k =
    let e = same h k in
    λ i. (record { answer = one_answer r.answer q.answer (ap (λ (m : Serving). m.answer) e) i; number = (e i).number; next = (e i).next; services = (e i).services; to = (e i).to; owned = (e i).owned; jump = (e i).jump; store = (e i).store }, ((e i).owners, (e i).jumpers, (e i).writers, (e i).readers))

-- machine: Processor::step, Processor::run, with the five memories

pub step_once : Once step.Post {Out = Stepped × Lists} (λ κs r s. (r, lists s.1))
step_once κs a r q s t = same_by (λ (m : rules.Stepped). (record { cpu = processor_of m.state.cpu; answer = m.answer }, lists_of m.state))

pub run_once : Once run.Post {Out = Ran × Lists} (λ κs r s. (r, lists s.1))
run_once κs a r q s t =
    same_by (λ (m : rules-run.Ran). (record { cpu = processor_of m.state.cpu; answer = m.answer; count = m.count }, lists_of m.state))

-- the same with a table: its rows, seen as the rules', at exit

pub step_rows_once : Once step-rows.Post {Out = Stepped × Lists × List Row} (λ κs r s. (r, lists s.1, table s.1.1.1.1.1.1.0.now))
step_rows_once κs a r q s t = same_by (λ (m : LentStepped). (record { cpu = processor_of m.state.cpu; answer = m.answer }, lists_of m.state, m.rows))

pub run_rows_once : Once run-rows.Post {Out = Ran × Lists × List Row} (λ κs r s. (r, lists s.1, table s.1.1.1.1.1.1.1.0.now))
run_rows_once κs a r q s t =
    same_by (λ (m : LentRan). (record { cpu = processor_of m.state.cpu; answer = m.answer; count = m.count }, lists_of m.state, m.rows))

-- reader: number; read and check, which are lent the bytes and change nothing

pub number_once : Once number.Post (λ κs r s. r)
number_once κs a r q s t = same

pub read_once : Once read.Post (λ κs r s. r)
read_once κs a r q s t h k =
    same_result read_of (λ m. m.answer) (λ m. record { size = m.size; regs = m.regs; entry = m.entry }) (λ i. refl) (λ i. refl) (λ e. refl) r q (same h k)

pub check_once : Once check.Post (λ κs r s. r)
check_once κs a r q s t h k = same_result checked_of (λ c. c.answer) (λ c. c.size) (λ n. refl) (λ n. refl) (λ e. refl) r q (same h k)

-- loader: load, with the five memories

pub load_once : Once load.Post {Out = Loaded × Lists} (λ κs r s. (r, lists s.1.1))
load_once κs a r q s t h k =
    let e = same h k in
    λ i. (record { cpu = processor_of (e i).state.cpu; answer = one_answer r.answer q.answer (ap (λ (m : images.Loaded). m.answer) e) i }, lists_of (e i).state)

pub load_rows_once : Once load_rows.Post {Out = Loaded × Lists × List Row} (λ κs r s. (r, lists s.1.1, table s.1.1.1.1.1.1.1.0.now))
load_rows_once κs a r q s t h k =
    let e = same h k in
    λ i. (record { cpu = processor_of (e i).state.cpu; answer = one_answer r.answer q.answer (ap (λ (m : LentStepped). m.answer) e) i }, lists_of (e i).state, (e i).rows)

-- writer: write, with the buffer

pub write_once : Once write.Post {Out = Result ℕ Refusal × List ℕ} (λ κs r s. (r, s.1.1.1.0.now))
write_once κs a r q s t h k = written_same r q s.1.1.1.0.now t.1.1.1.0.now (same h k)
