-- "Two outcomes allowed by one promise are proved equal", of the calls for C, and of the counts, by value and for C.
use Rattle.std.specs.Prelude.{List, ℕ}
use Rattle.common.specs.Words as words
use Rattle.rules.specs.Images as images
use Rattle.rules.specs.Rows.{Row, LentStepped, LentRan}
use Rattle.sources.specs.Meaning as sources
use Rattle.intel_hex.specs.Importing as hex
use Rattle.rows.specs.Views.{table}
use Rattle.machine.specs.declared.Processor.{Processor}
use Rattle.machine.specs.Views.{processor_of}
use Rattle.host.specs.Views.{DecodeOutcome, WhyOutcome}
use Rattle.host.proofs.kl_load.Reads as kl-load
use Rattle.host.proofs.kl_step.Reads as kl-step
use Rattle.host.proofs.kl_run.Reads as kl-run
use Rattle.host.proofs.kl_check.Reads as kl-check
use Rattle.host.proofs.kl_decode.Reads as kl-decode
use Rattle.host.proofs.kl_encode.Reads as kl-encode
use Rattle.host.proofs.kl_why_of.Reads as kl-why-of
use Rattle.reasons.specs.Why as reasons
use Rattle.why.specs.declared.Reason.{Reason}
use Rattle.why.proofs.why.Reads as why
use Rattle.host.proofs.kl_write.Reads as kl-write
use Rattle.host.proofs.kl_assemble.Reads as kl-assemble
use Rattle.host.proofs.kl_import.Reads as kl-import
use Rattle.host.proofs.kl_disassemble.Reads as kl-disassemble
use Rattle.host.proofs.kl_export.Reads as kl-export
use Rattle.host.proofs.kl_owned.Reads as kl-owned
use Rattle.host.proofs.kl_jumps.Reads as kl-jumps
use Rattle.host.proofs.kl_stores.Reads as kl-stores
use Rattle.host.proofs.kl_widest.Reads as kl-widest
use Rattle.report.proofs.owned.Reads as owned
use Rattle.report.proofs.jumps.Reads as jumps
use Rattle.report.proofs.stores.Reads as stores
use Rattle.report.proofs.widest.Reads as widest
use Rattle.claims.specs.Allowed.{Once, same, same_by}
use Rattle.claims.specs.Memories.{Lists, lists, lists_of}

-- kl_load, kl_step, kl_run, with the record, the five memories and the rows, seen as the rules', and for kl_run the count

pub kl_load_once : Once kl-load.Post {Out = ℕ × Processor × Lists × List Row} (λ κs r s. (r, s.0.now, lists s.1.1.1, table s.1.1.1.1.1.1.1.1.0.now))
kl_load_once κs a r q s t = same_by (λ (m : LentStepped). (m.answer, processor_of m.state.cpu, lists_of m.state, m.rows))

pub kl_step_once : Once kl-step.Post {Out = ℕ × Processor × Lists × List Row} (λ κs r s. (r, s.0.now, lists s.1, table s.1.1.1.1.1.1.0.now))
kl_step_once κs a r q s t = same_by (λ (m : LentStepped). (m.answer, processor_of m.state.cpu, lists_of m.state, m.rows))

pub kl_run_once : Once kl-run.Post {Out = ℕ × Processor × Lists × List Row × ℕ} (λ κs r s. (r, s.0.now, lists s.1, table s.1.1.1.1.1.1.0.now, s.1.1.1.1.1.1.1.1.0.now))
kl_run_once κs a r q s t = same_by (λ (m : LentRan). (m.answer, processor_of m.state.cpu, lists_of m.state, m.rows, m.count))

-- kl_check, with N

pub kl_check_once : Once kl-check.Post {Out = ℕ × ℕ} (λ κs r s. (r, s.1.0.now))
kl_check_once κs a r q s t = same_by (λ (m : images.Checked). (m.answer, m.size))

-- kl_decode, with the four fields; kl_encode, with the word; kl_write, with the length and the buffer

pub kl_decode_once : Once kl-decode.Post {Out = ℕ × List ℕ} (λ κs r s. (r, s.1.0.now))
kl_decode_once κs a r q s t = same_by (λ (m : DecodeOutcome). (m.answer, m.fields))

pub kl_encode_once : Once kl-encode.Post {Out = ℕ × ℕ} (λ κs r s. (r, s.1.1.1.1.0.now))
kl_encode_once κs a r q s t = same_by (λ (m : words.Encoded). (m.answer, m.word))

pub kl_write_once : Once kl-write.Post {Out = ℕ × ℕ × List ℕ} (λ κs r s. (r, s.1.1.1.1.0.now, s.1.1.1.0.now))
kl_write_once κs a r q s t = same_by (λ (m : images.Written). (m.answer, m.length, m.out))

-- why; kl_why_of, with the numbers told

pub why_once : Once why.Post (λ κs r s. r)
why_once κs a r q s t = same_by (λ (m : reasons.Why). reason_of m)
  where
    reason_of : reasons.Why → Reason
    reason_of w = record { answer = w.answer; set = w.set; fault = w.fault; place = w.place; owner = w.owner; value = w.value; bits = w.bits }

pub kl_why_of_once : Once kl-why-of.Post {Out = ℕ × List ℕ} (λ κs r s. (r, s.1.1.1.1.1.1.1.1.1.1.1.1.1.0.now))
kl_why_of_once κs a r q s t = same_by (λ (m : WhyOutcome). (m.answer, m.told))

-- kl_assemble and kl_import, with the line, the length and the buffer; kl_disassemble and kl_export, with the length and the buffer

pub kl_assemble_once : Once kl-assemble.Post {Out = ℕ × ℕ × ℕ × List ℕ} (λ κs r s. (r, s.1.1.0.now, s.1.1.1.0.now, s.1.0.now))
kl_assemble_once κs a r q s t = same_by (λ (m : sources.Assembled). (m.answer, m.line, m.length, m.out))

pub kl_import_once : Once kl-import.Post {Out = ℕ × ℕ × ℕ × List ℕ} (λ κs r s. (r, s.1.1.1.1.0.now, s.1.1.1.1.1.0.now, s.1.1.1.0.now))
kl_import_once κs a r q s t = same_by (λ (m : hex.Imported). (m.answer, m.line, m.length, m.out))

pub kl_disassemble_once : Once kl-disassemble.Post {Out = ℕ × ℕ × List ℕ} (λ κs r s. (r, s.1.1.0.now, s.1.0.now))
kl_disassemble_once κs a r q s t = same_by (λ (m : images.Written). (m.answer, m.length, m.out))

pub kl_export_once : Once kl-export.Post {Out = ℕ × ℕ × List ℕ} (λ κs r s. (r, s.1.1.0.now, s.1.0.now))
kl_export_once κs a r q s t = same_by (λ (m : images.Written). (m.answer, m.length, m.out))

-- report: owned, jumps, stores, widest; kl_owned, kl_jumps, kl_stores, kl_widest

pub owned_once : Once owned.Post (λ κs r s. r)
owned_once κs a r q s t = same

pub jumps_once : Once jumps.Post (λ κs r s. r)
jumps_once κs a r q s t = same

pub stores_once : Once stores.Post (λ κs r s. r)
stores_once κs a r q s t = same

pub widest_once : Once widest.Post (λ κs r s. r)
widest_once κs a r q s t = same

pub kl_owned_once : Once kl-owned.Post (λ κs r s. r)
kl_owned_once κs a r q s t = same

pub kl_jumps_once : Once kl-jumps.Post (λ κs r s. r)
kl_jumps_once κs a r q s t = same

pub kl_stores_once : Once kl-stores.Post (λ κs r s. r)
kl_stores_once κs a r q s t = same

pub kl_widest_once : Once kl-widest.Post (λ κs r s. r)
kl_widest_once κs a r q s t = same
