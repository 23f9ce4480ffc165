-- The code as a host sees it, by value and for C: each call by its contract.
use Rattle.std.specs.Prelude.{◌≡◌, refl, Bool, true, false, List, ℕ, eqb, get_or}
use Rattle.std.proofs.Common.{ap, ◌∙◌, eqb-true}
use Rattle.common.specs.Words as words
use Rattle.rules.specs.State.{State}
use Rattle.rules.specs.Step.{step}
use Rattle.rules.specs.Run.{Ran, run}
use Rattle.rules.specs.Images as images
use Rattle.instructions.specs.Views.{decoded, encoded}
use Rattle.instructions.proofs.decode.Reads as decode
use Rattle.instructions.proofs.encode.Reads as encode
use Rattle.machine.proofs.Processor.step.Reads as step_of_lem
use Rattle.machine.proofs.Processor.run.Reads as run_of
use Rattle.answers.specs.Numbers.{answer_of}
use Rattle.reader.specs.Views.{checked_of}
use Rattle.loader.proofs.load.Reads as load
use Rattle.reader.proofs.check.Reads as check
use Rattle.writer.specs.Views.{written_of}
use Rattle.writer.proofs.write.Reads as write
use Rattle.host.specs.Views.{DecodeOutcome, decoded_by}
use Rattle.host.proofs.kl_check.Reads as kl-check
use Rattle.host.proofs.kl_decode.Reads as kl-decode
use Rattle.host.proofs.kl_encode.Reads as kl-encode
use Rattle.host.proofs.kl_write.Reads as kl-write
use Rattle.claims.specs.Allowed.{Promise, Allows, allowed}
use Rattle.claims.specs.Lending as lending
use Rattle.claims.specs.Memories.{over, memories}
use Rattle.claims.specs.Code.{Code, one_step}

pub run_one : (s : State) → one_step (step s) ≡ run 1 s
unfolding run
run_one s = go (eqb (step s).answer 0) refl
  where
    go : (b : Bool) → eqb (step s).answer 0 ≡ b → one_step (step s) ≡ run 1 s
    go true e = let h : (step s).answer ≡ 0 = eqb-true _ _ e in simp h
    go false e = simp e

-- ---- by value: loader::load, reader::check, Processor::step and run, instructions::decode and encode, writer::write

abbrev pub by_load : Promise load.Post (Bool × List ℕ × State) images.Loaded
by_load =
    record {
      given = λ κs a. (a.0, a.1.0.now, memories a.1.1);
      left = λ κs r s. record { answer = answer_of r.answer; state = over r.cpu s.1.1 };
      meant = λ i. images.load i.0 i.1 i.2;
      says = λ κs a r s h. h;
    }

abbrev pub by_check : Promise check.Post (List ℕ) images.Checked
by_check =
    record {
      given = λ κs a. a.0.now;
      left = λ κs r s. checked_of r;
      meant = images.check;
      says = λ κs a r s h. h;
    }

abbrev pub by_step : Promise step_of_lem.Post State Ran
by_step =
    record {
      given = λ κs a. over a.0 a.1;
      left = λ κs r s. one_step (record { answer = r.answer; state = over r.cpu s.1 });
      meant = run 1;
      says = λ κs a r s h. ap one_step h ∙ run_one _;
    }

abbrev pub by_run : Promise run_of.Post (ℕ × State) Ran
by_run =
    record {
      given = λ κs a. (a.1.1.1.1.1.1.0, over a.0 a.1);
      left = λ κs r s. record { answer = r.answer; state = over r.cpu s.1; count = r.count };
      meant = λ i. run i.0 i.1;
      says = λ κs a r s h. h;
    }

abbrev pub by_decode : Promise decode.Post ℕ words.Decoded
by_decode = record { given = λ κs a. a.0; left = λ κs r s. decoded r; meant = words.decode; says = λ κs a r s h. h }

abbrev pub by_encode : Promise encode.Post (ℕ × ℕ × ℕ × ℕ) words.Encoded
by_encode =
    record {
      given = λ κs a. (a.0, a.1.0, a.1.1.0, a.1.1.1.0);
      left = λ κs r s. encoded r;
      meant = λ i. words.encode i.0 i.1 i.2 i.3;
      says = λ κs a r s h. h;
    }

abbrev pub by_write : Promise write.Post (List ℕ × List ℕ × ℕ × List ℕ) images.Written
by_write =
    record {
      given = λ κs a. (a.0.now, a.1.0.now, a.1.1.0, a.1.1.1.0.now);
      left = λ κs r s. written_of r s.1.1.1.0.now;
      meant = λ i. images.write i.0 i.1 i.2 i.3;
      says = λ κs a r s h. h;
    }

-- ---- for C: kl_check, kl_decode, kl_encode, kl_write; kl_load, kl_step and kl_run stand in Lending

abbrev pub by_kl_check : Promise kl-check.Post (List ℕ) images.Checked
by_kl_check =
    record {
      given = λ κs a. a.0.now;
      left = λ κs r s. record { answer = r; size = s.1.0.now };
      meant = images.check;
      says = λ κs a r s h. h;
    }

-- the fields as they lie in the list of four
abbrev fielded : DecodeOutcome → words.Decoded
fielded o = record { answer = o.answer; op = get_or o.fields 0 0; a = get_or o.fields 1 0; b = get_or o.fields 2 0; low = get_or o.fields 3 0 }

abbrev pub by_kl_decode : Promise kl-decode.Post ℕ words.Decoded
by_kl_decode =
    record {
      given = λ κs a. a.0;
      left = λ κs r s. fielded (decoded_by r s.1.0.now);
      meant = words.decode;
      says = λ κs a r s h. ap fielded h;
    }

abbrev pub by_kl_encode : Promise kl-encode.Post (ℕ × ℕ × ℕ × ℕ) words.Encoded
by_kl_encode =
    record {
      given = λ κs a. (a.0, a.1.0, a.1.1.0, a.1.1.1.0);
      left = λ κs r s. record { answer = r; word = s.1.1.1.1.0.now };
      meant = λ i. words.encode i.0 i.1 i.2 i.3;
      says = λ κs a r s h. h;
    }

abbrev pub by_kl_write : Promise kl-write.Post (List ℕ × List ℕ × ℕ × List ℕ) images.Written
by_kl_write =
    record {
      given = λ κs a. (a.0.now, a.1.0.now, a.1.1.0, a.1.1.1.0.now);
      left = λ κs r s. record { answer = r; length = s.1.1.1.1.0.now; out = s.1.1.1.0.now };
      meant = λ i. images.write i.0 i.1 i.2 i.3;
      says = λ κs a r s h. h;
    }

-- ---- the ways to call the code: by value, by value with a table, and for C. A table has 64 rows, whatever they hold, each time

abbrev pub by_value : Code
by_value =
    record {
      Loads = λ m bytes old. Allows load.Post by_load (m, bytes, old);
      Checks = Allows check.Post by_check;
      Steps = Allows step_of_lem.Post by_step;
      Runs = λ budget s. Allows run_of.Post by_run (budget, s);
      Decodes = Allows decode.Post by_decode;
      Encodes = λ op a b low. Allows encode.Post by_encode (op, a, b, low);
      Writes = λ ws regs entry out. Allows write.Post by_write (ws, regs, entry, out);
      loads = λ m bytes old. allowed load.Post by_load (m, bytes, old);
      checks = allowed check.Post by_check;
      steps = allowed step_of_lem.Post by_step;
      runs = λ budget s. allowed run_of.Post by_run (budget, s);
      decodes = allowed decode.Post by_decode;
      encodes = λ op a b low. allowed encode.Post by_encode (op, a, b, low);
      writes = λ ws regs entry out. allowed write.Post by_write (ws, regs, entry, out);
    }

abbrev pub with_rows : Code
with_rows =
    record {
      Loads = lending.Loads lending.by_value;
      Checks = by_value.Checks;
      Steps = lending.Steps lending.by_value;
      Runs = lending.Runs lending.by_value;
      Decodes = by_value.Decodes;
      Encodes = by_value.Encodes;
      Writes = by_value.Writes;
      loads = lending.loads lending.by_value;
      checks = by_value.checks;
      steps = lending.steps lending.by_value;
      runs = lending.runs lending.by_value;
      decodes = by_value.decodes;
      encodes = by_value.encodes;
      writes = by_value.writes;
    }

abbrev pub for_c : Code
for_c =
    record {
      Loads = lending.Loads lending.for_c;
      Checks = Allows kl-check.Post by_kl_check;
      Steps = lending.Steps lending.for_c;
      Runs = lending.Runs lending.for_c;
      Decodes = Allows kl-decode.Post by_kl_decode;
      Encodes = λ op a b low. Allows kl-encode.Post by_kl_encode (op, a, b, low);
      Writes = λ ws regs entry out. Allows kl-write.Post by_kl_write (ws, regs, entry, out);
      loads = lending.loads lending.for_c;
      checks = allowed kl-check.Post by_kl_check;
      steps = lending.steps lending.for_c;
      runs = lending.runs lending.for_c;
      decodes = allowed kl-decode.Post by_kl_decode;
      encodes = λ op a b low. allowed kl-encode.Post by_kl_encode (op, a, b, low);
      writes = λ ws regs entry out. allowed kl-write.Post by_kl_write (ws, regs, entry, out);
    }
