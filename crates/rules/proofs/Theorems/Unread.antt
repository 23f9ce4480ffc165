-- In the sheet's mode the fifth memory is neither looked at nor changed, whatever the state and whatever its length: one equation each.
use Rattle.std.specs.Prelude.{◌≡◌, Bool, cond, List, ℕ, zero, suc, eqb}
use Rattle.std.proofs.Math.Path.{refl}
use Rattle.std.proofs.Common.{sym, ◌∙◌, ap, subst}
use Rattle.std.proofs.Math.Bool.{true, false}
use Rattle.common.specs.Answers as answer
use Rattle.common.specs.Tables.{first_of}
use Rattle.common.specs.Services.{isolate, add_jump_target, add_store_target}
use Rattle.rules.specs.State.{Processor, State, in_memory, has_owner, owner_at, jumpers_at, writers_at, readers_at, owns, may_jump, may_store}
use Rattle.rules.specs.State.{may_read, reads}
use Rattle.rules.specs.Laws.Tested.{same_lengths, sized, numbered, seated, formed, bad_owner, arrives, store_verdict, load_verdict, instruction_verdict}
use Rattle.rules.specs.Laws.Tested.{word_verdict, isolate_verdict, add_verdict, service_verdict, tested}
use Rattle.rules.proofs.Laws.TestedRows.{verdict_tested}
use Rattle.rules.specs.Checks.{lengths_differ, instruction_at, good_sets, sets_within, returns, verdict}
use Rattle.rules.specs.Step.{Stepped, ran_instruction, isolated, jump_added, store_added, read_added, ran_service, commit, step}
use Rattle.rules.specs.Run.{Ran, one_more, ended, run}
use Rattle.rules.specs.Images.{words_of, regs_of, entry_in, loaded, not_loaded, Loaded, load}
use Rattle.rules.specs.Images as images
use Rattle.rules.proofs.Laws.StepLaws.{answer_is}
use Rattle.rules.proofs.Theorems.Grows.{step_same_sizes}
use Rattle.rules.proofs.Theorems.Rest.{step_keeps_rest}

-- the state with another fifth memory in its place
abbrev pub instead : State → List ℕ → State
instead s readers = record { cpu = s.cpu; words = s.words; owners = s.owners; jumpers = s.jumpers; writers = s.writers; readers = readers }

-- the processor with its mode given apart: where that is the sheet's, the tests of the readers go by computing
abbrev moded : Processor → Bool → Processor
moded u strict =
    record {
      n = u.n;
      regs = u.regs;
      pc = u.pc;
      prev = u.prev;
      jumped = u.jumped;
      next = u.next;
      services = u.services;
      strict = strict;
    }

abbrev in_mode : State → Bool → State
in_mode s strict = record { cpu = moded s.cpu strict; words = s.words; owners = s.owners; jumpers = s.jumpers; writers = s.writers; readers = s.readers }

-- no check looks at it
verdict_unread : (s : State) → s.cpu.strict ≡ false → (readers : List ℕ) → verdict (instead s readers) ≡ verdict s
unfolding tested formed sized same_lengths numbered seated has_owner bad_owner arrives in_memory owner_at jumpers_at writers_at readers_at owns may_jump may_store may_read reads instruction_at store_verdict load_verdict instruction_verdict word_verdict good_sets sets_within returns isolate_verdict add_verdict service_verdict
verdict_unread s e readers =
    verdict_tested (instead s readers) ∙ subst (λ (m : Bool). tested (instead (in_mode s m) readers) ≡ tested (in_mode s m)) (sym e) refl ∙ sym (verdict_tested s)

-- nor is there a place where what is written depends on it, but the fifth memory itself
rest_unread : (s : State) (readers : List ℕ) → instead (commit (instead s readers)) readers ≡ instead (commit s) readers
unfolding commit ran_service ran_instruction isolated jump_added store_added read_added in_memory owner_at instruction_at
rest_unread s readers = go (in_memory s s.cpu.pc) (eqb s.cpu.pc isolate) (eqb s.cpu.pc add_jump_target) (eqb s.cpu.pc add_store_target)
  where
    ran : State → Bool → Bool → Bool → Bool → State
    ran t a b c d =
        cond a (ran_instruction t (owner_at t t.cpu.pc) (instruction_at t)) (cond b (isolated t) (cond c (jump_added t) (cond d (store_added t) (read_added t))))

    go : (a b c d : Bool) → instead (ran (instead s readers) a b c d) readers ≡ instead (ran s a b c d) readers
    go true b c d = refl
    go false true c d = refl
    go false false true d = refl
    go false false false true = refl
    go false false false false = refl

module _ (s : State) (e : s.cpu.strict ≡ false) (readers : List ℕ) where
  rest_same : instead (step (instead s readers)).state readers ≡ instead (step s).state readers
  unfolding step
  rest_same = simp (verdict_unread s e readers) (go (eqb (verdict s) answer.done))
    where
      go : (b : Bool) → instead (cond b (commit (instead s readers)) (instead s readers)) readers ≡ instead (cond b (commit s) s) readers
      go true = rest_unread s readers
      go false = refl

  -- with any other in its place, of any length, a step gives the same, and leaves that other as it was
  pub step_unread : step (instead s readers) ≡ record { answer = (step s).answer; state = instead (step s).state readers }
  step_unread =
      let kept : (step (instead s readers)).state.readers ≡ readers = (step_keeps_rest (instead s readers)).fifth e in
      let same : (step (instead s readers)).answer ≡ (step s).answer = answer_is (instead s readers) ∙ verdict_unread s e readers ∙ sym (answer_is s) in
      let state : (step (instead s readers)).state ≡ instead (step s).state readers = ap (instead (step (instead s readers)).state) kept ∙ rest_same in
      let answered : ℕ → Stepped = λ a. record { answer = a; state = (step (instead s readers)).state } in
      let left : State → Stepped = λ t. record { answer = (step s).answer; state = t } in
      ap answered same ∙ ap left state

-- and so does a run
abbrev pub ran_instead : Ran → List ℕ → Ran
ran_instead r readers = record { answer = r.answer; state = instead r.state readers; count = r.count }

pub run_unread : (k : ℕ) (s : State) → s.cpu.strict ≡ false → (readers : List ℕ) → run k (instead s readers) ≡ ran_instead (run k s) readers
unfolding run
run_unread zero s e readers = refl
run_unread (suc k) s e readers =
    simp (step_unread s e readers)
    (go (eqb (step s).answer answer.done) (step s).answer (step s).state (run_unread k (step s).state ((step_same_sizes s).strict ∙ e) readers))
  where
    go : (b : Bool) (a : ℕ) (t : State) → run k (instead t readers) ≡ ran_instead (run k t) readers
        → cond b (one_more (run k (instead t readers))) (ended a (instead t readers)) ≡ ran_instead (cond b (one_more (run k t)) (ended a t)) readers
    go true a t ih = ap one_more ih
    go false a t ih = refl

-- nor does a load look at it or change it, accepted or refused
pub load_unread : (bytes : List ℕ) (old : State) (readers : List ℕ)
    → load false bytes (instead old readers) ≡ record { answer = (load false bytes old).answer; state = instead (load false bytes old).state readers }
unfolding load images.load_verdict images.load_checks lengths_differ first_of loaded not_loaded
load_unread bytes old readers = go (images.load_verdict false bytes old) (eqb (images.load_verdict false bytes old) answer.done)
  where
    filled : State → State
    filled t = loaded false (words_of bytes) (regs_of bytes) (entry_in bytes) t

    stand : ℕ → State → Loaded
    stand a t = record { answer = a; state = t }

    go : (a : ℕ) (b : Bool)
        → stand a (cond b (filled (instead old readers)) (not_loaded false (instead old readers)))
        ≡ stand a (instead (cond b (filled old) (not_loaded false old)) readers)
    go a true = refl
    go a false = refl
