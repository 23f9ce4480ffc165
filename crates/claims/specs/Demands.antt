-- The three demands of the handover note, in its order: each claim with all its quantifiers, proved by citation.
use Rattle.std.specs.Prelude.{◌≡◌, refl, Bool, true, false, cond, ◌&&◌, ◌||◌, not, List, [], ◌∷◌, ◌++◌, ◌↔◌, ◌⊎◌, ℕ, suc, ◌^◌, ◌≤◌, ◌<◌, leb, eqb, get_or, length, take, drop}
use Rattle.std.proofs.Common.{sym, subst, inl, inr, ⊎_elim, arith, leb-true, eqb-true}
use Rattle.std.proofs.Math.Bool.{or-true, or-false, and-false}
use Rattle.std.proofs.Math.Decide.{ℕ_discrete}
use Rattle.common.specs.Words.{allowed, decode, encode}
use Rattle.common.proofs.Laws.WordLaws as words
use Rattle.common.specs.Services.{is_service}
use Rattle.common.proofs.Laws.Tests.{both}
use Rattle.paper.specs.Abstract as paper
use Rattle.rules.specs.Compartments.{main_alone}
use Rattle.rules.specs.State.{State}
use Rattle.rules.specs.Step.{Stepped, step}
use Rattle.rules.specs.Run.{Ran, run}
use Rattle.rules.specs.Images.{size_in, entry_in, words_of, regs_of, loaded, entry_checks, register_checks, image_checks, load_checks, load, image_bytes, write_checks, write}
use Rattle.common.specs.Tables.{Check, Exactly}
use Rattle.rules.specs.Checks.{load_forbidden, checks}
use Rattle.rules.proofs.Theorems.Numbers.{step_number}
use Rattle.rules.proofs.Theorems.ImageNumbers.{load_number, write_number}
use Rattle.rules.proofs.Theorems.Grows.{run_same_sizes}
use Rattle.rules.proofs.Theorems.Stays as stays
use Rattle.rules.proofs.Theorems.Refusals as refusals
use Rattle.rules.proofs.BothMachines.Match.{Match}
use Rattle.rules.proofs.BothMachines.Runs.{Wants65}
use Rattle.rules.proofs.BothMachines.Changes.{Changes, Stored}
use Rattle.rules.proofs.BothMachines.Agreement as agreement
use Rattle.images.specs.RoundTrip as images

-- ==== 1. "Every image, state, instruction word and step count is met with an answer. Bad ones are refused by number,
-- and a refusal or a stop changes no register, no word, no tag"
--
-- No public call has a `requires`, so each is met with an answer; the contract of each is one equation with a total
-- definition below. What remains to be said is that the answer is one of the sheet's numbers.

-- 0 to `top`, 16, and in strict mode 17
abbrev pub UpTo : ℕ → Bool → ℕ → Type 0
UpTo top m k = (k ≤ top) ⊎ ((k ≡ 16) ⊎ ((m ≡ true) × (k ≡ 17)))

-- as a test
up_to : (top : ℕ) (m : Bool) (k : ℕ) → (leb k top || eqb k 16 || (m && eqb k 17)) ≡ true → UpTo top m k
up_to top m k h = go (leb k top) (eqb k 16) refl refl
  where
    go : (b c : Bool) → leb k top ≡ b → eqb k 16 ≡ c → UpTo top m k
    go true c e f = inl (leb-true _ _ e)
    go false true e f = inr (inl (eqb-true _ _ f))
    go false false e f = let t = both m _ (simp (e, f) at h) in inr (inr (t.0, eqb-true _ _ t.1))

-- every number of a list of checks passes a test where its check holds, so a number that is given passes it
abbrev pub every : (ℕ → Bool) → List Check → Bool
every test [] = true
every test (c ∷ cs) = (not c.holds || test c.number) && every test cs

pub given : (test : ℕ → Bool) (cs : List Check) (k : ℕ) → every test cs ≡ true → Exactly cs k → test k ≡ true
unfolding Exactly
given test [] k h x = absurd x
given test (c ∷ cs) k h (inl w) = subst (λ (n : ℕ). test n ≡ true) w.1 (simp w.0 at (both (not c.holds || test c.number) _ h).0)
given test (c ∷ cs) k h (inr w) = given test cs k (both (not c.holds || test c.number) _ h).1 w.1

-- any state of either mode
pub step_answers : (s : State) → UpTo 15 s.cpu.strict (step s).answer
unfolding checks load_forbidden
step_answers s = go (ℕ_discrete (step s).answer 0)
  where
    all : (b : Bool) → s.cpu.strict ≡ b → every (λ k. leb k 15 || eqb k 16 || (s.cpu.strict && eqb k 17)) (checks s) ≡ true
    all true e = simp (e, or-true)
    all false e = simp (e, or-true, and-false)

    go : Dec ((step s).answer ≡ 0) → UpTo 15 s.cpu.strict (step s).answer
    go (yes e) = inl (omega arith)
    go (no e) = up_to 15 s.cpu.strict _ (given (λ k. leb k 15 || eqb k 16 || (s.cpu.strict && eqb k 17)) (checks s) _ (all s.cpu.strict refl) ((step_number s (step s).answer e).0 refl))

-- any state and any budget
pub run_answers : (budget : ℕ) (s : State) → UpTo 15 s.cpu.strict (run budget s).answer
run_answers budget s = go (ℕ_discrete (run budget s).answer 0)
  where
    go : Dec ((run budget s).answer ≡ 0) → UpTo 15 s.cpu.strict (run budget s).answer
    go (yes e) = inl (omega arith)
    go (no e) =
        subst (λ (m : Bool). UpTo 15 m (run budget s).answer) (run_same_sizes budget s).strict
        (subst (λ (o : Stepped). UpTo 15 (run budget s).state.cpu.strict o.answer) (stays.ended_at budget s e) (step_answers (run budget s).state))

-- any bytes in either mode, over any memories
pub load_answers : (m : Bool) (bytes : List ℕ) (old : State) → ((load m bytes old).answer ≡ 0) ⊎ ((20 ≤ (load m bytes old).answer) × ((load m bytes old).answer ≤ 28))
unfolding load_checks image_checks register_checks entry_checks
load_answers m bytes old = go (ℕ_discrete (load m bytes old).answer 0)
  where
    all : every (λ k. leb 20 k && leb k 28) (load_checks m bytes old) ≡ true
    all = simp or-true

    go : Dec ((load m bytes old).answer ≡ 0) → ((load m bytes old).answer ≡ 0) ⊎ ((20 ≤ (load m bytes old).answer) × ((load m bytes old).answer ≤ 28))
    go (yes e) = inl e
    go (no e) =
        let t = both _ _ (given (λ k. leb 20 k && leb k 28) (load_checks m bytes old) _ all ((load_number m bytes old (load m bytes old).answer e).0 refl)) in
        inr (leb-true _ _ t.0, leb-true _ _ t.1)

-- any word, and any four numbers
pub decode_answers : (word : ℕ) → ((decode word).answer ≡ 0) ⊎ (((decode word).answer ≡ 3) ⊎ ((decode word).answer ≡ 16))
decode_answers word = go (words.decode_answers word)
  where
    go : words.Decodes (decode word).answer → ((decode word).answer ≡ 0) ⊎ (((decode word).answer ≡ 3) ⊎ ((decode word).answer ≡ 16))
    go (words.runs e) = inl e
    go (words.unknown_opcode e) = inr (inl e)
    go (words.stray e) = inr (inr e)

pub encode_answers : (op a b low : ℕ) → ((encode op a b low).answer ≡ 0) ⊎ ((encode op a b low).answer ≡ 30)
unfolding encode
encode_answers op a b low = go (allowed op a b low) refl
  where
    go : (t : Bool) → allowed op a b low ≡ t → ((encode op a b low).answer ≡ 0) ⊎ ((encode op a b low).answer ≡ 30)
    go true e = inl (simp e)
    go false e = inr (simp e)

-- any words, registers, entry and buffer
pub write_answers : (words regs : List ℕ) (entry : ℕ) (out : List ℕ)
    → ((write words regs entry out).answer ≡ 0) ⊎ (((write words regs entry out).answer ≡ 21) ⊎ (((write words regs entry out).answer ≡ 25) ⊎ ((write words regs entry out).answer ≡ 31)))
unfolding write_checks Exactly
write_answers words regs entry out = go (ℕ_discrete (write words regs entry out).answer 0)
  where
    go : Dec ((write words regs entry out).answer ≡ 0)
        → ((write words regs entry out).answer ≡ 0) ⊎ (((write words regs entry out).answer ≡ 21) ⊎ (((write words regs entry out).answer ≡ 25) ⊎ ((write words regs entry out).answer ≡ 31)))
    go (yes e) = inl e
    go (no e) = inr (row ((write_number words regs entry out (write words regs entry out).answer e).0 refl))
      where
        row : Exactly (write_checks words regs entry out) (write words regs entry out).answer
            → ((write words regs entry out).answer ≡ 21) ⊎ (((write words regs entry out).answer ≡ 25) ⊎ ((write words regs entry out).answer ≡ 31))
        row (inl w) = inl (sym w.1)
        row (inr (_, inl w)) = inr (inl (sym w.1))
        row (inr (_, inr (_, inl w))) = inr (inr (sym w.1))
        row (inr (_, inr (_, inr (_, x)))) = absurd x

-- ---- a stop or a refusal of a step: every register, word and tag, and the rest of the record, as it was

pub stop_changes_nothing : (s : State) → ((step s).answer ≡ 0 → ⊥) → (step s).state ≡ s
stop_changes_nothing = stays.stopped_stays

-- "the next step gives the same number"
pub stop_repeats : (s : State) → ((step s).answer ≡ 0 → ⊥) → (step (step s).state).answer ≡ (step s).answer
stop_repeats = stays.same_answer

-- a run that stopped stands where a step gives that answer and changes nothing
pub run_stop : (budget : ℕ) (s : State) → ((run budget s).answer ≡ 0 → ⊥)
    → step (run budget s).state ≡ record { answer = (run budget s).answer; state = (run budget s).state }
run_stop = stays.ended_at

-- ---- "only a refused load leaves a blank processor record, as the sheet says, and the memories as they were"; mainAlone is {0}

abbrev pub blank_over : Bool → State → State
blank_over m old =
    record {
      cpu =
          record {
            n = 0;
            regs = 0 ∷ 0 ∷ 0 ∷ 0 ∷ 0 ∷ 0 ∷ 0 ∷ 0 ∷ 0 ∷ 0 ∷ 0 ∷ 0 ∷ 0 ∷ 0 ∷ 0 ∷ 0 ∷ [];
            pc = 0;
            prev = 0;
            jumped = false;
            next = cond m 5 4;
            services = main_alone ∷ main_alone ∷ main_alone ∷ main_alone ∷ [];
            strict = m;
          };
      words = old.words;
      owners = old.owners;
      jumpers = old.jumpers;
      writers = old.writers;
      readers = old.readers;
    }

pub refused_load : (m : Bool) (bytes : List ℕ) (old : State) → ((load m bytes old).answer ≡ 0 → ⊥) → (load m bytes old).state ≡ blank_over m old
unfolding refusals.blank_spelled
refused_load = refusals.load_refused

pub refused_write : (words regs : List ℕ) (entry : ℕ) (out : List ℕ) → ((write words regs entry out).answer ≡ 0 → ⊥)
    → write words regs entry out ≡ record { answer = (write words regs entry out).answer; length = 0; out = out }
refused_write = refusals.write_refused

pub refused_word : (word : ℕ) → ((decode word).answer ≡ 0 → ⊥) → decode word ≡ record { answer = (decode word).answer; op = 0; a = 0; b = 0; low = 0 }
refused_word = words.decode_refused

pub refused_fields : (op a b low : ℕ) → (encode op a b low).answer ≡ 30 → encode op a b low ≡ record { answer = 30; word = 0 }
refused_fields = words.encode_refused

-- ==== 2. "Each step is the one in the compartment rules of the 2015 micro-policies paper, as our sheet numbers them"
--
-- That the code's step and run are the rules' is said of their contracts, in Code. That the rules' step is the paper's, both
-- ways, is demand 3.

-- "An instruction word that is accepted and written again is the same word"
pub word_again : (word : ℕ) → (decode word).answer ≡ 0
    → encode (decode word).op (decode word).a (decode word).b (decode word).low ≡ record { answer = 0; word = word }
word_again = words.written_again

-- "whatever is written reads back as what was meant": words
pub word_reads_back : (op a b low : ℕ) → (encode op a b low).answer ≡ 0
    → decode (encode op a b low).word ≡ record { answer = 0; op = op; a = a; b = b; low = low }
word_reads_back = words.read_back

-- "an accepted image written again is the same bytes": the words below N, the registers and the entry that the loader
-- left, written to any buffer that is long enough
pub image_again : (m : Bool) (bytes : List ℕ) (old : State) (out : List ℕ)
    → ((i : ℕ) → i < length bytes → get_or bytes i 0 < 256) → (load m bytes old).answer ≡ 0 → length bytes ≤ length out
    → write (take (load m bytes old).state.cpu.n (load m bytes old).state.words) (load m bytes old).state.cpu.regs (load m bytes old).state.cpu.pc out
    ≡ record { answer = 0; length = length bytes; out = bytes ++ drop (length bytes) out }
image_again = images.written_again

-- "whatever is written reads back as what was meant": images. What can be written to a buffer
pub record Writable (words regs : List ℕ) (entry : ℕ) (out : List ℕ) : Type 0 where
  pub least : 1 ≤ length words
  pub most : length words ≤ 2048
  pub small : (i : ℕ) → i < length words → get_or words i 0 < 2 ^ 32
  pub sixteen : length regs ≡ 16
  pub small_regs : (i : ℕ) → i < length regs → get_or regs i 0 < 2 ^ 32
  pub entry_below : entry < length words
  pub fits : length (image_bytes words regs entry) ≤ length out

-- memories of one length with room; how long the readers are is asked in strict mode only
pub record Room (m : Bool) (words : List ℕ) (old : State) : Type 0 where
  pub enough : length words ≤ length old.words
  pub owners : length old.owners ≡ length old.words
  pub jumpers : length old.jumpers ≡ length old.words
  pub writers : length old.writers ≡ length old.words
  pub readers : m ≡ true → length old.readers ≡ length old.words

pub image_reads_back : (m : Bool) (words regs : List ℕ) (entry : ℕ) (out : List ℕ) (old : State) → Writable words regs entry out → Room m words old
    → ((write words regs entry out).answer ≡ 0)
    × (load m (take (write words regs entry out).length (write words regs entry out).out) old
    ≡ record { answer = 0; state = loaded m words regs entry old })
image_reads_back m words regs entry out old w r =
    images.read_again m words regs entry out old w.least w.most w.small w.sixteen w.small_regs w.entry_below w.fits
    r.enough r.owners r.jumpers r.writers r.readers

-- ==== 3. "Start from an image the loader accepts, and let no one else touch its state or memory. After any number of
-- steps, the tagged machine and the paper's abstract machine .. agree in words, registers, position, sets and answer"

-- the abstract machine starts from what the bytes say, not from the tags
abbrev pub start : Bool → List ℕ → paper.State
start m bytes = paper.initial m (words_of bytes) (regs_of bytes) (entry_in bytes)

-- so many steps of the abstract machine
abbrev pub abstract : Bool → List ℕ → ℕ → paper.Ran
abstract m bytes n = paper.run n (start m bytes)

-- an outcome of the tagged machine agrees with one of the abstract machine. Match: words below N, registers, pc, pc number, flag,
-- how many compartments, and for every number and every address what A, J, S and R have; and the mode
pub record Agreed (o : Ran) (q : paper.Ran) : Type 0 where
  pub answer : o.answer ≡ q.answer
  pub count : o.count ≡ q.count
  pub match : Match o.state q.state

-- "They part at one point": o is the outcome of n steps, a where the abstract machine started. There is a step, after `at` steps,
-- that is the first to make a 65th compartment; the tagged machine stopped there with 13, all 64 being used, and stands where the
-- abstract machine stood then
pub record Parted (o : Ran) (n : ℕ) (a : paper.State) : Type 0 where
  pub at : ℕ
  pub sooner : at < n
  pub wants : Wants65 at a
  pub more : length (paper.run (suc at) a).state.comps ≡ 65
  pub least : (i : ℕ) → i ≤ at → length (paper.run i a).state.comps ≤ 64
  pub stops : o.answer ≡ 13
  pub count : o.count ≡ at
  pub full : o.state.cpu.next ≡ 64
  pub match : Match o.state (paper.run at a).state

-- either mode, any bytes, any memories with any contents, on which the loader answers 0; any number of steps
module _ (m : Bool) (bytes : List ℕ) (old : State) (accepted : (load m bytes old).answer ≡ 0) (n : ℕ) where
  -- the tagged machine after n steps, and the abstract one
  abbrev T : Ran
  T = run n (load m bytes old).state

  abbrev A : paper.Ran
  A = abstract m bytes n

  pub agree : length A.state.comps ≤ 64 → Agreed T A
  agree h = let t = agreement.agreement m bytes old accepted n h in record { answer = t.answers; count = t.counts; match = t.match }

  pub part : 64 < length A.state.comps → Parted T n (start m bytes)
  part h =
      let p = agreement.parting m bytes old accepted n h in
      let q = p.1 in
      record {
        at = p.0;
        sooner = q.sooner;
        wants = q.wants;
        more = q.more;
        least = q.least;
        stops = q.stops;
        count = q.count;
        full = q.full;
        match = q.match;
      }

  -- "the tagged machine stops for want of a compartment number exactly when all 64 are used and the abstract machine
  -- would have made another". Wants65: so many steps all ran, 64 compartments are there, and the next step makes another
  pub thirteen : (T.answer ≡ 13) ↔ ((j : ℕ) × (j < n) × Wants65 j (start m bytes))
  thirteen = agreement.thirteen m bytes old accepted n

  -- the same of the step after n steps
  pub step_thirteen : length A.state.comps ≤ 64
      → ((step T.state).answer ≡ 13)
      ↔ ((T.state.cpu.next ≡ 64) × ((paper.step A.state).answer ≡ 0) × (length (paper.step A.state).state.comps ≡ suc (length A.state.comps)))
  step_thirteen = agreement.step_thirteen m bytes old accepted n

  -- 14 and 15 "never arise from an accepted image"; the abstract machine has no 13 either
  pub answers : UpTo 13 m T.answer × UpTo 12 m A.answer
  answers = (go (eqb T.answer 13) refl, up_to 12 m _ (agreement.abstract_answers m bytes old accepted n))
    where
      go : (b : Bool) → eqb T.answer 13 ≡ b → UpTo 13 m T.answer
      go true e = let k : T.answer ≡ 13 = eqb-true _ _ e in inl (omega arith)
      go false e = ⊎_elim (λ (l : T.answer ≤ 12). inl (omega arith)) inr (up_to 12 m T.answer (simp (e, or-false) at (agreement.answers m bytes old accepted n)))

  -- "Each word that changed belonged, before that step, to the compartment that stored to it or to its granted store
  -- addresses": after n steps, whatever they answered, a step that changes the word at any place x answered 0, is a Store
  -- to x < N at pc < N, and in the abstract sets before the step the one compartment that holds pc has x in A or in S
  pub changed_words : (x : ℕ) → Changes T.state x → Stored T.state A.state x
  changed_words = agreement.words m bytes old accepted n

  -- ---- the paper's own property of its machine

  -- each address below N, and each service, lies in one compartment and in no other
  pub one_compartment : (x : ℕ) → (x < size_in bytes) ⊎ (is_service m x ≡ true)
      → (c : ℕ) × (c < length A.state.comps) × ((d : ℕ) → paper.A-of A.state d x ≡ eqb c d)
  one_compartment = agreement.one_compartment m bytes old accepted n

  -- pc leaves a compartment by its jump targets: after a step that ran, the new pc is in A or J of the compartment that
  -- held the old one, as these were before the step, or the next step stops with 2 or 4
  pub leaving : (paper.step A.state).answer ≡ 0
      → ((paper.step (paper.step A.state).state).answer ≡ 2)
      ⊎ (((paper.step (paper.step A.state).state).answer ≡ 4)
      ⊎ ((paper.A-of A.state (paper.current A.state) (paper.step A.state).state.pc || paper.J-of A.state (paper.current A.state) (paper.step A.state).state.pc) ≡ true))
  leaving = agreement.leaving m bytes old accepted n
