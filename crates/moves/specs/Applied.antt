-- What a move means: a step at a memory word is the move that `move_of` finds, applied where its answer is 0.
use Rattle.std.specs.Prelude.{◌≡◌, ℕ, ◌<◌, ◌≤◌, Bool, true, false, cond, not, ◌||◌, ltb, ◌≢◌, List, ◌==◌, nat_le, nat_lt, slice_index, slice_set}
use Rattle.std.proofs.Math.Path.{refl, sym, ap}
use Rattle.std.proofs.Common.{◌∙◌, arith}
use borrow.Author.Tests.{lt-ltb, le-ltb, le-leb, ne_eqb, eqb-true, eqb-false, leb-true, leb-false}
use Rattle.common.specs.Answers as answer
use Rattle.common.specs.Opcodes as op
use Rattle.common.specs.Words.{Decoded, decode}
use Rattle.common.proofs.Laws.WordLaws.{decoded_small, rd_small}
use Rattle.common.specs.Instructions.{reg, plus, arithmetic, pc_after, regs_after, words_after, jumps}
use Rattle.common.specs.Services.{is_service_number}
use Rattle.common.proofs.Laws.CheckLaws.{cond_same}
use Rattle.rules.specs.State.{State, in_memory, has_owner, owner_at, jumpers_at, writers_at, readers_at, owns, may_jump, may_store, reads}
use Rattle.rules.specs.State as rules
use Rattle.rules.specs.Checks.{instruction_at, verdict}
use Rattle.rules.specs.Laws.Tested.{formed, bad_owner, arrives, store_verdict, load_verdict, instruction_verdict, word_verdict, tested}
use Rattle.rules.proofs.Laws.TestedRows.{verdict_tested}
use Rattle.rules.specs.Step.{ran_instruction, commit, step}
use Rattle.memory.specs.Places.{put_reg, put_word}
use Rattle.rights.specs.Rights.{free, may_use}
use Rattle.rights.specs.RightsLaws.{free_below}
use Rattle.rights.specs.Arrivals.{prev_of, jumped_of, own_prev, own_still, leapt_prev, leapt_jumped}
use Rattle.rules.proofs.Laws.FormLaws.{numbers_good}
use Rattle.moves.specs.declared.Move.{Move}
use Rattle.moves.specs.Moves.{no_register, nowhere, arrives_at, may_read, load_move, store_move, bnz_move, instruction_move, word_move, move_of}

abbrev pub applied : State → Move → State
applied s m =
    record {
      cpu =
          record {
            n = s.cpu.n;
            regs = put_reg s.cpu.regs m.rd m.value;
            pc = m.pc;
            prev = prev_of m.arrival;
            jumped = jumped_of m.arrival;
            next = s.cpu.next;
            services = s.cpu.services;
            strict = s.cpu.strict;
          };
      words = put_word s.words s.cpu.n m.place m.word;
      owners = s.owners;
      jumpers = s.jumpers;
      writers = s.writers;
      readers = s.readers;
    }

abbrev pub move_at : State → Move
move_at s =
    move_of s.cpu.regs s.cpu.pc s.cpu.prev s.cpu.jumped s.cpu.next s.cpu.strict s.cpu.n s.words s.owners s.jumpers s.writers s.readers

-- ---- which of the fourteen an opcode is

pub data Opcode (o : ℕ) : Type 0 where
  nop : o ≡ 0 → Opcode o
  const : o ≡ 1 → Opcode o
  mov : o ≡ 2 → Opcode o
  five : 3 ≤ o → o ≤ 7 → Opcode o
  load : o ≡ 8 → Opcode o
  store : o ≡ 9 → Opcode o
  jump : o ≡ 10 → Opcode o
  jal : o ≡ 11 → Opcode o
  bnz : o ≡ 12 → Opcode o
  halt : o ≡ 13 → Opcode o

opcode : (o : ℕ) → o < 14 → Opcode o
opcode o h = low (nat_le o 7) refl
  where
    high : (a b c d e : Bool) → nat_le 8 o ≡ true → (o == 8) ≡ a → (o == 9) ≡ b → (o == 10) ≡ c → (o == 11) ≡ d → (o == 12) ≡ e → Opcode o
    high true b c d e k p q r s t = load (eqb-true o 8 p)
    high false true c d e k p q r s t = store (eqb-true o 9 q)
    high false false true d e k p q r s t = jump (eqb-true o 10 r)
    high false false false true e k p q r s t = jal (eqb-true o 11 s)
    high false false false false true k p q r s t = bnz (eqb-true o 12 t)
    high false false false false false k p q r s t =
        let l = leb-true 8 o k in
        let x = eqb-false o 8 p in
        let y = eqb-false o 9 q in
        let z = eqb-false o 10 r in
        let u = eqb-false o 11 s in
        let v = eqb-false o 12 t in
        halt (omega arith)

    below : (a b c : Bool) → nat_le o 7 ≡ true → (o == 0) ≡ a → (o == 1) ≡ b → (o == 2) ≡ c → Opcode o
    below true b c k p q r = nop (eqb-true o 0 p)
    below false true c k p q r = const (eqb-true o 1 q)
    below false false true k p q r = mov (eqb-true o 2 r)
    below false false false k p q r =
        let x = eqb-false o 0 p in
        let y = eqb-false o 1 q in
        let z = eqb-false o 2 r in
        five (omega arith) (leb-true o 7 k)

    low : (t : Bool) → nat_le o 7 ≡ t → Opcode o
    low true k = below (o == 0) (o == 1) (o == 2) k refl refl refl
    low false k =
        let l = leb-false o 7 k in
        high (o == 8) (o == 9) (o == 10) (o == 11) (o == 12) (le-leb 8 o (omega arith)) refl refl refl refl refl

-- ---- the instruction of compartment c, whose fields are those of a decoded word

module _ (s : State) (c : ℕ) (i : Decoded) where
  abbrev m : Move
  m = instruction_move i s.cpu.regs s.cpu.pc c s.cpu.strict s.cpu.n s.words s.owners s.writers s.readers

  abbrev x : ℕ
  x = reg s.cpu.regs i.a

  abbrev y : ℕ
  y = reg s.cpu.regs i.b

  abbrev on : ℕ
  on = plus s.cpu.pc 1

  not_op : (j : ℕ) → (i.op ≢ j) → (i.op == j) ≡ false
  not_op j = ne_eqb i.op j

  -- the tests of a Store at a memory word
  may_store_is : ltb x s.cpu.n ≡ true → (owns s c x || may_store s c x) ≡ may_use c (slice_index s.owners x) (slice_index s.writers x)
  unfolding owns has_owner owner_at may_store writers_at in_memory may_use
  may_store_is h = simp h

  -- and of a Load
  may_read_is : ltb x s.cpu.n ≡ true → reads s c x ≡ may_read c x s.cpu.strict s.owners s.readers
  unfolding reads owns has_owner owner_at readers_at in_memory may_use rules.may_read
  may_read_is h = go s.cpu.strict refl
    where
      go : (m : Bool) → s.cpu.strict ≡ m → reads s c x ≡ may_read c x s.cpu.strict s.owners s.readers
      go true e = simp (h, e)
      go false e = simp e

  load_answer_lem : (load_move c on i.b x s.cpu.strict s.cpu.n s.words s.owners s.readers).answer ≡ load_verdict s c x
  unfolding load_move load_verdict in_memory
  load_answer_lem = go (nat_lt x s.cpu.n) (may_read c x s.cpu.strict s.owners s.readers) refl refl
    where
      go : (t u : Bool) → nat_lt x s.cpu.n ≡ t → may_read c x s.cpu.strict s.owners s.readers ≡ u
          → (load_move c on i.b x s.cpu.strict s.cpu.n s.words s.owners s.readers).answer ≡ load_verdict s c x
      go false u h k = simp h
      go true true h k = simp (h, k, may_read_is h ∙ k)
      go true false h k = simp (h, k, may_read_is h ∙ k)

  store_answer_lem : (store_move c on x y s.cpu.n s.owners s.writers).answer ≡ store_verdict s c x
  unfolding store_move store_verdict in_memory
  store_answer_lem = go (nat_lt x s.cpu.n) (may_use c (slice_index s.owners x) (slice_index s.writers x)) refl refl
    where
      go : (t u : Bool) → nat_lt x s.cpu.n ≡ t → may_use c (slice_index s.owners x) (slice_index s.writers x) ≡ u
          → (store_move c on x y s.cpu.n s.owners s.writers).answer ≡ store_verdict s c x
      go false u h k = simp h
      go true true h k = simp (h, k, may_store_is h ∙ k)
      go true false h k = simp (h, k, may_store_is h ∙ k)

  bnz_answer : (bnz_move c on s.cpu.pc i.low x).answer ≡ answer.done
  unfolding bnz_move
  bnz_answer = go (x == 0) refl
    where
      go : (t : Bool) → (x == 0) ≡ t → (bnz_move c on s.cpu.pc i.low x).answer ≡ answer.done
      go true h = simp h
      go false h = simp h

  -- the three arms that are moves of their own
  is_load : i.op ≡ op.load → m ≡ load_move c on i.b x s.cpu.strict s.cpu.n s.words s.owners s.readers
  unfolding instruction_move
  is_load e = simp e

  is_store : i.op ≡ op.store → m ≡ store_move c on x y s.cpu.n s.owners s.writers
  unfolding instruction_move
  is_store e = simp e

  is_bnz : i.op ≡ op.bnz → m ≡ bnz_move c on s.cpu.pc i.low x
  unfolding instruction_move
  is_bnz e = simp e

  answers : Opcode i.op → m.answer ≡ instruction_verdict s c i
  unfolding instruction_move instruction_verdict
  answers (nop e) = simp e
  answers (const e) = simp e
  answers (mov e) = simp e
  answers (five h k) =
      simp (not_op 1 (λ z. omega arith), not_op 2 (λ z. omega arith), not_op 8 (λ z. omega arith), not_op 9 (λ z. omega arith), not_op 13 (λ z. omega arith), le-leb 3 i.op h, le-leb i.op 7 k)
  answers (load e) = simp e load_answer_lem
  answers (store e) = simp e store_answer_lem
  answers (jump e) = simp e
  answers (jal e) = simp e
  answers (bnz e) = simp e bnz_answer
  answers (halt e) = simp e

  -- where the answer is 0 the move, applied, is what the rules say
  module _ (ha : i.a < 16) (hb : i.b < 16) (hl : op.add ≤ i.op → i.op ≤ op.leq → i.low < 16) (hn : s.cpu.n ≤ nowhere) (hc : c < 4294967296) where
    none_stored : (word : ℕ) → put_word s.words s.cpu.n nowhere word ≡ s.words
    unfolding put_word
    none_stored word = simp (le-ltb nowhere s.cpu.n hn)

    one_put : (rd value : ℕ) → rd < 16 → put_reg s.cpu.regs rd value ≡ slice_set s.cpu.regs rd value
    unfolding put_reg
    one_put rd value h = simp (lt-ltb rd 16 h)

    none_put : (value : ℕ) → put_reg s.cpu.regs no_register value ≡ s.cpu.regs
    unfolding put_reg
    none_put value = refl

    load_applies : i.op ≡ op.load → (load_move c on i.b x s.cpu.strict s.cpu.n s.words s.owners s.readers).answer ≡ answer.done
        → applied s (load_move c on i.b x s.cpu.strict s.cpu.n s.words s.owners s.readers) ≡ ran_instruction s c i
    unfolding load_move ran_instruction pc_after regs_after words_after jumps
    load_applies e = go (nat_lt x s.cpu.n) (may_read c x s.cpu.strict s.owners s.readers) refl refl
      where
        go : (t u : Bool) → nat_lt x s.cpu.n ≡ t → may_read c x s.cpu.strict s.owners s.readers ≡ u
            → (load_move c on i.b x s.cpu.strict s.cpu.n s.words s.owners s.readers).answer ≡ answer.done
            → applied s (load_move c on i.b x s.cpu.strict s.cpu.n s.words s.owners s.readers) ≡ ran_instruction s c i
        go true true h k l = simp (h, k, e, none_stored 0, one_put i.b (slice_index s.words x) hb, own_prev c hc, own_still c hc)
        go true false h k l = let z : ◌≡◌ {A = ℕ} 17 0 = simp (h, k) at l in absurd (omega arith)
        go false u h k l = let z : ◌≡◌ {A = ℕ} 5 0 = simp h at l in absurd (omega arith)

    store_applies : i.op ≡ op.store → (store_move c on x y s.cpu.n s.owners s.writers).answer ≡ answer.done
        → applied s (store_move c on x y s.cpu.n s.owners s.writers) ≡ ran_instruction s c i
    unfolding store_move ran_instruction pc_after regs_after words_after jumps put_word
    store_applies e = go (nat_lt x s.cpu.n) (may_use c (slice_index s.owners x) (slice_index s.writers x)) refl refl
      where
        go : (t u : Bool) → nat_lt x s.cpu.n ≡ t → may_use c (slice_index s.owners x) (slice_index s.writers x) ≡ u
            → (store_move c on x y s.cpu.n s.owners s.writers).answer ≡ answer.done
            → applied s (store_move c on x y s.cpu.n s.owners s.writers) ≡ ran_instruction s c i
        go true true h k l = simp (h, k, e, none_put 0, own_prev c hc, own_still c hc)
        go true false h k l = let z : ◌≡◌ {A = ℕ} 7 0 = simp (h, k) at l in absurd (omega arith)
        go false u h k l = let z : ◌≡◌ {A = ℕ} 6 0 = simp h at l in absurd (omega arith)

    bnz_applies : i.op ≡ op.bnz → applied s (bnz_move c on s.cpu.pc i.low x) ≡ ran_instruction s c i
    unfolding bnz_move ran_instruction pc_after regs_after words_after jumps
    bnz_applies e = go (x == 0) refl
      where
        go : (t : Bool) → (x == 0) ≡ t → applied s (bnz_move c on s.cpu.pc i.low x) ≡ ran_instruction s c i
        go true h = simp (h, e, none_stored 0, none_put 0, own_prev c hc, own_still c hc)
        go false h = simp (h, e, none_stored 0, none_put 0, own_prev c hc, own_still c hc)

    applies : Opcode i.op → m.answer ≡ answer.done → applied s m ≡ ran_instruction s c i
    unfolding instruction_move ran_instruction pc_after regs_after words_after jumps
    applies (nop e) z = simp (e, none_stored 0, none_put 0, own_prev c hc, own_still c hc)
    applies (const e) z = simp (e, none_stored 0, one_put i.a i.low ha, own_prev c hc, own_still c hc)
    applies (mov e) z = simp (e, none_stored 0, one_put i.b x hb, own_prev c hc, own_still c hc)
    applies (five h k) z =
        simp (not_op 1 (λ z. omega arith), not_op 2 (λ z. omega arith), not_op 9 (λ z. omega arith), not_op 10 (λ z. omega arith), not_op 11 (λ z. omega arith), not_op 12 (λ z. omega arith), le-leb 3 i.op h, le-leb i.op 7 k, none_stored 0, one_put i.low (arithmetic i.op x y) (hl h k), own_prev c hc, own_still c hc)
    applies (load e) z = ap (applied s) (is_load e) ∙ load_applies e (ap (λ (k : Move). k.answer) (sym (is_load e)) ∙ z)
    applies (store e) z = ap (applied s) (is_store e) ∙ store_applies e (ap (λ (k : Move). k.answer) (sym (is_store e)) ∙ z)
    applies (jump e) z = simp (e, none_stored 0, none_put 0, leapt_prev c hc, leapt_jumped c hc)
    applies (jal e) z = simp (e, none_stored 0, one_put 15 on (omega arith), leapt_prev c hc, leapt_jumped c hc)
    applies (bnz e) z = ap (applied s) (is_bnz e) ∙ bnz_applies e
    applies (halt e) z = let q : ◌≡◌ {A = ℕ} 1 0 = simp e at z in absurd (omega arith)

-- ---- the step at a memory word

not-not : (t : Bool) → t ≡ not (not t)
not-not true = refl
not-not false = refl

module _ (s : State) (w : formed s ≡ true) (k : s.cpu.pc < s.cpu.n) (hn : s.cpu.n ≤ nowhere) where
  abbrev owner : ℕ
  owner = slice_index s.owners s.cpu.pc

  abbrev i : Decoded
  i = instruction_at s

  abbrev word : Move
  word = word_move i s.cpu.regs s.cpu.pc owner s.cpu.strict s.cpu.n s.words s.owners s.writers s.readers

  in_memory_lem : in_memory s s.cpu.pc ≡ true
  unfolding in_memory
  in_memory_lem = lt-ltb s.cpu.pc s.cpu.n k

  owner_is : owner_at s s.cpu.pc ≡ owner
  unfolding owner_at
  owner_is = simp in_memory_lem

  bad_is : bad_owner s ≡ not (free s.cpu.strict owner s.cpu.next)
  unfolding bad_owner free
  bad_is = simp (in_memory_lem, owner_is) (not-not (is_service_number s.cpu.strict owner || nat_le s.cpu.next owner))

  come_is : arrives s ≡ arrives_at owner s.cpu.prev s.cpu.jumped (slice_index s.jumpers s.cpu.pc)
  unfolding arrives arrives_at may_jump jumpers_at
  come_is = simp (in_memory_lem, owner_is)

  op_known : Opcode i.op
  unfolding instruction_at
  op_known = opcode i.op (decoded_small (slice_index s.words s.cpu.pc)).0

  word_answers : word.answer ≡ word_verdict s owner i
  unfolding word_move word_verdict
  word_answers = go (i.answer == answer.done) refl
    where
      go : (t : Bool) → (i.answer == answer.done) ≡ t → word.answer ≡ word_verdict s owner i
      go true e = simp e (answers s owner i op_known)
      go false e = simp e

  owner_small : free s.cpu.strict owner s.cpu.next ≡ true → owner < 4294967296
  owner_small f = let b = free_below s.cpu.strict owner s.cpu.next f in let l = (numbers_good s w).high in omega arith

  word_applies : free s.cpu.strict owner s.cpu.next ≡ true → word.answer ≡ answer.done → applied s word ≡ ran_instruction s owner i
  unfolding word_move instruction_at
  word_applies f = go (i.answer == answer.done) refl
    where
      go : (t : Bool) → (i.answer == answer.done) ≡ t → word.answer ≡ answer.done → applied s word ≡ ran_instruction s owner i
      go true e z =
          let d = decoded_small (slice_index s.words s.cpu.pc) in
          let r = rd_small (slice_index s.words s.cpu.pc) (eqb-true i.answer answer.done e) in
          simp e (applies s owner i d.1 d.2 r hn (owner_small f) op_known (simp e at z))
      go false e z = absurd (eqb-false i.answer answer.done e (simp e at z))

  -- the whole of it: the answer, and the state
  move_answers : (move_at s).answer ≡ verdict s
  unfolding move_of tested has_owner instruction_at
  move_answers = go (free s.cpu.strict owner s.cpu.next) (arrives s) refl refl ∙ sym (verdict_tested s)
    where
      go : (f a : Bool) → free s.cpu.strict owner s.cpu.next ≡ f → arrives s ≡ a → (move_at s).answer ≡ tested s
      go false a e h = simp (w, in_memory_lem, bad_is, e)
      go true false e h = simp (w, in_memory_lem, bad_is, e, h, ← come_is)
      go true true e h = simp (w, in_memory_lem, bad_is, e, h, ← come_is, owner_is) word_answers

  move_applies : (move_at s).answer ≡ answer.done → applied s (move_at s) ≡ commit s
  unfolding move_of commit instruction_at
  move_applies = go (free s.cpu.strict owner s.cpu.next) (arrives s) refl refl
    where
      go : (f a : Bool) → free s.cpu.strict owner s.cpu.next ≡ f → arrives s ≡ a → (move_at s).answer ≡ answer.done → applied s (move_at s) ≡ commit s
      go false a e h z = let q : ◌≡◌ {A = ℕ} 15 0 = simp e at z in absurd (omega arith)
      go true false e h z = let q : ◌≡◌ {A = ℕ} 4 0 = simp (e, ← come_is, h) at z in absurd (omega arith)
      go true true e h z = simp (e, ← come_is, h, in_memory_lem, owner_is) (word_applies e (simp (e, ← come_is, h) at z))

  -- a step is the move, applied where its answer is 0
  pub move_stops : (v : Move) → v ≡ move_at s → v.answer ≢ answer.done → record { answer = v.answer; state = s } ≡ step s
  unfolding step
  move_stops v e h =
      let q : v.answer ≡ verdict s = ap (λ (u : Move). u.answer) e ∙ move_answers in
      simp (← q, ne_eqb v.answer answer.done h)

  pub move_runs : (v : Move) → v ≡ move_at s → v.answer ≡ answer.done → record { answer = answer.done; state = applied s v } ≡ step s
  unfolding step
  move_runs v e h =
      let z : (move_at s).answer ≡ answer.done = ap (λ (u : Move). u.answer) (sym e) ∙ h in
      let q : verdict s ≡ answer.done = sym move_answers ∙ z in
      simp q (ap (λ (u : State). record { answer = answer.done; state = u }) (ap (applied s) e ∙ move_applies z))

-- ---- who ran passed 15

module _ (i : Decoded) (regs : List ℕ) (pc owner : ℕ) (strict : Bool) (n : ℕ) (words owners writers readers : List ℕ) (h : owner < 4294967296) where
  whose_cond : (t : Bool) (x y : Move) → prev_of (cond t x y).arrival ≡ cond t (prev_of x.arrival) (prev_of y.arrival)
  whose_cond true x y = refl
  whose_cond false x y = refl

  word_owner : prev_of (word_move i regs pc owner strict n words owners writers readers).arrival ≡ owner
  unfolding word_move instruction_move load_move store_move bnz_move
  word_owner = simp (whose_cond, own_prev owner h, leapt_prev owner h, cond_same)

pub move_free : (s : State) → formed s ≡ true → (move_at s).answer ≡ answer.done → (move_at s).arrival < 4294967296 → free s.cpu.strict (move_at s).arrival s.cpu.next ≡ true
unfolding move_of
move_free s w = go (free s.cpu.strict owner s.cpu.next) (arrives_at owner s.cpu.prev s.cpu.jumped (slice_index s.jumpers s.cpu.pc)) refl refl
  where
    owner : ℕ
    owner = slice_index s.owners s.cpu.pc

    go : (f a : Bool) → free s.cpu.strict owner s.cpu.next ≡ f → arrives_at owner s.cpu.prev s.cpu.jumped (slice_index s.jumpers s.cpu.pc) ≡ a
        → (move_at s).answer ≡ answer.done → (move_at s).arrival < 4294967296 → free s.cpu.strict (move_at s).arrival s.cpu.next ≡ true
    go false a e h z l = let q : ◌≡◌ {A = ℕ} 15 0 = simp e at z in absurd (omega arith)
    go true false e h z l = let q : ◌≡◌ {A = ℕ} 4 0 = simp (e, h) at z in absurd (omega arith)
    go true true e h z l =
        let b = free_below s.cpu.strict owner s.cpu.next e in
        let c = (numbers_good s w).high in
        let own : prev_of (move_at s).arrival ≡ owner = simp (e, h, word_owner (decode (slice_index s.words s.cpu.pc)) s.cpu.regs s.cpu.pc owner s.cpu.strict s.cpu.n s.words s.owners s.writers s.readers (omega arith)) in
        ap (λ (o : ℕ). free s.cpu.strict o s.cpu.next) (sym (own_prev (move_at s).arrival l) ∙ own) ∙ e
