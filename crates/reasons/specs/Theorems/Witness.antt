-- What is told of an answer shows its cause: for every state, and for each answer that has something to tell.
use Rattle.std.specs.Prelude.{◌≡◌, Bool, true, false, cond, ◌&&◌, ◌||◌, not, ◌⊎◌, ◌↔◌, List, ltb, leb, eqb, length}
use Rattle.std.proofs.Math.Path.{refl, sym}
use Rattle.std.proofs.Common.{ap, ◌∙◌, subst, inl, inr, arith, mod-lt, mod-eq_of_lt}
use Rattle.std.proofs.Math.Bool.{or-false, and-false}
use Rattle.std.proofs.Math.Logic.{⊎_elim}
use Prim.Native.Nat.{ℕ, zero, suc, ◌+◌, ◌-◌, ◌*◌, ◌%◌, ◌≤◌, ◌<◌}
use borrow.Author.Tests.{ltb-true, ltb-false, leb-true, leb-false, eqb-true, eqb-false, not-true, not-false, eq-eqb, lt-ltb, le-ltb}
use Rattle.std.proofs.Math.ListN.{get_or}
use Rattle.common.specs.Answers as answer
use Rattle.common.specs.Opcodes as is
use Rattle.common.specs.Words.{row, op_of, a_of, b_of, low_of, pack, decode}
use Rattle.common.specs.Services.{isolate, add_jump_target, add_store_target, add_read_target, is_service, is_service_number, service_count}
use Rattle.common.specs.AddressSets.{set_at, pairs_at, is_empty, in_set}
use Rattle.common.proofs.Laws.Tests.{both, clash, not_and, not_or, not_leb}
use Rattle.common.proofs.Laws.WordLaws.{Above, a_above, b_above, low_above, decode_3, decode_16}
use Rattle.rules.specs.Compartments.{member, empty}
use Rattle.rules.specs.State.{State, first_number, in_memory, owner_at, jumpers_at, owns}
use Rattle.rules.specs.Checks as rules
use Rattle.rules.specs.Checks.{instruction_at, named, owner, verdict, checks}
use Rattle.rules.specs.Step.{step}
use Rattle.rules.proofs.Theorems.Worded.{AtAdd}
use Rattle.reasons.specs.Why.{Why, beyond, stray_bits, word_at, pointer, set_by, bad_set, wide_set, about_word, about_size, about_target, about_set, about_gift, form_fault, return_fault, rows, row_of, why}
use Rattle.reasons.specs.Causes as cause
use Rattle.reasons.specs.Laws.RowLaws.{told_of, answered, holds_for, holds_for_lem}
use Rattle.reasons.specs.Theorems.Sets.{bad_set_lem, not_within_lem}

-- ---- tests that are false

or_sides : (a b : Bool) → (a || b) ≡ true → (a ≡ true) ⊎ (b ≡ true)
or_sides true b h = inl refl
or_sides false b h = inr h

or_none : (a b : Bool) → (a || b) ≡ false → (a ≡ false) × (b ≡ false)
or_none true b h = clash refl h
or_none false b h = (refl, h)

-- a set of no pairs has the count 0
no_pairs : (words : List ℕ) (q : ℕ) → is_empty (set_at words q) ≡ true → get_or words q 0 ≡ 0
unfolding set_at pairs_at is_empty
no_pairs words q h = go (get_or words q 0) h
  where
    go : (k : ℕ) → is_empty (pairs_at words (q + 1) k) ≡ true → k ≡ 0
    go zero e = refl
    go (suc k) e = clash e refl

-- ---- 16: a word that has a known opcode and does not decode has bits that its opcode leaves unused

-- what is above the largest value shows
beyond_shows : (x most : ℕ) → most < x → 0 < beyond x most
beyond_shows x most h = let l : x % suc most < suc most = mod-lt x (omega arith) in omega arith

stray_shows : (word : ℕ) → op_of word < is.count → Above (op_of word) (a_of word) (b_of word) (low_of word) → 0 < stray_bits word
unfolding stray_bits
stray_shows word l (a_above h) = let k = beyond_shows (a_of word) (row (op_of word)).a h in simp (lt-ltb (op_of word) is.count l) (omega arith)
stray_shows word l (b_above h) = let k = beyond_shows (b_of word) (row (op_of word)).b h in simp (lt-ltb (op_of word) is.count l) (omega arith)
stray_shows word l (low_above h) = let k = beyond_shows (low_of word) (row (op_of word)).low h in simp (lt-ltb (op_of word) is.count l) (omega arith)

-- the first unused number after loading, in the words of 14
pub first_is : (m : Bool) → cond m 5 4 ≡ first_number m
unfolding first_number service_count
first_is true = refl
first_is false = refl

module _ (s : State) where
  -- the rows of the table, from their conditions

  no_place : rules.no_place s ≡ true → cause.NoPlace s (row_of answer.no_place (rows s))
  unfolding rules.no_place row_of rows
  no_place h =
      let t = both (not (rules.is_word s)) _ h in
      record { place = refl; no_word = ltb-false _ _ (not-true _ t.0); no_service = not-true _ t.1 }

  -- of 3 and of 16
  about_word_lem : (k : ℕ) → rules.is_word s ≡ true → cause.WordAtPc s (about_word s k)
  about_word_lem k w = record { place = refl; there = ltb-true _ _ w; value = refl; bits = refl }

  no_instruction_lem : rules.no_instruction s ≡ true → cause.NoInstruction s (row_of answer.no_instruction (rows s))
  unfolding rules.no_instruction instruction_at row_of rows
  no_instruction_lem h =
      let t = both (rules.is_word s) _ h in
      record { word = about_word_lem answer.no_instruction t.0; unknown = (decode_3 (word_at s s.cpu.pc)).0 (eqb-true _ _ t.1) }

  stray_bit_lem : rules.stray_bit s ≡ true → cause.StrayBit s (row_of answer.stray_bit (rows s))
  unfolding rules.stray_bit instruction_at row_of rows
  stray_bit_lem h =
      let t = both (rules.is_word s) _ h in
      let e : (decode (word_at s s.cpu.pc)).answer ≡ answer.stray_bit = eqb-true _ _ t.1 in
      let d = (decode_16 (word_at s s.cpu.pc)).0 e in
      record { word = about_word_lem answer.stray_bit t.0; known = d.0; stray = stray_shows (word_at s s.cpu.pc) d.0 d.1 }

  no_arrival_lem : rules.no_arrival s ≡ true → cause.NoArrival s (row_of answer.no_arrival (rows s))
  unfolding rules.no_arrival row_of rows
  no_arrival_lem h =
      let t = both (not (eqb (owner_at s s.cpu.pc) s.cpu.prev)) _ h in
      record { place = refl; whose = refl; another = eqb-false _ _ (not-true _ t.0); no_jump = not-true _ t.1 }

  module _ (op k : ℕ) (here : rules.is_op s op ≡ true) where
    at_op : (s.cpu.pc < s.cpu.n) × ((instruction_at s).op ≡ op)
    at_op = let t = both (rules.is_word s) _ here in (ltb-true _ _ t.0, eqb-true _ _ t.1)

    about_size_lem : not (ltb (named s) s.cpu.n) ≡ true → cause.Outside s (about_size s k) op
    about_size_lem h = record { there = at_op.0; instruction = at_op.1; place = refl; value = refl; above = ltb-false _ _ (not-true _ h) }

    about_target_lem : (granted : ℕ → ℕ) → not (eqb (owner s (named s)) (owner s s.cpu.pc) || member (granted (named s)) (owner s s.cpu.pc)) ≡ true
        → cause.Forbidden s (about_target s k) op granted
    about_target_lem granted h =
        let t = or_none _ _ (not-true _ h) in
        record { there = at_op.0; instruction = at_op.1; place = refl; whose = refl; another = eqb-false _ _ t.0; not_granted = t.1 }

  load_outside_lem : rules.load_outside s ≡ true → cause.Outside s (row_of answer.load_outside (rows s)) is.load
  unfolding rules.load_outside row_of rows
  load_outside_lem h = let t = both (rules.is_op s is.load) _ h in about_size_lem is.load answer.load_outside t.0 t.1

  store_outside_lem : rules.store_outside s ≡ true → cause.Outside s (row_of answer.store_outside (rows s)) is.store
  unfolding rules.store_outside row_of rows
  store_outside_lem h = let t = both (rules.is_op s is.store) _ h in about_size_lem is.store answer.store_outside t.0 t.1

  load_forbidden_lem : rules.load_forbidden s ≡ true → cause.Forbidden s (row_of answer.load_forbidden (rows s)) is.load (λ x. get_or s.readers x empty) × (s.cpu.strict ≡ true)
  unfolding rules.load_forbidden row_of rows
  load_forbidden_lem h =
      let t = both (rules.is_op s is.load && s.cpu.strict) _ h in
      let u = both (rules.is_op s is.load) _ t.0 in
      (about_target_lem is.load answer.load_forbidden u.0 (λ x. get_or s.readers x empty) t.1, u.1)

  store_forbidden_lem : rules.store_forbidden s ≡ true → cause.Forbidden s (row_of answer.store_forbidden (rows s)) is.store (λ x. get_or s.writers x empty)
  unfolding rules.store_forbidden row_of rows
  store_forbidden_lem h = let t = both (rules.is_op s is.store) _ h in about_target_lem is.store answer.store_forbidden t.0 (λ x. get_or s.writers x empty) t.1

  empty_set_lem : rules.empty_set s ≡ true → cause.EmptySet s (row_of answer.empty_set (rows s))
  unfolding rules.empty_set row_of rows
  empty_set_lem h = let t = both (rules.at_isolate s) _ h in record { called = eqb-true _ _ t.0; set = refl; place = refl; no_pairs = no_pairs s.words (pointer s 1) t.1 }

  at_add_lem : rules.at_add s ≡ true → AtAdd s
  at_add_lem h = ⊎_elim (λ a. inl (⊎_elim (λ b. inl (eqb-true _ _ b)) (λ b. inr (eqb-true _ _ b)) (or_sides _ _ a))) (λ a. inr (eqb-true _ _ a)) (or_sides _ _ h)

  not_owned_lem : rules.not_owned s ≡ true → cause.NotOwned s (row_of answer.not_owned (rows s))
  unfolding rules.not_owned row_of rows
  not_owned_lem h = let t = both (rules.at_add s) _ h in record { called = at_add_lem t.0; place = refl; whose = refl; another = not-true _ t.1 }

  no_return_lem : rules.no_return s ≡ true → cause.NoReturn s (row_of answer.no_return (rows s))
  unfolding rules.no_return rules.returns return_fault row_of rows
  no_return_lem h = record { place = refl; whose = refl; lost = ⊎_elim isolating adding (or_sides _ _ h) }
    where
      x : ℕ
      x = pointer s 15

      back : Bool
      back = in_memory s (pointer s 15) && owns s s.cpu.prev (pointer s 15)

      isolating : (rules.at_isolate s && not (rules.returns s s.cpu.prev)) ≡ true → cause.LostWord s (row_of answer.no_return (rows s))
      isolating h' = let t = both (rules.at_isolate s) _ h' in go back refl (eqb-true _ _ t.0) (not-true _ t.1)
        where
          go : (b : Bool) → back ≡ b → s.cpu.pc ≡ isolate → (back && not (in_set (set_by s 1) x)) ≡ false → cause.LostWord s (row_of answer.no_return (rows s))
          go true e at r = cause.taken_away (simp e) at (not-false _ (simp e at r))
          go false e at r = cause.not_callers (simp e) at e

      adding : (rules.at_add s && not (owns s s.cpu.prev (pointer s 15))) ≡ true → cause.LostWord s (row_of answer.no_return (rows s))
      adding h' = let t = both (rules.at_add s) _ h' in let n : owns s s.cpu.prev (pointer s 15) ≡ false = not-true _ t.1 in let b : back ≡ false = ap (λ (c : Bool). in_memory s (pointer s 15) && c) n ∙ and-false (in_memory s (pointer s 15)) in cause.not_adders (simp b) (at_add_lem t.0) n

  no_number : rules.no_number s ≡ true → cause.NoNumber s (row_of answer.no_number (rows s))
  unfolding rules.no_number row_of rows
  no_number h = let t = both (rules.at_isolate s) _ h in record { called = eqb-true _ _ t.0; value = sym (eqb-true _ _ t.1); all_used = refl }

  bad_owner_lem : rules.wrong_owner s ≡ true → cause.BadOwner s (row_of answer.bad_owner (rows s))
  unfolding rules.wrong_owner row_of rows
  bad_owner_lem h = let t = both (rules.is_word s) _ h in record { place = refl; there = ltb-true _ _ t.0; whose = refl; wrong = t.1 }

  bad_form_lem : rules.bad_form s ≡ true → cause.BadForm s (row_of answer.bad_form (rows s))
  unfolding rules.bad_form form_fault row_of rows first_number service_count
  bad_form_lem h =
      go (rules.lengths_differ s.cpu.strict s) (leb 1 s.cpu.n) (leb s.cpu.n 2048) (leb s.cpu.n (length s.words)) refl refl refl refl
    where
      w : Why
      w = row_of answer.bad_form (rows s)

      go : (a b c d : Bool) → rules.lengths_differ s.cpu.strict s ≡ a → leb 1 s.cpu.n ≡ b → leb s.cpu.n 2048 ≡ c → leb s.cpu.n (length s.words) ≡ d → cause.BadForm s w
      go true b c d e x y z = cause.not_alike (simp e) e
      go false false c d e x y z = let l : s.cpu.n < 1 = leb-false _ _ x in cause.not_sized (simp (e, x)) (inl (omega arith))
      go false true false d e x y z = cause.not_sized (simp (e, x, y)) (inr (inl (leb-false _ _ y)))
      go false true true false e x y z = cause.not_sized (simp (e, x, y, z)) (inr (inr (leb-false _ _ z)))
      go false true true true e x y z = rest (leb (first_number s.cpu.strict) s.cpu.next) (leb s.cpu.next 64) (ltb s.cpu.prev s.cpu.next) refl refl refl
        where
          rest : (f g p : Bool) → leb (first_number s.cpu.strict) s.cpu.next ≡ f → leb s.cpu.next 64 ≡ g → ltb s.cpu.prev s.cpu.next ≡ p → cause.BadForm s w
          rest false g p i j k = cause.not_numbered (simp (e, x, y, z, i)) (inl (leb-false _ _ i))
          rest true false p i j k = cause.not_numbered (simp (e, x, y, z, i, j)) (inr (leb-false _ _ j))
          rest true true false i j k = cause.not_below (simp (e, x, y, z, i, j, k)) (ltb-false _ _ k)
          rest true true true i j k =
              let l : ltb (length s.words) s.cpu.n ≡ false = le-ltb (length s.words) s.cpu.n (leb-true s.cpu.n (length s.words) z) in
              let f : leb (cond s.cpu.strict 5 4) s.cpu.next ≡ true = ap (λ (m : ℕ). leb m s.cpu.next) (first_is s.cpu.strict) ∙ i in
              let t = both (is_service_number s.cpu.strict s.cpu.prev) (is_service s.cpu.strict s.cpu.pc) (simp (e, x, y, l, f, j, k) at h) in
              cause.not_seated (simp (e, x, y, z, i, j, k)) t.0 t.1

-- ---- the whole of it

-- what is told shows the cause of the answer that is told
pub record Shows (s : State) (w : Why) : Type 0 where
  pub no_place : w.answer ≡ answer.no_place → cause.NoPlace s w
  pub no_instruction_lem : w.answer ≡ answer.no_instruction → cause.NoInstruction s w
  pub stray_bit_lem : w.answer ≡ answer.stray_bit → cause.StrayBit s w
  pub no_arrival_lem : w.answer ≡ answer.no_arrival → cause.NoArrival s w
  pub load_outside_lem : w.answer ≡ answer.load_outside → cause.Outside s w is.load
  pub store_outside_lem : w.answer ≡ answer.store_outside → cause.Outside s w is.store
  pub store_forbidden_lem : w.answer ≡ answer.store_forbidden → cause.Forbidden s w is.store (λ x. get_or s.writers x empty)
  pub load_forbidden_lem : w.answer ≡ answer.load_forbidden → cause.Forbidden s w is.load (λ x. get_or s.readers x empty) × (s.cpu.strict ≡ true)
  pub bad_set_lem : w.answer ≡ answer.bad_set → cause.BadSet s w
  pub empty_set_lem : w.answer ≡ answer.empty_set → cause.EmptySet s w
  pub not_within_lem : w.answer ≡ answer.not_within → cause.OutOfReach s w
  pub not_owned_lem : w.answer ≡ answer.not_owned → cause.NotOwned s w
  pub no_return_lem : w.answer ≡ answer.no_return → cause.NoReturn s w
  pub no_number : w.answer ≡ answer.no_number → cause.NoNumber s w
  pub bad_form_lem : w.answer ≡ answer.bad_form → cause.BadForm s w
  pub bad_owner_lem : w.answer ≡ answer.bad_owner → cause.BadOwner s w

module _ (s : State) where
  -- by the row of answer k, of which the condition holds
  shown : (k : ℕ) → (k ≡ 0 → ⊥) → (C : Why → Type 0) → (holds_for k (checks s) ≡ true → C (row_of k (rows s))) → (why s).answer ≡ k → C (why s)
  shown k n C f e = let v = sym (answered s) ∙ e in subst C (sym (told_of s k v)) (f (holds_for_lem s k n v))

  -- the one check with a number
  only : (b : Bool) → (b || false) ≡ true → b ≡ true
  only b h = sym (or-false b) ∙ h

  pub shows : Shows s (why s)
  unfolding holds_for checks row_of rows
  shows =
      record {
        no_place = shown 2 (λ e. omega arith) (cause.NoPlace s) (λ h. no_place s (only _ h));
        no_instruction_lem = shown 3 (λ e. omega arith) (cause.NoInstruction s) (λ h. no_instruction_lem s (only _ h));
        stray_bit_lem = shown 16 (λ e. omega arith) (cause.StrayBit s) (λ h. stray_bit_lem s (only _ h));
        no_arrival_lem = shown 4 (λ e. omega arith) (cause.NoArrival s) (λ h. no_arrival_lem s (only _ h));
        load_outside_lem = shown 5 (λ e. omega arith) (λ w. cause.Outside s w is.load) (λ h. load_outside_lem s (only _ h));
        store_outside_lem = shown 6 (λ e. omega arith) (λ w. cause.Outside s w is.store) (λ h. store_outside_lem s (only _ h));
        store_forbidden_lem = shown 7 (λ e. omega arith) (λ w. cause.Forbidden s w is.store (λ x. get_or s.writers x empty)) (λ h. store_forbidden_lem s (only _ h));
        load_forbidden_lem = shown 17 (λ e. omega arith) (λ w. cause.Forbidden s w is.load (λ x. get_or s.readers x empty) × (s.cpu.strict ≡ true)) (λ h. load_forbidden_lem s (only _ h));
        bad_set_lem = shown 8 (λ e. omega arith) (cause.BadSet s) (λ h. bad_set_lem s (only _ h));
        empty_set_lem = shown 9 (λ e. omega arith) (cause.EmptySet s) (λ h. empty_set_lem s (only _ h));
        not_within_lem = shown 10 (λ e. omega arith) (cause.OutOfReach s) (λ h. not_within_lem s (only _ h));
        not_owned_lem = shown 11 (λ e. omega arith) (cause.NotOwned s) (λ h. not_owned_lem s (only _ h));
        no_return_lem = shown 12 (λ e. omega arith) (cause.NoReturn s) (λ h. no_return_lem s (only _ h));
        no_number = shown 13 (λ e. omega arith) (cause.NoNumber s) (λ h. no_number s (only _ h));
        bad_form_lem = shown 14 (λ e. omega arith) (cause.BadForm s) (λ h. bad_form_lem s (only _ h));
        bad_owner_lem = shown 15 (λ e. omega arith) (cause.BadOwner s) (λ h. bad_owner_lem s (only _ h));
      }

  -- and it is told exactly where the step answers its number
  pub told_exactly : (k : ℕ) → ((why s).answer ≡ k) ↔ ((step s).answer ≡ k)
  unfolding step
  told_exactly k = (λ e. sym (answered s) ∙ e, λ e. answered s ∙ e)
