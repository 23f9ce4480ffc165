-- A cause, of whatever numbers, makes the check of its answer hold: no other numbers could pass for it where the check does not.
use Rattle.std.specs.Prelude.{◌≡◌, refl, Bool, cond, ◌&&◌, ◌||◌, not, ◌⊎◌, ℕ, suc, ◌+◌, ◌*◌, ◌%◌, ◌≤◌, ◌<◌, ltb}
use Rattle.std.proofs.Common.{sym, ◌∙◌, inl, inr, mod-eq_of_lt, arith}
use Rattle.std.proofs.Math.Path.{ap, subst}
use Rattle.std.proofs.Math.Bool.{true, false, and-false, or-true}
use Rattle.std.proofs.Math.Logic.{⊎_elim}
use Rattle.std.proofs.Math.Decide.{ℕ_discrete}
use borrow.Author.Tests.{lt-ltb, le-ltb, lt-leb, eq-eqb, ne_eqb, eqb-true}
use Rattle.std.proofs.Math.Dec.{leb, eqb}
use Rattle.std.proofs.Math.ListN.{get_or, length}
use Rattle.common.specs.Opcodes as is
use Rattle.common.specs.Words.{row, op_of, a_of, b_of, low_of, decode}
use Rattle.common.specs.Services.{isolate, add_jump_target, add_store_target, add_read_target, is_service}
use Rattle.common.specs.AddressSets.{set_at, pairs_at, is_empty, in_set, within}
use Rattle.common.proofs.Laws.Tests.{both, clash}
use Rattle.common.proofs.Laws.AddressSetLaws.{within_at}
use Rattle.common.proofs.Laws.Meaning.{good_set_iff}
use Rattle.common.proofs.Laws.WordLaws.{Allowed, Decodes, runs, unknown_opcode, stray, decode_0, decode_3, decode_answers}
use Rattle.rules.specs.Compartments.{member, empty}
use Rattle.rules.specs.State.{State, first_number, in_memory, owner_at, jumpers_at, owns, reads}
use Rattle.rules.proofs.Theorems.Worded.{AtAdd}
use Rattle.rules.specs.Checks as rules
use Rattle.rules.specs.Checks.{named, owner, instruction_at, good_in}
use Rattle.reasons.specs.Why.{Why, beyond, stray_bits, word_at, pointer, set_by, extent, may_give}
use Rattle.reasons.specs.Causes as cause
use Rattle.reasons.specs.Theorems.Sets.{sets_are}
use Rattle.reasons.specs.Theorems.Witness.{first_is}

-- a test that cannot be true is false
never : (b : Bool) → (b ≡ true → ⊥) → b ≡ false
never true f = absurd (f refl)
never false f = refl

-- where one of the sets that the mode has does not pass, not all of them do
one_fails : (m : Bool) (test : ℕ → Bool) (r : ℕ) → 1 ≤ r → r ≤ 4 → (r ≡ 4 → m ≡ true) → test r ≡ false → (test 1 && test 2 && test 3 && (not m || test 4)) ≡ false
one_fails m test r l u f h = never _ all
  where
    all : (test 1 && test 2 && test 3 && (not m || test 4)) ≡ true → ⊥
    all t = go (ℕ_discrete r 1) (ℕ_discrete r 2) (ℕ_discrete r 3)
      where
        a : ((test 1 && test 2 && test 3) ≡ true) × ((not m || test 4) ≡ true)
        a = both (test 1 && test 2 && test 3) (not m || test 4) t

        b : ((test 1 && test 2) ≡ true) × (test 3 ≡ true)
        b = both (test 1 && test 2) (test 3) a.0

        c : (test 1 ≡ true) × (test 2 ≡ true)
        c = both (test 1) (test 2) b.0

        go : Dec (r ≡ 1) → Dec (r ≡ 2) → Dec (r ≡ 3) → ⊥
        go (yes e) y z = clash c.0 (ap test (sym e) ∙ h)
        go (no x) (yes e) z = clash c.1 (ap test (sym e) ∙ h)
        go (no x) (no y) (yes e) = clash b.1 (ap test (sym e) ∙ h)
        go (no x) (no y) (no z) =
            let e : r ≡ 4 = omega arith in
            let g : test 4 ≡ true = subst (λ (n : Bool). (not n || test 4) ≡ true) (f e) a.1 in
            clash g (ap test (sym e) ∙ h)

-- an instruction has no stray bits
no_beyond : (x most : ℕ) → x ≤ most → beyond x most ≡ 0
no_beyond x most h = let e : x % suc most ≡ x = mod-eq_of_lt (omega arith) in omega arith

no_stray : (word : ℕ) → Allowed (op_of word) (a_of word) (b_of word) (low_of word) → stray_bits word ≡ 0
unfolding stray_bits
no_stray word k =
    simp (lt-ltb (op_of word) 14 k.known, no_beyond (a_of word) (row (op_of word)).a k.a_most, no_beyond (b_of word) (row (op_of word)).b k.b_most, no_beyond (low_of word) (row (op_of word)).low k.low_most)

module _ (s : State) (w : Why) where
  pub no_place : cause.NoPlace s w → rules.no_place s ≡ true
  unfolding rules.no_place
  no_place c =
      let l : s.cpu.n ≤ s.cpu.pc = subst (λ (x : ℕ). s.cpu.n ≤ x) c.place c.no_word in
      let v : is_service s.cpu.strict s.cpu.pc ≡ false = subst (λ (x : ℕ). is_service s.cpu.strict x ≡ false) c.place c.no_service in
      simp (le-ltb s.cpu.pc s.cpu.n l, v)

  pub no_arrival_lem : cause.NoArrival s w → rules.no_arrival s ≡ true
  unfolding rules.no_arrival
  no_arrival_lem c =
      let o : eqb (owner_at s s.cpu.pc) s.cpu.prev ≡ false = ne_eqb _ _ (λ z. c.another (c.whose ∙ ap (owner_at s) c.place ∙ z)) in
      let j : (s.cpu.jumped && member (jumpers_at s s.cpu.pc) s.cpu.prev) ≡ false = subst (λ (x : ℕ). (s.cpu.jumped && member (jumpers_at s x) s.cpu.prev) ≡ false) c.place c.no_jump in
      simp (o, j)

  outside_there : (op : ℕ) → cause.Outside s w op → (rules.is_op s op && not (ltb (named s) s.cpu.n)) ≡ true
  outside_there op c =
      let l : s.cpu.n ≤ named s = let v = c.value in let p = c.place in let a = c.above in omega arith in
      simp (lt-ltb _ _ c.there, eq-eqb _ _ c.instruction, le-ltb (named s) s.cpu.n l)

  pub load_outside_lem : cause.Outside s w is.load → rules.load_outside s ≡ true
  unfolding rules.load_outside
  load_outside_lem c = outside_there is.load c

  pub store_outside_lem : cause.Outside s w is.store → rules.store_outside s ≡ true
  unfolding rules.store_outside
  store_outside_lem c = outside_there is.store c

  module _ (op : ℕ) (granted : ℕ → ℕ) (c : cause.Forbidden s w op granted) where
    forbidden : (eqb (owner s (named s)) (owner s s.cpu.pc) || member (granted (named s)) (owner s s.cpu.pc)) ≡ false
    forbidden =
        let o : eqb (owner s (named s)) (owner s s.cpu.pc) ≡ false = ne_eqb _ _ (λ z. c.another (c.whose ∙ ap (owner s) c.place ∙ z)) in
        let g : member (granted (named s)) (owner s s.cpu.pc) ≡ false = subst (λ (x : ℕ). member (granted x) (owner s s.cpu.pc) ≡ false) c.place c.not_granted in
        simp (o, g)

    there : rules.is_op s op ≡ true
    there = simp (lt-ltb _ _ c.there, eq-eqb _ _ c.instruction)

  pub store_forbidden_lem : cause.Forbidden s w is.store (λ x. get_or s.writers x empty) → rules.store_forbidden s ≡ true
  unfolding rules.store_forbidden
  store_forbidden_lem c = simp (there is.store (λ x. get_or s.writers x empty) c, forbidden is.store (λ x. get_or s.writers x empty) c)

  pub load_forbidden_lem : cause.Forbidden s w is.load (λ x. get_or s.readers x empty) → s.cpu.strict ≡ true → rules.load_forbidden s ≡ true
  unfolding rules.load_forbidden
  load_forbidden_lem c m = simp (there is.load (λ x. get_or s.readers x empty) c, m, forbidden is.load (λ x. get_or s.readers x empty) c)

  -- a word at fault: the set is not good
  bad_word : cause.BadWord s w → good_in s s.cpu.prev w.set ≡ false
  bad_word b = never _ (λ h. go b ((good_set_iff s.words s.cpu.n (reads s s.cpu.prev) (pointer s w.set)).0 h))
    where
      go : cause.BadWord s w
          → (pointer s w.set < s.cpu.n) × (pointer s w.set + 1 + 2 * word_at s (pointer s w.set) ≤ s.cpu.n)
          × ((i : ℕ) → i < word_at s (pointer s w.set) → word_at s (pointer s w.set + 1 + 2 * i) < word_at s (pointer s w.set + 1 + 2 * i + 1))
          × ((x : ℕ) → pointer s w.set ≤ x → x < pointer s w.set + 1 + 2 * word_at s (pointer s w.set) → reads s s.cpu.prev x ≡ true) → ⊥
      go (cause.out_of_memory e o) g = let a = o.above in let b = o.below in let l = g.1 in omega arith
      go (cause.wrong_pair e p) g =
          let l = g.2 p.index p.counted in
          let v : word_at s (pointer s w.set + 1 + 2 * p.index + 1) ≤ word_at s (pointer s w.set + 1 + 2 * p.index) = subst (λ (x : ℕ). word_at s (x + 1) ≤ word_at s x) p.place p.wrong in
          omega arith
      go (cause.not_readable e r) g = clash (g.3 w.place r.from (let b = r.below in omega arith)) r.not_read

  pub bad_set_lem : cause.BadSet s w → rules.bad_sets s ≡ true
  unfolding rules.bad_sets rules.good_sets
  bad_set_lem c =
      let f = one_fails s.cpu.strict (good_in s s.cpu.prev) w.set c.one.first c.one.last c.one.fourth (bad_word c.word) in
      simp (eq-eqb _ _ c.called, f)

  pub not_within_lem : cause.OutOfReach s w → rules.not_within s ≡ true
  unfolding rules.not_within
  not_within_lem c =
      let o : within (set_by s w.set) (may_give s s.cpu.prev w.set) ≡ false = never _ (λ h. clash (within_at (set_by s w.set) (may_give s s.cpu.prev w.set) w.place h c.named) c.not_given) in
      let f = one_fails s.cpu.strict (λ r. within (set_by s r) (may_give s s.cpu.prev r)) w.set c.one.first c.one.last c.one.fourth o in
      simp (eq-eqb _ _ c.called, sets_are s s.cpu.prev ∙ f)

  pub no_number : cause.NoNumber s w → rules.no_number s ≡ true
  unfolding rules.no_number
  no_number c = simp (eq-eqb _ _ c.called, eq-eqb s.cpu.next 64 (sym c.value ∙ c.all_used))

  pub bad_owner_lem : cause.BadOwner s w → rules.wrong_owner s ≡ true
  unfolding rules.wrong_owner
  bad_owner_lem c =
      let l : s.cpu.pc < s.cpu.n = subst (λ (x : ℕ). x < s.cpu.n) c.place c.there in
      let o : w.owner ≡ owner s s.cpu.pc = c.whose ∙ ap (owner s) c.place in
      simp (lt-ltb _ _ l, ← o, c.wrong)

  pub empty_set_lem : cause.EmptySet s w → rules.empty_set s ≡ true
  unfolding rules.empty_set set_at pairs_at is_empty
  empty_set_lem c =
      let z : get_or s.words (pointer s 1) 0 ≡ 0 = subst (λ (x : ℕ). word_at s x ≡ 0) c.place c.no_pairs in
      simp (eq-eqb _ _ c.called, z)

  at_add_lem : AtAdd s → rules.at_add s ≡ true
  at_add_lem a =
      ⊎_elim
      (λ b. ⊎_elim (λ (e : s.cpu.pc ≡ add_jump_target). simp (eq-eqb s.cpu.pc add_jump_target e)) (λ (e : s.cpu.pc ≡ add_store_target). simp (eq-eqb s.cpu.pc add_store_target e, or-true)) b)
      (λ (e : s.cpu.pc ≡ add_read_target). simp (eq-eqb s.cpu.pc add_read_target e, or-true)) a

  pub not_owned_lem : cause.NotOwned s w → rules.not_owned s ≡ true
  unfolding rules.not_owned
  not_owned_lem c =
      let o : owns s s.cpu.prev (pointer s 1) ≡ false = subst (λ (x : ℕ). owns s s.cpu.prev x ≡ false) c.place c.another in
      simp (at_add_lem c.called, o)

  pub no_return_lem : cause.NoReturn s w → rules.no_return s ≡ true
  unfolding rules.no_return rules.returns
  no_return_lem c = go c.lost
    where
      go : cause.LostWord s w → rules.no_return s ≡ true
      go (cause.not_callers e at h) =
          let o : (in_memory s (pointer s 15) && owns s s.cpu.prev (pointer s 15)) ≡ false = subst (λ (x : ℕ). (in_memory s x && owns s s.cpu.prev x) ≡ false) c.place h in
          simp (eq-eqb _ _ at, o)
      go (cause.not_adders e at h) =
          let o : owns s s.cpu.prev (pointer s 15) ≡ false = subst (λ (x : ℕ). owns s s.cpu.prev x ≡ false) c.place h in
          simp (at_add_lem at, o, or-true)
      go (cause.taken_away e at h) =
          let o : in_set (set_by s 1) (pointer s 15) ≡ true = subst (λ (x : ℕ). in_set (set_by s 1) x ≡ true) c.place h in
          simp (eq-eqb _ _ at, o, and-false)

  pub bad_form_lem : cause.BadForm s w → rules.bad_form s ≡ true
  unfolding rules.bad_form
  bad_form_lem (cause.not_alike e h) = simp h
  bad_form_lem (cause.not_sized e z) =
      ⊎_elim (λ (a : s.cpu.n ≡ 0). simp (lt-leb 1 s.cpu.n (omega arith), or-true))
      (λ b. ⊎_elim (λ (h : 2048 < s.cpu.n). simp (lt-leb s.cpu.n 2048 h, and-false, or-true)) (λ (h : length s.words < s.cpu.n). simp (lt-ltb (length s.words) s.cpu.n h, or-true)) b) z
  bad_form_lem (cause.not_numbered e z) =
      ⊎_elim (λ (h : s.cpu.next < first_number s.cpu.strict). let l : leb (cond s.cpu.strict 5 4) s.cpu.next ≡ false = ap (λ (m : ℕ). leb m s.cpu.next) (first_is s.cpu.strict) ∙ lt-leb _ _ h in simp (l, or-true))
      (λ (h : 64 < s.cpu.next). simp (lt-leb s.cpu.next 64 h, and-false, or-true)) z
  bad_form_lem (cause.not_below e h) = simp (le-ltb s.cpu.prev s.cpu.next h, or-true)
  bad_form_lem (cause.not_seated e a b) = simp (a, b, or-true)

  word_there : cause.WordAtPc s w → s.cpu.pc < s.cpu.n
  word_there c = subst (λ (x : ℕ). x < s.cpu.n) c.place c.there

  word_is : cause.WordAtPc s w → w.value ≡ word_at s s.cpu.pc
  word_is c = c.value ∙ ap (word_at s) c.place

  pub no_instruction_lem : cause.NoInstruction s w → rules.no_instruction s ≡ true
  unfolding rules.no_instruction instruction_at
  no_instruction_lem c =
      let l : s.cpu.pc < s.cpu.n = word_there c.word in
      let v : w.value ≡ word_at s s.cpu.pc = word_is c.word in
      let g : is.count ≤ op_of (word_at s s.cpu.pc) = subst (λ (x : ℕ). is.count ≤ op_of x) v c.unknown in
      simp (lt-ltb _ _ l, (decode_3 (word_at s s.cpu.pc)).1 g)

  pub stray_bit_lem : cause.StrayBit s w → rules.stray_bit s ≡ true
  unfolding rules.stray_bit instruction_at
  stray_bit_lem c =
      let l : s.cpu.pc < s.cpu.n = word_there c.word in
      let v : w.value ≡ word_at s s.cpu.pc = word_is c.word in
      let g : op_of (word_at s s.cpu.pc) < is.count = subst (λ (x : ℕ). op_of x < is.count) v c.known in
      simp (lt-ltb _ _ l, answers v g (decode_answers (word_at s s.cpu.pc)))
    where
      answers : w.value ≡ word_at s s.cpu.pc → op_of (word_at s s.cpu.pc) < is.count → Decodes (decode (word_at s s.cpu.pc)).answer → (decode (word_at s s.cpu.pc)).answer ≡ 16
      answers v g (stray e) = e
      answers v g (unknown_opcode e) = let k = (decode_3 (word_at s s.cpu.pc)).0 e in absurd (omega arith)
      answers v g (runs e) =
          let z : w.bits ≡ 0 = c.word.bits ∙ ap stray_bits v ∙ no_stray (word_at s s.cpu.pc) ((decode_0 (word_at s s.cpu.pc)).0 e) in
          let h : 0 < w.bits = c.stray in
          absurd (omega arith)
