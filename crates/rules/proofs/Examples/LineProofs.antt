-- The proof of the table of lines marked P: `lines`, one claim for all eight.
use Rattle.std.specs.Prelude.{◌≡◌, refl, Bool, true, false, cond, List, ℕ, suc, ◌≤◌, ltb, leb, eqb, get_or, length}
use Rattle.std.proofs.Common.{sym, ap, ◌∙◌, subst, arith, ltb-true, lt-ltb, le-leb, le-ltb, eq-eqb, ne_eqb, get_or-set_same}
use Rattle.std.proofs.Math.Bool.{or-true}
use Rattle.common.specs.Answers as answer
use Rattle.common.specs.Opcodes as is
use Rattle.common.specs.Words.{row, allowed, Decoded, instruction, decode}
use Rattle.common.specs.Instructions.{offset, branch, reg, arithmetic, pc_after, regs_after, words_after, jumps}
use Rattle.common.specs.Services.{isolate, service_count, is_service, service_at, is_service_number}
use Rattle.common.proofs.Laws.ServiceLaws.{service_count_lem, is_service_lem}
use Rattle.common.specs.AddressSets.{is_empty, in_set}
use Rattle.common.proofs.Laws.Tests.{clash}
use Rattle.rules.specs.Compartments.{member, empty, service_numbers}
use Rattle.rules.specs.Laws.CompartmentLaws.{member_services, member_main}
use Rattle.rules.specs.State.{State, first_number, in_memory, has_owner, owner_at, jumpers_at, writers_at, readers_at, owns, may_jump, may_store, may_read, reads}
use Rattle.rules.specs.Checks.{instruction_at, set_a, set_j, verdict, good_sets, sets_within, returns}
use Rattle.rules.specs.Laws.Tested.{same_lengths, sized, numbered, seated, formed, bad_owner, arrives, instruction_verdict, word_verdict, isolate_verdict, service_verdict, tested}
use Rattle.rules.proofs.Laws.TestedRows.{verdict_tested, formed_if, if_formed, arrives_if, if_arrives, owner_row}
use Rattle.rules.specs.Step.{ran_instruction, joined, isolated, ran_service, commit, Stepped, step}
use Rattle.rules.specs.Run.{run}
use Rattle.rules.specs.Images.{loaded}
use Rattle.rules.proofs.Laws.FormLaws.{is_sized, is_formed, outside}
use Rattle.rules.proofs.Laws.StepLaws.{answer_is, step_runs}
use Rattle.rules.proofs.Theorems.Formed.{step_formed}
use Rattle.rules.proofs.Laws.TagLaws.{filled}
use Rattle.rules.proofs.Laws.JoinLaws.{join_all}
use Rattle.rules.proofs.Examples.Lines.{Sum, At, Back, TagsAsLoaded, Call, Called, Full, table, All}

-- ---- an instruction at pc runs

at_verdict : (s : State) (word : ℕ) → At s word → (decode word).answer ≡ answer.done → instruction_verdict s (owner_at s s.cpu.pc) (decode word) ≡ answer.done
    → verdict s ≡ answer.done
unfolding tested has_owner word_verdict instruction_at
at_verdict s word h d o =
    verdict_tested s ∙ simp (formed_if s h.formed, h.memory, sym (owner_row s) ∙ h.owner, arrives_if s h.arrives, h.there, d, o)

at_step : (s : State) (word : ℕ) → At s word → (decode word).answer ≡ answer.done → instruction_verdict s (owner_at s s.cpu.pc) (decode word) ≡ answer.done
    → step s ≡ record { answer = answer.done; state = ran_instruction s (owner_at s s.cpu.pc) (decode word) }
unfolding commit instruction_at
at_step s word h d o = step_runs s (at_verdict s word h d o) ∙ simp (h.memory, h.there)

-- ---- row 5

sum : Sum
unfolding decode row allowed instruction_verdict ran_instruction regs_after arithmetic
sum s l a b = (
  λ h. let e = at_step s 0x03120003 h refl refl in (
    ap (λ (o : Stepped). o.answer) e,
    ap (λ (o : Stepped). reg o.state.cpu.regs 3) e ∙ get_or-set_same s.cpu.regs 3 _ 0 (omega arith) ∙ simp (a, b),
  ),
  λ h. let e = at_step s 0x07120003 h refl refl in (
    ap (λ (o : Stepped). o.answer) e,
    ap (λ (o : Stepped). reg o.state.cpu.regs 3) e ∙ get_or-set_same s.cpu.regs 3 _ 0 (omega arith) ∙ simp (a, b),
  ),
)

-- ---- row 6

no_place : (s : State) → formed s ≡ true → has_owner s s.cpu.pc ≡ false → (step s).answer ≡ answer.no_place
unfolding tested
no_place s h o = answer_is s ∙ verdict_tested s ∙ simp (h, o)

back_pc : (regs : List ℕ) → (reg regs 1 ≡ 0 → ⊥) → pc_after (decode 0x0C10FFFF) 0 regs ≡ 4294967295
unfolding pc_after decode row allowed branch
back_pc regs h = simp (ne_eqb (reg regs 1) 0 h)

far : (m : Bool) → is_service m 4294967295 ≡ false
unfolding is_service service_count
far true = refl
far false = refl

back_ready : (s : State) (c : ℕ) → ((decode 0x0C10FFFF).answer ≡ answer.done) × (instruction_verdict s c (decode 0x0C10FFFF) ≡ answer.done)
unfolding decode row allowed instruction_verdict
back_ready s c = (refl, refl)

ran_pc : (s : State) (c : ℕ) (i : Decoded) → (ran_instruction s c i).cpu.pc ≡ pc_after i s.cpu.pc s.cpu.regs
unfolding ran_instruction
ran_pc s c i = refl

nobody : (s : State) → formed s ≡ true → s.cpu.pc ≡ 4294967295 → has_owner s s.cpu.pc ≡ false
unfolding has_owner
nobody s h e = simp (outside s h s.cpu.pc (omega arith)) (ap (is_service s.cpu.strict) e ∙ far s.cpu.strict)

back : Back
back s h z r =
    let t : State = ran_instruction s (owner_at s s.cpu.pc) (decode 0x0C10FFFF) in
    let k = back_ready s (owner_at s s.cpu.pc) in
    let e = at_step s 0x0C10FFFF h k.0 k.1 in
    let p : t.cpu.pc ≡ 4294967295 = ran_pc s _ _ ∙ ap (λ (x : ℕ). pc_after (decode 0x0C10FFFF) x s.cpu.regs) z ∙ back_pc s.cpu.regs r in
    let f : formed t ≡ true = subst (λ (o : Stepped). formed o.state ≡ true) e (step_formed s (formed_if s h.formed)) in (
      ap (λ (o : Stepped). o.answer) e,
      ap (λ (o : Stepped). o.state.cpu.pc) e ∙ p,
      ap (λ (o : Stepped). (step o.state).answer) e ∙ no_place t f (nobody t f p),
    )

-- ---- isolate is called and the checks before 12 pass

here : (m : Bool) → is_service m isolate ≡ true
here m = is_service_lem m isolate (omega arith) (omega arith)

isolate_outside : (s : State) → formed s ≡ true → s.cpu.pc ≡ isolate → in_memory s s.cpu.pc ≡ false
isolate_outside s h e = outside s h s.cpu.pc (omega arith)

called : (s : State) → Called s
    → verdict s ≡ cond (returns s s.cpu.prev) (cond (eqb s.cpu.next 64) answer.no_number answer.done) answer.no_return
unfolding tested has_owner service_verdict isolate_verdict bad_owner
called s h =
    let e : s.cpu.pc ≡ isolate = h.at in
    let f = formed_if s h.formed in
    let o = isolate_outside s f e in
    verdict_tested s ∙ simp (f, o, ap (is_service s.cpu.strict) e ∙ here s.cpu.strict, eq-eqb s.cpu.pc isolate e, arrives_if s h.arrives, h.good, h.some, h.within)

isolate_step : (s : State) → Called s → verdict s ≡ answer.done → step s ≡ record { answer = answer.done; state = isolated s }
unfolding commit ran_service
isolate_step s h v = step_runs s v ∙ simp (isolate_outside s (formed_if s h.formed) h.at, eq-eqb s.cpu.pc isolate h.at)

-- ---- row 7

-- a state is tagged so where it was loaded
pub loaded_tags : (m : Bool) (words regs : List ℕ) (entry : ℕ) (old : State) → TagsAsLoaded (loaded m words regs entry old)
unfolding loaded
loaded_tags m words regs entry old =
    record {
      owners = filled (length words) 0 old.owners;
      jumpers = filled (length words) (service_numbers m) old.jumpers;
      service = refl;
      next = refl;
    }

-- the state at isolate, after the Jump
abbrev at_isolate_lem : State → State
at_isolate_lem s =
    record {
      cpu =
          record {
            n = s.cpu.n;
            regs = s.cpu.regs;
            pc = isolate;
            prev = 0;
            jumped = true;
            next = s.cpu.next;
            services = s.cpu.services;
            strict = s.cpu.strict;
          };
      words = s.words;
      owners = s.owners;
      jumpers = s.jumpers;
      writers = s.writers;
      readers = s.readers;
    }

jump_ran : (s : State) (k : ℕ) → reg s.cpu.regs k ≡ isolate → ran_instruction s 0 (instruction is.jump k 0 0) ≡ at_isolate_lem s
unfolding ran_instruction regs_after words_after pc_after jumps
jump_ran s k e = simp e

jump_step : (s : State) (word k : ℕ) → At s word → decode word ≡ instruction is.jump k 0 0 → reg s.cpu.regs k ≡ isolate → TagsAsLoaded s
    → step s ≡ record { answer = answer.done; state = at_isolate_lem s }
unfolding instruction_verdict owner_at in_memory
jump_step s word k h d e t =
    let o : owner_at s s.cpu.pc ≡ 0 = simp h.memory (t.owners s.cpu.pc (ltb-true _ _ h.memory)) in
    at_step s word h (ap (λ (i : Decoded). i.answer) d) (ap (instruction_verdict s (owner_at s s.cpu.pc)) d)
    ∙ ap (λ (x : State). record { answer = answer.done; state = x })
    (ap (λ (i : Decoded). ran_instruction s (owner_at s s.cpu.pc) i) d ∙ ap (λ (c : ℕ). ran_instruction s c (instruction is.jump k 0 0)) o ∙ jump_ran s k e)

call_ready : (s : State) → formed s ≡ true → TagsAsLoaded s → good_sets s 0 ≡ true → is_empty (set_a s) ≡ false → sets_within s 0 ≡ true → Called (at_isolate_lem s)
unfolding formed sized same_lengths numbered seated first_number arrives good_sets sets_within reads owns may_jump may_store may_read has_owner owner_at jumpers_at writers_at readers_at in_memory is_service_number
call_ready s h t g n i =
    let z : sized s ≡ true = (is_formed s h).sized in
    let m : s.cpu.n ≤ 2048 = (is_sized s z).most in
    let e : s.cpu.next ≡ suc (service_count s.cpu.strict) = t.next in
    let c = service_count_lem s.cpu.strict in
    let low : leb (suc (service_count s.cpu.strict)) s.cpu.next ≡ true = le-leb (suc (service_count s.cpu.strict)) s.cpu.next (omega arith) in
    let high : leb s.cpu.next 64 ≡ true = le-leb s.cpu.next 64 (omega (arith, c.1)) in
    let zero : ltb 0 s.cpu.next ≡ true = lt-ltb 0 s.cpu.next (omega arith) in
    let o : ltb isolate s.cpu.n ≡ false = le-ltb isolate s.cpu.n (omega arith) in
    record {
      formed = if_formed (at_isolate_lem s) (simp (z, low, high, zero));
      at = refl;
      arrives = if_arrives (at_isolate_lem s) (simp (o, here s.cpu.strict, t.service, member_main 0, or-true));
      good = g;
      some = n;
      within = i;
    }

call_back : (s : State) → formed s ≡ true → TagsAsLoaded s → in_set (set_a s) 0 ≡ false → reg s.cpu.regs 15 ≡ 0 → returns (at_isolate_lem s) 0 ≡ true
unfolding returns owns has_owner owner_at in_memory
call_back s h t i e =
    let m : 1 ≤ s.cpu.n = (is_sized s (is_formed s h).sized).some in
    let l : ltb 0 s.cpu.n ≡ true = lt-ltb 0 s.cpu.n (omega arith) in
    simp (e, l, t.owners 0 (ltb-true _ _ l), i)

call_lost : (s : State) → formed s ≡ true → reg s.cpu.regs 15 ≡ isolate → returns (at_isolate_lem s) 0 ≡ false
unfolding returns in_memory
call_lost s h e =
    let m : s.cpu.n ≤ 2048 = (is_sized s (is_formed s h).sized).most in
    simp (e, le-ltb isolate s.cpu.n (omega arith))

-- 1 is in I of the word at 0, whether 0 is in J' or not
call_arrives : (s : State) → sized s ≡ true → TagsAsLoaded s → reg s.cpu.regs 15 ≡ 0 → arrives (isolated (at_isolate_lem s)) ≡ true
unfolding isolated arrives may_jump jumpers_at in_memory service_at first_number is_service_number
call_arrives s z t e =
    let f = is_sized s z in
    let j : length s.jumpers ≡ length s.words = f.lent.jumpers in
    let k : s.cpu.n ≤ length s.words = f.lent.enough in
    let m : 1 ≤ s.cpu.n = f.some in
    let l : ltb 0 s.cpu.n ≡ true = lt-ltb 0 s.cpu.n (omega arith) in
    let n : s.cpu.next ≡ suc (service_count s.cpu.strict) = t.next in
    let c = service_count_lem s.cpu.strict in
    let few : service_count s.cpu.strict ≤ 4 = c.1 in
    let some : 3 ≤ service_count s.cpu.strict = c.0 in
    let old : member (get_or s.jumpers 0 0) 1 ≡ true =
    ap (λ (v : ℕ). member v 1) (t.jumpers 0 (ltb-true _ _ l)) ∙ member_services s.cpu.strict 1 ∙ le-leb 1 (service_count s.cpu.strict) (omega arith) in
    let joins = join_all s.cpu.n s.jumpers s.cpu.next (omega arith) (omega arith) 1 0 (set_j s) empty empty (λ z. clash l z) in
    let y : member (get_or (joined s.cpu.n (set_j s) s.cpu.next s.jumpers) 0 empty) 1 ≡ true = (simp l at joins) ∙ simp old in
    simp (e, l, y, or-true)

isolated_pc : (s : State) → (isolated (at_isolate_lem s)).cpu.pc ≡ reg s.cpu.regs 15
unfolding isolated
isolated_pc s = refl

call : Call
unfolding run first_number
call s word k h d e t g n i a =
    let j = jump_step s word k h d e t in
    let f = formed_if s h.formed in
    let r = call_ready s f t g n i in
    let first : s.cpu.next ≡ suc (service_count s.cpu.strict) = t.next in
    let few : service_count s.cpu.strict ≤ 4 = (service_count_lem s.cpu.strict).1 in (
      λ z.
          let q : eqb s.cpu.next 64 ≡ false = ne_eqb s.cpu.next 64 (λ y. omega arith) in
          let v : verdict (at_isolate_lem s) ≡ answer.done = called (at_isolate_lem s) r ∙ simp (call_back s f t a z, q) in
          let o = isolate_step (at_isolate_lem s) r v in
          (simp (j, o), simp (j, o), simp (j, o) (isolated_pc s ∙ z), simp (j, o) (if_arrives _ (call_arrives s (is_formed s f).sized t z))),
      λ z.
          let v : verdict (at_isolate_lem s) ≡ answer.no_return = called (at_isolate_lem s) r ∙ simp (call_lost s f z) in
          let o : (step (at_isolate_lem s)).answer ≡ answer.no_return = answer_is (at_isolate_lem s) ∙ v in
          (simp (j, o), simp (j, o)),
    )

-- ---- row 8

full : Full
unfolding isolated
full s h r = (
  λ n. let e = isolate_step s h (called s h ∙ simp (r, n)) in
      (ap (λ (o : Stepped). o.answer) e, ap (λ (o : Stepped). o.state.cpu.next) e ∙ ap suc n),
  λ n. answer_is s ∙ called s h ∙ simp (r, n),
)

-- ---- the claim

pub lines : All table
unfolding row allowed decode offset
lines = ((refl, refl), ((refl, refl, refl, refl, refl, refl), ((refl, refl), ((refl, refl), (sum, (back, (call, (full, record {}))))))))
