-- The answers of two states that match: the same, but for a 13 where the abstract machine makes a 65th compartment.
use Rattle.std.specs.Prelude.{◌≡◌, Bool, ◌&&◌, ◌||◌, not, ℕ, ◌≤◌, ◌<◌, get_or, length, take}
use Rattle.std.proofs.Math.Path.{refl, sym, ap, fun_ext}
use Rattle.std.proofs.Common.{◌∙◌, subst, arith, get_or-take, length-take-le}
use Rattle.std.proofs.Math.Bool.{true, false, cond, and-false}
use mathlib.Core.List.{List, []}
use borrow.Author.Tests.{ltb-true, lt-leb, lt-ltb, ne_eqb}
use Rattle.std.proofs.Math.Dec.{ltb, eqb}
use Rattle.common.specs.Answers as answer
use Rattle.common.specs.Words.{Decoded, decode}
use Rattle.common.specs.Instructions.{reg}
use Rattle.common.specs.Services.{isolate, is_service, service_at}
use Rattle.common.specs.AddressSets.{is_empty, set_at}
use Rattle.common.proofs.Laws.AddressSetLaws.{good_take, good_set_take}
use Rattle.common.proofs.Laws.Tests.{both}
use Rattle.paper.specs.Abstract as paper
use Rattle.paper.proofs.Laws.CompLaws.{holder_is}
use Rattle.paper.proofs.Laws.Tested as abstract
use Rattle.rules.specs.Compartments.{numbers}
use Rattle.rules.specs.State.{State, in_memory, has_owner, owner_at, owns, reads}
use Rattle.rules.specs.Checks.{instruction_at, set_a, set_j, set_s, set_r, verdict, good_in, good_sets, sets_within, returns}
use Rattle.rules.specs.Laws.Tested.{bad_owner, arrives, store_verdict, load_verdict, instruction_verdict, word_verdict, isolate_verdict, add_verdict, service_verdict, tested}
use Rattle.rules.proofs.Laws.TestedRows.{verdict_tested}
use Rattle.rules.proofs.Laws.FormLaws.{lent_memories, n_most, service_below, at_service}
use Rattle.rules.proofs.BothMachines.Match.{Match, Inv, shadow}

-- ---- what Inv keeps answers no 15, and gives every address an owner that is used

module _ (s : State) (inv : Inv s) where
  owner_good : bad_owner s ≡ false
  unfolding bad_owner owner_at in_memory
  owner_good = go (in_memory s s.cpu.pc) refl
    where
      go : (b : Bool) → in_memory s s.cpu.pc ≡ b → bad_owner s ≡ false
      go true e =
          let w = inv.owner s.cpu.pc (ltb-true _ _ e) in
          simp (e, w.0, lt-leb s.cpu.next (get_or s.owners s.cpu.pc 0) w.1)
      go false e = simp e

  pub owner_low : (x : ℕ) → has_owner s x ≡ true → owner_at s x < s.cpu.next
  unfolding owner_at in_memory
  owner_low x h = go (in_memory s x) refl
    where
      go : (b : Bool) → in_memory s x ≡ b → cond b (get_or s.owners x 0) (service_at x) < s.cpu.next
      go true e = (inv.owner x (ltb-true _ _ e)).1
      go false e = service_below s inv.formed x (at_service s x h e)

-- ---- what the tagged machine answers where the abstract one answers v

abbrev pub parted : Bool → ℕ → ℕ
parted full v = cond (eqb v answer.done && full) answer.no_number v

parted_none : (v : ℕ) → parted false v ≡ v
parted_none v = simp and-false

isolate_cases : (b c d e : Bool)
    → ◌≡◌ {A = ℕ} (cond b answer.empty_set (cond c (cond d (cond e answer.no_number answer.done) answer.no_return) answer.not_within))
    (parted e (cond b answer.empty_set (cond c (cond d answer.done answer.no_return) answer.not_within)))
isolate_cases true c d e = refl
isolate_cases false false d e = refl
isolate_cases false true false e = refl
isolate_cases false true true true = refl
isolate_cases false true true false = refl

-- at isolate, with all numbers used
abbrev pub last : State → Bool
last s = eqb s.cpu.pc isolate && eqb s.cpu.next numbers

module _ (s : State) (C : List paper.Comp) (m : Match s (shadow s C)) (inv : Inv s) where
  abbrev a : paper.State
  a = shadow s C

  length_is : length (take s.cpu.n s.words) ≡ s.cpu.n
  length_is = length-take-le s.cpu.n s.words (lent_memories s inv.formed).enough

  pub memory_is : (x : ℕ) → paper.in_memory a x ≡ in_memory s x
  unfolding paper.in_memory in_memory
  memory_is x = ap (λ (n : ℕ). ltb x n) length_is

  pub current_is : has_owner s s.cpu.pc ≡ true → paper.holder C s.cpu.pc ≡ owner_at s s.cpu.pc
  unfolding owns
  current_is h =
      holder_is C s.cpu.pc (owner_at s s.cpu.pc) (λ c. m.A c s.cpu.pc ∙ ap (λ (b : Bool). b && eqb (owner_at s s.cpu.pc) c) h)
      (subst (λ (n : ℕ). owner_at s s.cpu.pc < n) (sym m.count) (owner_low s inv s.cpu.pc h))

  arrives_is : has_owner s s.cpu.pc ≡ true → paper.arrives a ≡ arrives s
  unfolding paper.arrives arrives
  arrives_is h = simp (current_is h, m.count, lt-ltb _ _ (owner_low s inv s.cpu.pc h), m.J)

  read_is : (c x : ℕ) → paper.reads a c x ≡ reads s c x
  unfolding paper.reads reads
  read_is c x = simp (m.A, m.R)

  reads_is : (c : ℕ) → paper.reads a c ≡ reads s c
  reads_is c = fun_ext (read_is c)

  instruction_is : (c : ℕ) (i : Decoded) → abstract.word_verdict a c i ≡ word_verdict s c i
  unfolding abstract.word_verdict abstract.instruction_verdict abstract.store_verdict abstract.load_verdict word_verdict instruction_verdict store_verdict load_verdict
  instruction_is c i = simp (memory_is, m.A, m.S, read_is)

  pub word_is : in_memory s s.cpu.pc ≡ true → paper.instruction_at a ≡ instruction_at s
  unfolding paper.instruction_at instruction_at in_memory
  word_is h = ap decode (get_or-take s.cpu.n s.words s.cpu.pc 0 (ltb-true _ _ h))

  add_is : (c : ℕ) → abstract.add_verdict a c ≡ add_verdict s c
  unfolding abstract.add_verdict add_verdict
  add_is c = simp m.A

  good_is : (c : ℕ) → paper.good_sets a c ≡ good_sets s c
  unfolding paper.good_sets good_sets
  good_is c = simp (length_is, reads_is, good_take)

  pub record SetsRead : Type 0 where
    pub A : paper.set_a a ≡ set_a s
    pub J : paper.set_j a ≡ set_j s
    pub S : paper.set_s a ≡ set_s s
    pub R : paper.set_r a ≡ set_r s

  pub sets_read : (c : ℕ) → good_sets s c ≡ true → SetsRead
  unfolding good_sets
  sets_read c h =
      let r = both _ (not s.cpu.strict || good_in s c 4) h in
      let t = both _ _ r.0 in
      let u = both _ _ t.0 in
      record {
        A = good_set_take _ _ (reads s c) _ u.0;
        J = good_set_take _ _ (reads s c) _ u.1;
        S = good_set_take _ _ (reads s c) _ t.1;
        R = fourth s.cpu.strict r.1;
      }
    where
      fourth : (b : Bool) → (not b || good_in s c 4) ≡ true
          → cond b (set_at (take s.cpu.n s.words) (reg s.cpu.regs 4)) [] ≡ cond b (set_at s.words (reg s.cpu.regs 4)) []
      fourth true g = good_set_take _ _ (reads s c) _ g
      fourth false g = refl

  within_is : SetsRead → (c : ℕ) → paper.sets_within a c ≡ sets_within s c
  unfolding paper.sets_within sets_within
  within_is r c =
      let e : (paper.comp C c).A ≡ owns s c = fun_ext (m.A c) in
      simp (r.A, r.J, r.S, r.R, e, m.A, m.J, m.S, m.R)

  returns_is : SetsRead → (c : ℕ) → paper.returns a c ≡ returns s c
  unfolding paper.returns returns
  returns_is r c = simp (r.A, memory_is, m.A)

  isolate_is : (c : ℕ) → isolate_verdict s c ≡ parted (eqb s.cpu.next numbers) (abstract.isolate_verdict a c)
  unfolding abstract.isolate_verdict isolate_verdict
  isolate_is c = go (good_sets s c) refl
    where
      go : (b : Bool) → good_sets s c ≡ b → isolate_verdict s c ≡ parted (eqb s.cpu.next numbers) (abstract.isolate_verdict a c)
      go true e =
          let r = sets_read c e in
          simp (good_is, e, r.A, within_is r c, returns_is r c) (isolate_cases (is_empty (set_a s)) (sets_within s c) (returns s c) (eqb s.cpu.next numbers))
      go false e = simp (good_is, e)

  service_is : (c : ℕ) → service_verdict s c ≡ parted (last s) (abstract.service_verdict a c)
  unfolding abstract.service_verdict service_verdict
  service_is c = go (eqb s.cpu.pc isolate)
    where
      go : (b : Bool) → cond b (isolate_verdict s c) (add_verdict s c) ≡ parted (b && eqb s.cpu.next numbers) (cond b (abstract.isolate_verdict a c) (abstract.add_verdict a c))
      go true = isolate_is c
      go false = sym (add_is c) ∙ sym (parted_none (abstract.add_verdict a c))

  pub verdict_is : verdict s ≡ parted (last s) (paper.verdict a)
  unfolding tested abstract.tested has_owner in_memory
  verdict_is =
      verdict_tested s ∙ go (in_memory s s.cpu.pc) (is_service s.cpu.strict s.cpu.pc) (arrives s) refl refl refl
      ∙ ap (parted (last s)) (sym (abstract.verdict_tested a))
    where
      there : in_memory s s.cpu.pc ≡ true → arrives s ≡ true → tested s ≡ parted (last s) (abstract.tested a)
      there e g =
          let k : paper.in_memory a s.cpu.pc ≡ true = memory_is s.cpu.pc ∙ e in
          let h : has_owner s s.cpu.pc ≡ true = simp e in
          let l : s.cpu.pc < s.cpu.n = ltb-true _ _ e in
          let u : s.cpu.n ≤ 2048 = n_most s inv.formed in
          let ne : eqb s.cpu.pc isolate ≡ false = ne_eqb s.cpu.pc isolate (λ q. omega arith) in
          simp (inv.formed, owner_good s inv, k, e, arrives_is h, g, current_is h, word_is e, instruction_is, ne)
          (sym (parted_none (word_verdict s (owner_at s s.cpu.pc) (instruction_at s))))

      go : (b c d : Bool) → in_memory s s.cpu.pc ≡ b → is_service s.cpu.strict s.cpu.pc ≡ c → arrives s ≡ d → tested s ≡ parted (last s) (abstract.tested a)
      go true c false e f g =
          let k : paper.in_memory a s.cpu.pc ≡ true = memory_is s.cpu.pc ∙ e in
          let h : has_owner s s.cpu.pc ≡ true = simp e in
          simp (inv.formed, owner_good s inv, k, e, arrives_is h, g)
      go true c true e f g = there e g
      go false true false e f g =
          let k : paper.in_memory a s.cpu.pc ≡ false = memory_is s.cpu.pc ∙ e in
          let h : has_owner s s.cpu.pc ≡ true = simp (e, f) in
          simp (inv.formed, owner_good s inv, k, e, f, arrives_is h, g)
      go false true true e f g =
          let k : paper.in_memory a s.cpu.pc ≡ false = memory_is s.cpu.pc ∙ e in
          let h : has_owner s s.cpu.pc ≡ true = simp (e, f) in
          simp (inv.formed, owner_good s inv, k, e, f, arrives_is h, g) (service_is s.cpu.prev)
      go false false d e f g =
          let k : paper.in_memory a s.cpu.pc ≡ false = memory_is s.cpu.pc ∙ e in
          simp (inv.formed, k, e, f)
