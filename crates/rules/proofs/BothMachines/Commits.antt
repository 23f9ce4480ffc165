-- An instruction or an add that runs leaves two states that match again.
use Rattle.std.specs.Prelude.{◌≡◌, Bool, true, false, ◌&&◌, ◌||◌, List, ltb, eqb, get_or, length, set}
use Rattle.std.proofs.Math.Path.{refl, sym}
use Rattle.std.proofs.Common.{ap, ◌∙◌, subst, arith}
use Rattle.std.proofs.Math.Bool.{cond}
use Prim.Native.Nat.{ℕ, ◌-◌, ◌≤◌, ◌<◌}
use borrow.Author.Tests.{ltb-true}
use Rattle.std.proofs.Math.ListN.{length-set}
use Rattle.common.specs.Answers as answer
use Rattle.common.specs.Words.{Decoded}
use Rattle.common.specs.Instructions.{reg}
use Rattle.common.proofs.Laws.InstructionLaws.{words_take, regs_take}
use Rattle.common.specs.Services.{isolate, is_service, service_at}
use Rattle.paper.specs.Abstract as paper
use Rattle.paper.proofs.Laws.CompLaws.{changed_test, changed_kept}
use Rattle.rules.specs.Compartments.{numbers, member, empty}
use Rattle.rules.specs.State.{State, in_memory, has_owner, owner_at, jumpers_at, writers_at, readers_at, owns, may_jump, may_store, may_read}
use Rattle.rules.specs.Laws.Tested.{word_verdict}
use Rattle.rules.specs.Step.{ran_instruction, returned, join_at, jump_added, store_added, read_added}
use Rattle.rules.proofs.Laws.FormLaws.{Lent, lent_memories, numbers_good}
use Rattle.rules.proofs.Laws.Passed.{Passes, load_inside, Adds}
use Rattle.rules.proofs.Laws.JoinLaws.{join_one, read_strict}
use Rattle.rules.proofs.BothMachines.Match.{Match, Inv, shadow}
use Rattle.rules.proofs.BothMachines.Verdicts.{current_is}

module _ (s : State) (C : List paper.Comp) (m : Match s (shadow s C)) (inv : Inv s) where
  abbrev lent : Lent s
  lent = lent_memories s inv.formed

  -- ---- an instruction

  pub instruction_match : (i : Decoded) → Passes s → word_verdict s (owner_at s s.cpu.pc) i ≡ answer.done
      → Match (ran_instruction s (owner_at s s.cpu.pc) i) (paper.ran_instruction (shadow s C) i)
  unfolding ran_instruction paper.ran_instruction owns may_jump may_store may_read has_owner owner_at jumpers_at writers_at readers_at in_memory
  instruction_match i p v =
      record {
        words = words_take i s.cpu.n s.cpu.regs s.words lent.enough;
        regs = regs_take i s.cpu.n s.cpu.pc s.cpu.regs s.words (λ l. ltb-true _ _ (load_inside s (owner_at s s.cpu.pc) i v l));
        pc = refl;
        prev = current_is s C m inv p.place;
        jumped = refl;
        count = m.count;
        A = m.A;
        J = m.J;
        S = m.S;
        R = m.R;
        fenced = refl;
      }

  -- ---- a service

  pub caller_there : s.cpu.prev < length C
  caller_there = subst (λ (k : ℕ). s.cpu.prev < k) (sym m.count) (numbers_good s inv.formed).prev

  module _ (p : Passes s) (out : in_memory s s.cpu.pc ≡ false) where
    -- the pc number after the service is the service's own
    pub service_current : paper.holder C s.cpu.pc ≡ service_at s.cpu.pc
    unfolding owner_at
    service_current = current_is s C m inv p.place ∙ simp out

    -- the adds: one list of sets changes, and one set of the caller's compartment
    module _ (is : Adds s) where
      abbrev r : ℕ
      r = reg s.cpu.regs 1

      target_inside : r < s.cpu.n
      unfolding in_memory
      target_inside = ltb-true _ _ is.named

      caller_small : s.cpu.prev < numbers
      caller_small = let k = numbers_good s inv.formed in omega (arith, k.prev, k.high)

      module _ (jumpers writers readers : List ℕ) where
        abbrev added : State
        added =
            record {
              cpu = returned s.cpu s.cpu.next s.cpu.services;
              words = s.words;
              owners = s.owners;
              jumpers = jumpers;
              writers = writers;
              readers = readers;
            }

        -- k is the caller's compartment, with its addresses as they were
        added_match : (k : paper.Comp) → k.A ≡ (paper.comp C s.cpu.prev).A → ((c x : ℕ) → (paper.comp (set C s.cpu.prev k) c).J x ≡ may_jump added c x)
            → ((c x : ℕ) → (paper.comp (set C s.cpu.prev k) c).S x ≡ may_store added c x)
            → ((c x : ℕ) → (paper.comp (set C s.cpu.prev k) c).R x ≡ may_read added c x) → Match added (paper.returned (shadow s C) (set C s.cpu.prev k))
        unfolding owns has_owner owner_at in_memory
        added_match k e hj hs hr =
            record {
              words = refl;
              regs = refl;
              pc = refl;
              prev = service_current;
              jumped = refl;
              count = length-set C s.cpu.prev k ∙ m.count;
              A = λ c x. changed_kept C s.cpu.prev k caller_there (λ (o : paper.Comp). o.A x) (ap (λ (A : ℕ → Bool). A x) e) c ∙ m.A c x;
              J = hj;
              S = hs;
              R = hr;
              fenced = refl;
            }

      -- the sets of a memory after the caller joined at r, and a set of its compartment after r joined, which the two
      -- machines match by `at`
      grown : (sets : List ℕ) → length sets ≡ length s.words → (k : paper.Comp) (f : ℕ → paper.Comp → Bool) (other : ℕ → ℕ)
          → ((x : ℕ) → f x k ≡ (f x (paper.comp C s.cpu.prev) || eqb x r))
          → ((c x : ℕ) → f x (paper.comp C c) ≡ member (cond (ltb x s.cpu.n) (get_or sets x empty) (other x)) c)
          → (c x : ℕ) → f x (paper.comp (set C s.cpu.prev k) c) ≡ member (cond (ltb x s.cpu.n) (get_or (join_at sets r s.cpu.prev) x empty) (other x)) c
      grown sets l k f other e at c x =
          changed_test C s.cpu.prev k caller_there (f x) (eqb x r) (e x) c ∙ ap (λ (b : Bool). b || (eqb x r && eqb c s.cpu.prev)) (at c x)
          ∙ sym (join_one s.cpu.n sets s.cpu.prev (subst (λ (n : ℕ). s.cpu.n ≤ n) (sym l) lent.enough) caller_small c x r (other x) target_inside)

      abbrev with_j : paper.Comp
      with_j = paper.more_j (paper.comp C s.cpu.prev) r

      abbrev with_s : paper.Comp
      with_s = paper.more_s (paper.comp C s.cpu.prev) r

      abbrev with_r : paper.Comp
      with_r = paper.more_r (paper.comp C s.cpu.prev) r

      -- a set that k leaves
      left : (k : paper.Comp) (f : paper.Comp → Bool) → f k ≡ f (paper.comp C s.cpu.prev) → (c : ℕ)
          → f (paper.comp (set C s.cpu.prev k) c) ≡ f (paper.comp C c)
      left k = changed_kept C s.cpu.prev k caller_there

      pub jump_match : Match (jump_added s) (paper.jump_added (shadow s C))
      unfolding jump_added paper.jump_added may_jump may_store may_read jumpers_at writers_at readers_at in_memory
      jump_match =
          added_match (join_at s.jumpers r s.cpu.prev) s.writers s.readers with_j refl
          (grown s.jumpers lent.jumpers with_j (λ x o. o.J x) (λ x. cond (is_service s.cpu.strict x) (get_or s.cpu.services (x - isolate) empty) empty) (λ x. refl) m.J)
          (λ c x. left with_j (λ o. o.S x) refl c ∙ m.S c x) (λ c x. left with_j (λ o. o.R x) refl c ∙ m.R c x)

      pub store_match : Match (store_added s) (paper.store_added (shadow s C))
      unfolding store_added paper.store_added may_jump may_store may_read jumpers_at writers_at readers_at in_memory
      store_match =
          added_match s.jumpers (join_at s.writers r s.cpu.prev) s.readers with_s refl
          (λ c x. left with_s (λ o. o.J x) refl c ∙ m.J c x)
          (grown s.writers lent.writers with_s (λ x o. o.S x) (λ x. empty) (λ x. refl) m.S) (λ c x. left with_s (λ o. o.R x) refl c ∙ m.R c x)

      -- in strict mode alone is there an add read target
      module _ (e : s.cpu.strict ≡ true) where
        readers_match : (c x : ℕ) → (paper.comp (set C s.cpu.prev with_r) c).R x ≡ may_read (read_added s) c x
        unfolding read_added
        readers_match c x =
            grown s.readers (lent.readers e) with_r (λ x o. o.R x) (λ x. empty) (λ x. refl) (λ c x. m.R c x ∙ read_strict s c x e) c x
            ∙ sym (read_strict (read_added s) c x e)

        pub read_match : Match (read_added s) (paper.read_added (shadow s C))
        unfolding read_added paper.read_added may_jump may_store jumpers_at writers_at in_memory
        read_match =
            added_match s.jumpers s.writers (join_at s.readers r s.cpu.prev) with_r refl (λ c x. left with_r (λ o. o.J x) refl c ∙ m.J c x)
            (λ c x. left with_r (λ o. o.S x) refl c ∙ m.S c x) readers_match
