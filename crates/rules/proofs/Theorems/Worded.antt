-- The conditions of 3, 16 and 8 to 12 in words: the word's opcode and bits, and what the tests on sets of pairs come to, address by address,
-- with no list of pairs in it.
use Rattle.std.specs.Prelude.{◌≡◌, Bool, ◌&&◌, ◌||◌, not, ◌↔◌, ◌⊎◌, ℕ, ◌+◌, ◌*◌, ◌≤◌, ◌<◌, eqb, get_or}
use Rattle.std.proofs.Math.Path.{refl}
use Rattle.std.proofs.Common.{inl, inr, ⊎_elim, ltb-true, lt-ltb, eqb-true, eq-eqb}
use Rattle.std.proofs.Math.Bool.{true, false}
use Rattle.common.specs.Answers as answer
use Rattle.common.specs.Opcodes as is
use Rattle.common.specs.Words.{op_of, a_of, b_of, low_of, decode}
use Rattle.common.proofs.Laws.WordLaws.{Above, decode_3, decode_16}
use Rattle.common.specs.Instructions.{reg}
use Rattle.common.specs.Services.{isolate, add_jump_target, add_store_target, add_read_target}
use Rattle.common.specs.AddressSets.{set_at, is_empty, in_set, within, ordered}
use Rattle.common.proofs.Laws.Meaning.{Among, in_set_iff, within_iff, empty_iff, good_set_iff, good_ordered}
use Rattle.common.proofs.Laws.Tests.{both, clash}
use Rattle.rules.specs.State.{State, in_memory, owns, may_jump, may_store, may_read, reads}
use Rattle.rules.specs.Checks.{is_word, instruction_at, no_instruction, stray_bit, set_a, set_r, good_in, good_sets, bad_sets, empty_set, sets_within, not_within, not_owned, returns, no_return}

-- ---- tests and what they say

and_iff : {P Q : Type 0} (a b : Bool) → (a ≡ true) ↔ P → (b ≡ true) ↔ Q → ((a && b) ≡ true) ↔ (P × Q)
and_iff a b f g = (λ h. let t = both a b h in (f.0 t.0, g.0 t.1), λ h. simp (f.1 h.0, g.1 h.1))

or_iff : {P Q : Type 0} (a b : Bool) → (a ≡ true) ↔ P → (b ≡ true) ↔ Q → ((a || b) ≡ true) ↔ (P ⊎ Q)
or_iff true b f g = (λ h. inl (f.0 refl), λ h. refl)
or_iff false b f g = (λ h. inr (g.0 h), λ h. ⊎_elim (λ p. clash (f.1 p) refl) (λ q. g.1 q) h)

not_iff : {P : Type 0} (a : Bool) → (a ≡ true) ↔ P → (not a ≡ true) ↔ (P → ⊥)
not_iff true f = (λ h. clash h refl, λ h. absurd (h (f.0 refl)))
not_iff false f = (λ h p. clash (f.1 p) refl, λ h. refl)

-- a test that is made in strict mode alone
if_iff : {P : Type 0} (m a : Bool) → (a ≡ true) ↔ P → ((not m || a) ≡ true) ↔ (m ≡ true → P)
if_iff true a f = (λ h e. f.0 h, λ h. f.1 (h refl))
if_iff false a f = (λ h e. clash e refl, λ h. refl)

itself : (a : Bool) → (a ≡ true) ↔ (a ≡ true)
itself a = (λ h. h, λ h. h)

at_iff : (x y : ℕ) → (eqb x y ≡ true) ↔ (x ≡ y)
at_iff x y = (eqb-true x y, eq-eqb x y)

-- ---- 3 and 16: "3 is the unknown opcode, 16 the stray bit"

abbrev pub word_at_pc : State → ℕ
word_at_pc s = get_or s.words s.cpu.pc 0

in_memory_iff : (s : State) → (is_word s ≡ true) ↔ (s.cpu.pc < s.cpu.n)
in_memory_iff s = (ltb-true _ _, lt-ltb _ _)

-- whatever its other bits
pub no_instruction_lem : (s : State) → (no_instruction s ≡ true) ↔ ((s.cpu.pc < s.cpu.n) × (13 < op_of (word_at_pc s)))
unfolding no_instruction instruction_at
no_instruction_lem s =
    let a = at_iff (decode (word_at_pc s)).answer answer.no_instruction in
    let d = decode_3 (word_at_pc s) in
    and_iff _ _ (in_memory_iff s) (λ h. d.0 (a.0 h), λ h. a.1 (d.1 h))

pub stray_bit_lem : (s : State)
    → (stray_bit s ≡ true)
    ↔ ((s.cpu.pc < s.cpu.n) × ((op_of (word_at_pc s) < is.count) × Above (op_of (word_at_pc s)) (a_of (word_at_pc s)) (b_of (word_at_pc s)) (low_of (word_at_pc s))))
unfolding stray_bit instruction_at
stray_bit_lem s =
    let a = at_iff (decode (word_at_pc s)).answer answer.stray_bit in
    let d = decode_16 (word_at_pc s) in
    and_iff _ _ (in_memory_iff s) (λ h. d.0 (a.0 h), λ h. a.1 (d.1 h))

-- ---- 8: "a set is not wholly inside memory or has first >= past"; "in strict mode an unreadable set word answers 8"

module _ (s : State) (c r : ℕ) where
  abbrev pub pointer : ℕ
  pointer = reg s.cpu.regs r

  -- how many pairs the set has
  abbrev pub pairs : ℕ
  pairs = get_or s.words pointer 0

  -- the set that register r points at, of which nothing is wrong
  pub record Whole : Type 0 where
    pub starts : pointer < s.cpu.n
    pub ends : pointer + 1 + 2 * pairs ≤ s.cpu.n
    pub rises : (i : ℕ) → i < pairs → get_or s.words (pointer + 1 + 2 * i) 0 < get_or s.words (pointer + 1 + 2 * i + 1) 0
    pub readable : s.cpu.strict ≡ true → (x : ℕ) → pointer ≤ x → x < pointer + 1 + 2 * pairs → (owns s c x || may_read s c x) ≡ true

  whole_iff : (good_in s c r ≡ true) ↔ Whole
  unfolding reads
  whole_iff =
      let g = good_set_iff s.words s.cpu.n (reads s c) pointer in (
        λ h. let w = g.0 h in record {
          starts = w.0;
          ends = w.1;
          rises = w.2;
          readable = λ e x l u. (if_iff s.cpu.strict _ (itself _)).0 (w.3 x l u) e;
        },
        λ w. g.1 (w.starts, w.ends, w.rises, λ x l u. (if_iff s.cpu.strict _ (itself _)).1 (λ e. w.readable e x l u)),
      )

  -- "it means the union of first .. past-1": some pair of the set has the address
  abbrev pub Has : ℕ → Type 0
  Has x = Among s.words (pointer + 1) pairs x

-- the caller's sets, in strict mode four
abbrev pub AllWhole : State → Type 0
AllWhole s = Whole s s.cpu.prev 1 × Whole s s.cpu.prev 2 × Whole s s.cpu.prev 3 × (s.cpu.strict ≡ true → Whole s s.cpu.prev 4)

pub bad_sets_lem : (s : State) → (bad_sets s ≡ true) ↔ ((s.cpu.pc ≡ isolate) × (AllWhole s → ⊥))
unfolding bad_sets good_sets
bad_sets_lem s =
    let c = s.cpu.prev in
    let four = and_iff _ _ (and_iff _ _ (and_iff _ _ (whole_iff s c 1) (whole_iff s c 2)) (whole_iff s c 3)) (if_iff s.cpu.strict (good_in s c 4) (whole_iff s c 4)) in
    let all : (good_sets s c ≡ true) ↔ AllWhole s = (λ h. let t = four.0 h in (t.0.0.0, t.0.0.1, t.0.1, t.1), λ t. four.1 (((t.0, t.1), t.2), t.3)) in
    and_iff _ _ (at_iff s.cpu.pc isolate) (not_iff _ all)

-- ---- 9: "A' is empty", of a set that passed 8

pub empty_set_lem : (s : State) → Whole s s.cpu.prev 1 → (empty_set s ≡ true) ↔ ((s.cpu.pc ≡ isolate) × ((x : ℕ) → Has s s.cpu.prev 1 x → ⊥))
unfolding empty_set
empty_set_lem s w =
    let q = pointer s s.cpu.prev 1 in
    let o : ordered (set_a s) ≡ true = good_ordered s.words s.cpu.n (reads s s.cpu.prev) q ((whole_iff s s.cpu.prev 1).1 w) in
    let e = empty_iff (set_a s) o in
    let none : (is_empty (set_a s) ≡ true) ↔ ((x : ℕ) → Has s s.cpu.prev 1 x → ⊥) = (λ h x a. clash ((in_set_iff s.words q x).1 a) (e.0 h x), λ h. e.1 (λ x. out (in_set (set_a s) x) (λ t. h x ((in_set_iff s.words q x).0 t)))) in
    and_iff _ _ (at_iff s.cpu.pc isolate) none
  where
    out : (b : Bool) → (b ≡ true → ⊥) → b ≡ false
    out true f = absurd (f refl)
    out false f = refl

-- ---- 10: "A' is within A, J' within A or J, S' within A or S of the caller", and R' "within A or R"

pub record AllWithin (s : State) (c : ℕ) : Type 0 where
  pub A : (x : ℕ) → Has s c 1 x → owns s c x ≡ true
  pub J : (x : ℕ) → Has s c 2 x → (owns s c x || may_jump s c x) ≡ true
  pub S : (x : ℕ) → Has s c 3 x → (owns s c x || may_store s c x) ≡ true
  pub R : s.cpu.strict ≡ true → (x : ℕ) → Has s c 4 x → (owns s c x || may_read s c x) ≡ true

module _ (s : State) (c : ℕ) where
  -- every address of the set that register r points at passes the test
  each_iff : (r : ℕ) (test : ℕ → Bool) → (within (set_at s.words (reg s.cpu.regs r)) test ≡ true) ↔ ((x : ℕ) → Has s c r x → test x ≡ true)
  each_iff r test =
      let w = within_iff (set_at s.words (reg s.cpu.regs r)) test in
      let q = reg s.cpu.regs r in
      (λ h x a. w.0 h x ((in_set_iff s.words q x).1 a), λ h. w.1 (λ x e. h x ((in_set_iff s.words q x).0 e)))

  read_iff : (test : ℕ → Bool) → (within (set_r s) test ≡ true) ↔ (s.cpu.strict ≡ true → (x : ℕ) → Has s c 4 x → test x ≡ true)
  unfolding within
  read_iff test = go s.cpu.strict refl
    where
      go : (b : Bool) → s.cpu.strict ≡ b → (within (set_r s) test ≡ true) ↔ (s.cpu.strict ≡ true → (x : ℕ) → Has s c 4 x → test x ≡ true)
      go true e = let f = each_iff 4 test in (λ h z. f.0 (simp e at h), λ h. simp e (f.1 (h e)))
      go false e = (λ h z. clash z e, λ h. simp e)

  within_all : (sets_within s c ≡ true) ↔ AllWithin s c
  unfolding sets_within
  within_all =
      let four = and_iff _ _ (and_iff _ _ (and_iff _ _ (each_iff 1 (owns s c)) (each_iff 2 (λ x. owns s c x || may_jump s c x))) (each_iff 3 (λ x. owns s c x || may_store s c x))) (read_iff (λ x. owns s c x || may_read s c x)) in
      (λ h. let t = four.0 h in record { A = t.0.0.0; J = t.0.0.1; S = t.0.1; R = t.1 }, λ w. four.1 (((w.A, w.J), w.S), w.R))

pub not_within_lem : (s : State) → (not_within s ≡ true) ↔ ((s.cpu.pc ≡ isolate) × (AllWithin s s.cpu.prev → ⊥))
unfolding not_within
not_within_lem s = and_iff _ _ (at_iff s.cpu.pc isolate) (not_iff _ (within_all s s.cpu.prev))

-- ---- 11: "unless the caller owns it", and 12: "unless r15 is in memory, owned by the caller and not in A'", "unless the caller owns r15"

-- pc is at a service that adds a target
abbrev pub AtAdd : State → Type 0
AtAdd s = ((s.cpu.pc ≡ add_jump_target) ⊎ (s.cpu.pc ≡ add_store_target)) ⊎ (s.cpu.pc ≡ add_read_target)

abbrev pub Owns : State → ℕ → Type 0
Owns s r = owns s s.cpu.prev (reg s.cpu.regs r) ≡ true

pub not_owned_lem : (s : State) → (not_owned s ≡ true) ↔ (AtAdd s × (Owns s 1 → ⊥))
unfolding not_owned
not_owned_lem s = and_iff _ _ (or_iff _ _ (or_iff _ _ (at_iff _ _) (at_iff _ _)) (at_iff _ _)) (not_iff _ (itself _))

pub record Returns (s : State) : Type 0 where
  pub inside : in_memory s (reg s.cpu.regs 15) ≡ true
  pub owned : Owns s 15
  pub stays : Has s s.cpu.prev 1 (reg s.cpu.regs 15) → ⊥

pub no_return_lem : (s : State) → (no_return s ≡ true) ↔ (((s.cpu.pc ≡ isolate) × (Returns s → ⊥)) ⊎ (AtAdd s × (Owns s 15 → ⊥)))
unfolding no_return returns
no_return_lem s =
    let x = reg s.cpu.regs 15 in
    let gone = not_iff (in_set (set_a s) x) (in_set_iff s.words (reg s.cpu.regs 1) x) in
    let three = and_iff _ _ (and_iff _ _ (itself (in_memory s x)) (itself (owns s s.cpu.prev x))) gone in
    let back : (returns s s.cpu.prev ≡ true) ↔ Returns s = (λ h. let t = three.0 h in record { inside = t.0.0; owned = t.0.1; stays = t.1 }, λ w. three.1 ((w.inside, w.owned), w.stays)) in
    or_iff _ _ (and_iff _ _ (at_iff _ _) (not_iff _ back)) (and_iff _ _ (or_iff _ _ (or_iff _ _ (at_iff _ _) (at_iff _ _)) (at_iff _ _)) (not_iff _ (itself _)))
