-- What the counts mean in a state that 14 lets pass: over all addresses, and of the paper's A, J and S.
use Rattle.std.specs.Prelude.{◌≡◌, refl, Bool, true, false, ◌&&◌, List, ltb, length}
use Rattle.std.proofs.Math.Path.{sym, ap₂}
use Rattle.std.proofs.Common.{ap, ◌∙◌, zero-add, add-zero, add-suc, add_assoc, le-ltb}
use Rattle.std.proofs.Math.Bool.{not, and-false}
use Prim.Native.Nat.{ℕ, zero, suc, ◌+◌, ◌-◌, ◌≤◌, ◌<◌, min}
use native.Mathlib.Omega.{arith}
use Rattle.common.specs.Instructions.{bit}
use Rattle.common.specs.Services.{isolate, service_count, is_service}
use Rattle.common.proofs.Laws.ServiceLaws.{no_service}
use Rattle.paper.specs.Abstract as paper
use Rattle.rules.specs.Laws.CompartmentLaws.{member_empty}
use Rattle.rules.specs.State.{State, in_memory, has_owner, jumpers_at, writers_at, owns, may_jump, may_store}
use Rattle.rules.specs.Laws.Tested.{sized}
use Rattle.rules.proofs.Laws.FormLaws.{is_sized}
use Rattle.rules.proofs.BothMachines.Match.{Match}
use Rattle.rules.specs.Counts.{count_from, address_count, owned_count, jump_count, store_count}
use Rattle.rules.specs.Laws.CountLaws.{count_same}

-- the first address past the services
abbrev pub past : Bool → ℕ
past strict = isolate + service_count strict

-- ---- a count in two parts, and one in which nothing passes

count_split : (t : ℕ → Bool) (x a b : ℕ) → count_from t x (a + b) ≡ count_from t x a + count_from t (x + a) b
unfolding count_from
count_split t x a zero = ap (count_from t x) (add-zero a) ∙ sym (add-zero _)
count_split t x a (suc b) =
    ap (count_from t x) (add-suc a b) ∙ ap₂ (λ (m y : ℕ). m + bit (t y)) (count_split t x a b) (sym (add_assoc x a b))
    ∙ add_assoc (count_from t x a) (count_from t (x + a) b) (bit (t (x + a + b)))

count_false : (x k : ℕ) → count_from (λ _. false) x k ≡ 0
unfolding count_from
count_false x zero = refl
count_false x (suc k) = ap (λ (m : ℕ). m + 0) (count_false x k)

-- ---- no address is left out

-- only words and services pass the test
abbrev Held : State → (ℕ → Bool) → Type 0
Held s test = (x : ℕ) → in_memory s x ≡ false → is_service s.cpu.strict x ≡ false → test x ≡ false

between : (m : Bool) (n y : ℕ) → n ≤ y → y < 4096 → (ltb y n ≡ false) × (is_service m y ≡ false)
between m n y l u = (le-ltb y n l, no_service m y u)

far : (s : State) (y : ℕ) → s.cpu.n ≤ 2048 → past s.cpu.strict ≤ y → (in_memory s y ≡ false) × (is_service s.cpu.strict y ≡ false)
unfolding in_memory is_service
far s y m l = (le-ltb y s.cpu.n (omega arith), simp (le-ltb y (past s.cpu.strict) l, and-false))

module _ (s : State) (list : List ℕ) (test : ℕ → Bool) (held : Held s test) (small : s.cpu.n ≤ 2048) (enough : s.cpu.n ≤ length list) where
  abbrev n : ℕ
  n = s.cpu.n

  gap : count_from test n (4096 - n) ≡ 0
  unfolding in_memory
  gap =
      count_same test (λ _. false) n (4096 - n) (λ y l u. let t = between s.cpu.strict n y l (omega arith) in held y t.0 t.1) ∙ count_false n (4096 - n)

  front : count_from test 0 4096 ≡ count_from test 0 n
  front =
      let e : n + (4096 - n) ≡ 4096 = omega arith in
      ap (count_from test 0) (sym e) ∙ count_split test 0 n (4096 - n) ∙ ap (λ (x : ℕ). count_from test 0 n + count_from test x (4096 - n)) (zero-add n)
      ∙ ap (λ (x : ℕ). count_from test 0 n + x) gap ∙ add-zero (count_from test 0 n)

  abbrev k : ℕ
  k = service_count s.cpu.strict

  back : count_from (λ x. not (in_memory s x) && test x) 4096 k ≡ count_from test 4096 k
  unfolding in_memory
  back = count_same (λ x. not (ltb x n) && test x) test 4096 k (λ y l u. simp (le-ltb y n (omega arith)))

  all_counted : address_count s list test ≡ count_from test 0 (past s.cpu.strict)
  unfolding address_count
  all_counted =
      let e : min n (length list) ≡ n = omega arith in
      ap₂ (λ (x y : ℕ). x + y) (ap (count_from test 0) e ∙ sym front) back ∙ sym (count_split test 0 4096 k)

module _ (s : State) (c : ℕ) where
  held_owns : Held s (owns s c)
  unfolding owns has_owner
  held_owns x e f = simp (e, f)

  held_jump : Held s (may_jump s c)
  unfolding may_jump jumpers_at
  held_jump x e f = simp (e, f) (member_empty c)

  held_store : Held s (may_store s c)
  unfolding may_store writers_at
  held_store x e f = simp e (member_empty c)

-- each count is how many addresses there are, all those past the services being nobody's
pub record Counts (s : State) (c : ℕ) : Type 0 where
  pub owned : owned_count s c ≡ count_from (owns s c) 0 (past s.cpu.strict)
  pub jumps : jump_count s c ≡ count_from (may_jump s c) 0 (past s.cpu.strict)
  pub stores : store_count s c ≡ count_from (may_store s c) 0 (past s.cpu.strict)
  pub beyond : (x : ℕ) → past s.cpu.strict ≤ x → (owns s c x ≡ false) × (may_jump s c x ≡ false) × (may_store s c x ≡ false)

pub counts : (s : State) (c : ℕ) → sized s ≡ true → Counts s c
unfolding owned_count jump_count store_count
counts s c h =
    let z = is_sized s h in
    let m : s.cpu.n ≤ 2048 = z.most in
    let l : s.cpu.n ≤ length s.words = z.lent.enough in
    let o : length s.owners ≡ length s.words = z.lent.owners in
    let j : length s.jumpers ≡ length s.words = z.lent.jumpers in
    let w : length s.writers ≡ length s.words = z.lent.writers in
    record {
      owned = all_counted s s.owners (owns s c) (held_owns s c) m (omega arith);
      jumps = all_counted s s.jumpers (may_jump s c) (held_jump s c) m (omega arith);
      stores = all_counted s s.writers (may_store s c) (held_store s c) m (omega arith);
      beyond = λ x p. let t = far s x m p in (held_owns s c x t.0 t.1, held_jump s c x t.0 t.1, held_store s c x t.0 t.1);
    }

-- ---- of the paper's compartments

pub matched : (s : State) (a : paper.State) (c : ℕ) → sized s ≡ true → Match s a
    → (owned_count s c ≡ count_from (paper.A-of a c) 0 (past s.cpu.strict)) × (jump_count s c ≡ count_from (paper.J-of a c) 0 (past s.cpu.strict)) × (store_count s c ≡ count_from (paper.S-of a c) 0 (past s.cpu.strict))
matched s a c h m =
    let k = counts s c h in
    (k.owned ∙ same (m.A c), k.jumps ∙ same (m.J c), k.stores ∙ same (m.S c))
  where
    same : {t u : ℕ → Bool} → ((x : ℕ) → t x ≡ u x) → count_from u 0 (past s.cpu.strict) ≡ count_from t 0 (past s.cpu.strict)
    same {t} {u} e = count_same u t 0 (past s.cpu.strict) (λ x l k. sym (e x))
