-- A line put part by part, as the code comes to it.
use Rattle.std.specs.Prelude.{◌≡◌, ℕ, zero, suc, ◌+◌, ◌-◌, ◌/◌, ◌%◌, ◌^◌, ◌<◌, ◌≤◌, min, Bool, true, false, cond, ◌≢◌, List, [], ◌∷◌, ◌++◌, length, nat_eq, nat_lt, slice_index, refl}
use Rattle.std.proofs.Common.{sym, ap, ◌∙◌, subst, append_assoc, append-nil, add-zero, lt-ltb, le-ltb, le-leb, ne_eqb, eq-eqb, shr-shr}
use native.Mathlib.Omega.{arith}
use Rattle.std.proofs.lemmas.Bool.{lt-leb}
use Rattle.common.specs.Answers as answer
use Rattle.common.specs.Words.{decode}
use Rattle.rules.specs.Compartments.{numbers, member, lowest_from, lowest}
use Rattle.rules.specs.Checks.{instruction_at}
use Rattle.machine.specs.declared.Processor.{Processor}
use Rattle.machine.specs.Views.{state_of}
use Rattle.numerals.specs.Bytes.{bytes}
use Rattle.numerals.specs.Writing.{put}
use Rattle.text.specs.Puts.{put_of, put_behind, put_whole}
use Rattle.images.specs.Stores.{sets_over}
use Rattle.printed.specs.Text.{field}
use Rattle.sheets.specs.Lines.{members_from, members, target_writers, numbers_text, writers_text}
use Rattle.sheets.specs.Told.{tell}

-- ---- nothing put

pub put_none : (out : List ℕ) (at : ℕ) → at ≤ length out → put_of at out ≡ put [] at out
unfolding put
put_none out at h = let k : min (at + 0) (length out) ≡ at = omega arith in simp k

-- ---- a number, where it is one

unfoldable pub one_text : ℕ → List ℕ
one_text c = cond (nat_lt c 64) (field (bytes " ") c) []

pub one_none : (c : ℕ) → 64 ≤ c → one_text c ≡ []
unfolding one_text
one_none c h = simp (le-ltb c 64 h)

pub one_some : (c : ℕ) → c < 64 → one_text c ≡ field (bytes " ") c
unfolding one_text
one_some c h = simp (lt-ltb c 64 h)

-- ---- the lowest of the numbers from a on, by shifting

member_shift : (set a b : ℕ) → member (set / 2 ^ a) b ≡ member set (a + b)
unfolding member
member_shift set a b = ap (λ (x : ℕ). nat_eq (x % 2) 1) (shr-shr set a b)

lowest_shift : (set a k j : ℕ) → a + lowest_from k j (set / 2 ^ a) ≡ lowest_from k (a + j) set
unfolding lowest_from
lowest_shift set a zero j = refl
lowest_shift set a (suc k) j = go (member set (a + j)) (member_shift set a j) (lowest_shift set a k (suc j))
  where
    go : (b : Bool) → member (set / 2 ^ a) j ≡ b → a + lowest_from k (suc j) (set / 2 ^ a) ≡ lowest_from k (a + suc j) set
        → a + cond (member (set / 2 ^ a) j) j (lowest_from k (suc j) (set / 2 ^ a)) ≡ cond b (a + j) (lowest_from k (suc (a + j)) set)
    go true e ih = simp e
    go false e ih = let s : a + suc j ≡ suc (a + j) = omega arith in simp e (ih ∙ ap (λ (x : ℕ). lowest_from k x set) s)

next_is : (set a : ℕ) → a + lowest (set / 2 ^ a) ≡ lowest_from numbers a set
next_is set a = lowest_shift set a numbers 0 ∙ ap (λ (x : ℕ). lowest_from numbers x set) (add-zero a)

low_bound : (set k a : ℕ) → (a ≤ lowest_from k a set) × (lowest_from k a set ≤ a + k)
unfolding lowest_from
low_bound set zero a = (omega arith, omega arith)
low_bound set (suc k) a = go (member set a) (low_bound set k (suc a))
  where
    go : (b : Bool) → (suc a ≤ lowest_from k (suc a) set) × (lowest_from k (suc a) set ≤ suc a + k)
        → (a ≤ cond b a (lowest_from k (suc a) set)) × (cond b a (lowest_from k (suc a) set) ≤ a + suc k)
    go true h = (omega arith, omega arith)
    go false h =
        let l : suc a ≤ lowest_from k (suc a) set = h.0 in
        let m : lowest_from k (suc a) set ≤ suc a + k = h.1 in
        (omega arith, omega arith)

-- the numbers from a on
abbrev pub numbers_from : ℕ → ℕ → List ℕ
numbers_from set a = numbers_text (members_from (64 - a) a set)

none_left : (set c : ℕ) → 64 ≤ c → [] ≡ one_text c ++ numbers_from set (c + 1)
unfolding numbers_text members_from
none_left set c h = let z : 64 - (c + 1) ≡ 0 = omega arith in sym (simp (one_none c h, z))

-- the lowest of them, and those behind it
next_text : (set k n a : ℕ) → k ≤ n → a + k ≡ 64 → numbers_text (members_from k a set) ≡ one_text (lowest_from n a set) ++ numbers_from set (lowest_from n a set + 1)
unfolding numbers_text members_from lowest_from
next_text set zero n a l h = let b : a ≤ lowest_from n a set = (low_bound set n a).0 in none_left set (lowest_from n a set) (omega arith)
next_text set (suc k) zero a l h = absurd (omega arith)
next_text set (suc k) (suc n) a l h = go (member set a) (next_text set k n (suc a) (omega arith) (omega arith))
  where
    go : (b : Bool) → numbers_text (members_from k (suc a) set) ≡ one_text (lowest_from n (suc a) set) ++ numbers_from set (lowest_from n (suc a) set + 1)
        → numbers_text (cond b (a ∷ members_from k (suc a) set) (members_from k (suc a) set))
        ≡ one_text (cond b a (lowest_from n (suc a) set)) ++ numbers_from set (cond b a (lowest_from n (suc a) set) + 1)
    go true ih =
        let o = sym (one_some a (omega arith)) in
        let e : k ≡ 64 - (a + 1) = omega arith in
        let f : suc a ≡ a + 1 = omega arith in
        λ i. o i ++ numbers_text (members_from (e i) (f i) set)
    go false ih = ih

-- ---- a text of which a part is put

pub record Partly (whole left out₀ : List ℕ) (at p : ℕ) (out : List ℕ) : Type 0 where
  pub text : List ℕ
  pub is : whole ≡ text ++ left
  pub stands : put_of p out ≡ put text at out₀

pub begun : (whole out : List ℕ) (at : ℕ) → at ≤ length out → Partly whole whole out at at out
begun whole out at h = record { text = []; is = refl; stands = put_none out at h }

pub further : (whole t left out₀ : List ℕ) (at p : ℕ) (out : List ℕ) → Partly whole (t ++ left) out₀ at p out
    → (r : ℕ) (new : List ℕ) → put_of r new ≡ put t p out → Partly whole left out₀ at r new
further whole t left out₀ at p out d r new e =
    record {
      text = d.text ++ t;
      is = d.is ∙ sym (append_assoc d.text t left);
      stands = put_behind d.text t out₀ at p out r new d.stands e;
    }

pub all_put : (whole out₀ : List ℕ) (at p : ℕ) (out : List ℕ) → Partly whole [] out₀ at p out → put_of p out ≡ put whole at out₀
all_put whole out₀ at p out d = d.stands ∙ ap (λ (t : List ℕ). put t at out₀) (sym (append-nil d.text) ∙ sym d.is)

-- ---- the numbers in a set

module _ (set : ℕ) (out₀ : List ℕ) (at : ℕ) where
  abbrev pub Numbers : ℕ → List ℕ → ℕ → Type 0
  Numbers p out from = Partly (numbers_text (members set)) (numbers_from set from) out₀ at p out

  pub number_more : (p : ℕ) (out : List ℕ) (from : ℕ) → from < 64 → Numbers p out from → (c : ℕ) → c ≡ from + lowest (set / 2 ^ from)
      → (r : ℕ) (new : List ℕ) → put_of r new ≡ put (one_text c) p out → Numbers r new (c + 1)
  number_more p out from h d c e r new q =
      let t : numbers_from set from ≡ one_text c ++ numbers_from set (c + 1) =
      next_text set (64 - from) 64 from (omega arith) (omega arith) ∙ ap (λ (x : ℕ). one_text x ++ numbers_from set (x + 1)) (sym (e ∙ next_is set from)) in
      further (numbers_text (members set)) (one_text c) (numbers_from set (c + 1)) out₀ at p out
      (subst (λ (x : List ℕ). Partly (numbers_text (members set)) x out₀ at p out) t d) r new q

  pub numbers_put : (p : ℕ) (out : List ℕ) (from : ℕ) → 64 ≤ from → Numbers p out from → put_of p out ≡ put (numbers_text (members set)) at out₀
  unfolding numbers_text members_from
  numbers_put p out from h d =
      let z : 64 - from ≡ 0 = omega arith in
      all_put (numbers_text (members set)) out₀ at p out
      (subst (λ (k : ℕ). Partly (numbers_text (members set)) (numbers_text (members_from k from set)) out₀ at p out) z d)

-- how far the next number is
pub next_above : (set a c : ℕ) → c ≡ a + lowest (set / 2 ^ a) → (a ≤ c) × (c ≤ a + 64)
next_above set a c e =
    let s = e ∙ next_is set a in
    let l : a ≤ lowest_from numbers a set = (low_bound set numbers a).0 in
    let m : lowest_from numbers a set ≤ a + numbers = (low_bound set numbers a).1 in
    (omega arith, omega arith)

-- ---- the target's writers

pub target_is : (cpu : Processor) (words writers : List ℕ) (word a x r : ℕ) → word ≡ slice_index words cpu.pc → a ≡ (decode word).a
    → x ≡ slice_index cpu.regs a → r ≡ slice_index writers x → r ≡ target_writers (state_of cpu words [] [] writers [])
unfolding target_writers instruction_at
target_is cpu words writers word a x r ew ea ex er =
    er ∙ ap (λ (y : ℕ). slice_index writers y) (ex ∙ ap (λ (b : ℕ). slice_index cpu.regs b) (ea ∙ ap (λ (w : ℕ). (decode w).a) ew))

-- ---- ` writers`

pub no_writers : (a : ℕ) (ws : List ℕ) → a ≢ answer.store_forbidden → writers_text a ws ≡ []
unfolding writers_text
no_writers a ws n = simp (ne_eqb a answer.store_forbidden n)

pub some_writers : (a : ℕ) (ws : List ℕ) → a ≡ answer.store_forbidden → writers_text a ws ≡ bytes " writers" ++ numbers_text ws
unfolding writers_text
some_writers a ws e = simp (eq-eqb a answer.store_forbidden e)

-- ---- in the lent buffer

pub tell_short : (text out : List ℕ) → length out < length text → record { answer = 31; length = 0; out = out } ≡ tell text out
unfolding tell
tell_short text out h = sym (simp (lt-leb (length text) (length out) h))

pub tell_whole : (text out : List ℕ) → length text ≤ length out → (r : ℕ) (new : List ℕ) → put_of r new ≡ put text 0 out
    → record { answer = 0; length = length text; out = new } ≡ tell text out
unfolding tell
tell_whole text out h r new e =
    let p = put_whole text out 0 (omega arith) r new e in
    let s = p.1 ∙ sets_over text out h in
    sym (simp (le-leb (length text) (length out) h, s))
