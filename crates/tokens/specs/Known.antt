-- What a key stands for: a register, a mnemonic, or the name of a label.
use Rattle.std.specs.Prelude.{◌≡◌, refl, Bool, true, false, cond, ◌&&◌, List, [], ◌∷◌, ◌++◌, ◌≢◌, ℕ, zero, suc, ◌+◌, ◌-◌, ◌<◌, ◌≤◌, eqb, ltb, take, drop}
use Rattle.std.proofs.Common.{sym, ap, ◌∙◌, arith, eqb-true, ne_eqb, ltb-true, take-append-drop}
use Rattle.std.proofs.Math.Option.{Option, none, some}
use Rattle.std.proofs.lemmas.Bool.{eqb-false}
use Rattle.common.proofs.Laws.Tests.{both}
use Rattle.grammar.specs.Tokens.{Token}
use Rattle.grammar.specs.Spelling.{between, Row, words}
use Rattle.grammar.proofs.Laws.Tables.{each}
use Rattle.grammar.specs.Reading.Kinds.{kind_of, number_of}
use Rattle.tokens.specs.Bytes.{bounds}
use Rattle.tokens.specs.Worth.{worth}
use Rattle.tokens.specs.Keys.{key_of, find_by}
use Rattle.tokens.specs.Kinds.{kind_number}
use Rattle.tokens.specs.declared.Kind.{Kind}

-- the number of a register by its key, from 29232, the key of r0, to that of r9, or from 7483696, the key of r10, to that of r15; and 16 for any other key
unfoldable pub register_of : ℕ → ℕ
register_of k = cond (between 29232 29241 k) (k - 29232) (cond (between 7483696 7483701 k) (k - 7483696 + 10) 16)

-- a kind, and the number that goes with it
pub record Both : Type 0 where
  pub kind : ℕ
  pub number : ℕ

abbrev pub both_of : ℕ → ℕ → Both
both_of kind number = record { kind = kind; number = number }

abbrev pub both_seen : Kind × ℕ → Both
both_seen k = both_of (kind_number k.0) k.1

-- a token's kind and number; what is in no table is a name
abbrev pub known : Option Token → Both
known (some t) = both_of (kind_of t) (number_of t)
known none = both_of 8 0

unfoldable pub known_of : ℕ → Both
known_of k = known (find_by words k)

-- of the first fourteen words alone, the mnemonics
unfoldable pub mnemonic_of : ℕ → Both
mnemonic_of k = known (find_by (take 14 words) k)

-- ---- registers

-- a test that passes at each number below n
abbrev all_below : (ℕ → Bool) → ℕ → Bool
all_below t zero = true
all_below t (suc n) = all_below t n && t n

at_below : (t : ℕ → Bool) (n : ℕ) → all_below t n ≡ true → (i : ℕ) → i < n → t i ≡ true
at_below t zero h i l = absurd (omega arith)
at_below t (suc n) h i l = go (eqb i n) refl (at_below t n k.0 i)
  where
    k : (all_below t n ≡ true) × (t n ≡ true)
    k = both (all_below t n) (t n) h

    go : (b : Bool) → eqb i n ≡ b → (i < n → t i ≡ true) → t i ≡ true
    go true e ih = ap t (eqb-true i n e) ∙ k.1
    go false e ih = let o : i ≢ n = eqb-false i n e in ih (omega arith)

-- the key is that of the register r
abbrev names : ℕ → ℕ → Bool
names r k = eqb (known_of k).kind 7 && eqb (known_of k).number r

names_known : (r k : ℕ) → names r k ≡ true → both_of 7 r ≡ known_of k
names_known r k h =
    let z = both (eqb (known_of k).kind 7) (eqb (known_of k).number r) h in
    ap (λ (x : ℕ). both_of x r) (sym (eqb-true _ _ z.0)) ∙ ap (both_of (known_of k).kind) (sym (eqb-true _ _ z.1))

one_digit : all_below (λ i. names i (29232 + i)) 10 ≡ true
unfolding known_of find_by words worth
one_digit = refl

two_digits : all_below (λ i. names (i + 10) (7483696 + i)) 6 ≡ true
unfolding known_of find_by words worth
two_digits = refl

-- by the two ranges of keys
by_register : (P : ℕ → Type 0) (k : ℕ) → ((i : ℕ) → i < 10 → k ≡ 29232 + i → P i) → ((i : ℕ) → i < 6 → k ≡ 7483696 + i → P (i + 10)) → P 16 → P (register_of k)
unfolding register_of
by_register P k f g h = go (between 29232 29241 k) refl (between 7483696 7483701 k) refl
  where
    go : (t : Bool) → between 29232 29241 k ≡ t → (u : Bool) → between 7483696 7483701 k ≡ u → P (register_of k)
    go true e u d = let z = bounds 29232 29241 k e in rw e (f (k - 29232) (omega arith) (omega arith))
    go false e true d = let z = bounds 7483696 7483701 k d in rw (e, d) (g (k - 7483696) (omega arith) (omega arith))
    go false e false d = rw (e, d) h

pub register_most : (k : ℕ) → register_of k ≤ 16
register_most k = by_register (λ r. r ≤ 16) k (λ i l e. omega arith) (λ i l e. omega arith) (omega arith)

pub known_register : (k : ℕ) → register_of k < 16 → both_of 7 (register_of k) ≡ known_of k
known_register k =
    by_register (λ r. r < 16 → both_of 7 r ≡ known_of k) k
    (λ i l e h. rw e (names_known i (29232 + i) (at_below (λ i. names i (29232 + i)) 10 one_digit i l)))
    (λ i l e h. rw e (names_known (i + 10) (7483696 + i) (at_below (λ i. names (i + 10) (7483696 + i)) 6 two_digits i l)))
    (λ h. absurd (omega arith))

-- ---- mnemonics

-- behind the fourteenth stand registers
abbrev numbered : Row → Bool
numbered r = ltb (register_of (key_of r.key)) 16

registers_numbered : each numbered (drop 14 words) ≡ true
unfolding words register_of worth
registers_numbered = refl

-- a key that is no register's is found in front of the registers or nowhere
find_front : (rs ss : List Row) (k : ℕ) → each numbered ss ≡ true → 16 ≤ register_of k → find_by (rs ++ ss) k ≡ find_by rs k
unfolding find_by
find_front [] [] k h l = refl
find_front [] (s ∷ ss) k h l =
    let z = both (numbered s) (each numbered ss) h in
    let n : register_of (key_of s.key) < 16 = ltb-true _ _ z.0 in
    let o : k ≢ key_of s.key = λ e. other e n in
    rw (ne_eqb k (key_of s.key) o) (find_front [] ss k z.1 l)
  where
    other : k ≡ key_of s.key → register_of (key_of s.key) < 16 → ⊥
    other e n = let f : register_of k ≡ register_of (key_of s.key) = ap register_of e in omega arith
find_front (r ∷ rs) ss k h l = rw (find_front rs ss k h l) refl

pub known_mnemonic : (k : ℕ) → 16 ≤ register_of k → mnemonic_of k ≡ known_of k
unfolding mnemonic_of known_of
known_mnemonic k l =
    ap known (sym (find_front (take 14 words) (drop 14 words) k registers_numbered l))
    ∙ ap (λ (rs : List Row). known (find_by rs k)) (take-append-drop 14 words)
