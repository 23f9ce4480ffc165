-- The rows of a listing: what its text is by the mnemonic, as the tables say for each opcode.
use Rattle.std.specs.Prelude.{◌≡◌, refl, Bool, true, false, ◌&&◌, List, [], ◌++◌, map, ℕ, suc, ◌<◌, ◌≤◌, eqb, leb, ltb, length, get_or}
use Rattle.std.proofs.Common.{sym, ap, subst, arith, leb-true, eqb-true}
use Rattle.std.proofs.Math.Option.{Option, some}
use Rattle.std.proofs.lemmas.Bool.{eqb-false}
use Rattle.common.specs.Words.{Row, uses, row, instruction}
use Rattle.common.proofs.Laws.WordLaws.{Allowed}
use Rattle.grammar.specs.Tokens.{Token, mnemonic, Mnemonic, Nop, Halt, Const, Bnz, one, two, three, opcode}
use Rattle.grammar.proofs.Laws.Opcodes as Opcodes
use Rattle.numerals.specs.Bytes.{bytes}
use Rattle.grammar.specs.Spelling.{digit, capital, small, in_word, lower, every, words}
use Rattle.grammar.specs.Reading.Lexer.{find}
use Rattle.numerals.specs.Numerals.{decimal}
use Rattle.sources.specs.Listing.{blank, register_text, offset_text, mnemonics, operands}

-- ---- what holds of each number below k

infixr 5 ◌and◌
pub data AllBelow (P : ℕ → Type 0) : ℕ → Type 0 where
  none : AllBelow P 0
  ◌and◌ : {k : ℕ} → P k → AllBelow P k → AllBelow P (suc k)

pub below : {P : ℕ → Type 0} {k : ℕ} → AllBelow P k → (n : ℕ) → n < k → P n
below none n l = absurd (omega arith)
below {P = P} (◌and◌ {k = k} p h) n l = go (eqb n k) refl (below h n)
  where
    go : (b : Bool) → eqb n k ≡ b → (n < k → P n) → P n
    go true e ih = subst P (sym (eqb-true n k e)) p
    go false e ih = let z = eqb-false n k e in ih (omega arith)

-- ---- what each mnemonic has behind it

abbrev pub fields_used : Mnemonic → Row
fields_used Nop = uses 0 0 0
fields_used Halt = uses 0 0 0
fields_used Const = uses 15 0 65535
fields_used Bnz = uses 15 0 65535
fields_used (one k) = uses 15 0 0
fields_used (two k) = uses 15 15 0
fields_used (three k) = uses 15 15 15

-- no name has more bytes
abbrev pub letters : Mnemonic → ℕ
letters Nop = 5
letters Halt = 5
letters Const = 5
letters Bnz = 3
letters (one k) = 5
letters (two k) = 5
letters (three k) = 3

abbrev pub behind : Mnemonic → ℕ → ℕ → ℕ → List ℕ
behind Nop a b low = []
behind Halt a b low = []
behind Const a b low = blank ++ decimal low ++ blank ++ register_text a
behind Bnz a b low = blank ++ register_text a ++ bytes ", " ++ offset_text low
behind (one k) a b low = blank ++ register_text a
behind (two k) a b low = blank ++ register_text a ++ blank ++ register_text b
behind (three k) a b low = blank ++ register_text a ++ blank ++ register_text b ++ blank ++ register_text low

-- fields in the bounds of a mnemonic
pub record Fits (m : Mnemonic) (a b low : ℕ) : Type 0 where
  pub a_most : a ≤ (fields_used m).a
  pub b_most : b ≤ (fields_used m).b
  pub low_most : low ≤ (fields_used m).low

-- what a row of the tables says of an opcode
record Shown : Type 0 where
  number : ℕ
  found : Option Token
  inside : Bool
  short : Bool
  used : Row
  text : ℕ → ℕ → ℕ → List ℕ

abbrev pub name : ℕ → List ℕ
name op = get_or mnemonics op []

abbrev pub mnemonic_of : ℕ → Mnemonic
mnemonic_of op = get_or Opcodes.mnemonics op Nop

abbrev shown : ℕ → Shown
shown op =
    record {
      number = op;
      found = find words (map lower (name op));
      inside = ltb 0 (length (name op)) && every in_word (name op);
      short = leb (length (name op)) (letters (mnemonic_of op));
      used = row op;
      text = λ a b low. operands (instruction op a b low);
    }

abbrev meant : Mnemonic → Shown
meant m = record { number = opcode m; found = some (mnemonic m); inside = true; short = true; used = fields_used m; text = behind m }

all_meant : AllBelow (λ op. shown op ≡ meant (mnemonic_of op)) 14
unfolding words lower capital in_word digit small row operands
all_meant = refl and refl and refl and refl and refl and refl and refl and refl and refl and refl and refl and refl and refl and refl and none

module _ (op : ℕ) (h : op < 14) where
  facts : shown op ≡ meant (mnemonic_of op)
  facts = below all_meant op h

  pub name_found : find words (map lower (name op)) ≡ some (mnemonic (mnemonic_of op))
  name_found = ap (λ (s : Shown). s.found) facts

  pub name_inside : (ltb 0 (length (name op)) && every in_word (name op)) ≡ true
  name_inside = ap (λ (s : Shown). s.inside) facts

  pub name_short : length (name op) ≤ letters (mnemonic_of op)
  name_short = leb-true _ _ (ap (λ (s : Shown). s.short) facts)

module _ (op a b low : ℕ) (h : Allowed op a b low) where
  pub mnemonic_number : opcode (mnemonic_of op) ≡ op
  mnemonic_number = ap (λ (s : Shown). s.number) (sym (facts op h.known))

  pub mnemonic_fits : Fits (mnemonic_of op) a b low
  mnemonic_fits =
      let used : row op ≡ fields_used (mnemonic_of op) = ap (λ (s : Shown). s.used) (facts op h.known) in
      record {
        a_most = subst (λ (r : Row). a ≤ r.a) used h.a_most;
        b_most = subst (λ (r : Row). b ≤ r.b) used h.b_most;
        low_most = subst (λ (r : Row). low ≤ r.low) used h.low_most;
      }

  pub operands_behind : operands (instruction op a b low) ≡ behind (mnemonic_of op) a b low
  operands_behind = ap (λ (s : Shown). s.text a b low) (facts op h.known)
