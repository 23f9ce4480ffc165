-- The lines of a listing are lines of the grammar.
use Rattle.std.specs.Prelude.{◌≡◌, refl, Bool, true, false, cond, not, ◌&&◌, List, [], ◌∷◌, ◌++◌, map, ℕ, zero, suc, ◌-◌, ◌^◌, ◌<◌, ◌≤◌, eqb, ltb, length}
use Rattle.std.proofs.Common.{sym, ap, ◌∙◌, subst, append_assoc, append-nil, arith, ltb-true, ne_eqb}
use Rattle.std.proofs.Math.Option.{some}
use Rattle.std.proofs.lemmas.Bool.{not-true}
use Rattle.common.specs.Words.{instruction}
use Rattle.common.proofs.Laws.WordLaws.{Allowed}
use Rattle.grammar.specs.Tokens.{Token, mnemonic, register, number, comma, minus, Mnemonic, Nop, Halt, Const, Bnz, one, two, three}
use Rattle.grammar.proofs.Laws.Opcodes as Opcodes
use Rattle.grammar.specs.Trees as tree
use Rattle.grammar.specs.Trees.{Expr, product, negative, factor, literal, Instruction, nop, halt, constant, moving, computing, jumping, branching, Line, depth, depth_i, depth_e}
use Rattle.grammar.specs.Grammar.{Choices, deepest, write_e, write_i, write}
use Rattle.numerals.specs.Bytes.{bytes, feed}
use Rattle.grammar.specs.Spelling as spelling
use Rattle.grammar.specs.Spelling.{digit, capital, small, in_word, lower, every, words, signs, Spells, known, Apart, Text, ends, gap, sign, word, uncommented}
use Rattle.grammar.specs.Reading.Lexer.{find}
use Rattle.grammar.specs.Reading.Reader.{got, chosen}
use Rattle.common.proofs.Laws.Tests.{clash, both}
use Rattle.grammar.proofs.Laws.Tables.{picks, find_at, each, at_each}
use Rattle.numerals.specs.Numerals.{glyph, digits}
use Rattle.grammar.proofs.Laws.Digits.{digits_every, decimal_spells, hexadecimal_spells}
use Rattle.grammar.proofs.Laws.SourceVerdicts.{source_exactly}
use Rattle.sources.specs.Texts.{lines, reading}
use Rattle.numerals.specs.Numerals.{width_by, width, decimal}
use Rattle.sources.specs.Listing.{blank, register_text, offset_text, operands, number_text}
use Rattle.sources.proofs.Listings.ListingRows.{AllBelow, none, ◌and◌, below, behind, Fits, name, mnemonic_of, name_found, name_inside, mnemonic_fits, operands_behind}
use Rattle.numerals.specs.Laws.Widths.{width_enough, width_some, length_digits}

-- ---- words and what follows them

spelled : {t : Token} {ts : List Token} (w rest : List ℕ) → 0 < length w → every in_word w ≡ true → Spells t w → Apart rest → Text ts rest → Text (t ∷ ts) (w ++ rest)
spelled [] rest l i s a k = absurd (omega arith)
spelled (b ∷ w) rest l i s a k = word b w rest refl i s a k

in_digits : (base : ℕ) → 1 < base → base < 17 → (k n : ℕ) → every in_word (digits base k n) ≡ true
unfolding in_word digit capital
in_digits base l m k n =
    digits_every in_word base l (λ d h. below sixteen d (omega arith)) k n
  where
    sixteen : AllBelow (λ d. in_word (glyph d) ≡ true) 16
    sixteen = refl and refl and refl and refl and refl and refl and refl and refl and refl and refl and refl and refl and refl and refl and refl and refl and none

decimal_text : (n : ℕ) (ts : List Token) (rest : List ℕ) → Apart rest → Text ts rest → Text (number n ∷ ts) (decimal n ++ rest)
unfolding decimal
decimal_text n ts rest a k = go (width n) (width_some n) (width_enough n)
  where
    go : (w : ℕ) → 0 < w → n < 10 ^ w → Text (number n ∷ ts) (digits 10 w n ++ rest)
    go zero l h = absurd (omega arith)
    go (suc w) l h =
        let e = length_digits 10 (suc w) n in
        spelled (digits 10 (suc w) n) rest (omega arith) (in_digits 10 (omega arith) (omega arith) (suc w) n) (decimal_spells w n h) a k

registers_found : AllBelow (λ r. find words (map lower (register_text r)) ≡ some (register r)) 16
unfolding words lower capital decimal width_by
registers_found = refl and refl and refl and refl and refl and refl and refl and refl and refl and refl and refl and refl and refl and refl and refl and refl and none

register_inside : (r : ℕ) → every in_word (register_text r) ≡ true
unfolding in_word digit capital small decimal
register_inside r = in_digits 10 (omega arith) (omega arith) (width r) r

-- a register and the blank before it
register_text_lem : (r : ℕ) → r < 16 → (ts : List Token) (rest : List ℕ) → Apart rest → Text ts rest → Text (register r ∷ ts) (blank ++ (register_text r ++ rest))
unfolding spelling.blank
register_text_lem r h ts rest a k =
    gap refl (spelled (register_text r) rest (omega arith) (register_inside r) (known (find_at words (map lower (register_text r)) (register r) (below registers_found r h))) a k)

last_register : (r : ℕ) → r < 16 → Text (register r ∷ []) (blank ++ register_text r)
last_register r h = rw append-nil at (register_text_lem r h [] [] tt ends)

-- ---- the tree of a line

abbrev pub number_tree : ℕ → Expr
number_tree n = product (factor (literal n))

abbrev pub offset_tree : ℕ → Expr
offset_tree low = cond (ltb low 32768) (number_tree low) (negative (factor (literal (65536 - low))))

abbrev pub instruction_tree : Mnemonic → ℕ → ℕ → ℕ → Instruction
instruction_tree Nop a b low = nop
instruction_tree Halt a b low = halt
instruction_tree Const a b low = constant (number_tree low) a
instruction_tree Bnz a b low = branching a (offset_tree low)
instruction_tree (one k) a b low = jumping k a
instruction_tree (two k) a b low = moving k a b
instruction_tree (three k) a b low = computing k a b low

-- only Bnz has a comma
abbrev commas : Mnemonic → Choices
commas Nop = chosen false false
commas Halt = chosen false false
commas Const = chosen false false
commas Bnz = chosen true false
commas (one k) = chosen false false
commas (two k) = chosen false false
commas (three k) = chosen false false

offset_text_lem : (low : ℕ) → Text (write_e (offset_tree low)) (offset_text low)
unfolding offset_text signs
offset_text_lem low = go (ltb low 32768)
  where
    alone : (n : ℕ) → Text (number n ∷ []) (decimal n)
    alone n = rw append-nil at (decimal_text n [] [] tt ends)

    go : (b : Bool) → Text (write_e (cond b (number_tree low) (negative (factor (literal (65536 - low)))))) (cond b (decimal low) (bytes "-" ++ decimal (65536 - low)))
    go true = alone low
    go false = sign (find_at signs (bytes "-") minus refl) (alone (65536 - low))

-- a name that is read as a mnemonic, with what stands behind it
abbrev Front : Mnemonic → List ℕ → Type 0
Front m n = (ts : List Token) (rest : List ℕ) → Apart rest → Text ts rest → Text (mnemonic m ∷ ts) (n ++ rest)

named : (op : ℕ) → op < 14 → Front (mnemonic_of op) (name op)
named op h ts rest a k =
    let f = both (ltb 0 (length (name op))) (every in_word (name op)) (name_inside op h) in
    spelled (name op) rest (ltb-true _ _ f.0) f.1 (known (find_at words (map lower (name op)) (mnemonic (mnemonic_of op)) (name_found op h))) a k

regroup : (n p x q y r z : List ℕ) → n ++ (p ++ (x ++ (q ++ (y ++ (r ++ z))))) ≡ n ++ (p ++ x ++ q ++ y ++ r ++ z)
regroup n p x q y r z = simp append_assoc

-- the registers that a mnemonic uses are registers
instruction_text : (m : Mnemonic) (n : List ℕ) → Front m n → (a b low : ℕ) → Fits m a b low
    → Text (write_i (instruction_tree m a b low) (commas m)) (n ++ behind m a b low)
unfolding in_word digit capital small spelling.blank signs
instruction_text Nop n front a b low f = front [] [] tt ends
instruction_text Halt n front a b low f = front [] [] tt ends
instruction_text Const n front a b low f =
    let e : n ++ (blank ++ (decimal low ++ (blank ++ register_text a))) ≡ n ++ behind Const a b low = simp append_assoc in
    subst (Text _) e (front _ _ refl (gap refl (decimal_text low _ _ refl (last_register a (omega arith)))))
instruction_text Bnz n front a b low f =
    let e : n ++ (blank ++ (register_text a ++ (bytes ", " ++ offset_text low))) ≡ n ++ behind Bnz a b low = simp append_assoc in
    subst (Text _) e (front _ _ refl (register_text_lem a (omega arith) _ _ refl (sign (find_at signs (bytes ",") comma refl) (gap refl (offset_text_lem low)))))
instruction_text (one k) n front a b low f = front _ _ refl (last_register a (omega arith))
instruction_text (two k) n front a b low f =
    let e : n ++ (blank ++ (register_text a ++ (blank ++ register_text b))) ≡ n ++ behind (two k) a b low = simp append_assoc in
    subst (Text _) e (front _ _ refl (register_text_lem a (omega arith) _ _ refl (last_register b (omega arith))))
instruction_text (three k) n front a b low f =
    subst (Text _) (regroup n blank (register_text a) blank (register_text b) blank (register_text low))
    (front _ _ refl (register_text_lem a (omega arith) _ _ refl (register_text_lem b (omega arith) _ _ refl (last_register low (omega arith)))))

number_text_lem : (w : ℕ) → w < 4294967296 → Text (number w ∷ []) (number_text w)
unfolding in_word digit small capital
number_text_lem w h =
    rw append-nil at (spelled (number_text w) [] (omega arith) (in_digits 16 (omega arith) (omega arith) 8 w) (hexadecimal_spells 7 w (omega arith)) tt ends)

-- ---- neither a comment nor an end of a line is within

abbrev plain : ℕ → Bool
plain b = not (eqb b feed) && not (eqb b 59)

passes_plain : (test : ℕ → Bool) → test feed ≡ false → test 59 ≡ false → (b : ℕ) → test b ≡ true → plain b ≡ true
passes_plain test f s b h = simp (ne_eqb b feed (λ e. clash h (ap test e ∙ f)), ne_eqb b 59 (λ e. clash h (ap test e ∙ s)))

every_plain : (w rest : List ℕ) → every in_word w ≡ true → every plain rest ≡ true → every plain (w ++ rest) ≡ true
unfolding in_word digit small capital
every_plain [] rest h k = k
every_plain (b ∷ w) rest h k = let z = both (in_word b) (every in_word w) h in simp (passes_plain in_word refl refl b z.0, every_plain w rest z.1 k)

signs_plain : each (λ r. every plain r.key) signs ≡ true
unfolding signs
signs_plain = refl

text_plain : {ts : List Token} {bs : List ℕ} → Text ts bs → every plain bs ≡ true
unfolding spelling.blank
text_plain ends = refl
text_plain (gap {b = b} e k) = simp (passes_plain spelling.blank refl refl b e, text_plain k)
text_plain (sign {b = b} {t = t} a k) =
    simp ((both (plain b) true (at_each (λ r. every plain r.key) signs (b ∷ []) t signs_plain a)).0, text_plain k)
text_plain (word b w rest e h s a k) = ap (every plain) e ∙ every_plain (b ∷ w) rest h (text_plain k)

plain_uncommented : (bs : List ℕ) → every plain bs ≡ true → uncommented bs ≡ bs
plain_uncommented [] h = refl
plain_uncommented (b ∷ bs) h =
    let z = both (plain b) (every plain bs) h in
    let c = not-true (eqb b 59) (both (not (eqb b feed)) (not (eqb b 59)) z.0).1 in
    simp (c, plain_uncommented bs z.1)

plain_lines : (bs rest : List ℕ) → every plain bs ≡ true → lines (bs ++ feed ∷ rest) ≡ bs ∷ lines rest
unfolding lines
plain_lines [] rest h = refl
plain_lines (b ∷ bs) rest h =
    let z = both (plain b) (every plain bs) h in
    let c = not-true (eqb b feed) (both (not (eqb b feed)) (not (eqb b 59)) z.0).0 in
    simp (c, plain_lines bs rest z.1)

-- ---- so a line is read

-- these bytes are one line, which is t
pub record Reads (bs : List ℕ) (t : Line) : Type 0 where
  pub read : reading bs ≡ got t
  pub alone : (rest : List ℕ) → lines (bs ++ feed ∷ rest) ≡ bs ∷ lines rest

text_reads : (bs : List ℕ) (t : Line) (c : Choices) → depth t ≤ deepest → Text (write t c) bs → Reads bs t
unfolding reading
text_reads bs t c d k =
    let p = text_plain k in
    record {
      read = (source_exactly deepest bs t).1 (record { tokens = write t c; spelled = subst (Text (write t c)) (sym (plain_uncommented bs p)) k; says = record { choices = c; written = refl; shallow = d } });
      alone = λ rest. plain_lines bs rest p;
    }

pub number_reads : (w : ℕ) → w < 4294967296 → Reads (number_text w) (tree.value (number_tree w))
number_reads w h = text_reads (number_text w) (tree.value (number_tree w)) (chosen false false) (omega arith) (number_text_lem w h)

-- no bracket is in an instruction
shallow : (m : Mnemonic) (a b low : ℕ) → depth_i (instruction_tree m a b low) ≤ deepest
shallow Nop a b low = omega arith
shallow Halt a b low = omega arith
shallow Const a b low = omega arith
shallow Bnz a b low = picks (ltb low 32768) _ _ (λ (e : Expr). depth_e e ≤ deepest) (λ e. omega arith) (λ e. omega arith)
shallow (one k) a b low = omega arith
shallow (two k) a b low = omega arith
shallow (three k) a b low = omega arith

pub instruction_reads : (op a b low : ℕ) → Allowed op a b low
    → Reads (name op ++ operands (instruction op a b low)) (tree.instruction (instruction_tree (mnemonic_of op) a b low))
instruction_reads op a b low h =
    text_reads _ _ (commas (mnemonic_of op)) (shallow (mnemonic_of op) a b low)
    (subst (Text _) (ap (λ (x : List ℕ). name op ++ x) (sym (operands_behind op a b low h)))
    (instruction_text (mnemonic_of op) (name op) (named op h.known) a b low (mnemonic_fits op a b low h)))
