-- Each line of a listing holds its word.
use Rattle.std.specs.Prelude.{◌≡◌, refl, Bool, true, false, List, ◌++◌, ℕ, suc, ◌-◌, ◌<◌, ◌≤◌, ltb, eqb, pos, neg_ℤ}
use Rattle.std.proofs.Common.{sym, ap, ◌∙◌, subst, arith, ltb-true, ltb-false, lt-ltb, le-leb, eqb-true}
use Rattle.std.proofs.Math.Option.{Option}
use Rattle.common.specs.Answers as answer
use Rattle.common.specs.Words.{Decoded, op_of, a_of, b_of, low_of, pack, instruction, decode}
use Rattle.common.proofs.Laws.WordLaws.{Allowed, allowed_is, decode_0}
use Rattle.grammar.specs.Tokens.{Mnemonic, Nop, Halt, Const, Bnz, one, two, three, opcode}
use Rattle.grammar.specs.Trees as tree
use Rattle.grammar.specs.Trees.{Line}
use Rattle.grammar.specs.Reading.Reader.{got}
use Rattle.grammar.proofs.Laws.Tables.{picks}
use Rattle.sources.specs.Values.{is, bounded, lies, after}
use Rattle.sources.specs.Texts.{Reading}
use Rattle.sources.specs.Labels.{holds, words_in, address}
use Rattle.sources.specs.Words.{in_field, displacement, instruction_word}
use Rattle.sources.specs.Meaning.{word, most, placed, outcome}
use Rattle.sources.specs.Listing.{operands, number_text, word_text}
use Rattle.sources.proofs.Listings.ListingRows.{Fits, mnemonic_of, name, mnemonic_number, mnemonic_fits}
use Rattle.sources.proofs.Listings.ListingLines.{number_tree, offset_tree, instruction_tree, Reads, number_reads, instruction_reads}

-- ---- what holds of each word's text

decoded : (w : ℕ) → Allowed (op_of w) (a_of w) (b_of w) (low_of w) → decode w ≡ instruction (op_of w) (a_of w) (b_of w) (low_of w)
unfolding decode
decoded w h = simp (allowed_is _ _ _ _ h)

pub of_word : (w : ℕ) (P : List ℕ → Type 0) → (Allowed (op_of w) (a_of w) (b_of w) (low_of w) → P (name (op_of w) ++ operands (instruction (op_of w) (a_of w) (b_of w) (low_of w))))
    → P (number_text w) → P (word_text w)
unfolding word_text
of_word w P f n =
    picks (eqb (decode w).answer answer.done) (name (decode w).op ++ operands (decode w)) (number_text w) P
    (λ e. let k = (decode_0 w).0 (eqb-true _ _ e) in subst (λ (i : Decoded). P (name i.op ++ operands i)) (sym (decoded w k)) (f k)) (λ e. n)

-- ---- numbers in their fields

forward_field : (below above size n : ℕ) → n ≤ above → n ≤ 4294967295 → after (in_field below above size) (bounded (pos n)) ≡ is n
unfolding in_field bounded lies
forward_field below above size n h k = simp (le-leb n 4294967295 k, le-leb n above h)

back_field : (below above size n : ℕ) → suc n ≤ below → suc n ≤ 2147483648
    → after (in_field below above size) (after (λ a. bounded (neg_ℤ a)) (bounded (pos (suc n)))) ≡ is (size - suc n)
unfolding in_field bounded lies
back_field below above size n h k = simp (le-leb (suc n) 4294967295 (omega arith), le-leb (suc n) 2147483648 k, le-leb (suc n) below h)

module _ (labels : List ℕ → Option ℕ) (dot : ℕ) where
  offset_is : (low : ℕ) → low < 65536 → displacement labels dot (offset_tree low) ≡ is low
  offset_is low h = go (ltb low 32768) refl
    where
      go : (b : Bool) → ltb low 32768 ≡ b → displacement labels dot (offset_tree low) ≡ is low
      go true e = let l = ltb-true low 32768 e in simp e (forward_field 32768 32767 65536 low (omega arith) (omega arith))
      go false e =
          let l = ltb-false low 32768 e in
          let j : 65536 - low ≡ suc (65535 - low) = omega arith in
          let k : 65536 - suc (65535 - low) ≡ low = omega arith in
          simp (e, j) (back_field 32768 32767 65536 (65535 - low) (omega arith) (omega arith) ∙ ap is k)

  tree_is : (m : Mnemonic) (a b low : ℕ) → Fits m a b low
      → instruction_word labels dot (instruction_tree m a b low) ≡ is (pack (opcode m) a b low)
  tree_is Nop a b low f = ap is (omega arith)
  tree_is Halt a b low f = ap is (omega arith)
  tree_is Const a b low f = simp (forward_field 0 65535 65536 low f.low_most (omega arith)) (ap is (omega arith))
  tree_is Bnz a b low f = simp (offset_is low (omega arith)) (ap is (omega arith))
  tree_is (one k) a b low f = ap is (omega arith)
  tree_is (two k) a b low f = ap is (omega arith)
  tree_is (three k) a b low f = refl

-- ---- a line that holds one word

in_bounds : (before : ℕ) → before < most → (w : ℕ) → placed before (is w) ≡ word w
in_bounds before h w = simp (lt-ltb before most h)

pub record Holds (w : ℕ) (bs : List ℕ) : Type 0 where
  pub line : Line
  pub reads : Reads bs line
  pub one_word : holds (got line) ≡ 1
  pub comes : (all before : List Reading) → words_in before < most → outcome all before (got line) ≡ word w

instruction_holds : (op a b low w : ℕ) → pack op a b low ≡ w → Allowed op a b low → Holds w (name op ++ operands (instruction op a b low))
instruction_holds op a b low w e h =
    record {
      line = tree.instruction (instruction_tree (mnemonic_of op) a b low);
      reads = instruction_reads op a b low h;
      one_word = refl;
      comes = λ all before l.
          ap (placed (words_in before)) (tree_is (address all) (words_in before) (mnemonic_of op) a b low (mnemonic_fits op a b low h) ∙ ap (λ (k : ℕ). is (pack k a b low)) (mnemonic_number op a b low h) ∙ ap is e)
          ∙ in_bounds (words_in before) l w;
    }

number_holds : (w : ℕ) → w < 4294967296 → Holds w (number_text w)
number_holds w h =
    record {
      line = tree.value (number_tree w);
      reads = number_reads w h;
      one_word = refl;
      comes = λ all before l. ap (placed (words_in before)) (forward_field 0 4294967295 4294967296 w (omega arith) (omega arith)) ∙ in_bounds (words_in before) l w;
    }

pub word_holds : (w : ℕ) → w < 4294967296 → Holds w (word_text w)
word_holds w h = of_word w (Holds w) (λ k. instruction_holds (op_of w) (a_of w) (b_of w) (low_of w) w (omega arith) k) (number_holds w h)
