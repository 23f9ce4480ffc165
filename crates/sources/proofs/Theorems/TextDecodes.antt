-- The words that a text says, line by line: instruction lines decode to what they say, data lines are their values.
use Rattle.std.specs.Prelude.{◌≡◌, refl, Bool, true, false, List, ℕ, ◌^◌, ◌≤◌, ◌<◌, pos, length, get_or}
use Rattle.std.proofs.Common.{sym, ap, ◌∙◌, subst, arith}
use Rattle.common.specs.Answers as answer
use Rattle.grammar.specs.Trees.{Expr, Instruction, nothing, labelled, instruction, value}
use Rattle.grammar.specs.Grammar.{deepest}
use Rattle.grammar.specs.Reading.Reader.{got, fault, deep}
use Rattle.grammar.specs.Sources.{SourceSays}
use Rattle.sources.specs.Values.{Valued, is}
use Rattle.sources.specs.Texts.{lines, Reading, reading, readings}
use Rattle.sources.specs.Labels.{words_in, defined, address}
use Rattle.sources.specs.Words.{instruction_word, datum}
use Rattle.sources.specs.Meaning.{Outcome, empty, word, at_fault, placed, outcome, says, meaning}
use Rattle.sources.specs.Laws.OnTheWay.{plain_e}
use Rattle.sources.proofs.Laws.LineNumbers.{bytes_line}
use Rattle.sources.proofs.Laws.Outcomes.{Good}
use Rattle.sources.proofs.Laws.HeldWords.{placed_good}
use Rattle.sources.proofs.Theorems.TextNumbers.{bytes_at, lines_before, outcome_at, says_exactly, line_of_word}
use Rattle.sources.proofs.Laws.Registers.{read_registers}
use Rattle.sources.proofs.Theorems.Decodes.{Decodes, instruction_decodes, datum_is}

module _ (text ws : List ℕ) (said : meaning text ≡ says ws) where
  module _ (k : ℕ) (least : 1 ≤ k) (there : k ≤ length (lines text)) where
    -- line k's own address
    abbrev own : ℕ
    own = words_in (lines_before text k)

    -- the word that stands there, of a line that holds one
    stands : (v : Valued ℕ) → outcome_at text k ≡ placed own v → v ≡ is (get_or ws own 0)
    stands v e =
        let s = (says_exactly text ws).0 said in
        let p = placed_good own v (subst Good e (s.good k least there)) in
        p.valued ∙ ap is (sym (s.each k p.number least there (e ∙ p.placed_is)))

    -- where the grammar has line k as an instruction, the word at its address decodes to the line's opcode and fields as valued
    pub instruction_line : (i : Instruction) → SourceSays deepest (bytes_at text k) (instruction i) → Decodes (address (readings text)) own i (get_or ws own 0)
    instruction_line i spelled =
        let e = (bytes_line (bytes_at text k) (instruction i)).1 spelled in
        instruction_decodes (address (readings text)) own i (read_registers (bytes_at text k) i spelled) (get_or ws own 0)
        (stands (instruction_word (address (readings text)) own i) (ap (outcome (readings text) (lines_before text k)) e))

    -- where it has line k as a data word, the word at its address is the expression's plain value
    pub data_line : (e : Expr) → SourceSays deepest (bytes_at text k) (value e)
        → (plain_e (address (readings text)) own e ≡ pos (get_or ws own 0)) × (get_or ws own 0 < 2 ^ 32)
    data_line e spelled =
        datum_is (address (readings text)) own e (get_or ws own 0)
        (stands (datum (address (readings text)) own e) (ap (outcome (readings text) (lines_before text k)) ((bytes_line (bytes_at text k) (value e)).1 spelled)))

  -- every word fits 32 bits
  pub words_small : (a : ℕ) → a < length ws → get_or ws a 0 < 2 ^ 32
  words_small a b =
      let h = line_of_word text ws said a b in
      subst (λ (n : ℕ). get_or ws n 0 < 2 ^ 32) h.address_is (go h.line h.least h.there h.holds_it (reading (bytes_at text h.line)) refl)
    where
      not_word : {A : Type 0} {x : Outcome} {w : ℕ} → x ≡ empty → x ≡ word w → A
      not_word p q = let z : ◌≡◌ {A = ℕ} 0 1 = cc in absurd (omega arith)

      not_fault : {A : Type 0} {x : Outcome} {n w : ℕ} → x ≡ at_fault n → x ≡ word w → A
      not_fault p q = let z : ◌≡◌ {A = ℕ} 0 1 = cc in absurd (omega arith)

      go : (k : ℕ) → 1 ≤ k → k ≤ length (lines text) → outcome_at text k ≡ word (get_or ws a 0) → (l : Reading) → reading (bytes_at text k) ≡ l → get_or ws (words_in (lines_before text k)) 0 < 2 ^ 32
      go k least there h (got nothing) e = not_word (ap (outcome (readings text) (lines_before text k)) e) h
      go k least there h (got (labelled x)) e = label (defined x (lines_before text k)) refl
        where
          label : (b : Bool) → defined x (lines_before text k) ≡ b → get_or ws (words_in (lines_before text k)) 0 < 2 ^ 32
          label true d = not_fault {n = answer.label_twice} (ap (outcome (readings text) (lines_before text k)) e ∙ rw d refl) h
          label false d = not_word (ap (outcome (readings text) (lines_before text k)) e ∙ rw d refl) h
      go k least there h (got (instruction i)) e = (instruction_line k least there i ((bytes_line (bytes_at text k) (instruction i)).0 e)).small
      go k least there h (got (value x)) e = (data_line k least there x ((bytes_line (bytes_at text k) (value x)).0 e)).1
      go k least there h fault e = not_fault (ap (outcome (readings text) (lines_before text k)) e) h
      go k least there h deep e = not_fault (ap (outcome (readings text) (lines_before text k)) e) h
