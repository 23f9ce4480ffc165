-- Each number of a line is told exactly on its condition.
use Rattle.std.specs.Prelude.{◌≡◌, refl, Bool, true, false, cond, ◌↔◌, ◌⊎◌, ℕ, ◌≤◌, ltb, eqb}
use Rattle.std.proofs.Common.{sym, ap, ◌∙◌, subst, arith, ltb-false, le-ltb}
use mathlib.Core.List.{List, Memᴰ}
use Rattle.std.proofs.Math.Logic as logic
use Rattle.std.proofs.Math.Option.{some}
use Rattle.std.proofs.lemmas.Bool.{eqb-false}
use Rattle.common.specs.Answers as answer
use Rattle.grammar.specs.Trees.{Expr, Instruction, Line, nothing, labelled, instruction, value}
use Rattle.grammar.specs.Grammar.{deepest}
use Rattle.grammar.specs.Reading.Reader.{got, fault, deep}
use Rattle.grammar.proofs.Laws.Tables.{none_not_some}
use Rattle.grammar.specs.Sources.{SourceSays, SourceTooDeep}
use Rattle.grammar.proofs.Laws.SourceVerdicts.{source_exactly, source_deep, source_fault}
use Rattle.sources.specs.Values.{Valued, is, unknown, outside, after}
use Rattle.sources.specs.Texts.{Reading, reading}
use Rattle.sources.specs.Labels.{holds, words_in, defined, address}
use Rattle.sources.specs.Words.{instruction_word, datum}
use Rattle.sources.specs.Meaning.{Outcome, empty, word, at_fault, most, placed, outcome}
use Rattle.sources.specs.Laws.OnTheWay.{names_e, Within, plain_e, Leaves}
use Rattle.sources.proofs.Laws.ValueLaws.{field_unknown, field_outside}
use Rattle.sources.proofs.Laws.LabelLaws.{DefinedIn, defined_exactly, some_address, no_address}
use Rattle.sources.proofs.Laws.Operands.{Operand, operand_of, worth, Word, bare, around, instruction_word_lem, data_word}

-- ---- the conditions of a line behind the lines `before`, where the lines `all` are the text

module _ (all before : List Reading) where
  -- 51: its expression uses a label that no line of the text defines
  pub record UnknownLabel (l : Reading) : Type 0 where
    pub operand : Operand
    pub has : operand_of l ≡ some operand
    pub name : List ℕ
    pub used : Memᴰ name (names_e operand.expression)
    pub nowhere : DefinedIn name all → ⊥

  -- 52: it defines a label that a line before defines
  pub record LabelTwice (l : Reading) : Type 0 where
    pub name : List ℕ
    pub defines : l ≡ got (labelled name)
    pub before_too : DefinedIn name before

  -- 53: each label of its expression is defined, and some value on the way leaves its bounds or the last does not fit its field
  pub record ValueOutside (l : Reading) : Type 0 where
    pub operand : Operand
    pub has : operand_of l ≡ some operand
    pub known : (x : List ℕ) → Memᴰ x (names_e operand.expression) → DefinedIn x all
    pub leaves : Leaves (address all) (words_in before) operand.expression
        ⊎ (Within operand.below operand.above (plain_e (address all) (words_in before) operand.expression) → ⊥)

  -- 55: it holds a word, behind 2,048 words or more, and has no lower number
  pub record ManyWords (l : Reading) : Type 0 where
    pub word : holds l ≡ 1
    pub full : 2048 ≤ words_in before
    pub known : UnknownLabel l → ⊥
    pub inside : ValueOutside l → ⊥

  pub data Faulty (l : Reading) (n : ℕ) : Type 0 where
    no_line : n ≡ answer.no_line → l ≡ fault → Faulty l n
    unknown_label : n ≡ answer.unknown_label → UnknownLabel l → Faulty l n
    label_twice : n ≡ answer.label_twice → LabelTwice l → Faulty l n
    value_outside : n ≡ answer.value_outside → ValueOutside l → Faulty l n
    too_deep : n ≡ answer.too_deep → l ≡ deep → Faulty l n
    many_words : n ≡ answer.many_words → ManyWords l → Faulty l n

  -- ---- what the operand is worth

  abbrev worth_of : Operand → Valued ℕ
  worth_of o = worth (address all) (words_in before) o

  module _ (l : Reading) (o : Operand) (has : operand_of l ≡ some o) where
    unknown_exactly : (worth_of o ≡ unknown) ↔ UnknownLabel l
    unknown_exactly =
        let f = field_unknown (address all) (words_in before) o.below o.above o.size o.expression in (
          λ h. let u = f.0 h in record { operand = o; has = has; name = u.name; used = u.used; nowhere = (no_address u.name all).0 u.no_number },
          λ u.
              let same : u.operand ≡ o = let e = u.has in cc in
              let used = subst (λ (p : Operand). Memᴰ u.name (names_e p.expression)) same u.used in
              f.1 (record { name = u.name; used = used; no_number = (no_address u.name all).1 u.nowhere }),
        )

    outside_exactly : (worth_of o ≡ outside) ↔ ValueOutside l
    outside_exactly = (
      λ h. let v = (field_outside (address all) (words_in before) o.below o.above o.size o.expression).0 h in record { operand = o; has = has; known = λ x m. (some_address x all).1 (v.0 x m); leaves = v.1 },
      λ v.
          let same : v.operand ≡ o = let e = v.has in cc in
          let p = v.operand in
          sym (ap worth_of same) ∙ (field_outside (address all) (words_in before) p.below p.above p.size p.expression).1 (λ x m. (some_address x all).0 (v.known x m), v.leaves),
    )

  -- ---- word lines

  abbrev comes : Reading → Outcome
  comes l = outcome all before l

  record WordLine (l : Reading) : Type 0 where
    worth : Valued ℕ
    form : Word (address all) (words_in before) (operand_of l) worth
    one : holds l ≡ 1
    come : comes l ≡ placed (words_in before) worth

  instruction_line : (i : Instruction) → WordLine (got (instruction i))
  instruction_line i =
      record { worth = instruction_word (address all) (words_in before) i; form = instruction_word_lem (address all) (words_in before) i; one = refl; come = refl }

  data_line : (e : Expr) → WordLine (got (value e))
  data_line e = record { worth = datum (address all) (words_in before) e; form = data_word (address all) (words_in before) e; one = refl; come = refl }

  word_line : (l : Reading) → holds l ≡ 1 → WordLine l
  word_line (got nothing) h = absurd (omega arith)
  word_line (got (labelled x)) h = absurd (omega arith)
  word_line (got (instruction i)) h = instruction_line i
  word_line (got (value e)) h = data_line e
  word_line fault h = absurd (omega arith)
  word_line deep h = absurd (omega arith)

  operand_line : (l : Reading) (o : Operand) → operand_of l ≡ some o → WordLine l
  operand_line (got nothing) o h = none_not_some refl h
  operand_line (got (labelled x)) o h = none_not_some refl h
  operand_line (got (instruction i)) o h = instruction_line i
  operand_line (got (value e)) o h = data_line e
  operand_line fault o h = none_not_some refl h
  operand_line deep o h = none_not_some refl h

  -- a refusal of the operand is the line's
  refused_operand : (l : Reading) (o : Operand) (v : Valued ℕ) (n : ℕ) → operand_of l ≡ some o → worth_of o ≡ v
      → ((put : ℕ → ℕ) → placed (words_in before) (after (λ m. is (put m)) v) ≡ at_fault n) → comes l ≡ at_fault n
  refused_operand l o v n e w k = let line = operand_line l o e in line.come ∙ go line.worth line.form
    where
      go : (x : Valued ℕ) → Word (address all) (words_in before) (operand_of l) x → placed (words_in before) x ≡ at_fault n
      go x (bare m none_there f) = none_not_some none_there e
      go x (around p put there f) =
          let same : p ≡ o = cc in
          ap (placed (words_in before)) (f ∙ ap (after (λ m. is (put m))) (ap worth_of same ∙ w)) ∙ k put

  -- behind 2,048 words a value has no place
  no_place : (w : ℕ) → 2048 ≤ words_in before → placed (words_in before) (is w) ≡ at_fault answer.many_words
  no_place w h = rw (le-ltb (words_in before) most (omega arith)) refl

  many_come : (l : Reading) → ManyWords l → comes l ≡ at_fault answer.many_words
  many_come l m = let line = word_line l m.word in line.come ∙ go line.worth line.form
    where
      of_operand : (p : Operand) (put : ℕ → ℕ) → operand_of l ≡ some p → (x : Valued ℕ) → worth_of p ≡ x
          → placed (words_in before) (after (λ n. is (put n)) x) ≡ at_fault answer.many_words
      of_operand p put there (is n) e = no_place (put n) m.full
      of_operand p put there unknown e = absurd (m.known ((unknown_exactly l p there).0 e))
      of_operand p put there outside e = absurd (m.inside ((outside_exactly l p there).0 e))

      go : (x : Valued ℕ) → Word (address all) (words_in before) (operand_of l) x → placed (words_in before) x ≡ at_fault answer.many_words
      go x (bare w none_there f) = ap (placed (words_in before)) f ∙ no_place w m.full
      go x (around p put there f) = ap (placed (words_in before)) f ∙ of_operand p put there (worth_of p) refl

  faulty_comes : (l : Reading) (n : ℕ) → Faulty l n → comes l ≡ at_fault n
  faulty_comes l n (no_line e f) = ap comes f ∙ ap at_fault (sym e)
  faulty_comes l n (unknown_label e u) =
      refused_operand l u.operand unknown n u.has ((unknown_exactly l u.operand u.has).1 u) (λ put. ap at_fault (sym e))
  faulty_comes l n (label_twice e t) =
      ap comes t.defines ∙ ap (λ (b : Bool). cond b (at_fault answer.label_twice) empty) ((defined_exactly t.name before).1 t.before_too) ∙ ap at_fault (sym e)
  faulty_comes l n (value_outside e v) =
      refused_operand l v.operand outside n v.has ((outside_exactly l v.operand v.has).1 v) (λ put. ap at_fault (sym e))
  faulty_comes l n (too_deep e f) = ap comes f ∙ ap at_fault (sym e)
  faulty_comes l n (many_words e m) = many_come l m ∙ ap at_fault (sym e)

  -- ---- and no other line is at fault

  not_empty : {A : Type 0} {n : ℕ} {x : Outcome} → x ≡ empty → x ≡ at_fault n → A
  not_empty p q = let z : ◌≡◌ {A = ℕ} 0 1 = cc in absurd (omega arith)

  placed_fault : (w n : ℕ) → placed (words_in before) (is w) ≡ at_fault n → (n ≡ answer.many_words) × (2048 ≤ words_in before)
  placed_fault w n h = go (ltb (words_in before) most) refl
    where
      go : (b : Bool) → ltb (words_in before) most ≡ b → (n ≡ answer.many_words) × (2048 ≤ words_in before)
      go true e = let k : word w ≡ at_fault n = rw e at h in let z : ◌≡◌ {A = ℕ} 0 1 = cc in absurd (omega arith)
      go false e = let k : at_fault answer.many_words ≡ at_fault n = rw e at h in let full = ltb-false (words_in before) most e in (cc, omega arith)

  word_faulty : (l : Reading) (n : ℕ) → WordLine l → comes l ≡ at_fault n → Faulty l n
  word_faulty l n line h = go line.worth line.form (sym line.come ∙ h)
    where
      of_operand : (p : Operand) (put : ℕ → ℕ) → operand_of l ≡ some p → (x : Valued ℕ) → worth_of p ≡ x
          → placed (words_in before) (after (λ m. is (put m)) x) ≡ at_fault n → Faulty l n
      of_operand p put there (is m) e k =
          let f = placed_fault (put m) n k in
          many_words f.0 (record {
            word = line.one;
            full = f.1;
            known = λ u. let k = (unknown_exactly l p there).1 u in let z : ◌≡◌ {A = ℕ} 0 1 = cc in omega arith;
            inside = λ v. let k = (outside_exactly l p there).1 v in let z : ◌≡◌ {A = ℕ} 0 1 = cc in omega arith;
          })
      of_operand p put there unknown e k = unknown_label (cc) ((unknown_exactly l p there).0 e)
      of_operand p put there outside e k = value_outside (cc) ((outside_exactly l p there).0 e)

      go : (x : Valued ℕ) → Word (address all) (words_in before) (operand_of l) x → placed (words_in before) x ≡ at_fault n → Faulty l n
      go x (bare w none_there f) k =
          let p = placed_fault w n (ap (placed (words_in before)) (sym f) ∙ k) in
          many_words p.0 (record { word = line.one; full = p.1; known = λ u. none_not_some none_there u.has; inside = λ v. none_not_some none_there v.has })
      go x (around p put there f) k = of_operand p put there (worth_of p) refl (ap (placed (words_in before)) (sym f) ∙ k)

  comes_faulty : (l : Reading) (n : ℕ) → comes l ≡ at_fault n → Faulty l n
  comes_faulty (got nothing) n h = not_empty refl h
  comes_faulty (got (labelled x)) n h = go (defined x before) refl
    where
      go : (b : Bool) → defined x before ≡ b → Faulty (got (labelled x)) n
      go true e = let k : at_fault answer.label_twice ≡ at_fault n = rw e at h in label_twice (cc) (record { name = x; defines = refl; before_too = (defined_exactly x before).0 e })
      go false e = not_empty refl (rw e at h)
  comes_faulty (got (instruction i)) n h = word_faulty (got (instruction i)) n (instruction_line i) h
  comes_faulty (got (value e)) n h = word_faulty (got (value e)) n (data_line e) h
  comes_faulty fault n h = no_line (cc) refl
  comes_faulty deep n h = too_deep (cc) refl

  -- a line is at fault with a number exactly on the number's condition
  pub fault_exactly : (l : Reading) (n : ℕ) → (outcome all before l ≡ at_fault n) ↔ Faulty l n
  fault_exactly l n = (comes_faulty l n, faulty_comes l n)

  -- ---- number by number

  -- the condition of the number that is told
  by_number : {l : Reading} {n : ℕ} {C : Type 0} → (n ≡ answer.no_line → l ≡ fault → C) → (n ≡ answer.unknown_label → UnknownLabel l → C)
      → (n ≡ answer.label_twice → LabelTwice l → C) → (n ≡ answer.value_outside → ValueOutside l → C) → (n ≡ answer.too_deep → l ≡ deep → C)
      → (n ≡ answer.many_words → ManyWords l → C) → Faulty l n → C
  by_number a b c d e f (no_line k h) = a k h
  by_number a b c d e f (unknown_label k h) = b k h
  by_number a b c d e f (label_twice k h) = c k h
  by_number a b c d e f (value_outside k h) = d k h
  by_number a b c d e f (too_deep k h) = e k h
  by_number a b c d e f (many_words k h) = f k h

  -- another number
  other : {A C : Type 0} {j k : ℕ} → eqb j k ≡ false → j ≡ k → A → C
  other {j} {k} d e c = absurd (eqb-false j k d e)

  -- 50: the line is not in the grammar
  pub line_50 : (l : Reading) → (outcome all before l ≡ at_fault answer.no_line) ↔ (l ≡ fault)
  line_50 l = (λ h. by_number (λ e c. c) (other refl) (other refl) (other refl) (other refl) (other refl) (comes_faulty l answer.no_line h), λ c. faulty_comes l answer.no_line (no_line refl c))

  -- 51: its expression uses a label that no line of the text defines
  pub line_51 : (l : Reading) → (outcome all before l ≡ at_fault answer.unknown_label) ↔ UnknownLabel l
  line_51 l = (λ h. by_number (other refl) (λ e c. c) (other refl) (other refl) (other refl) (other refl) (comes_faulty l answer.unknown_label h), λ c. faulty_comes l answer.unknown_label (unknown_label refl c))

  -- 52: it defines a label that a line before it defines
  pub line_52 : (l : Reading) → (outcome all before l ≡ at_fault answer.label_twice) ↔ LabelTwice l
  line_52 l = (λ h. by_number (other refl) (other refl) (λ e c. c) (other refl) (other refl) (other refl) (comes_faulty l answer.label_twice h), λ c. faulty_comes l answer.label_twice (label_twice refl c))

  -- 53: all labels of its expression are defined, and some value on the way is outside its bounds or the last outside its field
  pub line_53 : (l : Reading) → (outcome all before l ≡ at_fault answer.value_outside) ↔ ValueOutside l
  line_53 l = (λ h. by_number (other refl) (other refl) (other refl) (λ e c. c) (other refl) (other refl) (comes_faulty l answer.value_outside h), λ c. faulty_comes l answer.value_outside (value_outside refl c))

  -- 54: it opens a seventeenth bracket behind what begins a line
  pub line_54 : (l : Reading) → (outcome all before l ≡ at_fault answer.too_deep) ↔ (l ≡ deep)
  line_54 l = (λ h. by_number (other refl) (other refl) (other refl) (other refl) (λ e c. c) (other refl) (comes_faulty l answer.too_deep h), λ c. faulty_comes l answer.too_deep (too_deep refl c))

  -- 55: it holds a word, is neither at 51 nor at 53, and 2,048 words or more stand before it
  pub line_55 : (l : Reading) → (outcome all before l ≡ at_fault answer.many_words) ↔ ManyWords l
  line_55 l = (λ h. by_number (other refl) (other refl) (other refl) (other refl) (other refl) (λ e c. c) (comes_faulty l answer.many_words h), λ c. faulty_comes l answer.many_words (many_words refl c))

  -- no other number is told
  pub fault_range : (l : Reading) (n : ℕ) → outcome all before l ≡ at_fault n → (answer.no_line ≤ n) × (n ≤ answer.many_words)
  fault_range l n h =
      by_number (λ e c. (omega arith, omega arith)) (λ e c. (omega arith, omega arith)) (λ e c. (omega arith, omega arith)) (λ e c. (omega arith, omega arith)) (λ e c. (omega arith, omega arith)) (λ e c. (omega arith, omega arith)) (comes_faulty l n h)

  -- ---- of a line's bytes

  -- 50: they are no line of the grammar, and do not open a seventeenth bracket behind what begins one
  pub bytes_50 : (bs : List ℕ) → (outcome all before (reading bs) ≡ at_fault answer.no_line)
      ↔ (((t : Line) → SourceSays deepest bs t → ⊥) × (SourceTooDeep deepest bs → ⊥))
  unfolding reading
  bytes_50 bs = logic.Iff.trans (line_50 (reading bs)) (source_fault deepest bs)

  -- 54: they do
  pub bytes_54 : (bs : List ℕ) → (outcome all before (reading bs) ≡ at_fault answer.too_deep) ↔ SourceTooDeep deepest bs
  unfolding reading
  bytes_54 bs = logic.Iff.trans (line_54 (reading bs)) (source_deep deepest bs)

-- and all other conditions speak of the one line of the grammar that the bytes are
pub bytes_line : (bs : List ℕ) (t : Line) → (reading bs ≡ got t) ↔ SourceSays deepest bs t
unfolding reading
bytes_line bs t = source_exactly deepest bs t
