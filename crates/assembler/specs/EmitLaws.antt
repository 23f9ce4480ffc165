-- What a line comes to, by its shape, as the code comes to it.
use Rattle.std.specs.Prelude as rust
use Rattle.std.specs.Prelude.{◌≡◌, refl, cond, List, ℕ, ◌<◌, ◌≤◌, ltb, Some, None, Result, Ok, Err}
use Rattle.std.proofs.Common.{ap, ◌∙◌, sym, arith, lt-ltb, le-ltb}
use Rattle.std.proofs.Math.Option.{Option, none, some}
use Rattle.common.specs.Answers as answer
use Rattle.answers.specs.declared.Refusal.{Refusal}
use Rattle.answers.specs.declared.Refusal.TheVariants.{ManyWords}
use Rattle.answers.specs.Numbers.{number}
use Rattle.grammar.specs.Trees.{nothing, labelled, instruction, value}
use Rattle.grammar.specs.Reading.Reader.{got, fault, deep}
use Rattle.grammar.specs.Reading.Shapes.{shape_of}
use Rattle.grammar.specs.Laws.Runs.{name_at, line_at}
use Rattle.sources.specs.Texts.{Reading, reading}
use Rattle.sources.specs.Labels.{Site}
use Rattle.sources.specs.Meaning.{most, Outcome, empty, word, at_fault}
use Rattle.syntax.specs.Seen.{line_answer, answer_large, answer_number, shape_below}
use Rattle.tokens.specs.Streams.{Handed, token_at}
use Rattle.label_table.specs.declared.Definition.{Definition}
use Rattle.label_table.specs.Table.{found}
use Rattle.assembler.specs.Holding.{word_at}
use Rattle.assembler.specs.Emit.{roomed, once, label_at, judged, judged_at}

-- ---- a label line, by where its label was found

abbrev pub told : ℕ → rust.Option Definition → Outcome
told line (Some d) = cond (ltb d.line line) (at_fault answer.label_twice) empty
told line None = empty

told_once : (line : ℕ) (o : Option Site) → told line (found o) ≡ once line o
told_once line (some s) = refl
told_once line none = refl

module _ (text : List ℕ) (labels : List ℕ → Option Site) (at line : ℕ) (t : Handed) (e : t ≡ token_at text at) (f : rust.Option Definition) (g : f ≡ found (labels (name_at text t.place))) where
  label_told : told line f ≡ label_at text labels at line
  unfolding label_at
  label_told = rw (← e) (ap (told line) g ∙ told_once line (labels (name_at text t.place)))

  pub label_none : f ≡ None → empty ≡ label_at text labels at line
  label_none i = ap (told line) (sym i) ∙ label_told

  module _ (d : Definition) (i : f ≡ Some d) where
    pub label_twice : d.line < line → at_fault answer.label_twice ≡ label_at text labels at line
    label_twice l = (let k : told line f ≡ at_fault answer.label_twice = rw (i, lt-ltb d.line line l) refl in sym k ∙ label_told)

    pub label_once : line ≤ d.line → empty ≡ label_at text labels at line
    label_once l = (let k : told line f ≡ empty = rw (i, le-ltb d.line line l) refl in sym k ∙ label_told)

-- ---- a line, by its shape

module _ (text : List ℕ) (labels : List ℕ → Option Site) (at line count : ℕ) where
  abbrev Judged : Outcome → Type 0
  Judged o = o ≡ judged_at text labels at line count

  abbrev l : Reading
  l = reading (line_at text at)

  pub judged_empty : 0 ≡ shape_of l → Judged empty
  unfolding judged_at
  judged_empty s = go l s
    where
      go : (m : Reading) → 0 ≡ shape_of m → empty ≡ judged text labels at line count m
      go (got nothing) e = refl
      go (got (labelled x)) e = absurd (omega arith)
      go (got (instruction i)) e = absurd (omega arith)
      go (got (value v)) e = absurd (omega arith)
      go fault e = absurd (omega arith)
      go deep e = absurd (omega arith)

  pub judged_label : 1 ≡ shape_of l → Judged (label_at text labels at line)
  unfolding judged_at
  judged_label s = go l s
    where
      go : (m : Reading) → 1 ≡ shape_of m → label_at text labels at line ≡ judged text labels at line count m
      go (got nothing) e = absurd (omega arith)
      go (got (labelled x)) e = refl
      go (got (instruction i)) e = absurd (omega arith)
      go (got (value v)) e = absurd (omega arith)
      go fault e = absurd (omega arith)
      go deep e = absurd (omega arith)

  pub judged_fault : (refusal : Refusal) → line_answer refusal ≡ shape_of l → Judged (at_fault (number refusal))
  unfolding judged_at
  judged_fault refusal s =
      let below : shape_of l < 100 = shape_below l in
      go l (answer_number refusal (omega arith) ∙ s) (answer_large refusal) s
    where
      go : (m : Reading) → number refusal ≡ shape_of m → 16 < line_answer refusal → line_answer refusal ≡ shape_of m → at_fault (number refusal) ≡ judged text labels at line count m
      go (got nothing) n k e = absurd (omega arith)
      go (got (labelled x)) n k e = absurd (omega arith)
      go (got (instruction i)) n k e = absurd (omega arith)
      go (got (value v)) n k e = absurd (omega arith)
      go fault n k e = ap at_fault n
      go deep n k e = ap at_fault n

  module _ (s : 2 ≡ shape_of l) where
    judged_word : roomed count (word_at text labels count at) ≡ judged_at text labels at line count
    unfolding judged_at
    judged_word = go l s
      where
        go : (m : Reading) → 2 ≡ shape_of m → roomed count (word_at text labels count at) ≡ judged text labels at line count m
        go (got nothing) e = absurd (omega arith)
        go (got (labelled x)) e = absurd (omega arith)
        go (got (instruction i)) e = refl
        go (got (value v)) e = refl
        go fault e = absurd (omega arith)
        go deep e = absurd (omega arith)

    pub judged_refused : (refusal : Refusal) → Err refusal ≡ word_at text labels count at → Judged (at_fault (number refusal))
    judged_refused refusal e = ap (roomed count) e ∙ judged_word

    module _ (w : ℕ) (e : Ok w ≡ word_at text labels count at) where
      pub judged_room : count < most → Judged (word w)
      judged_room k = sym (rw (lt-ltb count most k) refl) ∙ ap (roomed count) e ∙ judged_word

      pub judged_full : most ≤ count → Judged (at_fault (number ManyWords))
      judged_full k = sym (rw (le-ltb count most k) refl) ∙ ap (roomed count) e ∙ judged_word
