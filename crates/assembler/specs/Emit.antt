-- The second pass: what a line comes to, as the code reads it.
use Rattle.std.specs.Prelude as rust
use Rattle.std.specs.Prelude.{cond, List, ℕ, ltb, take, Some, None, Result, Ok, Err}
use Rattle.std.proofs.Math.Option.{Option, none, some}
use Rattle.common.specs.Answers as answer
use Rattle.answers.specs.declared.Refusal.{Refusal}
use Rattle.answers.specs.Numbers.{number}
use Rattle.grammar.specs.Trees.{nothing, labelled, instruction, value}
use Rattle.grammar.specs.Reading.Reader.{got, fault, deep}
use Rattle.grammar.specs.Laws.Runs.{name_at, line_at}
use Rattle.sources.specs.Texts.{Reading, reading}
use Rattle.sources.specs.Labels.{Site}
use Rattle.sources.specs.Meaning.{most, Outcome, empty, word, at_fault, Meaning, says, refused}
use Rattle.tokens.specs.Streams.{token_at}
use Rattle.answers.specs.declared.Fault.{Fault}
use Rattle.assembler.specs.Holding.{word_at}

-- what is seen of a judged line
abbrev pub outcome_of : Result (rust.Option ℕ) Refusal → Outcome
outcome_of (Ok None) = empty
outcome_of (Ok (Some w)) = word w
outcome_of (Err refusal) = at_fault (number refusal)

-- .. and of one that holds no word
abbrev pub passed : {A : Type 0} → Result A Refusal → Outcome
passed (Ok _) = empty
passed (Err refusal) = at_fault (number refusal)

-- a word, if there is room for it
abbrev pub roomed : ℕ → Result ℕ Refusal → Outcome
roomed count (Ok w) = cond (ltb count most) (word w) (at_fault answer.many_words)
roomed count (Err refusal) = at_fault (number refusal)

-- a label that is defined first there, on a line that these many stand before
abbrev pub once : ℕ → Option Site → Outcome
once line (some s) = cond (ltb s.line line) (at_fault answer.label_twice) empty
once line none = empty

-- `labels` tells where a label is defined first; these many lines and words stand before the line
module _ (text : List ℕ) (labels : List ℕ → Option Site) (at : ℕ) where
  -- a line before must not define the label too
  unfoldable pub label_at : ℕ → Outcome
  label_at line = once line (labels (name_at text (token_at text at).place))

  abbrev pub judged : ℕ → ℕ → Reading → Outcome
  judged line count (got nothing) = empty
  judged line count (got (labelled x)) = label_at line
  judged line count (got (instruction i)) = roomed count (word_at text labels count at)
  judged line count (got (value e)) = roomed count (word_at text labels count at)
  judged line count fault = at_fault answer.no_line
  judged line count deep = at_fault answer.too_deep

  unfoldable pub judged_at : ℕ → ℕ → Outcome
  judged_at line count = judged line count (reading (line_at text at))

-- what a text means, as the second pass hands it out
abbrev pub emitted_of : Result ℕ Fault → List ℕ → Meaning
emitted_of (Ok count) words = says (take count words)
emitted_of (Err f) words = refused (number f.refusal) f.line
