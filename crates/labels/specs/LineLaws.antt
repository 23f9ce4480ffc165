-- What the line at a place says, by the tokens from there on; and what its shape tells.
use Rattle.std.specs.Prelude.{◌≡◌, refl, Bool, true, false, List, [], ◌∷◌, ◌≢◌, ℕ, ◌≤◌, eqb}
use Rattle.std.proofs.Common.{sym, ap, ◌∙◌, arith}
use Rattle.common.specs.Instructions.{bit}
use Rattle.grammar.specs.Tokens.{name, colon}
use Rattle.grammar.specs.Trees.{Line, nothing, labelled, instruction, value}
use Rattle.grammar.specs.Grammar.{deepest, Says}
use Rattle.grammar.specs.Reading.Reader.{got, fault, deep}
use Rattle.grammar.specs.Reading.Lexer.{same}
use Rattle.grammar.specs.Sources.{SourceSays}
use Rattle.grammar.proofs.Laws.SourceVerdicts.{source_exactly}
use Rattle.grammar.proofs.Laws.Sound.{sound}
use Rattle.grammar.specs.Reading.Shapes.{shape_of}
use Rattle.grammar.specs.Laws.Runs.{name_at, line_at}
use Rattle.sources.specs.Texts.{Reading, reading}
use Rattle.sources.specs.Labels.{holds, defines}
use Rattle.tokens.specs.Streams.{Handed, stream, token_at}
use Rattle.tokens.specs.StreamLaws.{stream_line}
use Rattle.tokens.specs.Heads.{head}
use Rattle.labels.specs.Locating.{held_by}

pub held_holds : (l : Reading) → held_by (shape_of l) ≡ holds l
unfolding held_by
held_holds (got nothing) = refl
held_holds (got (labelled x)) = refl
held_holds (got (instruction i)) = refl
held_holds (got (value e)) = refl
held_holds fault = refl
held_holds deep = refl

pub held_small : (shape k : ℕ) → k ≡ held_by shape → k ≤ 1
unfolding held_by
held_small shape k e = go (eqb shape 2) e
  where
    go : (b : Bool) → k ≡ bit b → k ≤ 1
    go true h = omega arith
    go false h = omega arith

pub defines_none : (x : List ℕ) (l : Reading) (shape : ℕ) → shape ≡ shape_of l → shape ≢ 1 → false ≡ defines x l
defines_none x (got nothing) shape e n = refl
defines_none x (got (labelled y)) shape e n = absurd (n e)
defines_none x (got (instruction i)) shape e n = refl
defines_none x (got (value v)) shape e n = refl
defines_none x fault shape e n = refl
defines_none x deep shape e n = refl

module _ (text : List ℕ) (at : ℕ) where
  -- by its bytes
  pub line_source : (t : Line) → reading (line_at text at) ≡ got t → SourceSays deepest (line_at text at) t
  unfolding reading
  line_source t e = (source_exactly deepest (line_at text at) t).0 e

  -- the tokens from there on are the line's
  pub line_says : (t : Line) → reading (line_at text at) ≡ got t → Says deepest (stream text at) t
  unfolding reading
  line_says t e = sound deepest (stream text at) t (rw (stream_line text at) e)

  pub label_named : (x : List ℕ) → reading (line_at text at) ≡ got (labelled x) → name_at text (token_at text at).place ≡ x
  label_named x e = sym ((head text at (name x) (colon ∷ []) (line_says (labelled x) e).written).named x refl)

  pub defines_name : (x : List ℕ) (shape : ℕ) (t : Handed) (r : Bool) → shape ≡ shape_of (reading (line_at text at)) → shape ≡ 1
      → t ≡ token_at text at → r ≡ same x (name_at text t.place) → r ≡ defines x (reading (line_at text at))
  defines_name x shape t r s o e h = go (reading (line_at text at)) refl s
    where
      go : (l : Reading) → reading (line_at text at) ≡ l → shape ≡ shape_of l → r ≡ defines x l
      go (got nothing) k s = absurd (omega arith)
      go (got (labelled y)) k s = h ∙ ap (λ (u : Handed). same x (name_at text u.place)) e ∙ ap (same x) (label_named y k)
      go (got (instruction i)) k s = absurd (omega arith)
      go (got (value v)) k s = absurd (omega arith)
      go fault k s = absurd (omega arith)
      go deep k s = absurd (omega arith)
