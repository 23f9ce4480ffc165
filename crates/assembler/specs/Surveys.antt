-- The survey's steps: behind each line the table holds the labels of the lines so far, and what lies ahead tells the others.
use Rattle.std.specs.Prelude.{◌≡◌, Bool, cond, not, List, ◌≢◌, ℕ, ◌+◌, ◌<◌, ◌≤◌, length, is_some}
use Rattle.std.proofs.Math.Path.{refl, sym}
use Rattle.std.proofs.Common.{ap, ◌∙◌, subst, eqb-true, leb-false, eq-eqb, ne_eqb}
use Rattle.std.proofs.Math.Bool.{true, false}
use Rattle.std.proofs.Math.Option.{Option, none, some}
use Rattle.std.proofs.lemmas.Bool.{eqb-false, not-true, not-false}
use Rattle.std.proofs.Math.Dec.{eqb, leb}
use Rattle.common.proofs.Laws.Tests.{clash}
use Rattle.grammar.specs.Reading.Lexer.{same}
use Rattle.grammar.proofs.Laws.Tables.{same_true}
use Rattle.grammar.specs.Laws.Runs.{name_at, line_at, line_end}
use Rattle.grammar.specs.Reading.Shapes.{shape_of}
use Rattle.sources.specs.Texts.{reading, readings}
use Rattle.sources.specs.Labels.{Site, site, holds, defines, first}
use Rattle.sources.proofs.Laws.FirstLaws.{ahead, ahead_start, ahead_past, ahead_here, ahead_next}
use Rattle.tokens.specs.Streams.{Handed, token_at}
use Rattle.label_table.specs.declared.Table.{Table}
use Rattle.label_table.specs.Table.{most, count, looked, found, empty, inserted}
use Rattle.label_table.specs.Fairness.{Fair}
use Rattle.label_table.specs.Insertions.{fair_empty, looked_empty, fair_insert, looked_insert}
use Rattle.labels.specs.Locating.{held_by, or_else}
use Rattle.labels.specs.LineLaws.{held_holds, defines_none, defines_name}
use Rattle.assembler.specs.Survey.{Noted, noted, noted_at, Surveyed}

-- ---- what the table holds, and what lies ahead

none_there : (o : Option Site) → is_some (found o) ≡ false → o ≡ none
none_there (some s) e = clash refl e
none_there none e = refl

pub record Surveying (text : List ℕ) (table : Table) (at line words : ℕ) : Type 0 where
  pub fair : Fair text table
  pub known : (x : List ℕ) → first x (readings text) ≡ or_else (looked text table x) (ahead text x at line words)

pub survey_starts : (text : List ℕ) (table : Table) → table ≡ empty → Surveying text table 0 0 0
survey_starts text table e =
    rw e
    (record { fair = fair_empty text; known = λ x. sym (rw (looked_empty text x) (ahead_start text x)) })

module _ (text : List ℕ) (table : Table) (at line words : ℕ) (s : Surveying text table at line words) where
  pub survey_ends : length text < at → Surveyed text table true
  survey_ends h x = sym (s.known x ∙ ap (or_else (looked text table x)) (ahead_past text x at line words h))

  -- the survey may end at any line, if the text is asked for what the table does not hold
  survey_stops : Surveyed text table false
  survey_stops x = go (looked text table x) (s.known x)
    where
      go : (o : Option Site) → first x (readings text) ≡ or_else o (ahead text x at line words) → or_else o (first x (readings text)) ≡ first x (readings text)
      go (some t) e = sym e
      go none e = refl

  module _ (h : at ≤ length text) (shape : ℕ) (es : shape ≡ shape_of (reading (line_at text at))) where
    abbrev place : ℕ
    place = (token_at text at).place

    abbrev y : List ℕ
    y = name_at text place

    abbrev Behind : Table → Type 0
    Behind new = Surveying text new (line_end text at + 1) (line + 1) (words + holds (reading (line_at text at)))

    -- the line defines no label, or one that the table has
    passes : ((x : List ℕ) → looked text table x ≡ none → defines x (reading (line_at text at)) ≡ false) → Behind table
    passes f = record { fair = s.fair; known = λ x. s.known x ∙ go x (looked text table x) refl }
      where
        go : (x : List ℕ) (o : Option Site) → looked text table x ≡ o
            → or_else (looked text table x) (ahead text x at line words)
            ≡ or_else (looked text table x) (ahead text x (line_end text at + 1) (line + 1) (words + holds (reading (line_at text at))))
        go x (some t) e = rw e refl
        go x none e = rw e (ahead_next text x at line words h (f x e))

    module _ (label : shape ≡ 1) where
      its_name : (x : List ℕ) → same x y ≡ defines x (reading (line_at text at))
      its_name x = defines_name text at x shape (token_at text at) (same x y) es label refl refl

      -- where the table does not have y, it has no name that is the same
      other : looked text table y ≢ none → (x : List ℕ) → looked text table x ≡ none → defines x (reading (line_at text at)) ≡ false
      other n x e = go (same x y) refl
        where
          go : (b : Bool) → same x y ≡ b → defines x (reading (line_at text at)) ≡ false
          go true d = absurd (n (ap (looked text table) (sym (same_true x y d)) ∙ e))
          go false d = sym (its_name x) ∙ d

      stores : looked text table y ≡ none → count table < most → Behind (inserted text table place line words)
      stores n room = record { fair = fair_insert text table place line words s.fair room; known = λ x. rw (looked_insert text table place line words s.fair room x) (go x (same x y) refl) }
        where
          go : (x : List ℕ) (b : Bool) → same x y ≡ b
              → first x (readings text)
              ≡ or_else (cond (same x y) (some (site line words)) (looked text table x)) (ahead text x (line_end text at + 1) (line + 1) (words + holds (reading (line_at text at))))
          go x true d =
              rw d
              (s.known x
              ∙ ap (λ (o : Option Site). or_else o (ahead text x at line words)) (ap (looked text table) (same_true x y d) ∙ n)
              ∙ ahead_here text x at line words h (sym (its_name x) ∙ d))
          go x false d = rw d (s.known x ∙ ap (or_else (looked text table x)) (ahead_next text x at line words h (sym (its_name x) ∙ d)))

    -- what the line leaves, by whether the survey goes on
    abbrev Leaves : Noted → Type 0
    Leaves n = after n.on n.table
      where
        after : Bool → Table → Type 0
        after true new = Behind new
        after false new = Surveyed text new false

    leaves : Leaves (noted_at text at shape line words table)
    unfolding noted_at
    leaves = go (eqb shape 1) refl (is_some (found (looked text table y))) refl (leb most (count table)) refl
      where
        go : (a : Bool) → eqb shape 1 ≡ a → (b : Bool) → is_some (found (looked text table y)) ≡ b → (c : Bool) → leb most (count table) ≡ c
            → Leaves (cond a (cond b (noted true table) (cond c (noted false table) (noted true (inserted text table place line words)))) (noted true table))
        go false a b eb c ec = passes (λ x e. sym (defines_none x (reading (line_at text at)) shape es (eqb-false shape 1 a)))
        go true a true eb c ec =
            passes (other (eqb-true shape 1 a) (λ n. clash eb (ap (λ (o : Option Site). is_some (found o)) n)))
        go true a false eb true ec = survey_stops
        go true a false eb false ec = stores (eqb-true shape 1 a) (none_there (looked text table y) eb) (leb-false most (count table) ec)

    module _ (r : Bool) (new : Table) (e : noted r new ≡ noted_at text at shape line words table) where
      pub survey_full : not r ≡ true → Surveyed text new false
      survey_full n = go r (not-true r n) (subst Leaves (sym e) leaves)
        where
          go : (b : Bool) → b ≡ false → Leaves (noted b new) → Surveyed text new false
          go true f l = clash refl f
          go false f l = l

      pub survey_goes : not r ≡ false → (k end : ℕ) → k ≡ held_by shape → end ≡ line_end text at → Surveying text new (end + 1) (line + 1) (words + k)
      survey_goes n k end ek en =
          rw (en, ek ∙ ap held_by es ∙ held_holds (reading (line_at text at))) (go r (not-false r n) (subst Leaves (sym e) leaves))
        where
          go : (b : Bool) → b ≡ true → Leaves (noted b new) → Behind new
          go true t l = l
          go false t l = clash t refl
