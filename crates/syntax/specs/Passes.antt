-- The pass over the tokens of a text from a place on, turn by turn as the code makes it.
use Rattle.std.specs.Prelude.{◌≡◌, refl, Bool, true, false, cond, ◌&&◌, List, ◌∷◌, map, ◌≢◌, ℕ, ◌-◌, ◌≤◌, ◌<◌, eqb, length}
use Rattle.std.proofs.Common.{sym, ◌∙◌, subst, arith, eqb-true, eq-eqb, ne_eqb}
use Rattle.std.proofs.Math.Path.{ap}
use Rattle.std.proofs.Math.Option
use Rattle.std.proofs.Math.Option.{Option, none, some}
use Rattle.std.proofs.lemmas.Bool.{eqb-false}
use Rattle.grammar.specs.Tokens.{Token, left}
use Rattle.grammar.specs.Grammar.{deepest}
use Rattle.grammar.specs.Reading.Reader.{Answer, got, fault, deep, or_fault, then}
use Rattle.grammar.specs.Reading.Kinds as kind
use Rattle.grammar.specs.Reading.Kinds.{kind_of}
use Rattle.grammar.specs.Reading.Shapes.{numbered, no, rows, next_of, level, Control, at, step, ending, shape_from, shape, shape_of}
use Rattle.grammar.proofs.Laws.Answers.{All}
use Rattle.grammar.specs.Laws.Runs.{line_at}
use Rattle.grammar.specs.Reading.Lexer.{tokens}
use Rattle.grammar.proofs.Laws.ShapeLaws.{shapes}
use Rattle.sources.specs.Texts.{reading}
use Rattle.tokens.specs.Streams.{Handed, stream, token_at, token_in}
use Rattle.tokens.specs.StreamLaws.{There, there, stream_ends, stream_line}
use Rattle.syntax.specs.Rows.{entry, entry_next, entry_row, kind_small}
use Rattle.syntax.specs.Levels.{leveled, level_of, few}

-- ---- one step

-- a row, and so many open brackets; or there is no such row
abbrev lands : ℕ → ℕ → Answer Control
lands n d = cond (eqb n no) fault (got (at n d))

step_lands : (k s d : ℕ) → step deepest k (at s d) ≡ then (lands (next_of s k)) (leveled k d)
step_lands k s d = go (eqb k (kind_of left) && eqb d deepest) (level k d) (eqb (next_of s k) no)
  where
    go : (b : Bool) (l : Option ℕ) (c : Bool)
        → cond b deep (or_fault (cond c none (Option.map (at (next_of s k)) l))) ≡ then (λ n. cond c fault (got (at (next_of s k) n))) (cond b deep (or_fault l))
    go true l c = refl
    go false (some n) true = refl
    go false (some n) false = refl
    go false none true = refl
    go false none false = refl

-- an answer that is too large for a number of brackets is that of the line, whatever would follow
too_large : (x : Answer ℕ) → All (λ n. n ≤ deepest) x → deepest < numbered (λ n. n) x → (f : ℕ → ℕ) → numbered f x ≡ numbered (λ n. n) x
too_large (got n) a h f = absurd (omega arith)
too_large fault a h f = refl
too_large deep a h f = refl

taken : (x : Answer ℕ) → numbered (λ n. n) x ≤ deepest → x ≡ got (numbered (λ n. n) x)
taken (got n) h = refl
taken fault h = absurd (omega arith)
taken deep h = absurd (omega arith)

numbered_then : {A B : Type 0} (g : B → ℕ) (f : A → Answer B) (x : Answer A) → numbered g (then f x) ≡ numbered (λ a. numbered g (f a)) x
numbered_then g f (got a) = refl
numbered_then g f fault = refl
numbered_then g f deep = refl

module _ (ks : List ℕ) (k s d : ℕ) where
  pass : shape_from deepest (k ∷ ks) (at s d) ≡ numbered (λ n. numbered (shape_from deepest ks) (lands (next_of s k) n)) (leveled k d)
  pass = ap (numbered (shape_from deepest ks)) (step_lands k s d) ∙ numbered_then (shape_from deepest ks) (lands (next_of s k)) (leveled k d)

  pass_refused : d ≤ deepest → deepest < level_of k d → shape_from deepest (k ∷ ks) (at s d) ≡ level_of k d
  unfolding level_of
  pass_refused h l = pass ∙ too_large (leveled k d) (few k d h) l _

  pass_taken : level_of k d ≤ deepest → shape_from deepest (k ∷ ks) (at s d) ≡ numbered (shape_from deepest ks) (lands (next_of s k) (level_of k d))
  unfolding level_of
  pass_taken h = pass ∙ ap (numbered (λ n. numbered (shape_from deepest ks) (lands (next_of s k) n))) (taken (leveled k d) h)

-- the line's end
end_refused : (s d : ℕ) → d ≤ deepest → deepest < level_of kind.none d → ending (at s d) ≡ level_of kind.none d
unfolding level_of
end_refused s d h l = too_large (leveled kind.none d) (few kind.none d h) l (λ n. next_of s kind.none)

end_taken : (s d : ℕ) → level_of kind.none d ≤ deepest → ending (at s d) ≡ next_of s kind.none
unfolding level_of
end_taken s d h = ap (numbered (λ n. next_of s kind.none)) (taken (leveled kind.none d) h)

-- ---- from a place on

abbrev kinds_at : List ℕ → ℕ → List ℕ
kinds_at text p = map kind_of (stream text p)

-- what the pass comes to from there, in a row and with so many open brackets
abbrev pub shape_at : List ℕ → ℕ → ℕ → ℕ → ℕ
shape_at text p s d = shape_from deepest (kinds_at text p) (at s d)

-- what holds before each turn of the loop
pub record Passing (text : List ℕ) (whole p s d : ℕ) : Type 0 where
  pub row : s < 20
  pub shallow : d ≤ deepest
  pub comes : shape_at text p s d ≡ whole

pub begins : (text : List ℕ) (p : ℕ) → Passing text (shape_of (reading (line_at text p))) p 0 0
unfolding reading shape
begins text p = record {
  row = omega arith;
  shallow = omega arith;
  comes = ap (λ (ts : List Token). shape deepest (map kind_of ts)) (stream_line text p) ∙ shapes deepest (tokens (line_at text p));
}

module _ (text : List ℕ) (p : ℕ) (t : Handed) (e : t ≡ token_at text p) where
  kind_at : t.kind ≡ (token_at text p).kind
  kind_at = ap (λ (u : Handed). u.kind) e

  told : t.kind ≢ kind.none → There text p
  told n = there text p (λ z. n (kind_at ∙ z))

  pub kind_below : t.kind < 19
  kind_below = go (eqb t.kind kind.none) refl
    where
      go : (b : Bool) → eqb t.kind kind.none ≡ b → t.kind < 19
      go true z = let k = eqb-true t.kind kind.none z in omega arith
      go false z = subst (λ (n : ℕ). n < 19) (sym (kind_at ∙ (told (eqb-false t.kind kind.none z)).kind)) (kind_small (token_in text (token_at text p).place))

  pub goes_forward : t.kind ≢ kind.none → length text - t.next < length text - p
  goes_forward n =
      let h : p < (token_at text p).next = (told n).onward in
      let w : (token_at text p).next ≤ length text = (told n).within in
      let k : t.next ≡ (token_at text p).next = ap (λ (u : Handed). u.next) e in
      omega arith

  -- at the line's end, and at a token
  ended : t.kind ≡ kind.none → (s d : ℕ) → shape_at text p s d ≡ ending (at s d)
  ended z s d = ap (λ (ts : List Token). shape_from deepest (map kind_of ts) (at s d)) (stream_ends text p (sym kind_at ∙ z))

  more : t.kind ≢ kind.none → (s d : ℕ) → shape_at text p s d ≡ shape_from deepest (t.kind ∷ kinds_at text t.next) (at s d)
  more n s d =
      ap (λ (ts : List Token). shape_from deepest (map kind_of ts) (at s d)) (told n).first
      ∙ ap (λ (k : ℕ). shape_from deepest (k ∷ kinds_at text (token_at text p).next) (at s d)) (sym (told n).kind)
      ∙ ap (λ (u : Handed). shape_from deepest (u.kind ∷ kinds_at text u.next) (at s d)) (sym e)

  module _ (whole s d : ℕ) (x : Passing text whole p s d) (l : ℕ) (f : l ≡ level_of t.kind d) where
    pub refused : deepest < l → l ≡ whole
    refused g = f ∙ sym (go (eqb t.kind kind.none) refl (subst (λ (n : ℕ). deepest < n) f g)) ∙ x.comes
      where
        go : (b : Bool) → eqb t.kind kind.none ≡ b → deepest < level_of t.kind d → shape_at text p s d ≡ level_of t.kind d
        go true z r =
            let k : t.kind ≡ kind.none = eqb-true t.kind kind.none z in
            ended k s d ∙ end_refused s d x.shallow (subst (λ (n : ℕ). deepest < level_of n d) k r) ∙ ap (λ (n : ℕ). level_of n d) (sym k)
        go false z r = more (eqb-false t.kind kind.none z) s d ∙ pass_refused (kinds_at text t.next) t.kind s d x.shallow r

    -- behind that, by the table
    module _ (h : l ≤ deepest) (table : List (List ℕ)) (r : table ≡ rows) (column : ℕ) (c : column ≡ t.kind) where
      -- as the code reads it
      abbrev n : ℕ
      n = entry table s column

      n_next : n ≡ next_of s t.kind
      n_next = ap (entry table s) c ∙ entry_next s t.kind x.row kind_below table r

      pub ends : t.kind ≡ kind.none → n ≡ whole
      ends z =
          n_next ∙ ap (next_of s) z ∙ sym (end_taken s d (subst (λ (m : ℕ). m ≤ deepest) (f ∙ ap (λ (k : ℕ). level_of k d) z) h)) ∙ sym (ended z s d)
          ∙ x.comes

      lands_there : (b : Bool) → t.kind ≢ kind.none → eqb n no ≡ b → numbered (shape_from deepest (kinds_at text t.next)) (cond b fault (got (at n l))) ≡ whole
      lands_there b m z =
          sym
          (more m s d ∙ pass_taken (kinds_at text t.next) t.kind s d (subst (λ (i : ℕ). i ≤ deepest) f h)
          ∙ ap (λ (i : ℕ). numbered (shape_from deepest (kinds_at text t.next)) (lands (next_of s t.kind) i)) (sym f)
          ∙ ap (λ (i : ℕ). numbered (shape_from deepest (kinds_at text t.next)) (lands i l)) (sym n_next)
          ∙ ap (λ (c : Bool). numbered (shape_from deepest (kinds_at text t.next)) (cond c fault (got (at n l)))) z)
          ∙ x.comes

      pub sticks : t.kind ≢ kind.none → n ≡ no → no ≡ whole
      sticks m z = lands_there true m (eq-eqb n no z)

      pub goes_on : t.kind ≢ kind.none → n ≢ no → Passing text whole t.next n l
      goes_on m z = record {
        row = subst (λ (k : ℕ). entry table s k < 20) (sym c) (entry_row s t.kind x.row kind_below table r (λ e. z (ap (entry table s) c ∙ e)));
        shallow = h;
        comes = lands_there false m (ne_eqb n no z);
      }
