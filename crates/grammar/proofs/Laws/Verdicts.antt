-- What the reader answers, exactly: a line, 54 or 50; and that no tokens are two lines.
use Rattle.std.specs.Prelude.{◌≡◌, Bool, true, false, cond, ◌↔◌, ℕ, max}
use Rattle.std.proofs.Math.Path.{refl, ap}
use Rattle.std.proofs.Common.{sym, ◌∙◌, arith, eqb-true, eq-eqb}
use Rattle.std.proofs.lemmas.Bool.{false≢true}
use mathlib.Core.List.{List, [], ◌∷◌, ◌++◌}
use Rattle.grammar.specs.Tokens.{Token, mnemonic, register, name, number, comma, colon, plus, minus, star, dot, left, right, stray}
use Rattle.grammar.specs.Trees.{Line, depth}
use Rattle.grammar.specs.Grammar.{Choices, write, Says, Lines, open_in, TooDeep}
use Rattle.grammar.specs.Reading.Reader.{Answer, got, fault, deep, then, State, begin, levels, beyond, or_fault, move, step, end, final, run, read}
use Rattle.grammar.proofs.Laws.Answers.{differ, or_fault_not_deep, run_append, run_fault, run_deep}
use Rattle.grammar.proofs.Laws.Complete.{complete}
use Rattle.grammar.proofs.Laws.Sound.{read_stands, sound}
use Rattle.grammar.proofs.Laws.Brackets.{open_levels}
use Rattle.grammar.proofs.Laws.Viable.{viable}

module _ (limit : ℕ) where
  -- ---- a line

  says_read : (ts : List Token) (t : Line) → Says limit ts t → read limit ts ≡ got t
  says_read ts t a = ap (read limit) a.written ∙ complete limit t a.choices a.shallow

  pub reads_exactly : (ts : List Token) (t : Line) → (read limit ts ≡ got t) ↔ Says limit ts t
  reads_exactly ts t = (sound limit ts t, says_read ts t)

  -- ---- one bracket too many

  -- where the reader meets a bracket too many
  record Meets (ts : List Token) (s : State) : Type 0 where
    before : List Token
    after : List Token
    state : State
    parts : ts ≡ before ++ left ∷ after
    reached : run limit before (got s) ≡ got state
    full : levels state ≡ limit

  beyond_left : (t : Token) (n : ℕ) → beyond limit t n ≡ true → (t ≡ left) × (n ≡ limit)
  beyond_left (mnemonic m) n e = absurd (false≢true e)
  beyond_left (register r) n e = absurd (false≢true e)
  beyond_left (name x) n e = absurd (false≢true e)
  beyond_left (number k) n e = absurd (false≢true e)
  beyond_left comma n e = absurd (false≢true e)
  beyond_left colon n e = absurd (false≢true e)
  beyond_left plus n e = absurd (false≢true e)
  beyond_left minus n e = absurd (false≢true e)
  beyond_left star n e = absurd (false≢true e)
  beyond_left dot n e = absurd (false≢true e)
  beyond_left left n e = (refl, eqb-true n limit e)
  beyond_left right n e = absurd (false≢true e)
  beyond_left stray n e = absurd (false≢true e)

  step_deep : (t : Token) (s : State) → step limit t s ≡ deep → (t ≡ left) × (levels s ≡ limit)
  step_deep t s e = go (beyond limit t (levels s)) refl e
    where
      go : (b : Bool) → beyond limit t (levels s) ≡ b → cond b deep (or_fault (move t s)) ≡ deep → (t ≡ left) × (levels s ≡ limit)
      go true k h = beyond_left t (levels s) k
      go false k h = or_fault_not_deep (move t s) h

  meets : (ts : List Token) (s : State) → run limit ts (got s) ≡ deep → Meets ts s
  meets [] s e = differ (got s) deep (omega arith) e
  meets (t ∷ ts) s e = go (λ u. meets ts u) (step limit t s) refl e
    where
      go : ((u : State) → run limit ts (got u) ≡ deep → Meets ts u) → (x : Answer State) → step limit t s ≡ x → run limit ts x ≡ deep → Meets (t ∷ ts) s
      go k (got u) e h =
          let b = k u h in
          record {
            before = t ∷ b.before;
            after = b.after;
            state = b.state;
            parts = ap (λ (l : List Token). t ∷ l) b.parts;
            reached = ap (run limit b.before) e ∙ b.reached;
            full = b.full;
          }
      go k fault e h = differ fault deep (omega arith) (sym (run_fault limit ts) ∙ h)
      go k deep e h =
          let b = step_deep t s e in
          record { before = []; after = ts; state = s; parts = ap (λ (x : Token). x ∷ ts) b.0; reached = refl; full = b.1 }

  -- what is read so far has as many brackets open as the stack holds
  open_read : (ts : List Token) (s : State) → run limit ts (got begin) ≡ got s → open_in ts ≡ levels s
  open_read ts s e = ap open_in (sym (read_stands limit ts s e).0) ∙ open_levels s

  -- what is read so far is the beginning of a line
  begins_line : (ts : List Token) (s : State) → run limit ts (got begin) ≡ got s → Lines limit (ts ++ (viable limit s).rest)
  unfolding read
  begins_line ts s e =
      let c = viable limit s in
      let r : read limit (ts ++ c.rest) ≡ got c.line = ap (then final) (run_append limit ts c.rest (got begin)) ∙ ap (λ (x : Answer State). then final (run limit c.rest x)) e ∙ c.reads in
      record { line = c.line; says = sound limit (ts ++ c.rest) c.line r }

  deep_too_deep : (ts : List Token) → read limit ts ≡ deep → TooDeep limit ts
  unfolding read
  deep_too_deep ts e = go (run limit ts (got begin)) refl e
    where
      go : (x : Answer State) → run limit ts (got begin) ≡ x → then final x ≡ deep → TooDeep limit ts
      go (got s) k h = or_fault_not_deep (end s) h
      go fault k h = differ fault deep (omega arith) h
      go deep k h =
          let b = meets ts begin k in
          record {
            before = b.before;
            after = b.after;
            rest = (viable limit b.state).rest;
            parts = b.parts;
            full = open_read b.before b.state b.reached ∙ b.full;
            begins = begins_line b.before b.state b.reached;
          }

  too_deep_deep : (ts : List Token) → TooDeep limit ts → read limit ts ≡ deep
  unfolding read
  too_deep_deep ts a = go (run limit a.before (got begin)) refl
    where
      -- what is read behind the beginning
      on : (us : List Token) → read limit (a.before ++ us) ≡ then final (run limit us (run limit a.before (got begin)))
      on us = ap (then final) (run_append limit a.before us (got begin))

      -- an answer that lasts is not a line
      lasting : (x : Answer State) → run limit a.before (got begin) ≡ x → then final (run limit a.rest x) ≡ got a.begins.line
      lasting x k = ap (λ (y : Answer State). then final (run limit a.rest y)) (sym k) ∙ sym (on a.rest) ∙ says_read _ _ a.begins.says

      go : (x : Answer State) → run limit a.before (got begin) ≡ x → read limit ts ≡ deep
      go (got s) k =
          let n : levels s ≡ limit = sym (open_read a.before s k) ∙ a.full in
          let d : step limit left s ≡ deep = ap (λ (b : Bool). cond b deep (or_fault (move left s))) (eq-eqb (levels s) limit n) in
          ap (read limit) a.parts ∙ on (left ∷ a.after)
          ∙ ap (λ (x : Answer State). then final (run limit (left ∷ a.after) x)) k
          ∙ ap (λ (x : Answer State). then final (run limit a.after x)) d
          ∙ ap (then final) (run_deep limit a.after)
      go fault k = differ fault (got a.begins.line) (omega arith) (ap (then final) (sym (run_fault limit a.rest)) ∙ lasting fault k)
      go deep k = differ deep (got a.begins.line) (omega arith) (ap (then final) (sym (run_deep limit a.rest)) ∙ lasting deep k)

  pub deep_exactly : (ts : List Token) → (read limit ts ≡ deep) ↔ TooDeep limit ts
  deep_exactly ts = (deep_too_deep ts, too_deep_deep ts)

  -- ---- neither

  pub fault_exactly : (ts : List Token) → (read limit ts ≡ fault) ↔ ((Lines limit ts → ⊥) × (TooDeep limit ts → ⊥))
  fault_exactly ts = (
    λ e. (
      λ a. differ fault (got a.line) (omega arith) (sym e ∙ says_read ts a.line a.says),
      λ a. differ fault deep (omega arith) (sym e ∙ too_deep_deep ts a),
    ),
    λ n. go n (read limit ts) refl,
  )
    where
      go : (Lines limit ts → ⊥) × (TooDeep limit ts → ⊥) → (x : Answer Line) → read limit ts ≡ x → read limit ts ≡ fault
      go n (got t) e = absurd (n.0 (record { line = t; says = sound limit ts t e }))
      go n fault e = e
      go n deep e = absurd (n.1 (deep_too_deep ts e))

-- ---- no tokens are two lines

pub unambiguous : (t u : Line) (c d : Choices) → write t c ≡ write u d → t ≡ u
unambiguous t u c d e =
    let n = max (depth t) (depth u) in
    let p : read n (write t c) ≡ got t = complete n t c (omega arith) in
    let q : read n (write t c) ≡ got u = ap (read n) e ∙ complete n u d (omega arith) in
    cc
