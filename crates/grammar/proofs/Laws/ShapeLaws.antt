-- The pass over kinds forgets the reader's trees and nothing else: it gives each line its shape.
use Rattle.std.specs.Prelude.{◌≡◌, Bool, true, false, cond, ◌&&◌, List, [], ◌∷◌, map, ℕ, ◌+◌, eqb}
use Rattle.std.proofs.Math.Path.{refl, ap}
use Rattle.std.proofs.Common.{sym, ◌∙◌, arith}
use Rattle.std.proofs.Math.Option
use Rattle.std.proofs.Math.Option.{Option, none, some}
use Rattle.grammar.specs.Tokens.{Token, mnemonic, register, name, number, comma, colon, plus, minus, star, dot, left, right, stray, Nop, Halt, Const, Bnz, one, two, three}
use Rattle.grammar.specs.Trees.{nothing, labelled, instruction, value}
use Rattle.grammar.specs.Grammar.{Choices}
use Rattle.grammar.specs.Reading.Reader as reader
use Rattle.grammar.specs.Reading.Reader.{Answer, got, fault, deep, or_fault, then, wants, has, alone, behind_const, behind_bnz, jumping_to, moving_first, computing_first, branching_on, moving_last, computing_second, computing_last, constant_into, State, begin, inside, asks, offset, gap, owes, done, levels, beyond, final, run, read}
use Rattle.grammar.specs.Reading.Kinds.{kind_of}
use Rattle.grammar.specs.Reading.Shapes.{word, numbered, shape_of, no, rows, next_of, move, ending, step, shape_from, shape}
use Rattle.grammar.proofs.Laws.Answers.{run_fault, run_deep}
use Rattle.grammar.proofs.Laws.Sound.{read_stands}
use Rattle.grammar.proofs.Laws.ShapeRows.{state_of, forget, each_wanting, each_standing}
use Rattle.grammar.proofs.Laws.ShapeMoves.{forgets}

-- ---- whole lines

abbrev pub over : {A B : Type 0} → (A → B) → Answer A → Answer B
over f = then (λ a. got (f a))

over_or_fault : {A B : Type 0} (f : A → B) (x : Option A) → over f (or_fault x) ≡ or_fault (Option.map f x)
over_or_fault f (some a) = refl
over_or_fault f none = refl

module _ (limit : ℕ) where
  -- the depth test looks at the kind alone
  beyond_kind : (t : Token) (n : ℕ) → beyond limit t n ≡ (eqb (kind_of t) (kind_of left) && eqb n limit)
  beyond_kind (mnemonic Nop) n = refl
  beyond_kind (mnemonic Halt) n = refl
  beyond_kind (mnemonic Const) n = refl
  beyond_kind (mnemonic Bnz) n = refl
  beyond_kind (mnemonic (one k)) n = refl
  beyond_kind (mnemonic (two k)) n = refl
  beyond_kind (mnemonic (three k)) n = refl
  beyond_kind (register r) n = refl
  beyond_kind (name x) n = refl
  beyond_kind (number k) n = refl
  beyond_kind comma n = refl
  beyond_kind colon n = refl
  beyond_kind plus n = refl
  beyond_kind minus n = refl
  beyond_kind star n = refl
  beyond_kind dot n = refl
  beyond_kind left n = refl
  beyond_kind right n = refl
  beyond_kind stray n = refl

  -- to step and forget is to forget and step
  pub step_forgets : (t : Token) (s : State) → over forget (reader.step limit t s) ≡ step limit (kind_of t) (forget s)
  step_forgets t s =
      both (beyond limit t (levels s)) ∙ ap (λ (b : Bool). cond b deep (or_fault (move (kind_of t) (forget s)))) (beyond_kind t (levels s))
    where
      both : (b : Bool) → over forget (cond b deep (or_fault (reader.move t s))) ≡ cond b deep (or_fault (move (kind_of t) (forget s)))
      both true = refl
      both false = over_or_fault forget (reader.move t s) ∙ ap or_fault (forgets t s)

  -- a pass over kinds ends as the reader's does
  run_forgets : (ts : List Token) (s : State) → shape_from limit (map kind_of ts) (forget s) ≡ numbered (λ u. ending (forget u)) (run limit ts (got s))
  run_forgets [] s = refl
  run_forgets (t ∷ ts) s =
      ap (numbered (shape_from limit (map kind_of ts))) (sym (step_forgets t s)) ∙ go (reader.step limit t s) (λ u. run_forgets ts u)
    where
      go : (x : Answer State) → ((u : State) → shape_from limit (map kind_of ts) (forget u) ≡ numbered (λ u. ending (forget u)) (run limit ts (got u)))
          → numbered (shape_from limit (map kind_of ts)) (over forget x) ≡ numbered (λ u. ending (forget u)) (run limit ts x)
      go (got u) ih = ih u
      go fault ih = ap (numbered (λ u. ending (forget u))) (sym (run_fault limit ts))
      go deep ih = ap (numbered (λ u. ending (forget u))) (sym (run_deep limit ts))

  -- the reader is never done with nothing
  not_nothing : (ts : List Token) (c : Choices) → run limit ts (got begin) ≡ got (done nothing c) → ⊥
  not_nothing ts c e =
      let z : ◌≡◌ {A = ℕ} 0 18 = ap (numbered state_of) (ap (λ (us : List Token). run limit us (got begin)) (read_stands limit ts (done nothing c) e).0 ∙ e) in
      omega arith

  shapes_end : (s : State) → ((c : Choices) → s ≡ done nothing c → ⊥) → ending (forget s) ≡ shape_of (final s)
  unfolding rows
  shapes_end begin n = refl
  shapes_end (inside alone (wants h [])) n = each_wanting (λ i. next_of (3 + i) 0 ≡ no) refl refl h
  shapes_end (inside behind_const (wants h [])) n = each_wanting (λ i. next_of (6 + i) 0 ≡ no) refl refl h
  shapes_end (inside (behind_bnz a c) (wants h [])) n = each_wanting (λ i. next_of (9 + i) 0 ≡ no) refl refl h
  shapes_end (inside w (wants h (g ∷ st))) n = refl
  shapes_end (inside alone (has fr p [])) n = each_standing (λ i. next_of i 0 ≡ word) refl refl fr p
  shapes_end (inside behind_const (has fr p [])) n = refl
  shapes_end (inside (behind_bnz a c) (has fr p [])) n = refl
  shapes_end (inside w (has fr p (h ∷ st))) n = refl
  shapes_end (asks (jumping_to k)) n = refl
  shapes_end (asks (moving_first k)) n = refl
  shapes_end (asks (computing_first k)) n = refl
  shapes_end (asks branching_on) n = refl
  shapes_end (offset a) n = refl
  shapes_end (gap (moving_last k a)) n = refl
  shapes_end (gap (computing_second k a)) n = refl
  shapes_end (gap (computing_last k a c b)) n = refl
  shapes_end (gap (constant_into e)) n = refl
  shapes_end (owes (moving_last k a)) n = refl
  shapes_end (owes (computing_second k a)) n = refl
  shapes_end (owes (computing_last k a c b)) n = refl
  shapes_end (owes (constant_into e)) n = refl
  shapes_end (done nothing c) n = absurd (n c refl)
  shapes_end (done (labelled x) c) n = refl
  shapes_end (done (instruction i) c) n = refl
  shapes_end (done (value e) c) n = refl

  pub shapes : (ts : List Token) → shape limit (map kind_of ts) ≡ shape_of (read limit ts)
  unfolding shape read
  shapes ts = run_forgets ts begin ∙ go (run limit ts (got begin)) refl
    where
      go : (x : Answer State) → run limit ts (got begin) ≡ x → numbered (λ u. ending (forget u)) x ≡ shape_of (then final x)
      go (got s) e = shapes_end s (λ c k. not_nothing ts c (e ∙ ap got k))
      go fault e = refl
      go deep e = refl
