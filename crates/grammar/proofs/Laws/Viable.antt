-- Whatever the reader has read so far can be completed to a line: by 1, registers and closing brackets.
use Rattle.std.specs.Prelude.{◌≡◌, refl, List, [], ◌∷◌, ℕ}
use Rattle.std.proofs.Common.{ap, ◌∙◌}
use Rattle.grammar.specs.Tokens.{Token, register, number, right}
use Rattle.grammar.specs.Trees.{Product, Line}
use Rattle.grammar.specs.Reading.Reader.{Answer, got, then, Front, Hole, first, next, Part, wants, has, Place, alone, behind_const, behind_bnz, Opening, jumping_to, moving_first, computing_first, branching_on, Slot, moving_last, computing_second, computing_last, constant_into, State, begin, inside, asks, offset, gap, owes, done, final, step, run}

module _ (limit : ℕ) where
  -- what completes a state to a line
  pub record Completes (s : State) : Type 0 where
    pub rest : List Token
    pub line : Line
    pub reads : then final (run limit rest (got s)) ≡ got line

  abbrev by_token : (t : Token) (s u : State) → step limit t s ≡ got u → Completes u → Completes s
  by_token t s u e k = record {
    rest = t ∷ k.rest;
    line = k.line;
    reads = ap (λ (x : Answer State). then final (run limit k.rest x)) e ∙ k.reads;
  }

  abbrev at_end : (s : State) (t : Line) → final s ≡ got t → Completes s
  at_end s t e = record { rest = []; line = t; reads = e }

  of_has : (w : Place) (st : List Hole) (fr : Front) (p : Product) → Completes (inside w (has fr p st))
  of_has alone [] fr p = at_end _ _ refl
  of_has behind_const [] fr p = by_token (register 0) _ _ refl (at_end _ _ refl)
  of_has (behind_bnz a c) [] fr p = at_end _ _ refl
  of_has w (first g ∷ st) fr p = by_token right _ _ refl (of_has w st _ _)
  of_has w (next g q ∷ st) fr p = by_token right _ _ refl (of_has w st _ _)

  of_part : (w : Place) (x : Part) → Completes (inside w x)
  of_part w (wants (first fr) st) = by_token (number 1) _ _ refl (of_has w st _ _)
  of_part w (wants (next fr p) st) = by_token (number 1) _ _ refl (of_has w st _ _)
  of_part w (has fr p st) = of_has w st fr p

  of_gap : (s : Slot) → Completes (gap s)
  of_gap (moving_last k a) = by_token (register 0) _ _ refl (at_end _ _ refl)
  of_gap (computing_last k a c b) = by_token (register 0) _ _ refl (at_end _ _ refl)
  of_gap (computing_second k a) = by_token (register 0) _ _ refl (by_token (register 0) _ _ refl (at_end _ _ refl))
  of_gap (constant_into e) = by_token (register 0) _ _ refl (at_end _ _ refl)

  of_owes : (s : Slot) → Completes (owes s)
  of_owes (moving_last k a) = by_token (register 0) _ _ refl (at_end _ _ refl)
  of_owes (computing_second k a) = by_token (register 0) _ _ refl (of_gap (computing_last k a _ 0))
  of_owes (computing_last k a c b) = by_token (register 0) _ _ refl (at_end _ _ refl)
  of_owes (constant_into e) = by_token (register 0) _ _ refl (at_end _ _ refl)

  of_offset : (a : ℕ) → Completes (offset a)
  of_offset a = by_token (number 1) _ _ refl (at_end _ _ refl)

  of_asks : (o : Opening) → Completes (asks o)
  of_asks (jumping_to k) = by_token (register 0) _ _ refl (at_end _ _ refl)
  of_asks (moving_first k) = by_token (register 0) _ _ refl (of_gap (moving_last k 0))
  of_asks (computing_first k) = by_token (register 0) _ _ refl (of_gap (computing_second k 0))
  of_asks branching_on = by_token (register 0) _ _ refl (of_offset 0)

  pub viable : (s : State) → Completes s
  viable begin = at_end _ _ refl
  viable (inside w x) = of_part w x
  viable (asks o) = of_asks o
  viable (offset a) = of_offset a
  viable (gap s) = of_gap s
  viable (owes s) = of_owes s
  viable (done t c) = at_end _ _ refl
