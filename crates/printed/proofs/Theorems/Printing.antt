-- How an outcome ended; and what the call answers: the status whatever the buffer, 0 where the text has room, and 31 where it has not.
use Rattle.std.specs.Prelude.{◌≡◌, refl, Bool, true, false, cond, List, ℕ, ◌≤◌, ◌<◌, leb, length}
use Rattle.std.proofs.Common.{arith, le-leb, ne_eqb}
use Rattle.std.proofs.lemmas.Bool.{lt-leb}
use Rattle.common.specs.Answers as answer
use Rattle.rules.specs.Images.{over}
use Rattle.printed.specs.Text.{Line, Row, refused, ran, text}
use Rattle.printed.specs.Outcome.{outcome, ended_by, status, Printed, printed_in, print}

-- 0 halted, 1 stopped, 2 refused, 3 budget used
pub status_refused : (a : ℕ) → status (refused a) ≡ 2
unfolding status
status_refused a = refl

pub status_halted : (l : Line) (rows : List Row) → l.answer ≡ answer.halt → status (ran l rows) ≡ 0
unfolding status ended_by
status_halted l rows h = simp h

pub status_used : (l : Line) (rows : List Row) → l.answer ≡ answer.done → status (ran l rows) ≡ 3
unfolding status ended_by
status_used l rows h = simp h

pub status_stopped : (l : Line) (rows : List Row) → answer.halt < l.answer → status (ran l rows) ≡ 1
unfolding status ended_by
status_stopped l rows h = simp (ne_eqb l.answer 0 (λ z. omega arith), ne_eqb l.answer 1 (λ z. omega arith))

either : (b : Bool) (x y : Printed) (r : ℕ) → x.status ≡ r → y.status ≡ r → (cond {A = Printed} b x y).status ≡ r
either true x y r h k = h
either false x y r h k = k

pub print_status : (strict : Bool) (input out : List ℕ) → (print strict input out).status ≡ status (outcome strict input)
unfolding print printed_in
print_status strict input out = either (leb (length (text (outcome strict input))) (length out)) _ _ _ refl refl

-- the whole outcome, where the text has room and where it has not
pub print_whole : (strict : Bool) (input out : List ℕ) → length (text (outcome strict input)) ≤ length out
    → print strict input out
    ≡ record { answer = answer.done; length = length (text (outcome strict input)); status = status (outcome strict input); out = over (text (outcome strict input)) out }
unfolding print printed_in
print_whole strict input out h = simp (le-leb (length (text (outcome strict input))) (length out) h)

pub print_left : (strict : Bool) (input out : List ℕ) → length out < length (text (outcome strict input))
    → print strict input out ≡ record { answer = answer.short_buffer; length = 0; status = status (outcome strict input); out = out }
unfolding print printed_in
print_left strict input out h = simp (lt-leb (length (text (outcome strict input))) (length out) h)
