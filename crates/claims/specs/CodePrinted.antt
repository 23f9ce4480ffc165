-- What the run program prints, of every outcome that the contract of print allows: the text to the byte, how the run ended, and that the text tells its numbers.
use Rattle.std.specs.Prelude.{◌≡◌, Bool, List, ◌++◌, ℕ, ◌≤◌, ◌<◌, get_or, length, drop}
use Rattle.std.proofs.Common.{ap, ◌∙◌}
use Rattle.printed.specs.Text.{Outcome, text}
use Rattle.printed.specs.Outcome.{outcome, status, Printed, print}
use Rattle.printed.proofs.Theorems.Tells as tells
use Rattle.printed.proofs.Theorems.Printing as printing
use Rattle.printed.proofs.Theorems.Bound as bound
use Rattle.printer.specs.Views.{printed_of}
use Rattle.printer.proofs.print.Reads as printer
use Rattle.claims.specs.Allowed.{Promise, Allows, allowed}

abbrev pub by_print : Promise printer.Post (Bool × List ℕ × List ℕ) Printed
by_print =
    record {
      given = λ κs a. (a.0, a.1.0.now, a.1.1.0.now);
      left = λ κs r s. printed_of r s.1.1.0.now;
      meant = λ i. print i.0 i.1 i.2;
      says = λ κs a r s h. h;
    }

-- two outcomes, refused or run, with the same text are the same numbers
pub text_tells : (o p : Outcome) → text o ≡ text p → o ≡ p
text_tells = tells.text_tells

module _ (strict : Bool) (input out : List ℕ) (o : Printed) (h : Allows printer.Post by_print (strict, input, out) o) where
  is : o ≡ print strict input out
  is = allowed printer.Post by_print (strict, input, out) o h

  -- how it ended is told whatever the buffer: 0 halted, 1 stopped, 2 refused, 3 budget used
  pub ended : o.status ≡ status (outcome strict input)
  ended = ap (λ (x : Printed). x.status) is ∙ printing.print_status strict input out

  -- a buffer with room holds the text, and behind it what it held
  pub printed : length (text (outcome strict input)) ≤ length out
      → (o.answer ≡ 0) × (o.length ≡ length (text (outcome strict input)))
      × (o.out ≡ text (outcome strict input) ++ drop (length (text (outcome strict input))) out)
  printed r = let e = is ∙ printing.print_whole strict input out r in (ap (λ (x : Printed). x.answer) e, ap (λ (x : Printed). x.length) e, ap (λ (x : Printed). x.out) e)

  -- a buffer without is as it was, and 31 is answered
  pub short : length out < length (text (outcome strict input)) → (o.answer ≡ 31) × (o.length ≡ 0) × (o.out ≡ out)
  short r = let e = is ∙ printing.print_left strict input out r in (ap (λ (x : Printed). x.answer) e, ap (λ (x : Printed). x.length) e, ap (λ (x : Printed). x.out) e)

  -- 2,924 bytes are room for what is printed of any bytes
  pub roomy : ((i : ℕ) → i < length input → get_or input i 0 < 256) → 2924 ≤ length out → o.answer ≡ 0
  roomy byte r = ap (λ (x : Printed). x.answer) is ∙ bound.never_short strict input byte out r
