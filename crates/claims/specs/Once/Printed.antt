-- "Two outcomes allowed by one promise are proved equal", of the text that is printed.
use Rattle.std.specs.Prelude.{List, ℕ}
use Rattle.numerals.specs.Writing.{Put}
use Rattle.printer.specs.declared.Printed.{Printed}
use Rattle.text.proofs.least.Reads as least
use Rattle.text.proofs.put_text.Reads as put-text
use Rattle.text.proofs.put_decimal.Reads as put-decimal
use Rattle.text.proofs.put_hexadecimal.Reads as put-hexadecimal
use Rattle.text.proofs.put_pair.Reads as put-pair
use Rattle.printer.proofs.print.Reads as print
use Rattle.claims.specs.Once.Written.{printed_same}
use Rattle.claims.specs.Allowed.{Once, same}

-- text: least; put_text, put_decimal, put_hexadecimal, put_pair, with the buffer at exit

pub least_once : Once least.Post (λ κs r s. r)
least_once κs a r q s t = same

pub put_text_once : Once put-text.Post {Out = Put} (λ κs r s. record { next = r; out = s.0.now })
put_text_once κs a r q s t = same

pub put_decimal_once : Once put-decimal.Post {Out = Put} (λ κs r s. record { next = r; out = s.0.now })
put_decimal_once κs a r q s t = same

pub put_hexadecimal_once : Once put-hexadecimal.Post {Out = Put} (λ κs r s. record { next = r; out = s.0.now })
put_hexadecimal_once κs a r q s t = same

pub put_pair_once : Once put-pair.Post {Out = Put} (λ κs r s. record { next = r; out = s.0.now })
put_pair_once κs a r q s t = same

-- printer: print

pub print_once : Once print.Post {Out = Printed × List ℕ} (λ κs r s. (r, s.1.1.0.now))
print_once κs a r q s t h k = printed_same r q s.1.1.0.now t.1.1.0.now (same h k)
