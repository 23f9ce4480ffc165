-- "Two outcomes allowed by one promise are proved equal", of the sheet, and of the lines that it shares with the run program's text.
use Rattle.std.specs.Prelude.{List, ℕ, Result}
use Rattle.answers.specs.declared.Refusal.{Refusal}
use Rattle.numerals.specs.Writing.{Put}
use Rattle.sheets.specs.Totals.{Totals}
use Rattle.sheet.specs.declared.Lined.{Lined}
use Rattle.sheet.specs.Views as seen
use Rattle.printer.proofs.lines.put_field.Reads as put-field
use Rattle.printer.proofs.lines.put_fields.Reads as put-fields
use Rattle.printer.proofs.lines.put_refused.Reads as Put-refused
use Rattle.sheet.proofs.line.Reads as line
use Rattle.sheet.proofs.none.Reads as none
use Rattle.sheet.proofs.add.Reads as add
use Rattle.sheet.proofs.total.Reads as total
use Rattle.sheet.proofs.ended.Reads as ended
use Rattle.claims.specs.Once.Written.{ending_same, told_same, lined_same}
use Rattle.claims.specs.Allowed.{Once, same}

-- printer: put_field, put_fields, put_refused; the result, and the buffer at exit

pub put_field_once : Once put-field.Post {Out = Put} (λ κs r s. record { next = r; out = s.0.now })
put_field_once κs a r q s t = same

pub put_fields_once : Once put-fields.Post {Out = Put} (λ κs r s. record { next = r; out = s.0.now })
put_fields_once κs a r q s t h k = same h.0 k.0

pub put_refused_once : Once Put-refused.Post {Out = Put} (λ κs r s. record { next = r; out = s.0.now })
put_refused_once κs a r q s t h k = same h.0 k.0

-- sheet: line, none, add, total, ended

pub line_once : Once line.Post {Out = Lined × List ℕ} (λ κs r s. (r, s.1.1.0.now))
line_once κs a r q s t h k = lined_same r q s.1.1.0.now t.1.1.0.now (same h k)

pub none_once : Once none.Post {Out = Totals} (λ κs r s. seen.totals_of r)
none_once κs a r q s t = same

pub add_once : Once add.Post {Out = Totals} (λ κs r s. seen.totals_of r)
add_once κs a r q s t = same

pub total_once : Once total.Post {Out = Result ℕ Refusal × List ℕ} (λ κs r s. (r, s.1.1.0.now))
total_once κs a r q s t h k = told_same r q s.1.1.0.now t.1.1.0.now (same h k)

pub ended_once : Once ended.Post (λ κs r s. r)
ended_once κs a r q s t h k = ending_same r q (same h k)
