-- "Two outcomes allowed by one promise are proved equal", of sources.
use Rattle.std.specs.Prelude.{List, ℕ, Result}
use Rattle.std.specs.declared.clone.Clone as clone
use denote.RattleType.{RattleType}
use denote.Param.Laws.{Laws, IsCopy}
use mir.Syntax.{Dict}
use Rattle.answers.specs.declared.Fault.{Fault}
use Rattle.answers.specs.declared.Refusal.{Refusal}
use Rattle.assembler.specs.Assembling.{one_assembled}
use Rattle.tokens.specs.Kinds.{one_taken}
use Rattle.tokens.proofs.token.Reads as token
use Rattle.tokens.proofs.line_end.Reads as line-end
use Rattle.tokens.proofs.same_name.Reads as same_name
use Rattle.tokens.proofs.folded.Reads as folded
use Rattle.syntax.specs.Seen.{one_shape}
use Rattle.syntax.proofs.shape.Reads as shape
use Rattle.label_table.proofs.Table.new.Reads as new
use Rattle.label_table.proofs.Table.is_full.Reads as is-full
use Rattle.label_table.proofs.Table.find.Reads as find
use Rattle.label_table.proofs.Table.insert.Reads as insert
use Rattle.labels.proofs.held.Reads as held
use Rattle.labels.proofs.words_in_line.Reads as words-in-line
use Rattle.labels.proofs.scan.Reads as scan
use Rattle.labels.proofs.Labels.locate.Reads as locate
use Rattle.values.specs.declared.NoValue as no-value
use Rattle.values.proofs.RefusalNoValue.number.Reads as refusal-number
use Rattle.values.proofs.RefusalNoValue.of.Reads as refusal-of
use Rattle.values.proofs.U32NoValue.number.Reads as u32-number
use Rattle.values.proofs.U32NoValue.of.Reads as u32-of
use Rattle.values.proofs.number.Reads as number
use Rattle.values.proofs.unknown.Reads as unknown
use Rattle.values.proofs.plus.Reads as plus
use Rattle.values.proofs.minus.Reads as minus
use Rattle.values.proofs.times.Reads as times
use Rattle.values.proofs.negated.Reads as negated
use Rattle.values.proofs.fit.Reads as fit
use Rattle.expressions.proofs.Line.expression.Reads as expression
use Rattle.assembler.proofs.assemble.Reads as assemble
use Rattle.disassembler.proofs.disassemble.Reads as disassemble
use Rattle.claims.specs.Once.Written.{written_same}
use Rattle.claims.specs.Allowed.{Once, same, same_by}

-- tokens: token, line_end, same_name, folded

pub token_once : Once token.Post (λ κs r s. r)
token_once κs a r q s t h k = one_taken r q (same h k)

pub line_end_once : Once line-end.Post (λ κs r s. r)
line_end_once κs a r q s t = same

pub same_name_once : Once same_name.Post (λ κs r s. r)
same_name_once κs a r q s t = same

pub folded_once : Once folded.Post (λ κs r s. r)
folded_once κs a r q s t = same

-- syntax: shape

pub shape_once : Once shape.Post (λ κs r s. r)
shape_once κs a r q s t h k = one_shape r q (same h k)

-- label_table: new, is_full, find; insert, with the table

pub new_once : Once new.Post (λ κs r s. r)
new_once κs a r q s t = same

pub is_full_once : Once is-full.Post (λ κs r s. r)
is_full_once κs a r q s t = same

pub find_once : Once find.Post (λ κs r s. r)
find_once κs a r q s t = same

pub insert_once : Once insert.Post (λ κs r s. s.0.now)
insert_once κs a r q s t = same

-- labels: held, words_in_line, scan, locate

pub held_once : Once held.Post (λ κs r s. r)
held_once κs a r q s t = same

pub words_in_line_once : Once words-in-line.Post (λ κs r s. r)
words_in_line_once κs a r q s t = same

pub scan_once : Once scan.Post (λ κs r s. r)
scan_once κs a r q s t = same

pub locate_once : Once locate.Post (λ κs r s. r)
locate_once κs a r q s t = same

-- values: a refusal as a fault, and a number

pub refusal_number_once : Once refusal-number.Post (λ κs r s. r)
refusal_number_once κs a r q s t = same

pub refusal_of_once : Once refusal-of.Post (λ κs r s. r)
refusal_of_once κs a r q s t = same

pub u32_number_once : Once u32-number.Post (λ κs r s. r)
u32_number_once κs a r q s t = same

pub u32_of_once : Once u32-of.Post (λ κs r s. r)
u32_of_once κs a r q s t = same

-- .. and, whatever a fault is: number, unknown, plus, minus, times, negated, fit

module _ (F : RattleType) (laws : Laws F) (copied : IsCopy F) (fault : no-value.Ghosts F.Denot) (faults : Dict) (clones : clone.Ghosts F.Denot) (cloned : Dict) where
  pub number_once : Once (number.Post F laws copied fault faults clones cloned) (λ κs r s. r)
  number_once κs a r q s t = same

  pub unknown_once : Once (unknown.Post F laws copied fault faults clones cloned) (λ κs r s. r)
  unknown_once κs a r q s t = same

  pub plus_once : Once (plus.Post F laws copied fault faults clones cloned) (λ κs r s. r)
  plus_once κs a r q s t = same

  pub minus_once : Once (minus.Post F laws copied fault faults clones cloned) (λ κs r s. r)
  minus_once κs a r q s t = same

  pub times_once : Once (times.Post F laws copied fault faults clones cloned) (λ κs r s. r)
  times_once κs a r q s t = same

  pub negated_once : Once (negated.Post F laws copied fault faults clones cloned) (λ κs r s. r)
  negated_once κs a r q s t = same

  pub fit_once : Once (fit.Post F laws copied fault faults clones cloned) (λ κs r s. r)
  fit_once κs a r q s t = same

-- expressions: expression

pub expression_once : Once expression.Post (λ κs r s. r)
expression_once κs a r q s t = same

-- assembler: assemble, with the buffer; disassembler: disassemble, with the buffer

pub assemble_once : Once assemble.Post {Out = Result ℕ Fault × List ℕ} (λ κs r s. (r, s.1.0.now))
assemble_once κs a r q s t h k = one_assembled _ _ _ _ (same h k)

pub disassemble_once : Once disassemble.Post {Out = Result ℕ Refusal × List ℕ} (λ κs r s. (r, s.1.0.now))
disassemble_once κs a r q s t h k = written_same r q s.1.0.now t.1.0.now (same h k)
