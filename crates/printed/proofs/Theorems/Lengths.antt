-- How long a text is at most, where each of its numbers is one of 32 bits.
use Rattle.std.specs.Prelude.{Bool, true, false, List, [], ℕ, ◌+◌, ◌<◌, ◌≤◌, length}
use Rattle.std.proofs.Common.{arith, length-append}
use Rattle.common.specs.Instructions.{bit}
use Rattle.numerals.specs.Bytes.{bytes}
use Rattle.numerals.specs.Numerals.{decimal}
use Rattle.numerals.specs.Laws.Widths.{width_most, length_decimal}
use Rattle.printed.specs.Text.{field, line_end, refused_line, Line, first_fields, first_line, Row, row_line}

-- 108 bytes of a first line, and 44 of each of 64 compartments
abbrev pub longest : ℕ
longest = 2924

-- a number of 32 bits
abbrev pub Word : ℕ → Type 0
Word n = n < 4294967296

pub field_most : (name : List ℕ) (n : ℕ) → Word n → length (field name n) ≤ length name + 10
unfolding field
field_most name n h = let d = length_decimal n in let w = width_most 9 n (omega arith) in let l = length-append name (decimal n) in omega arith

bit_most : (name : List ℕ) (b : Bool) → length (field name (bit b)) ≤ length name + 1
unfolding field
bit_most name b = let d = length_decimal (bit b) in let w = width_most 0 (bit b) (small b) in let l = length-append name (decimal (bit b)) in omega arith
  where
    small : (b : Bool) → bit b < 10
    small true = omega arith
    small false = omega arith

pub refused_most : (answer : ℕ) → Word answer → length (refused_line answer) ≤ 19
unfolding refused_line
refused_most answer h = let f = field_most (bytes "refused ") answer h in simp length-append (omega arith)

pub record SmallLine (l : Line) : Type 0 where
  pub answer : Word l.answer
  pub steps : Word l.steps
  pub pc : Word l.pc
  pub prev : Word l.prev
  pub next : Word l.next
  pub widest : Word l.widest

pub fields_most : (l : Line) → SmallLine l → length (first_fields l) ≤ 107
unfolding first_fields
fields_most l s =
    let a = field_most (bytes "answer ") l.answer s.answer in
    let b = field_most (bytes " steps ") l.steps s.steps in
    let c = field_most (bytes " pc ") l.pc s.pc in
    let d = field_most (bytes " prev ") l.prev s.prev in
    let e = bit_most (bytes " jumped ") l.jumped in
    let f = field_most (bytes " next ") l.next s.next in
    let g = field_most (bytes " widest ") l.widest s.widest in
    simp length-append (omega arith)

pub with_end : (l : Line) → length (first_fields l) ≤ 107 → length (first_line l) ≤ 108
unfolding first_line
with_end l h = let e = length-append (first_fields l) line_end in omega arith

pub first_most : (l : Line) → SmallLine l → length (first_line l) ≤ 108
first_most l s = with_end l (fields_most l s)

pub record SmallRow (x : Row) : Type 0 where
  pub number : Word x.number
  pub owned : Word x.owned
  pub jumps : Word x.jumps
  pub stores : Word x.stores

pub row_most : (x : Row) → SmallRow x → length (row_line x) ≤ 44
unfolding row_line
row_most x s =
    let a = field_most [] x.number s.number in
    let b = field_most (bytes " ") x.owned s.owned in
    let c = field_most (bytes " ") x.jumps s.jumps in
    let d = field_most (bytes " ") x.stores s.stores in
    simp length-append (omega arith)
