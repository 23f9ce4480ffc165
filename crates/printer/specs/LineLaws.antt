-- Lines put one behind another, as the code comes to them.
use Rattle.std.specs.Prelude.{◌≡◌, List, [], ◌∷◌, ◌++◌, ℕ, zero, suc, ◌+◌, ◌*◌, ◌≤◌, min, get_or, length}
use Rattle.std.proofs.Common.{sym, ap, ◌∙◌, append_assoc, append-nil, zero-add, add-one, arith, length-append}
use Rattle.numerals.specs.Numerals.{decimal}
use Rattle.numerals.specs.Writing.{put}
use Rattle.text.specs.Puts.{put_of, put_behind}
use Rattle.printed.specs.Text.{field, Row, row_line, row_lines}
use Rattle.rules.specs.Rows as rows
use Rattle.rows.specs.declared.Row as lent
use Rattle.rows.specs.Views as table
use Rattle.printer.specs.Views.{row, lines_of}

pub field_put : (name : List ℕ) (value : ℕ) (out : List ℕ) (at p : ℕ) (mid : List ℕ) (r : ℕ) (new : List ℕ)
    → put_of p mid ≡ put name at out → put_of r new ≡ put (decimal value) p mid → put_of r new ≡ put (field name value) at out
unfolding field
field_put name value out at p mid r new a b = put_behind name (decimal value) out at p mid r new a b

-- ---- compartment by compartment

-- a row of the table, as a line's numbers
abbrev row_at : List rows.Row → ℕ → Row
row_at s c = let r : rows.Row = get_or s c rows.no_row in row c r.owned r.jump r.store

pub no_rows : (s : List rows.Row) (out : List ℕ) (at : ℕ) → at ≤ length out → put_of at out ≡ put (row_lines (lines_of s 0 0)) at out
unfolding put row_lines lines_of
no_rows s out at h = let k : min (at + 0) (length out) ≡ at = omega arith in simp k

pub no_length : (s : List rows.Row) → length (row_lines (lines_of s 0 0)) ≤ 44 * 0
unfolding row_lines lines_of
no_length s = omega arith

rows_append : (s : List rows.Row) (c k : ℕ) → lines_of s c (suc k) ≡ lines_of s c k ++ row_at s (c + k) ∷ []
unfolding lines_of
rows_append s c zero = let e : c ≡ c + 0 = omega arith in ap (λ (x : ℕ). row_at s x ∷ []) e
rows_append s c (suc k) =
    let e : suc c + k ≡ c + suc k = omega arith in
    ap (λ (xs : List Row). row_at s c ∷ xs) (rows_append s (suc c) k ∙ ap (λ (x : ℕ). lines_of s (suc c) k ++ row_at s x ∷ []) e)

lines_append : (xs : List Row) (y : Row) → row_lines (xs ++ y ∷ []) ≡ row_lines xs ++ row_line y
unfolding row_lines
lines_append [] y = append-nil (row_line y)
lines_append (x ∷ xs) y = ap (λ (t : List ℕ). row_line x ++ t) (lines_append xs y) ∙ sym (append_assoc (row_line x) (row_lines xs) (row_line y))

pub rows_more : (s : List rows.Row) (c : ℕ) → row_lines (lines_of s 0 (c + 1)) ≡ row_lines (lines_of s 0 c) ++ row_line (row_at s c)
rows_more s c =
    ap (λ (k : ℕ). row_lines (lines_of s 0 k)) (add-one c) ∙ ap row_lines (rows_append s 0 c) ∙ lines_append (lines_of s 0 c) (row_at s (0 + c))
    ∙ ap (λ (k : ℕ). row_lines (lines_of s 0 c) ++ row_line (row_at s k)) (zero-add c)

-- the row is the code's
module _ (s : List rows.Row) (c : ℕ) (r : lent.Row) (e : table.row_of r ≡ get_or s c rows.no_row) where
  row_is : row c r.owned r.jump r.store ≡ row_at s c
  row_is = ap (λ (x : rows.Row). row c x.owned x.jump x.store) e

  pub row_put : (out : List ℕ) (at p : ℕ) (mid : List ℕ) (n : ℕ) (new : List ℕ) → put_of p mid ≡ put (row_lines (lines_of s 0 c)) at out
      → put_of n new ≡ put (row_line (row c r.owned r.jump r.store)) p mid → put_of n new ≡ put (row_lines (lines_of s 0 (c + 1))) at out
  row_put out at p mid n new a b =
      put_behind (row_lines (lines_of s 0 c)) (row_line (row_at s c)) out at p mid n new a (b ∙ ap (λ (x : Row). put (row_line x) p mid) row_is)
      ∙ ap (λ (t : List ℕ). put t at out) (sym (rows_more s c))

  pub row_length : length (row_lines (lines_of s 0 c)) ≤ 44 * c → length (row_line (row c r.owned r.jump r.store)) ≤ 44
      → length (row_lines (lines_of s 0 (c + 1))) ≤ 44 * (c + 1)
  row_length h k =
      let e = ap length (rows_more s c) ∙ length-append (row_lines (lines_of s 0 c)) (row_line (row_at s c)) in
      let f = ap (λ (x : Row). length (row_line x)) row_is in
      omega arith
