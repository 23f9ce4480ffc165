-- Laws of the lent table: one row read and written, and a table filled row by row.
use Rattle.std.specs.Prelude.{◌≡◌, ℕ, zero, suc, ◌+◌, ◌-◌, ◌%◌, ◌<◌, ◌≤◌, List, [], ◌∷◌, length, get_or, slice_index_or, slice_set, refl}
use Rattle.std.proofs.Math.Path.{sym}
use Rattle.std.proofs.Common.{ap, ◌∙◌, subst, arith, not-suc-le-zero, le_of_suc-le-suc, zero-add, length-set, ext_get_or, get_or-set_same, get_or-set_other}
use Rattle.std.proofs.Math.Decide.{ℕ_discrete}
use Rattle.std.proofs.Math.Seq.{set_out}
use Rattle.rules.specs.Rows as meant
use Rattle.rules.specs.Rows.{no_row, moved_by, rows_from}
use Rattle.rows.specs.declared.Row.{Row}
use Rattle.rules.specs.Laws.RowLaws.{moved_modulo, lost, gained, settled, lost_none, gained_none, length_rows, row_of_lem}
use Rattle.rows.specs.Views.{row_of, table}

-- ---- one count

pub is_more : (x k : ℕ) → x < 4294967296 → (x + k) % 4294967296 ≡ moved_by 0 k x
is_more x k h = omega arith ∙ sym (moved_modulo 0 k x h)

pub is_less : (x k : ℕ) → x < 4294967296 → k < 4294967296 → (x + (4294967296 - k)) % 4294967296 ≡ moved_by k 0 x
is_less x k h l = omega arith ∙ sym (moved_modulo k 0 x h)

-- ---- where nothing is lost or gained

pub settled_none : (from to k j t : ℕ) (rows : List meant.Row) → k ≡ 0 → j ≡ 0 → t ≡ 0 → rows ≡ settled from to k j t rows
settled_none from to k j t rows a b c = simp (a, b, c, lost_none from rows, gained_none to rows)

-- ---- one row

pub length_table : (rows : List Row) → length (table rows) ≡ length rows
length_table [] = refl
length_table (r ∷ rs) = ap suc (length_table rs)

pub table_set : (rows : List Row) (i : ℕ) (row : Row) → table (slice_set rows i row) ≡ slice_set (table rows) i (row_of row)
table_set [] i row = refl
table_set (r ∷ rs) zero row = refl
table_set (r ∷ rs) (suc i) row = ap (λ (t : List meant.Row). row_of r ∷ t) (table_set rs i row)

pub table_row : (rows : List Row) (i : ℕ) (d : Row) → i < length rows → slice_index_or (table rows) i no_row ≡ row_of (slice_index_or rows i d)
table_row [] i d h = absurd (not-suc-le-zero h)
table_row (r ∷ rs) zero d h = refl
table_row (r ∷ rs) (suc i) d h = table_row rs i d (le_of_suc-le-suc h)

pub no_table_row : (rows : List Row) (i : ℕ) → length rows ≤ i → no_row ≡ slice_index_or (table rows) i no_row
no_table_row [] i h = refl
no_table_row (r ∷ rs) zero h = absurd (not-suc-le-zero h)
no_table_row (r ∷ rs) (suc i) h = no_table_row rs i (le_of_suc-le-suc h)

module _ (rows : List Row) (i : ℕ) where
  -- a number that has no row
  pub not_lost : (k : ℕ) → length rows ≤ i → table rows ≡ lost i k (table rows)
  unfolding lost
  not_lost k h = sym (set_out (table rows) i _ (subst (λ (n : ℕ). n ≤ i) (sym (length_table rows)) h))

  pub not_gained : (k j t : ℕ) → length rows ≤ i → table rows ≡ gained i k j t (table rows)
  unfolding gained
  not_gained k j t h = sym (set_out (table rows) i _ (subst (λ (n : ℕ). n ≤ i) (sym (length_table rows)) h))

  module _ (d : Row) (h : i < length rows) where
    abbrev row : Row
    row = slice_index_or rows i d

    pub row_lost : (k o : ℕ) → o ≡ moved_by k 0 row.owned → table (slice_set rows i (record { owned = o; jump = row.jump; store = row.store })) ≡ lost i k (table rows)
    unfolding lost
    row_lost k o e = table_set rows i _ ∙ simp (table_row rows i d h, e)

    pub row_gained : (k j t o u v : ℕ) → o ≡ moved_by 0 k row.owned → u ≡ moved_by 0 j row.jump → v ≡ moved_by 0 t row.store
        → table (slice_set rows i (record { owned = o; jump = u; store = v })) ≡ gained i k j t (table rows)
    unfolding gained
    row_gained k j t o u v a b c = table_set rows i _ ∙ simp (table_row rows i d h, a, b, c)

-- ---- a table filled row by row

-- the rows before i are filled
pub record Filling (f : ℕ → meant.Row) (rows₀ rows : List Row) (i : ℕ) : Type 0 where
  pub most : i ≤ length rows₀
  pub long : length rows ≡ length rows₀
  pub same : (c : ℕ) → c < i → slice_index_or (table rows) c no_row ≡ f c

module _ (f : ℕ → meant.Row) (rows₀ : List Row) where
  pub fill_starts : Filling f rows₀ rows₀ 0
  fill_starts = record { most = omega arith; long = refl; same = λ c h. absurd (not-suc-le-zero h) }

  pub fill_goes : (rows : List Row) (i : ℕ) (row : Row) → Filling f rows₀ rows i → i < length rows → row_of row ≡ f i → Filling f rows₀ (slice_set rows i row) (i + 1)
  fill_goes rows i row w h e =
      record { most = omega (arith, w.long); long = length-set rows i row ∙ w.long; same = λ c l. go c l (ℕ_discrete c i) }
    where
      go : (c : ℕ) → c < i + 1 → Dec (c ≡ i) → slice_index_or (table (slice_set rows i row)) c no_row ≡ f c
      go c l (yes q) =
          ap (λ (t : List meant.Row). get_or t c no_row) (table_set rows i row)
          ∙ subst (λ (m : ℕ). slice_index_or (slice_set (table rows) i (row_of row)) m no_row ≡ f m) (sym q) (get_or-set_same (table rows) i (row_of row) no_row (subst (λ (n : ℕ). i < n) (sym (length_table rows)) h) ∙ e)
      go c l (no ne) = ap (λ (t : List meant.Row). get_or t c no_row) (table_set rows i row) ∙ get_or-set_other (table rows) i c (row_of row) no_row ne ∙ w.same c (omega arith)

  pub fill_ends : (rows : List Row) (i : ℕ) → Filling f rows₀ rows i → length rows ≤ i → table rows ≡ rows_from f 0 (length rows₀)
  fill_ends rows i w h =
      ext_get_or no_row (table rows) (rows_from f 0 (length rows₀)) (length_table rows ∙ w.long ∙ sym (length_rows f 0 (length rows₀)))
      (λ c l.
      let j : c < length rows₀ = subst (λ (n : ℕ). c < n) (length_table rows ∙ w.long) l in
      w.same c (omega (arith, w.long)) ∙ sym (row_of_lem f 0 (length rows₀) c j ∙ ap f (zero-add c)))
