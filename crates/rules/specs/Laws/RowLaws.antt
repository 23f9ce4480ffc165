-- Laws of rows: how one count moves, all rows at once, and the two rows that a service moves.
use Rattle.std.specs.Prelude.{◌≡◌, List, [], ◌∷◌, ◌≢◌, ℕ, zero, suc, ◌+◌, ◌-◌, ◌%◌, ◌<◌, get_or, length}
use Rattle.std.proofs.Math.Path.{refl, ap}
use Rattle.std.proofs.Common.{sym, ◌∙◌, subst, arith, not-suc-le-zero, le_of_suc-le-suc, add-zero, suc-add, add-suc, zero-add, eq-eqb, ne_eqb, ext_get_or, get_or-set_same, get_or-set_other}
use Rattle.std.proofs.Math.Decide.{ℕ_discrete}
use Rattle.std.proofs.Math.ListN.{set, length-set}
use Rattle.std.proofs.Math.Seq.{set-get_or}
use Rattle.rules.specs.Rows.{Row, no_row, moved_by, moved_row, moved_from, rows_from}

-- ---- one count

module _ (before after x : ℕ) where
  pub moved_same : before ≡ after → moved_by before after x ≡ x
  unfolding moved_by
  moved_same e = simp (eq-eqb before after e)

  moved_other : before ≢ after → moved_by before after x ≡ (x + after + (4294967296 - before % 4294967296)) % 4294967296
  unfolding moved_by
  moved_other n = simp (ne_eqb before after n)

  -- of a count of 32 bits: "row after = row before + count after - count before", modulo 2^32
  pub moved_modulo : x < 4294967296 → moved_by before after x ≡ (x + after + (4294967296 - before % 4294967296)) % 4294967296
  moved_modulo h = go (ℕ_discrete before after)
    where
      go : Dec (before ≡ after) → moved_by before after x ≡ (x + after + (4294967296 - before % 4294967296)) % 4294967296
      go (yes e) = moved_same e ∙ omega arith
      go (no n) = moved_other n

  pub moved_small : x < 4294967296 → moved_by before after x < 4294967296
  moved_small h = let e : moved_by before after x ≡ (x + after + (4294967296 - before % 4294967296)) % 4294967296 = moved_modulo h in omega arith

-- so many more, wherever the count was
pub moved_more : (b k x : ℕ) → moved_by b (b + k) x ≡ moved_by 0 k x
moved_more b k x = go (ℕ_discrete k 0)
  where
    go : Dec (k ≡ 0) → moved_by b (b + k) x ≡ moved_by 0 k x
    go (yes e) = moved_same b (b + k) x (omega arith) ∙ sym (moved_same 0 k x (sym e))
    go (no n) = moved_other b (b + k) x (λ e. n (omega arith)) ∙ omega arith ∙ sym (moved_other 0 k x (λ e. n (sym e)))

-- so many fewer
pub moved_less : (b k x : ℕ) → moved_by (b + k) b x ≡ moved_by k 0 x
moved_less b k x = go (ℕ_discrete k 0)
  where
    go : Dec (k ≡ 0) → moved_by (b + k) b x ≡ moved_by k 0 x
    go (yes e) = moved_same (b + k) b x (omega arith) ∙ sym (moved_same k 0 x e)
    go (no n) = moved_other (b + k) b x (λ e. n (omega arith)) ∙ omega arith ∙ sym (moved_other k 0 x (λ e. n e))

-- from one count to a second and on to a third
pub moved_on : (a b c x : ℕ) → x < 4294967296 → moved_by b c (moved_by a b x) ≡ moved_by a c x
moved_on a b c x h =
    let e : moved_by a b x ≡ (x + b + (4294967296 - a % 4294967296)) % 4294967296 = moved_modulo a b x h in
    moved_modulo b c (moved_by a b x) (moved_small a b x h)
    ∙ ap (λ (y : ℕ). (y + c + (4294967296 - b % 4294967296)) % 4294967296) e ∙ omega arith ∙ sym (moved_modulo a c x h)

-- a right count stays right
pub moved_right : (before after : ℕ) → before < 4294967296 → after < 4294967296 → moved_by before after before ≡ after
moved_right before after h k = moved_modulo before after before h ∙ omega arith

pub row_is : (o j w o' j' w' : ℕ) → o ≡ o' → j ≡ j' → w ≡ w' → ◌≡◌ {A = Row} (record { owned = o; jump = j; store = w }) (record { owned = o'; jump = j'; store = w' })
row_is o j w o' j' w' a b c = simp (a, b, c)

-- ---- all rows

pub length_moved : (before after : ℕ → Row) (k : ℕ) (rows : List Row) → length (moved_from before after k rows) ≡ length rows
unfolding moved_from
length_moved before after k [] = refl
length_moved before after k (r ∷ rs) = ap suc (length_moved before after (suc k) rs)

pub row_moved : (before after : ℕ → Row) (k : ℕ) (rows : List Row) (c : ℕ) → c < length rows
    → get_or (moved_from before after k rows) c no_row ≡ moved_row (before (k + c)) (after (k + c)) (get_or rows c no_row)
unfolding moved_from
row_moved before after k [] c h = absurd (not-suc-le-zero h)
row_moved before after k (r ∷ rs) zero h = rw add-zero
row_moved before after k (r ∷ rs) (suc c) h =
    row_moved before after (suc k) rs c (le_of_suc-le-suc h) ∙ ap (λ (m : ℕ). moved_row (before m) (after m) (get_or rs c no_row)) (suc-add k c ∙ sym (add-suc k c))

-- a table that is right at each row
pub are_moved : (before after : ℕ → Row) (rows rows' : List Row) → length rows' ≡ length rows
    → ((c : ℕ) → c < length rows → get_or rows' c no_row ≡ moved_row (before c) (after c) (get_or rows c no_row)) → rows' ≡ moved_from before after 0 rows
are_moved before after rows rows' e h =
    ext_get_or no_row rows' (moved_from before after 0 rows) (e ∙ sym (length_moved before after 0 rows))
    (λ c l.
    let j : c < length rows = subst (λ (x : ℕ). c < x) e l in
    h c j ∙ sym (row_moved before after 0 rows c j ∙ ap (λ (m : ℕ). moved_row (before m) (after m) (get_or rows c no_row)) (zero-add c)))

row_same : (before after : Row) (row : Row) → before ≡ after → moved_row before after row ≡ row
row_same before after row e =
    simp (moved_same before.owned after.owned row.owned (ap (λ (r : Row). r.owned) e), moved_same before.jump after.jump row.jump (ap (λ (r : Row). r.jump) e), moved_same before.store after.store row.store (ap (λ (r : Row). r.store) e))

-- counts that stay move nothing, in a table of any length
pub none_moved : (before after : ℕ → Row) (rows : List Row) → ((c : ℕ) → before c ≡ after c) → moved_from before after 0 rows ≡ rows
none_moved before after rows h = sym (are_moved before after rows rows refl (λ c l. sym (row_same (before c) (after c) (get_or rows c no_row) (h c))))

-- ---- the rows that a service moves

-- compartment c loses k of its addresses
unfoldable pub lost : ℕ → ℕ → List Row → List Row
lost c k rows = let row : Row = get_or rows c no_row in set rows c (record { owned = moved_by k 0 row.owned; jump = row.jump; store = row.store })

-- compartment c gains so many addresses, jump targets and store targets
unfoldable pub gained : ℕ → ℕ → ℕ → ℕ → List Row → List Row
gained c k j t rows = let row : Row = get_or rows c no_row in set rows c (record { owned = moved_by 0 k row.owned; jump = moved_by 0 j row.jump; store = moved_by 0 t row.store })

abbrev pub settled : ℕ → ℕ → ℕ → ℕ → ℕ → List Row → List Row
settled from to k j t rows = gained to k j t (lost from k rows)

module _ (c : ℕ) (rows : List Row) where
  pub length_lost : (k : ℕ) → length (lost c k rows) ≡ length rows
  unfolding lost
  length_lost k = length-set rows c _

  pub length_gained : (k j t : ℕ) → length (gained c k j t rows) ≡ length rows
  unfolding gained
  length_gained k j t = length-set rows c _

  pub lost_none : lost c 0 rows ≡ rows
  unfolding lost
  lost_none = ap (λ (x : ℕ). set rows c (record { owned = x; jump = (get_or rows c no_row).jump; store = (get_or rows c no_row).store })) (moved_same 0 0 (get_or rows c no_row).owned refl) ∙ set-get_or rows c no_row

  pub gained_none : gained c 0 0 0 rows ≡ rows
  unfolding gained
  gained_none = simp (moved_same 0 0 (get_or rows c no_row).owned refl, moved_same 0 0 (get_or rows c no_row).jump refl, moved_same 0 0 (get_or rows c no_row).store refl) (set-get_or rows c no_row)

-- one compartment gains
pub gain_moves : (before after : ℕ → Row) (rows : List Row) (c k j t : ℕ)
    → after c ≡ record { owned = (before c).owned + k; jump = (before c).jump + j; store = (before c).store + t }
    → ((d : ℕ) → d ≢ c → before d ≡ after d)
    → gained c k j t rows ≡ moved_from before after 0 rows
unfolding gained
gain_moves before after rows c k j t e other = are_moved before after rows (gained c k j t rows) (length_gained c rows k j t) (λ d l. go d l (ℕ_discrete d c))
  where
    go : (d : ℕ) → d < length rows → Dec (d ≡ c) → get_or (gained c k j t rows) d no_row ≡ moved_row (before d) (after d) (get_or rows d no_row)
    go d l (yes q) = subst (λ (m : ℕ). get_or (gained c k j t rows) m no_row ≡ moved_row (before m) (after m) (get_or rows m no_row)) (sym q)
        (get_or-set_same rows c _ no_row (omega arith) ∙ simp (e, moved_more))
    go d l (no n) = get_or-set_other rows c d _ no_row n ∙ sym (row_same (before d) (after d) (get_or rows d no_row) (other d n))

-- another loses first
pub settle_moves : (before after : ℕ → Row) (rows : List Row) (from to k j t : ℕ) → from ≢ to
    → before from ≡ record { owned = (after from).owned + k; jump = (after from).jump; store = (after from).store }
    → after to ≡ record { owned = (before to).owned + k; jump = (before to).jump + j; store = (before to).store + t }
    → ((d : ℕ) → d ≢ from → d ≢ to → before d ≡ after d)
    → settled from to k j t rows ≡ moved_from before after 0 rows
unfolding gained lost
settle_moves before after rows from to k j t apart e f other =
    are_moved before after rows (settled from to k j t rows) (length_gained to (lost from k rows) k j t ∙ length_lost from rows k) (λ d l. go d l (ℕ_discrete d to) (ℕ_discrete d from))
  where
    At : ℕ → Type 0
    At d = get_or (settled from to k j t rows) d no_row ≡ moved_row (before d) (after d) (get_or rows d no_row)

    go : (d : ℕ) → d < length rows → Dec (d ≡ to) → Dec (d ≡ from) → At d
    go d l (yes q) g = subst At (sym q)
        (get_or-set_same (lost from k rows) to _ no_row (omega (arith, length_lost from rows k))
        ∙ simp (get_or-set_other rows from to (record { owned = moved_by k 0 (get_or rows from no_row).owned; jump = (get_or rows from no_row).jump; store = (get_or rows from no_row).store }) no_row (λ z. apart (sym z)), f, moved_more))
    go d l (no n) (yes q) = subst At (sym q)
        (get_or-set_other (lost from k rows) to from _ no_row apart ∙ get_or-set_same rows from _ no_row (omega arith)
        ∙ simp (e, moved_less, moved_same (after from).jump (after from).jump (get_or rows from no_row).jump refl, moved_same (after from).store (after from).store (get_or rows from no_row).store refl))
    go d l (no n) (no m) = get_or-set_other (lost from k rows) to d _ no_row n ∙ get_or-set_other rows from d _ no_row m
        ∙ sym (row_same (before d) (after d) (get_or rows d no_row) (other d m n))

-- ---- a table written out

pub length_rows : (f : ℕ → Row) (k m : ℕ) → length (rows_from f k m) ≡ m
unfolding rows_from
length_rows f k zero = refl
length_rows f k (suc m) = ap suc (length_rows f (suc k) m)

pub row_of_lem : (f : ℕ → Row) (k m c : ℕ) → c < m → get_or (rows_from f k m) c no_row ≡ f (k + c)
unfolding rows_from
row_of_lem f k zero c h = absurd (not-suc-le-zero h)
row_of_lem f k (suc m) zero h = ap f (sym (add-zero k))
row_of_lem f k (suc m) (suc c) h = row_of_lem f (suc k) m c (le_of_suc-le-suc h) ∙ ap f (suc-add k c ∙ sym (add-suc k c))
