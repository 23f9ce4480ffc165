-- A text tells its numbers: two outcomes with the same text are the same outcome.
use Rattle.std.specs.Prelude.{◌≡◌, refl, Bool, true, false, ℕ, length}
use Rattle.std.proofs.Common.{sym, ap, ◌∙◌, arith, length-append}
use mathlib.Core.List.{List, [], ◌∷◌, ◌++◌, append_assoc, append_cancel_left, head-eq_of_cons-eq, tail-eq_of_cons-eq}
use Rattle.common.specs.Instructions.{bit}
use Rattle.numerals.specs.Bytes.{bytes, feed}
use Rattle.numerals.specs.Numerals.{decimal}
use Rattle.numerals.specs.Laws.Tells.{Stops, number_then}
use Rattle.printed.specs.Text.{field, line_end, refused_line, Line, first_fields, first_line, Row, row_line, row_lines, Outcome, refused, ran, text}

-- a field's number is told, and the text behind it
field_then : (name : List ℕ) (m n : ℕ) (r s : List ℕ) → Stops r → Stops s → field name m ++ r ≡ field name n ++ s → (m ≡ n) × (r ≡ s)
unfolding field
field_then name m n r s h i e =
    number_then m n r s h i
    (append_cancel_left name _ _ (sym (append_assoc name (decimal m) r) ∙ e ∙ append_assoc name (decimal n) s))

bit_tells : (a b : Bool) → bit a ≡ bit b → a ≡ b
bit_tells true true e = refl
bit_tells false false e = refl
bit_tells true false e = absurd (omega arith)
bit_tells false true e = absurd (omega arith)

-- ---- the lines

pub refused_tells : (a b : ℕ) → refused_line a ≡ refused_line b → a ≡ b
unfolding refused_line
refused_tells a b e = (field_then (bytes "refused ") a b line_end line_end refl refl e).0

-- the first line's fields, each before the rest
unfolded : (l : Line) (r : List ℕ)
    → first_fields l ++ r
    ≡ field (bytes "answer ") l.answer ++ (field (bytes " steps ") l.steps ++ (field (bytes " pc ") l.pc ++ (field (bytes " prev ") l.prev
    ++ (field (bytes " jumped ") (bit l.jumped) ++ (field (bytes " next ") l.next ++ (field (bytes " widest ") l.widest ++ r))))))
unfolding first_fields
unfolded l r = simp append_assoc

-- the fields tell their numbers, whatever is behind them that begins with no digit
pub fields_then : (l m : Line) (r s : List ℕ) → Stops r → Stops s → first_fields l ++ r ≡ first_fields m ++ s → (l ≡ m) × (r ≡ s)
unfolding field
fields_then l m r s p q e =
    let a = field_then (bytes "answer ") l.answer m.answer _ _ refl refl (sym (unfolded l r) ∙ e ∙ unfolded m s) in
    let b = field_then (bytes " steps ") l.steps m.steps _ _ refl refl a.1 in
    let c = field_then (bytes " pc ") l.pc m.pc _ _ refl refl b.1 in
    let d = field_then (bytes " prev ") l.prev m.prev _ _ refl refl c.1 in
    let f = field_then (bytes " jumped ") (bit l.jumped) (bit m.jumped) _ _ refl refl d.1 in
    let g = field_then (bytes " next ") l.next m.next _ _ refl refl f.1 in
    let h = field_then (bytes " widest ") l.widest m.widest r s p q g.1 in
    let j = bit_tells l.jumped m.jumped f.0 in
    (λ i. record { answer = a.0 i; steps = b.0 i; pc = c.0 i; prev = d.0 i; jumped = j i; next = g.0 i; widest = h.0 i }, h.1)

line_then : (l : Line) (r : List ℕ) → first_line l ++ r ≡ first_fields l ++ feed ∷ r
unfolding first_line
line_then l r = append_assoc (first_fields l) line_end r

pub first_then : (l m : Line) (r s : List ℕ) → first_line l ++ r ≡ first_line m ++ s → (l ≡ m) × (r ≡ s)
first_then l m r s e =
    let t = fields_then l m (feed ∷ r) (feed ∷ s) refl refl (sym (line_then l r) ∙ e ∙ line_then m s) in (t.0, tail-eq_of_cons-eq t.1)

row_unfolded : (x : Row) (r : List ℕ)
    → row_line x ++ r ≡ field [] x.number ++ (field (bytes " ") x.owned ++ (field (bytes " ") x.jumps ++ (field (bytes " ") x.stores ++ feed ∷ r)))
unfolding row_line
row_unfolded x r = simp append_assoc

pub row_then : (x y : Row) (r s : List ℕ) → row_line x ++ r ≡ row_line y ++ s → (x ≡ y) × (r ≡ s)
unfolding field
row_then x y r s e =
    let a = field_then [] x.number y.number _ _ refl refl (sym (row_unfolded x r) ∙ e ∙ row_unfolded y s) in
    let b = field_then (bytes " ") x.owned y.owned _ _ refl refl a.1 in
    let c = field_then (bytes " ") x.jumps y.jumps _ _ refl refl b.1 in
    let d = field_then (bytes " ") x.stores y.stores (feed ∷ r) (feed ∷ s) refl refl c.1 in
    (λ i. record { number = a.0 i; owned = b.0 i; jumps = c.0 i; stores = d.0 i }, tail-eq_of_cons-eq d.1)

row_some : (x : Row) (r : List ℕ) → row_line x ++ r ≡ [] → ⊥
unfolding field
row_some x r e = let l = ap length (sym (row_unfolded x r) ∙ e) in absurd (let z = simp length-append at l in omega arith)

pub rows_tell : (xs ys : List Row) → row_lines xs ≡ row_lines ys → xs ≡ ys
unfolding row_lines
rows_tell [] [] e = refl
rows_tell [] (y ∷ ys) e = absurd (row_some y (row_lines ys) (sym e))
rows_tell (x ∷ xs) [] e = absurd (row_some x (row_lines xs) e)
rows_tell (x ∷ xs) (y ∷ ys) e = let t = row_then x y (row_lines xs) (row_lines ys) e in let rest = rows_tell xs ys t.1 in λ i. t.0 i ∷ rest i

-- ---- the whole text

-- "r" is not "a"
pub differs : (a : ℕ) (l : Line) (r : List ℕ) → refused_line a ≡ first_fields l ++ r → ⊥
unfolding refused_line field
differs a l r e = let h : ◌≡◌ {A = ℕ} 114 97 = head-eq_of_cons-eq (e ∙ unfolded l r) in absurd (omega arith)

pub text_tells : (o p : Outcome) → text o ≡ text p → o ≡ p
unfolding text
text_tells (refused a) (refused b) e = ap refused (refused_tells a b e)
text_tells (refused a) (ran l rows) e = absurd (differs a l _ (e ∙ line_then l (row_lines rows)))
text_tells (ran l rows) (refused b) e = absurd (differs b l _ (sym e ∙ line_then l (row_lines rows)))
text_tells (ran l rows) (ran m more) e = let t = first_then l m (row_lines rows) (row_lines more) e in let rest = rows_tell rows more t.1 in λ i. ran (t.0 i) (rest i)
