-- The row that each state of the reader has in the table of shapes, and what holds at each of the rows.
use Rattle.std.specs.Prelude.{◌≡◌, Bool, true, cond, List, [], ◌∷◌, ℕ, ◌+◌, ◌≤◌, ◌<◌, eqb, ltb, length, get_or}
use Rattle.std.proofs.Common.{sym, ap, ◌∙◌, arith, eqb-true, ne_eqb}
use Rattle.std.proofs.Math.Option.{Option, none, some, map}
use Rattle.grammar.specs.Trees.{Product, factor, times, literal, label, here, group, Line, nothing, labelled, instruction, value}
use Rattle.grammar.specs.Grammar.{Choices}
use Rattle.grammar.specs.Reading.Reader.{Front, start, negated, behind, Hole, first, next, Part, wants, has, Place, alone, behind_const, behind_bnz, Opening, jumping_to, moving_first, computing_first, branching_on, Slot, moving_last, computing_second, computing_last, constant_into, State, begin, inside, asks, offset, gap, owes, done, levels}
use Rattle.grammar.specs.Reading.Shapes.{no, next_of, level, Control, at, move}
use Rattle.grammar.specs.Spelling.{every}
use Rattle.grammar.proofs.Laws.Tables.{picks, every_at}

-- ---- the row of a state

-- a sign may come, or a factor has to
abbrev pub wanting : Hole → ℕ
wanting (first start) = 0
wanting (first negated) = 1
wanting (first (behind e s)) = 1
wanting (next fr p) = 1

-- a line that is an expression so far: a colon may follow a name
abbrev pub standing : Front → Product → ℕ
standing start (factor (literal n)) = 5
standing start (factor (label x)) = 2
standing start (factor here) = 5
standing start (factor (group e)) = 5
standing start (times p f) = 5
standing negated p = 5
standing (behind e s) p = 5

-- the first row of an expression
abbrev pub opens : Place → ℕ
opens alone = 3
opens behind_const = 6
opens (behind_bnz a c) = 9

abbrev pub state_in : Place → Part → ℕ
state_in w (wants h st) = opens w + wanting h
state_in alone (has fr p st) = standing fr p
state_in behind_const (has fr p st) = 8
state_in (behind_bnz a c) (has fr p st) = 11

abbrev pub state_of : State → ℕ
state_of begin = 0
state_of (offset a) = 1
state_of (inside w x) = state_in w x
state_of (asks (jumping_to k)) = 12
state_of (asks (moving_first k)) = 13
state_of (asks (computing_first k)) = 14
state_of (asks branching_on) = 15
state_of (gap (moving_last k a)) = 16
state_of (gap (computing_second k a)) = 17
state_of (gap (computing_last k a c b)) = 16
state_of (gap (constant_into e)) = 16
state_of (owes (moving_last k a)) = 12
state_of (owes (computing_second k a)) = 13
state_of (owes (computing_last k a c b)) = 12
state_of (owes (constant_into e)) = 12
state_of (done nothing c) = 18
state_of (done (labelled x) c) = 18
state_of (done (instruction i) c) = 19
state_of (done (value e) c) = 19

abbrev pub forget : State → Control
forget s = at (state_of s) (levels s)

-- ---- what holds at each of the rows

pub each_wanting : (P : ℕ → Type 0) → P 0 → P 1 → (h : Hole) → P (wanting h)
each_wanting P a b (first start) = a
each_wanting P a b (first negated) = b
each_wanting P a b (first (behind e s)) = b
each_wanting P a b (next fr p) = b

pub each_standing : (P : ℕ → Type 0) → P 2 → P 5 → (fr : Front) (p : Product) → P (standing fr p)
each_standing P a b start (factor (literal n)) = b
each_standing P a b start (factor (label x)) = a
each_standing P a b start (factor here) = b
each_standing P a b start (factor (group e)) = b
each_standing P a b start (times p f) = b
each_standing P a b negated p = b
each_standing P a b (behind e s) p = b

-- from a row with so many brackets open, a kind of token leads there
abbrev pub Leads : ℕ → Option Control → ℕ → ℕ → Type 0
Leads k to d n = to ≡ move k (at n d)

-- a factor has to come; a factor stands; a register has to come; the line is done
abbrev pub wanting_rows : List ℕ
wanting_rows = 3 ∷ 4 ∷ 6 ∷ 7 ∷ 9 ∷ 10 ∷ []

abbrev pub standing_rows : List ℕ
standing_rows = 2 ∷ 5 ∷ 8 ∷ 11 ∷ []

abbrev pub register_rows : List ℕ
register_rows = 12 ∷ 13 ∷ 14 ∷ 15 ∷ 16 ∷ 17 ∷ []

abbrev pub done_rows : List ℕ
done_rows = 18 ∷ 19 ∷ []

-- no token of the kind may stand in any of these rows
abbrev pub Shut : ℕ → List ℕ → Type 0
Shut k ns = every (λ n. eqb (next_of n k) no) ns ≡ true

pub shut : (k : ℕ) (ns : List ℕ) → Shut k ns → (i : ℕ) → i < length ns → (d : ℕ) → Leads k none d (get_or ns i 0)
shut k ns h i l d =
    let n = get_or ns i 0 in
    ap (λ (b : Bool). cond b none (map (at (next_of n k)) (level k d))) (sym (every_at (λ m. eqb (next_of m k) no) ns h i l))

-- the first row of the expression that a row stands in
abbrev base : ℕ → ℕ
base n = cond (ltb n 6) 3 (cond (ltb n 9) 6 9)

base_small : (n : ℕ) → base n ≤ 9
base_small n = picks (ltb n 6) 3 _ (λ (b : ℕ). b ≤ 9) (λ e. omega arith) (λ e. picks (ltb n 9) 6 9 (λ (b : ℕ). b ≤ 9) (λ f. omega arith) (λ f. omega arith))

-- in each of these rows a token of the kind leads to the row j behind the first
abbrev pub Onward : ℕ → ℕ → List ℕ → Type 0
Onward k j ns = every (λ n. eqb (next_of n k) (base n + j)) ns ≡ true

onward : (k j : ℕ) (ns : List ℕ) → Onward k j ns → j < 3 → (d e : ℕ) → level k d ≡ some e → (i : ℕ) → i < length ns
    → Leads k (some (at (base (get_or ns i 0) + j) e)) d (get_or ns i 0)
onward k j ns q l d e v i h =
    let n = get_or ns i 0 in
    let small : base n ≤ 9 = base_small n in
    sym
    (ap (λ (m : ℕ). cond (eqb m no) none (map (at m) (level k d))) (eqb-true (next_of n k) (base n + j) (every_at (λ m. eqb (next_of m k) (base m + j)) ns q i h))
    ∙ ap (λ (b : Bool). cond b none (map (at (base n + j)) (level k d))) (ne_eqb (base n + j) no (omega arith))
    ∙ ap (map (at (base n + j))) v)

module _ (k j : ℕ) (l : j < 3) (d e : ℕ) (v : level k d ≡ some e) where
  pub wanted : Onward k j wanting_rows → (w : Place) (h : Hole) → Leads k (some (at (opens w + j) e)) d (opens w + wanting h)
  wanted q alone h = each_wanting (λ i. Leads k (some (at (3 + j) e)) d (3 + i)) (onward k j wanting_rows q l d e v 0 (omega arith)) (onward k j wanting_rows q l d e v 1 (omega arith)) h
  wanted q behind_const h = each_wanting (λ i. Leads k (some (at (6 + j) e)) d (6 + i)) (onward k j wanting_rows q l d e v 2 (omega arith)) (onward k j wanting_rows q l d e v 3 (omega arith)) h
  wanted q (behind_bnz a c) h = each_wanting (λ i. Leads k (some (at (9 + j) e)) d (9 + i)) (onward k j wanting_rows q l d e v 4 (omega arith)) (onward k j wanting_rows q l d e v 5 (omega arith)) h

  pub follows : Onward k j standing_rows → (w : Place) (fr : Front) (p : Product) (st : List Hole) → Leads k (some (at (opens w + j) e)) d (state_in w (has fr p st))
  follows q alone fr p st = each_standing (Leads k (some (at (3 + j) e)) d) (onward k j standing_rows q l d e v 0 (omega arith)) (onward k j standing_rows q l d e v 1 (omega arith)) fr p
  follows q behind_const fr p st = onward k j standing_rows q l d e v 2 (omega arith)
  follows q (behind_bnz a c) fr p st = onward k j standing_rows q l d e v 3 (omega arith)

module _ (k : ℕ) where
  pub not_wanted : Shut k wanting_rows → (w : Place) (h : Hole) (d : ℕ) → Leads k none d (opens w + wanting h)
  not_wanted q alone h d = each_wanting (λ i. Leads k none d (3 + i)) (shut k wanting_rows q 0 (omega arith) d) (shut k wanting_rows q 1 (omega arith) d) h
  not_wanted q behind_const h d = each_wanting (λ i. Leads k none d (6 + i)) (shut k wanting_rows q 2 (omega arith) d) (shut k wanting_rows q 3 (omega arith) d) h
  not_wanted q (behind_bnz a c) h d = each_wanting (λ i. Leads k none d (9 + i)) (shut k wanting_rows q 4 (omega arith) d) (shut k wanting_rows q 5 (omega arith) d) h

  pub not_behind : Shut k standing_rows → (w : Place) (fr : Front) (p : Product) (st : List Hole) (d : ℕ) → Leads k none d (state_in w (has fr p st))
  not_behind q alone fr p st d = each_standing (Leads k none d) (shut k standing_rows q 0 (omega arith) d) (shut k standing_rows q 1 (omega arith) d) fr p
  not_behind q behind_const fr p st d = shut k standing_rows q 2 (omega arith) d
  not_behind q (behind_bnz a c) fr p st d = shut k standing_rows q 3 (omega arith) d

  pub not_asked : Shut k register_rows → (o : Opening) → Leads k none 0 (state_of (asks o))
  not_asked q (jumping_to j) = shut k register_rows q 0 (omega arith) 0
  not_asked q (moving_first j) = shut k register_rows q 1 (omega arith) 0
  not_asked q (computing_first j) = shut k register_rows q 2 (omega arith) 0
  not_asked q branching_on = shut k register_rows q 3 (omega arith) 0

  pub not_between : Shut k register_rows → (s : Slot) → Leads k none 0 (state_of (gap s))
  not_between q (moving_last j a) = shut k register_rows q 4 (omega arith) 0
  not_between q (computing_second j a) = shut k register_rows q 5 (omega arith) 0
  not_between q (computing_last j a c b) = shut k register_rows q 4 (omega arith) 0
  not_between q (constant_into e) = shut k register_rows q 4 (omega arith) 0

  pub not_owed : Shut k register_rows → (s : Slot) → Leads k none 0 (state_of (owes s))
  not_owed q (moving_last j a) = shut k register_rows q 0 (omega arith) 0
  not_owed q (computing_second j a) = shut k register_rows q 1 (omega arith) 0
  not_owed q (computing_last j a c b) = shut k register_rows q 0 (omega arith) 0
  not_owed q (constant_into e) = shut k register_rows q 0 (omega arith) 0

  pub not_done : Shut k done_rows → (t : Line) (c : Choices) → Leads k none 0 (state_of (done t c))
  not_done q nothing c = shut k done_rows q 0 (omega arith) 0
  not_done q (labelled x) c = shut k done_rows q 0 (omega arith) 0
  not_done q (instruction i) c = shut k done_rows q 1 (omega arith) 0
  not_done q (value e) c = shut k done_rows q 1 (omega arith) 0
