-- Each move of the reader, its trees forgotten, is a move of the table.
use Rattle.std.specs.Prelude.{◌≡◌, refl, List, [], ◌∷◌, ℕ, suc, ◌+◌, length}
use Rattle.std.proofs.Common.{ap, ◌∙◌, arith}
use Rattle.std.proofs.Math.Option.{Option, none, some, map}
use Rattle.grammar.specs.Tokens.{Token, mnemonic, register, name, number, comma, colon, plus, minus, star, dot, left, right, stray, Mnemonic, Nop, Halt, Const, Bnz, one, two, three}
use Rattle.grammar.specs.Trees.{factor, times, Factor, literal, label, here, group}
use Rattle.grammar.specs.Reading.Reader as reader
use Rattle.grammar.specs.Reading.Reader.{Front, start, negated, behind, Hole, first, next, Part, wants, has, join, fill, on_factor, on_plus, on_minus, on_star, on_right, on_left, Place, alone, behind_const, behind_bnz, jumping_to, moving_first, computing_first, branching_on, moving_last, computing_second, computing_last, constant_into, State, begin, inside, asks, offset, gap, owes, done, on_mnemonic, on_register, on_comma, on_colon, within}
use Rattle.grammar.specs.Reading.Kinds.{mnemonic_kind, kind_of}
use Rattle.grammar.specs.Reading.Shapes.{rows, level, at, move}
use Rattle.grammar.proofs.Laws.ShapeRows.{standing, opens, forget, each_standing, Leads, Shut, shut, Onward, wanted, follows, wanting_rows, standing_rows, register_rows, done_rows, not_wanted, not_behind, not_asked, not_between, not_owed, not_done}

-- ---- each move forgets what it read, and nothing else

-- a move of the reader that takes tokens of the kind
abbrev pub Forgets : ℕ → (State → Option State) → State → Type 0
Forgets k f s = map forget (f s) ≡ move k (forget s)

module _ (k : ℕ) (f : Part → Option Part) where
  forgets_within : Shut k register_rows → Shut k done_rows → Forgets k (within f) begin → ((a : ℕ) → Forgets k (within f) (offset a))
      → ((w : Place) (x : Part) → Forgets k (within f) (inside w x)) → (s : State) → Forgets k (within f) s
  forgets_within q z b o i begin = b
  forgets_within q z b o i (inside w x) = i w x
  forgets_within q z b o i (asks m) = not_asked k q m
  forgets_within q z b o i (offset a) = o a
  forgets_within q z b o i (gap s) = not_between k q s
  forgets_within q z b o i (owes s) = not_owed k q s
  forgets_within q z b o i (done t c) = not_done k z t c

-- where a factor is filled in that is no name
filled : (w : Place) (f : Factor) → ((fr : Front) → standing fr (factor f) ≡ 5) → (h : Hole) (st : List Hole) → forget (inside w (fill h f st)) ≡ at (opens w + 2) (length st)
filled alone f k (first fr) st = ap (λ (n : ℕ). at n (length st)) (k fr)
filled alone f k (next start p) st = refl
filled alone f k (next negated p) st = refl
filled alone f k (next (behind e s) p) st = refl
filled behind_const f k (first fr) st = refl
filled behind_const f k (next fr p) st = refl
filled (behind_bnz a c) f k (first fr) st = refl
filled (behind_bnz a c) f k (next fr p) st = refl

plain : (f : Factor) → standing start (factor f) ≡ 5 → (fr : Front) → standing fr (factor f) ≡ 5
plain f n start = n
plain f n negated = refl
plain f n (behind e s) = refl

-- a factor that is no name, and is one token of the kind
forgets_factor : (k : ℕ) (f : Factor) → standing start (factor f) ≡ 5 → ((d : ℕ) → level k d ≡ some d) → Onward k 2 wanting_rows → Shut k standing_rows
    → (w : Place) (x : Part) → Forgets k (within (on_factor f)) (inside w x)
forgets_factor k f n v q z w (wants h st) = ap some (filled w f (plain f n) h st) ∙ wanted k 2 (omega arith) (length st) (length st) (v (length st)) q w h
forgets_factor k f n v q z w (has fr p st) = not_behind k z w fr p st (length st)

forgets_name : (x : List ℕ) (w : Place) (y : Part) → Forgets 8 (within (on_factor (label x))) (inside w y)
unfolding rows
forgets_name x alone (wants (first start) st) = refl
forgets_name x alone (wants (first negated) st) = refl
forgets_name x alone (wants (first (behind e s)) st) = refl
forgets_name x alone (wants (next start p) st) = refl
forgets_name x alone (wants (next negated p) st) = refl
forgets_name x alone (wants (next (behind e s) p) st) = refl
forgets_name x behind_const (wants (first start) st) = refl
forgets_name x behind_const (wants (first negated) st) = refl
forgets_name x behind_const (wants (first (behind e s)) st) = refl
forgets_name x behind_const (wants (next fr p) st) = refl
forgets_name x (behind_bnz a c) (wants (first start) st) = refl
forgets_name x (behind_bnz a c) (wants (first negated) st) = refl
forgets_name x (behind_bnz a c) (wants (first (behind e s)) st) = refl
forgets_name x (behind_bnz a c) (wants (next fr p) st) = refl
forgets_name x w (has fr p st) = not_behind 8 refl w fr p st (length st)

forgets_plus : (w : Place) (x : Part) → Forgets 12 (within on_plus) (inside w x)
unfolding rows
forgets_plus w (wants h st) = not_wanted 12 refl w h (length st)
forgets_plus w (has fr p st) = follows 12 1 (omega arith) (length st) (length st) refl refl w fr p st

forgets_star : (w : Place) (x : Part) → Forgets 14 (within on_star) (inside w x)
unfolding rows
forgets_star w (wants h st) = not_wanted 14 refl w h (length st)
forgets_star w (has fr p st) = follows 14 1 (omega arith) (length st) (length st) refl refl w fr p st

-- where something stands before it, a minus is no sign
not_signed : (w : Place) (d : ℕ) → Leads 13 none d (opens w + 1)
unfolding rows
not_signed alone d = refl
not_signed behind_const d = refl
not_signed (behind_bnz a c) d = refl

forgets_minus : (w : Place) (x : Part) → Forgets 13 (within on_minus) (inside w x)
unfolding rows
forgets_minus alone (wants (first start) st) = refl
forgets_minus behind_const (wants (first start) st) = refl
forgets_minus (behind_bnz a c) (wants (first start) st) = refl
forgets_minus w (wants (first negated) st) = not_signed w (length st)
forgets_minus w (wants (first (behind e s)) st) = not_signed w (length st)
forgets_minus w (wants (next fr p) st) = not_signed w (length st)
forgets_minus w (has fr p st) = follows 13 1 (omega arith) (length st) (length st) refl refl w fr p st

forgets_right : (w : Place) (x : Part) → Forgets 17 (within on_right) (inside w x)
unfolding rows
forgets_right w (wants h st) = not_wanted 17 refl w h (length st)
forgets_right alone (has fr p []) = each_standing (Leads 17 none 0) refl refl fr p
forgets_right behind_const (has fr p []) = refl
forgets_right (behind_bnz a c) (has fr p []) = refl
forgets_right w (has fr p (h ∷ st)) =
    let f = group (join fr p) in
    ap some (filled w f (plain f refl) h st) ∙ follows 17 2 (omega arith) (suc (length st)) (length st) refl refl w fr p (h ∷ st)

forgets_left : (w : Place) (x : Part) → Forgets 16 (within on_left) (inside w x)
unfolding rows
forgets_left w (wants h st) = wanted 16 0 (omega arith) (length st) (suc (length st)) refl refl w h
forgets_left w (has fr p st) = not_behind 16 refl w fr p st (length st)

-- ---- the line's own tokens

begins : (m : Mnemonic) → Forgets (mnemonic_kind m) (on_mnemonic m) begin
unfolding rows
begins Nop = refl
begins Halt = refl
begins Const = refl
begins Bnz = refl
begins (one j) = refl
begins (two j) = refl
begins (three j) = refl

-- a kind that stands nowhere but at the beginning
abbrev Late : ℕ → Type 0
Late k = Shut k (1 ∷ []) × Shut k wanting_rows × Shut k standing_rows × Shut k register_rows × Shut k done_rows

late_mnemonic : (m : Mnemonic) → Late (mnemonic_kind m)
unfolding rows
late_mnemonic Nop = (refl, refl, refl, refl, refl)
late_mnemonic Halt = (refl, refl, refl, refl, refl)
late_mnemonic Const = (refl, refl, refl, refl, refl)
late_mnemonic Bnz = (refl, refl, refl, refl, refl)
late_mnemonic (one j) = (refl, refl, refl, refl, refl)
late_mnemonic (two j) = (refl, refl, refl, refl, refl)
late_mnemonic (three j) = (refl, refl, refl, refl, refl)

forgets_mnemonic : (m : Mnemonic) (s : State) → Forgets (mnemonic_kind m) (on_mnemonic m) s
forgets_mnemonic m begin = begins m
forgets_mnemonic m (inside w (wants h st)) = not_wanted (mnemonic_kind m) (late_mnemonic m).1 w h (length st)
forgets_mnemonic m (inside w (has fr p st)) = not_behind (mnemonic_kind m) (late_mnemonic m).2 w fr p st (length st)
forgets_mnemonic m (asks o) = not_asked (mnemonic_kind m) (late_mnemonic m).3 o
forgets_mnemonic m (offset a) = shut (mnemonic_kind m) (1 ∷ []) (late_mnemonic m).0 0 (omega arith) 0
forgets_mnemonic m (gap s) = not_between (mnemonic_kind m) (late_mnemonic m).3 s
forgets_mnemonic m (owes s) = not_owed (mnemonic_kind m) (late_mnemonic m).3 s
forgets_mnemonic m (done t c) = not_done (mnemonic_kind m) (late_mnemonic m).4 t c

forgets_register : (r : ℕ) (s : State) → Forgets 7 (on_register r) s
unfolding rows
forgets_register r begin = refl
forgets_register r (inside alone (wants h st)) = not_wanted 7 refl alone h (length st)
forgets_register r (inside behind_const (wants h st)) = not_wanted 7 refl behind_const h (length st)
forgets_register r (inside (behind_bnz a c) (wants h st)) = not_wanted 7 refl (behind_bnz a c) h (length st)
forgets_register r (inside alone (has fr p st)) = each_standing (Leads 7 none (length st)) refl refl fr p
forgets_register r (inside behind_const (has fr p [])) = refl
forgets_register r (inside behind_const (has fr p (h ∷ st))) = refl
forgets_register r (inside (behind_bnz a c) (has fr p st)) = refl
forgets_register r (asks (jumping_to k)) = refl
forgets_register r (asks (moving_first k)) = refl
forgets_register r (asks (computing_first k)) = refl
forgets_register r (asks branching_on) = refl
forgets_register r (offset a) = refl
forgets_register r (gap (moving_last k a)) = refl
forgets_register r (gap (computing_second k a)) = refl
forgets_register r (gap (computing_last k a c b)) = refl
forgets_register r (gap (constant_into e)) = refl
forgets_register r (owes (moving_last k a)) = refl
forgets_register r (owes (computing_second k a)) = refl
forgets_register r (owes (computing_last k a c b)) = refl
forgets_register r (owes (constant_into e)) = refl
forgets_register r (done t c) = not_done 7 refl t c

forgets_comma : (s : State) → Forgets 10 on_comma s
unfolding rows
forgets_comma begin = refl
forgets_comma (inside alone (wants h st)) = not_wanted 10 refl alone h (length st)
forgets_comma (inside behind_const (wants h st)) = not_wanted 10 refl behind_const h (length st)
forgets_comma (inside (behind_bnz a c) (wants h st)) = not_wanted 10 refl (behind_bnz a c) h (length st)
forgets_comma (inside alone (has fr p st)) = each_standing (Leads 10 none (length st)) refl refl fr p
forgets_comma (inside behind_const (has fr p [])) = refl
forgets_comma (inside behind_const (has fr p (h ∷ st))) = refl
forgets_comma (inside (behind_bnz a c) (has fr p st)) = refl
forgets_comma (asks (jumping_to k)) = refl
forgets_comma (asks (moving_first k)) = refl
forgets_comma (asks (computing_first k)) = refl
forgets_comma (asks branching_on) = refl
forgets_comma (offset a) = refl
forgets_comma (gap (moving_last k a)) = refl
forgets_comma (gap (computing_second k a)) = refl
forgets_comma (gap (computing_last k a c b)) = refl
forgets_comma (gap (constant_into e)) = refl
forgets_comma (owes (moving_last k a)) = refl
forgets_comma (owes (computing_second k a)) = refl
forgets_comma (owes (computing_last k a c b)) = refl
forgets_comma (owes (constant_into e)) = refl
forgets_comma (done t c) = not_done 10 refl t c

forgets_colon : (s : State) → Forgets 11 on_colon s
unfolding rows
forgets_colon begin = refl
forgets_colon (inside alone (wants h st)) = not_wanted 11 refl alone h (length st)
forgets_colon (inside behind_const (wants h st)) = not_wanted 11 refl behind_const h (length st)
forgets_colon (inside (behind_bnz a c) (wants h st)) = not_wanted 11 refl (behind_bnz a c) h (length st)
forgets_colon (inside alone (has start (factor (literal n)) st)) = refl
forgets_colon (inside alone (has start (factor (label x)) [])) = refl
forgets_colon (inside alone (has start (factor (label x)) (h ∷ st))) = refl
forgets_colon (inside alone (has start (factor here) st)) = refl
forgets_colon (inside alone (has start (factor (group e)) st)) = refl
forgets_colon (inside alone (has start (times p f) st)) = refl
forgets_colon (inside alone (has negated p st)) = refl
forgets_colon (inside alone (has (behind e s) p st)) = refl
forgets_colon (inside behind_const (has fr p st)) = refl
forgets_colon (inside (behind_bnz a c) (has fr p st)) = refl
forgets_colon (asks o) = not_asked 11 refl o
forgets_colon (offset a) = refl
forgets_colon (gap s) = not_between 11 refl s
forgets_colon (owes s) = not_owed 11 refl s
forgets_colon (done t c) = not_done 11 refl t c

forgets_stray : (s : State) → Forgets 18 (λ u. none) s
unfolding rows
forgets_stray begin = refl
forgets_stray (inside w (wants h st)) = not_wanted 18 refl w h (length st)
forgets_stray (inside w (has fr p st)) = not_behind 18 refl w fr p st (length st)
forgets_stray (asks o) = not_asked 18 refl o
forgets_stray (offset a) = refl
forgets_stray (gap s) = not_between 18 refl s
forgets_stray (owes s) = not_owed 18 refl s
forgets_stray (done t c) = not_done 18 refl t c

-- ---- all tokens

pub forgets : (t : Token) (s : State) → Forgets (kind_of t) (reader.move t) s
unfolding rows
forgets (mnemonic m) s = forgets_mnemonic m s
forgets (register r) s = forgets_register r s
forgets (name x) s = forgets_within 8 (on_factor (label x)) refl refl refl (λ a. refl) (forgets_name x) s
forgets (number n) s = forgets_within 9 (on_factor (literal n)) refl refl refl (λ a. refl) (forgets_factor 9 (literal n) refl (λ d. refl) refl refl) s
forgets comma s = forgets_comma s
forgets colon s = forgets_colon s
forgets plus s = forgets_within 12 on_plus refl refl refl (λ a. refl) forgets_plus s
forgets minus s = forgets_within 13 on_minus refl refl refl (λ a. refl) forgets_minus s
forgets star s = forgets_within 14 on_star refl refl refl (λ a. refl) forgets_star s
forgets dot s = forgets_within 15 (on_factor here) refl refl refl (λ a. refl) (forgets_factor 15 here refl (λ d. refl) refl refl) s
forgets left s = forgets_within 16 on_left refl refl refl (λ a. refl) forgets_left s
forgets right s = forgets_within 17 on_right refl refl refl (λ a. refl) forgets_right s
forgets stray s = forgets_stray s
