-- The reader: one pass over the tokens, with a stack of what stands before each open bracket.
use Rattle.std.specs.Prelude.{Bool, true, false, cond, List, [], ◌∷◌, ℕ, eqb, length}
use Rattle.std.proofs.Math.Option.{Option, none, some, map}
use Rattle.common.specs.Answers as answer
use Rattle.grammar.specs.Tokens.{Token, mnemonic, register, name, number, comma, colon, plus, minus, star, dot, left, right, stray, Single, Pair, Triple, Mnemonic, Nop, Halt, Const, Bnz, one, two, three}
use Rattle.grammar.specs.Trees.{Sign, adding, taking, Expr, product, negative, more, Product, factor, times, Factor, literal, label, here, group, Instruction, nop, halt, constant, moving, computing, jumping, branching, Line, nothing, labelled, instruction, value}
use Rattle.grammar.specs.Grammar.{Choices}

-- what is read, or why nothing is
pub data Answer (A : Type 0) : Type 0 where
  got : A → Answer A
  fault : Answer A
  deep : Answer A

-- the sheet's numbers
abbrev pub code : {A : Type 0} → Answer A → ℕ
code (got a) = answer.done
code fault = answer.no_line
code deep = answer.too_deep

-- ---- expressions

-- what stands before a product
pub data Front : Type 0 where
  start negated : Front
  behind : Expr → Sign → Front

-- what stands before a factor
pub data Hole : Type 0 where
  first : Front → Hole
  next : Front → Product → Hole

-- an expression that is half read: a factor has to come, or a product stands and may go on;
-- and what stands before each bracket that is open, the innermost first
pub data Part : Type 0 where
  wants : Hole → List Hole → Part
  has : Front → Product → List Hole → Part

abbrev pub fresh : Part
fresh = wants (first start) []

abbrev pub join : Front → Product → Expr
join start p = product p
join negated p = negative p
join (behind e s) p = more e s p

abbrev pub fill : Hole → Factor → List Hole → Part
fill (first fr) f st = has fr (factor f) st
fill (next fr p) f st = has fr (times p f) st

abbrev pub on_factor : Factor → Part → Option Part
on_factor f (wants h st) = some (fill h f st)
on_factor f (has fr p st) = none

abbrev pub on_plus : Part → Option Part
on_plus (wants h st) = none
on_plus (has fr p st) = some (wants (first (behind (join fr p) adding)) st)

-- a sign stands only where nothing stands before it
abbrev pub on_minus : Part → Option Part
on_minus (wants (first start) st) = some (wants (first negated) st)
on_minus (wants (first negated) st) = none
on_minus (wants (first (behind e s)) st) = none
on_minus (wants (next fr p) st) = none
on_minus (has fr p st) = some (wants (first (behind (join fr p) taking)) st)

abbrev pub on_star : Part → Option Part
on_star (wants h st) = none
on_star (has fr p st) = some (wants (next fr p) st)

abbrev pub on_right : Part → Option Part
on_right (wants h st) = none
on_right (has fr p []) = none
on_right (has fr p (h ∷ st)) = some (fill h (group (join fr p)) st)

abbrev pub on_left : Part → Option Part
on_left (wants h st) = some (wants (first start) (h ∷ st))
on_left (has fr p st) = none

-- ---- lines

-- where an expression stands: alone, behind Const, or behind Bnz, its register and the comma if it is there
pub data Place : Type 0 where
  alone behind_const : Place
  behind_bnz : ℕ → Bool → Place

-- an instruction up to its first register
pub data Opening : Type 0 where
  jumping_to : Single → Opening
  moving_first : Pair → Opening
  computing_first : Triple → Opening
  branching_on : Opening

-- an instruction up to a later register, which a comma may precede
pub data Slot : Type 0 where
  moving_last : Pair → ℕ → Slot
  computing_second : Triple → ℕ → Slot
  computing_last : Triple → ℕ → Bool → ℕ → Slot  -- whether the first comma came
  constant_into : Expr → Slot

-- a line that is half read
pub data State : Type 0 where
  begin : State
  inside : Place → Part → State
  asks : Opening → State  -- a register has to come
  offset : ℕ → State  -- Bnz and its register: a comma may come, and an expression has to
  gap : Slot → State  -- a comma may come, and a register has to
  owes : Slot → State  -- the comma came, and a register has to
  done : Line → Choices → State

abbrev pub at : Place → Part → Answer State
at w x = got (inside w x)

abbrev pub chosen : Bool → Bool → Choices
chosen c d = record { first = c; second = d }

abbrev pub whole : Instruction → Bool → Bool → State
whole i c d = done (instruction i) (chosen c d)

abbrev pub take_first : Opening → ℕ → State
take_first (jumping_to k) r = whole (jumping k r) false false
take_first (moving_first k) r = gap (moving_last k r)
take_first (computing_first k) r = gap (computing_second k r)
take_first branching_on r = offset r

-- with the comma before it, if that is there
abbrev pub take : Slot → Bool → ℕ → State
take (moving_last k a) c r = whole (moving k a r) c false
take (computing_second k a) c r = gap (computing_last k a c r)
take (computing_last k a c b) d r = whole (computing k a b r) c d
take (constant_into e) c r = whole (constant e r) c false

abbrev pub begun : Mnemonic → State
begun Nop = whole nop false false
begun Halt = whole halt false false
begun Const = inside behind_const fresh
begun Bnz = asks branching_on
begun (one k) = asks (jumping_to k)
begun (two k) = asks (moving_first k)
begun (three k) = asks (computing_first k)

abbrev pub on_mnemonic : Mnemonic → State → Option State
on_mnemonic m begin = some (begun m)
on_mnemonic m (inside w x) = none
on_mnemonic m (asks o) = none
on_mnemonic m (offset a) = none
on_mnemonic m (gap s) = none
on_mnemonic m (owes s) = none
on_mnemonic m (done t c) = none

abbrev pub on_register : ℕ → State → Option State
on_register r begin = none
on_register r (inside alone x) = none
on_register r (inside behind_const (wants h st)) = none
on_register r (inside behind_const (has fr p [])) = some (take (constant_into (join fr p)) false r)
on_register r (inside behind_const (has fr p (h ∷ st))) = none
on_register r (inside (behind_bnz a c) x) = none
on_register r (asks o) = some (take_first o r)
on_register r (offset a) = none
on_register r (gap s) = some (take s false r)
on_register r (owes s) = some (take s true r)
on_register r (done t c) = none

abbrev pub on_comma : State → Option State
on_comma begin = none
on_comma (inside alone x) = none
on_comma (inside behind_const (wants h st)) = none
on_comma (inside behind_const (has fr p [])) = some (owes (constant_into (join fr p)))
on_comma (inside behind_const (has fr p (h ∷ st))) = none
on_comma (inside (behind_bnz a c) x) = none
on_comma (asks o) = none
on_comma (offset a) = some (inside (behind_bnz a true) fresh)
on_comma (gap s) = some (owes s)
on_comma (owes s) = none
on_comma (done t c) = none

-- a colon stands behind a name that stands alone
abbrev pub on_colon : State → Option State
on_colon begin = none
on_colon (inside alone (wants h st)) = none
on_colon (inside alone (has start (factor (literal n)) st)) = none
on_colon (inside alone (has start (factor (label x)) [])) = some (done (labelled x) (chosen false false))
on_colon (inside alone (has start (factor (label x)) (h ∷ st))) = none
on_colon (inside alone (has start (factor here) st)) = none
on_colon (inside alone (has start (factor (group e)) st)) = none
on_colon (inside alone (has start (times p f) st)) = none
on_colon (inside alone (has negated p st)) = none
on_colon (inside alone (has (behind e s) p st)) = none
on_colon (inside behind_const x) = none
on_colon (inside (behind_bnz a c) x) = none
on_colon (asks o) = none
on_colon (offset a) = none
on_colon (gap s) = none
on_colon (owes s) = none
on_colon (done t c) = none

-- a token of an expression
abbrev pub within : (Part → Option Part) → State → Option State
within f begin = map (inside alone) (f fresh)
within f (inside w x) = map (inside w) (f x)
within f (asks o) = none
within f (offset a) = map (inside (behind_bnz a false)) (f fresh)
within f (gap s) = none
within f (owes s) = none
within f (done t c) = none

-- where the token can go, the depth of brackets aside
abbrev pub move : Token → State → Option State
move (mnemonic m) = on_mnemonic m
move (register r) = on_register r
move (name x) = within (on_factor (label x))
move (number n) = within (on_factor (literal n))
move comma = on_comma
move colon = on_colon
move plus = within on_plus
move minus = within on_minus
move star = within on_star
move dot = within (on_factor here)
move left = within on_left
move right = within on_right
move stray = λ s. none

-- ---- whole lines

-- how many brackets are open
abbrev pub levels_part : Part → ℕ
levels_part (wants h st) = length st
levels_part (has fr p st) = length st

abbrev pub levels : State → ℕ
levels begin = 0
levels (inside w x) = levels_part x
levels (asks o) = 0
levels (offset a) = 0
levels (gap s) = 0
levels (owes s) = 0
levels (done t c) = 0

-- where the tokens end
abbrev pub end : State → Option Line
end begin = some nothing
end (inside w (wants h st)) = none
end (inside alone (has fr p [])) = some (value (join fr p))
end (inside behind_const (has fr p [])) = none
end (inside (behind_bnz a c) (has fr p [])) = some (instruction (branching a (join fr p)))
end (inside w (has fr p (h ∷ st))) = none
end (asks o) = none
end (offset a) = none
end (gap s) = none
end (owes s) = none
end (done t c) = some t

abbrev pub then : {A B : Type 0} → (A → Answer B) → Answer A → Answer B
then f (got a) = f a
then f fault = fault
then f deep = deep

abbrev pub or_fault : {A : Type 0} → Option A → Answer A
or_fault (some a) = got a
or_fault none = fault

abbrev pub final : State → Answer Line
final s = or_fault (end s)

-- brackets go as deep as the limit
module _ (limit : ℕ) where
  -- one bracket more is too deep, wherever it stands
  abbrev pub beyond : Token → ℕ → Bool
  beyond (mnemonic m) n = false
  beyond (register r) n = false
  beyond (name x) n = false
  beyond (number k) n = false
  beyond comma n = false
  beyond colon n = false
  beyond plus n = false
  beyond minus n = false
  beyond star n = false
  beyond dot n = false
  beyond left n = eqb n limit
  beyond right n = false
  beyond stray n = false

  abbrev pub step : Token → State → Answer State
  step t s = cond (beyond t (levels s)) deep (or_fault (move t s))

  abbrev pub run : List Token → Answer State → Answer State
  run [] s = s
  run (t ∷ ts) s = run ts (then (step t) s)

  unfoldable pub read : List Token → Answer Line
  read ts = then final (run ts (got begin))
