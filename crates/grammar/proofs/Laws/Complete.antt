-- Every line of the language is read, as the line that it is.
use Rattle.std.specs.Prelude.{◌≡◌, Bool, true, false, cond, ℕ, ◌+◌, ◌≤◌, ◌<◌, length}
use Rattle.std.proofs.Math.Path.{refl, ap}
use Rattle.std.proofs.Common.{◌∙◌, arith, ne_eqb}
use mathlib.Core.List.{List, [], ◌∷◌, ◌++◌, append_assoc}
use Rattle.grammar.specs.Tokens.{Token, register, name, number, minus, star, dot, left, right}
use Rattle.grammar.specs.Trees.{Sign, adding, taking, Expr, product, negative, more, Product, factor, times, Factor, literal, label, here, group, depth_e, depth_p, depth_f, nop, halt, constant, moving, computing, jumping, branching, Line, nothing, labelled, instruction, value, depth}
use Rattle.grammar.specs.Grammar.{Choices, optional, sign_of, write_e, write_p, write_f, write}
use Rattle.grammar.specs.Reading.Reader.{Answer, got, deep, then, Slot, moving_last, computing_second, computing_last, constant_into, gap, take, Front, start, negated, behind, Hole, first, next, wants, has, fresh, join, fill, Place, alone, behind_const, behind_bnz, State, at, begin, inside, offset, step, final, run, read}
use Rattle.grammar.proofs.Laws.Answers.{run_append}

-- an expression is what stands before its last product, and that product
abbrev front : Expr → Front
front (product p) = start
front (negative p) = negated
front (more e s p) = behind e s

abbrev last : Expr → Product
last (product p) = p
last (negative p) = p
last (more e s p) = p

join_back : (e : Expr) → join (front e) (last e) ≡ e
join_back (product p) = refl
join_back (negative p) = refl
join_back (more e s p) = refl

module _ (limit : ℕ) where
  module _ (w : Place) where
    opens : (h : Hole) (st : List Hole) → length st < limit → step limit left (inside w (wants h st)) ≡ at w (wants (first start) (h ∷ st))
    opens h st d =
        ap (λ (b : Bool). cond b deep (at w (wants (first start) (h ∷ st)))) (ne_eqb (length st) limit (omega arith))

    goes_on : (s : Sign) (e : Expr) (st : List Hole) → step limit (sign_of s) (inside w (has (front e) (last e) st)) ≡ at w (wants (first (behind e s)) st)
    goes_on adding e st = ap (λ (x : Expr). at w (wants (first (behind x adding)) st)) (join_back e)
    goes_on taking e st = ap (λ (x : Expr). at w (wants (first (behind x taking)) st)) (join_back e)

    mutual
      reads_expr : (e : Expr) (st : List Hole) → depth_e e + length st ≤ limit
          → run limit (write_e e) (at w (wants (first start) st)) ≡ at w (has (front e) (last e) st)
      reads_expr (product p) st h = reads_product p start st h
      reads_expr (negative p) st h = reads_product p negated st h
      reads_expr (more e s p) st h =
          run_append limit (write_e e) (sign_of s ∷ write_p p) _
          ∙ ap (run limit (sign_of s ∷ write_p p)) (reads_expr e st (omega arith))
          ∙ ap (run limit (write_p p)) (goes_on s e st)
          ∙ reads_product p (behind e s) st (omega arith)

      reads_product : (p : Product) (fr : Front) (st : List Hole) → depth_p p + length st ≤ limit
          → run limit (write_p p) (at w (wants (first fr) st)) ≡ at w (has fr p st)
      reads_product (factor f) fr st h = reads_factor f (first fr) st h
      reads_product (times p f) fr st h =
          run_append limit (write_p p) (star ∷ write_f f) _
          ∙ ap (run limit (star ∷ write_f f)) (reads_product p fr st (omega arith))
          ∙ reads_factor f (next fr p) st (omega arith)

      reads_factor : (f : Factor) (h : Hole) (st : List Hole) → depth_f f + length st ≤ limit
          → run limit (write_f f) (at w (wants h st)) ≡ at w (fill h f st)
      reads_factor (literal n) h st d = refl
      reads_factor (label x) h st d = refl
      reads_factor here h st d = refl
      reads_factor (group e) h st d =
          ap (run limit (write_e e ++ right ∷ [])) (opens h st (omega arith))
          ∙ run_append limit (write_e e) (right ∷ []) _
          ∙ ap (run limit (right ∷ [])) (reads_expr e (h ∷ st) (omega arith))
          ∙ ap (λ (x : Expr). at w (fill h (group x) st)) (join_back e)

  -- ---- where an expression is the first thing on its line, or follows Bnz and its register

  -- the first token goes where it goes at the beginning of an expression
  record Starts (ts : List Token) : Type 0 where
    token : Token
    rest : List Token
    are : ts ≡ token ∷ rest
    at_begin : step limit token begin ≡ step limit token (inside alone fresh)
    at_offset : (a : ℕ) → step limit token (offset a) ≡ step limit token (inside (behind_bnz a false) fresh)

  starts_append : (ts us : List Token) → Starts ts → Starts (ts ++ us)
  starts_append ts us a = record {
    token = a.token;
    rest = a.rest ++ us;
    are = ap (λ (l : List Token). l ++ us) a.are;
    at_begin = a.at_begin;
    at_offset = a.at_offset;
  }

  mutual
    starts_expr : (e : Expr) → Starts (write_e e)
    starts_expr (product p) = starts_product p
    starts_expr (negative p) = record { token = minus; rest = write_p p; are = refl; at_begin = refl; at_offset = λ a. refl }
    starts_expr (more e s p) = starts_append (write_e e) (sign_of s ∷ write_p p) (starts_expr e)

    starts_product : (p : Product) → Starts (write_p p)
    starts_product (factor f) = starts_factor f
    starts_product (times p f) = starts_append (write_p p) (star ∷ write_f f) (starts_product p)

    starts_factor : (f : Factor) → Starts (write_f f)
    starts_factor (literal n) = record { token = number n; rest = []; are = refl; at_begin = refl; at_offset = λ a. refl }
    starts_factor (label x) = record { token = name x; rest = []; are = refl; at_begin = refl; at_offset = λ a. refl }
    starts_factor here = record { token = dot; rest = []; are = refl; at_begin = refl; at_offset = λ a. refl }
    starts_factor (group e) = record { token = left; rest = write_e e ++ right ∷ []; are = refl; at_begin = refl; at_offset = λ a. refl }

  same_start : (ts : List Token) (a : Starts ts) (s u : State) → step limit a.token s ≡ step limit a.token u → run limit ts (got s) ≡ run limit ts (got u)
  same_start ts a s u h = rw a.are (ap (run limit a.rest) h)

  -- ---- whole lines

  -- an expression that is read whole
  abbrev all_of : Place → Expr → State
  all_of w e = inside w (has (front e) (last e) [])

  reads_whole : (w : Place) (e : Expr) → depth_e e ≤ limit → run limit (write_e e) (got (inside w fresh)) ≡ got (all_of w e)
  reads_whole w e h = reads_expr w e [] (omega arith)

  reads_value : (e : Expr) → depth_e e ≤ limit → run limit (write_e e) (got begin) ≡ got (all_of alone e)
  reads_value e h =
      let a = starts_expr e in same_start (write_e e) a begin (inside alone fresh) a.at_begin ∙ reads_whole alone e h

  reads_offset : (a : ℕ) (c : Bool) (e : Expr) → depth_e e ≤ limit → run limit (optional c ++ write_e e) (got (offset a)) ≡ got (all_of (behind_bnz a c) e)
  reads_offset a true e h = reads_whole (behind_bnz a true) e h
  reads_offset a false e h =
      let b = starts_expr e in same_start (write_e e) b (offset a) (inside (behind_bnz a false) fresh) (b.at_offset a) ∙ reads_whole (behind_bnz a false) e h

  -- a comma that may be there, and a register
  reads_register : (s : Slot) (c : Bool) (r : ℕ) (ts : List Token) → run limit (optional c ++ register r ∷ ts) (got (gap s)) ≡ run limit ts (got (take s c r))
  reads_register s true r ts = refl
  reads_register s false r ts = refl

  reads_into : (e : Expr) (c : Bool) (r : ℕ) → run limit (optional c ++ register r ∷ []) (got (all_of behind_const e)) ≡ got (take (constant_into e) c r)
  reads_into e true r = ap (λ (x : Expr). got (take (constant_into x) true r)) (join_back e)
  reads_into e false r = ap (λ (x : Expr). got (take (constant_into x) false r)) (join_back e)

  pub complete : (t : Line) (c : Choices) → depth t ≤ limit → read limit (write t c) ≡ got t
  unfolding read
  complete nothing c h = refl
  complete (labelled x) c h = refl
  complete (instruction nop) c h = refl
  complete (instruction halt) c h = refl
  complete (instruction (constant e r)) c h =
      ap (λ (ts : List Token). then final (run limit ts (got (inside behind_const fresh)))) (append_assoc (write_e e) (optional c.first) (register r ∷ []))
      ∙ ap (then final) (run_append limit (write_e e) (optional c.first ++ register r ∷ []) _)
      ∙ ap (λ (s : Answer State). then final (run limit (optional c.first ++ register r ∷ []) s)) (reads_whole behind_const e h)
      ∙ ap (then final) (reads_into e c.first r)
  complete (instruction (moving k a b)) c h = ap (then final) (reads_register (moving_last k a) c.first b [])
  complete (instruction (computing k a b d)) c h =
      ap (λ (ts : List Token). then final (run limit ts (got (gap (computing_second k a))))) (append_assoc (optional c.first) (register b ∷ optional c.second) (register d ∷ []))
      ∙ ap (then final) (reads_register (computing_second k a) c.first b (optional c.second ++ register d ∷ []))
      ∙ ap (then final) (reads_register (computing_last k a c.first b) c.second d [])
  complete (instruction (jumping k a)) c h = refl
  complete (instruction (branching a e)) c h =
      ap (then final) (reads_offset a c.first e h) ∙ ap (λ (x : Expr). got (instruction (branching a x))) (join_back e)
  complete (value e) c h = ap (then final) (reads_value e h) ∙ ap (λ (x : Expr). got (value x)) (join_back e)
