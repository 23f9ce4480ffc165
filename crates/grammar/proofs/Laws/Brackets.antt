-- The brackets that are open in what was read are those on the reader's stack.
use Rattle.std.specs.Prelude.{◌≡◌, refl, Bool, true, false, List, [], ◌∷◌, ◌++◌, ℕ, suc, length}
use Rattle.std.proofs.Common.{ap, ◌∙◌}
use Rattle.grammar.specs.Tokens.{Token, register, comma, star, left, right}
use Rattle.grammar.specs.Trees.{Sign, adding, taking, Expr, product, negative, more, Product, factor, times, Factor, literal, label, here, group, nop, halt, constant, moving, computing, jumping, branching, Instruction, Line, nothing, labelled, instruction, value}
use Rattle.grammar.specs.Grammar.{Choices, optional, sign_of, write_e, write_p, write_f, write_i, write, shift, open_from, open_in}
use Rattle.grammar.specs.Reading.Reader.{Front, start, negated, behind, Hole, first, next, Part, wants, has, Place, alone, behind_const, behind_bnz, Opening, jumping_to, moving_first, computing_first, branching_on, Slot, moving_last, computing_second, computing_last, constant_into, State, begin, inside, asks, offset, gap, owes, done, levels_part, levels}
use Rattle.grammar.proofs.Laws.StateText.{text_front, text_hole, text_stack, text_part, text_place, text_opening, text_slot, text}

open_append : (n : ℕ) (ts us : List Token) → open_from n (ts ++ us) ≡ open_from (open_from n ts) us
open_append n [] us = refl
open_append n (t ∷ ts) us = open_append (shift t n) ts us

-- as many are closed as are opened
abbrev Flat : List Token → Type 0
Flat ts = (n : ℕ) → open_from n ts ≡ n

flat_append : (ts us : List Token) → Flat ts → Flat us → Flat (ts ++ us)
flat_append ts us f g n = open_append n ts us ∙ ap (λ (k : ℕ). open_from k us) (f n) ∙ g n

flat_optional : (c : Bool) → Flat (optional c)
flat_optional true n = refl
flat_optional false n = refl

flat_signed : (s : Sign) (ts : List Token) → Flat ts → Flat (sign_of s ∷ ts)
flat_signed adding ts f = f
flat_signed taking ts f = f

mutual
  flat_expr : (e : Expr) → Flat (write_e e)
  flat_expr (product p) = flat_product p
  flat_expr (negative p) = flat_product p
  flat_expr (more e s p) = flat_append (write_e e) (sign_of s ∷ write_p p) (flat_expr e) (flat_signed s (write_p p) (flat_product p))

  flat_product : (p : Product) → Flat (write_p p)
  flat_product (factor f) = flat_factor f
  flat_product (times p f) = flat_append (write_p p) (star ∷ write_f f) (flat_product p) (flat_factor f)

  flat_factor : (f : Factor) → Flat (write_f f)
  flat_factor (literal k) = λ n. refl
  flat_factor (label x) = λ n. refl
  flat_factor here = λ n. refl
  flat_factor (group e) = λ n. open_append (suc n) (write_e e) (right ∷ []) ∙ ap (λ (k : ℕ). open_from k (right ∷ [])) (flat_expr e (suc n))

flat_front : (fr : Front) → Flat (text_front fr)
flat_front start n = refl
flat_front negated n = refl
flat_front (behind e s) n = flat_append (write_e e) (sign_of s ∷ []) (flat_expr e) (flat_signed s [] (λ k. refl)) n

flat_hole : (h : Hole) → Flat (text_hole h)
flat_hole (first fr) = flat_front fr
flat_hole (next fr p) =
    flat_append (text_front fr ++ write_p p) (star ∷ []) (flat_append (text_front fr) (write_p p) (flat_front fr) (flat_product p)) (λ k. refl)

flat_place : (w : Place) → Flat (text_place w)
flat_place alone n = refl
flat_place behind_const n = refl
flat_place (behind_bnz a c) n = flat_optional c n

flat_opening : (o : Opening) → Flat (text_opening o)
flat_opening (jumping_to k) n = refl
flat_opening (moving_first k) n = refl
flat_opening (computing_first k) n = refl
flat_opening branching_on n = refl

flat_slot : (s : Slot) → Flat (text_slot s)
flat_slot (moving_last k a) n = refl
flat_slot (computing_second k a) n = refl
flat_slot (computing_last k a c b) n = flat_append (optional c) (register b ∷ []) (flat_optional c) (λ m. refl) n
flat_slot (constant_into e) n = flat_expr e n

flat_instruction : (i : Instruction) (c : Choices) → Flat (write_i i c)
flat_instruction nop c n = refl
flat_instruction halt c n = refl
flat_instruction (constant e r) c n =
    flat_append (write_e e ++ optional c.first) (register r ∷ []) (flat_append (write_e e) (optional c.first) (flat_expr e) (flat_optional c.first)) (λ k. refl) n
flat_instruction (moving k a b) c n = flat_append (optional c.first) (register b ∷ []) (flat_optional c.first) (λ m. refl) n
flat_instruction (computing k a b d) c n =
    flat_append (optional c.first ++ register b ∷ optional c.second) (register d ∷ [])
    (flat_append (optional c.first) (register b ∷ optional c.second) (flat_optional c.first) (flat_optional c.second)) (λ m. refl) n
flat_instruction (jumping k a) c n = refl
flat_instruction (branching a e) c n = flat_append (optional c.first) (write_e e) (flat_optional c.first) (flat_expr e) n

flat_line : (t : Line) (c : Choices) → Flat (write t c)
flat_line nothing c n = refl
flat_line (labelled x) c n = refl
flat_line (instruction i) c n = flat_instruction i c n
flat_line (value e) c n = flat_expr e n

open_stack : (st : List Hole) → open_in (text_stack st) ≡ length st
open_stack [] = refl
open_stack (h ∷ st) =
    open_append 0 (text_stack st ++ text_hole h) (left ∷ [])
    ∙ ap suc (open_append 0 (text_stack st) (text_hole h) ∙ flat_hole h (open_in (text_stack st)) ∙ open_stack st)

-- behind the stack
open_on : (st : List Hole) (ts : List Token) → Flat ts → open_in (text_stack st ++ ts) ≡ length st
open_on st ts f = open_append 0 (text_stack st) ts ∙ f (open_in (text_stack st)) ∙ open_stack st

open_part : (x : Part) → open_in (text_part x) ≡ levels_part x
open_part (wants h st) = open_on st (text_hole h) (flat_hole h)
open_part (has fr p st) = open_on st (text_front fr ++ write_p p) (flat_append (text_front fr) (write_p p) (flat_front fr) (flat_product p))

pub open_levels : (s : State) → open_in (text s) ≡ levels s
open_levels begin = refl
open_levels (inside w x) =
    open_append 0 (text_place w) (text_part x) ∙ ap (λ (n : ℕ). open_from n (text_part x)) (flat_place w 0) ∙ open_part x
open_levels (asks o) = flat_opening o 0
open_levels (offset a) = refl
open_levels (gap s) = flat_slot s 0
open_levels (owes s) = flat_append (text_slot s) (comma ∷ []) (flat_slot s) (λ k. refl) 0
open_levels (done t c) = flat_line t c 0
