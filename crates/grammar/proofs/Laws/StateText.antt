-- What a state of the reader stands for: its tokens, and that they are not too deep.
use Rattle.std.specs.Prelude.{◌≡◌, refl, List, [], ◌∷◌, ◌++◌, ℕ, ◌+◌, ◌≤◌, max, length}
use Rattle.std.proofs.Common.{sym, append_assoc, arith}
use Rattle.grammar.specs.Tokens.{Token, mnemonic, register, comma, minus, star, left, Const, Bnz, one, two, three}
use Rattle.grammar.specs.Trees.{Product, Factor, depth_e, depth_p, depth_f, depth}
use Rattle.grammar.specs.Grammar.{optional, sign_of, write_e, write_p, write_f, write}
use Rattle.grammar.specs.Reading.Reader.{Front, start, negated, behind, Hole, first, next, Part, wants, has, fresh, join, fill, Place, alone, behind_const, behind_bnz, Opening, jumping_to, moving_first, computing_first, branching_on, Slot, moving_last, computing_second, computing_last, constant_into, State, begin, inside, asks, offset, gap, owes, done}

-- ---- the tokens that a state stands for

abbrev pub text_front : Front → List Token
text_front start = []
text_front negated = minus ∷ []
text_front (behind e s) = write_e e ++ sign_of s ∷ []

abbrev pub text_hole : Hole → List Token
text_hole (first fr) = text_front fr
text_hole (next fr p) = text_front fr ++ write_p p ++ star ∷ []

abbrev pub text_stack : List Hole → List Token
text_stack [] = []
text_stack (h ∷ st) = text_stack st ++ text_hole h ++ left ∷ []

abbrev pub text_part : Part → List Token
text_part (wants h st) = text_stack st ++ text_hole h
text_part (has fr p st) = text_stack st ++ (text_front fr ++ write_p p)

abbrev pub text_place : Place → List Token
text_place alone = []
text_place behind_const = mnemonic Const ∷ []
text_place (behind_bnz a c) = mnemonic Bnz ∷ register a ∷ optional c

abbrev pub text_opening : Opening → List Token
text_opening (jumping_to k) = mnemonic (one k) ∷ []
text_opening (moving_first k) = mnemonic (two k) ∷ []
text_opening (computing_first k) = mnemonic (three k) ∷ []
text_opening branching_on = mnemonic Bnz ∷ []

abbrev pub text_slot : Slot → List Token
text_slot (moving_last k a) = mnemonic (two k) ∷ register a ∷ []
text_slot (computing_second k a) = mnemonic (three k) ∷ register a ∷ []
text_slot (computing_last k a c b) = mnemonic (three k) ∷ register a ∷ optional c ++ register b ∷ []
text_slot (constant_into e) = mnemonic Const ∷ write_e e

abbrev pub text : State → List Token
text begin = []
text (inside w x) = text_place w ++ text_part x
text (asks o) = text_opening o
text (offset a) = mnemonic Bnz ∷ register a ∷ []
text (gap s) = text_slot s
text (owes s) = text_slot s ++ comma ∷ []
text (done t c) = write t c

pub text_join : (fr : Front) (p : Product) → write_e (join fr p) ≡ text_front fr ++ write_p p
text_join start p = refl
text_join negated p = refl
text_join (behind e s) p = sym (append_assoc (write_e e) (sign_of s ∷ []) (write_p p))

pub text_fill : (h : Hole) (f : Factor) (st : List Hole) → text_part (fill h f st) ≡ text_part (wants h st) ++ write_f f
text_fill (first fr) f st = sym (append_assoc (text_stack st) (text_front fr) (write_f f))
text_fill (next fr p) f st = simp append_assoc

-- ---- what a state stands for is not too deep

abbrev pub depth_front : Front → ℕ
depth_front start = 0
depth_front negated = 0
depth_front (behind e s) = depth_e e

abbrev pub depth_hole : Hole → ℕ
depth_hole (first fr) = depth_front fr
depth_hole (next fr p) = max (depth_front fr) (depth_p p)

pub depth_join : (fr : Front) (p : Product) → depth_e (join fr p) ≡ max (depth_front fr) (depth_p p)
depth_join start p = omega arith
depth_join negated p = omega arith
depth_join (behind e s) p = refl

module _ (limit : ℕ) where
  abbrev pub FitsStack : List Hole → Type 0
  FitsStack [] = Unit {0}
  FitsStack (h ∷ st) = (depth_hole h + length st ≤ limit) × FitsStack st

  abbrev pub FitsPart : Part → Type 0
  FitsPart (wants h st) = (depth_hole h + length st ≤ limit) × FitsStack st
  FitsPart (has fr p st) = (depth_front fr + length st ≤ limit) × (depth_p p + length st ≤ limit) × FitsStack st

  abbrev pub FitsSlot : Slot → Type 0
  FitsSlot (moving_last k a) = Unit {0}
  FitsSlot (computing_second k a) = Unit {0}
  FitsSlot (computing_last k a c b) = Unit {0}
  FitsSlot (constant_into e) = depth_e e ≤ limit

  abbrev pub Fits : State → Type 0
  Fits begin = Unit {0}
  Fits (inside w x) = FitsPart x
  Fits (asks o) = Unit {0}
  Fits (offset a) = Unit {0}
  Fits (gap s) = FitsSlot s
  Fits (owes s) = FitsSlot s
  Fits (done t c) = depth t ≤ limit

  pub fits_fresh : FitsPart fresh
  fits_fresh = (omega arith, tt)

  pub fits_fill : (h : Hole) (f : Factor) (st : List Hole) → depth_f f + length st ≤ limit → FitsPart (wants h st) → FitsPart (fill h f st)
  fits_fill (first fr) f st d k = (k.0, d, k.1)
  fits_fill (next fr p) f st d k = (omega arith, omega arith, k.1)
