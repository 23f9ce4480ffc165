-- A result from what is seen of it: no refusal's number is 0, and each tells the refusal.
use Rattle.std.specs.Prelude.{◌≡◌, refl, ℕ, eqb, cond, List, [], ◌∷◌, Result, Ok, Err}
use Rattle.std.proofs.Common.{ap, ◌∙◌, sym}
use Rattle.answers.specs.declared.Refusal.{Refusal}
use Rattle.answers.specs.declared.Refusal.TheVariants.{NoPlace, NoInstruction, NoArrival, LoadOutside, StoreOutside, StoreForbidden, BadSet, EmptySet, NotWithin, NotOwned, NoReturn, NoNumber, BadForm, BadOwner, StrayBit, LoadForbidden, BadRows, NotWhole, BadSize, ManyRegisters, LastZero, BadEntryCount, BadEntry, BytesLeft, LengthsDiffer, ShortMemory, NoWord, ShortBuffer, NoLine, UnknownLabel, LabelTwice, ValueOutside, TooDeep, ManyWords, BadRecord, BadSum, OtherType, BeyondMemory, ByteTwice, NoEnd, AfterEnd, PartWord, NoData}
use Rattle.answers.specs.Numbers.{number}

abbrev refusals : List Refusal
refusals =
    NoPlace ∷ NoInstruction ∷ NoArrival ∷ LoadOutside ∷ StoreOutside ∷ StoreForbidden ∷ BadSet ∷ EmptySet ∷
    NotWithin ∷ NotOwned ∷ NoReturn ∷ NoNumber ∷ BadForm ∷ BadOwner ∷ StrayBit ∷ LoadForbidden ∷
    BadRows ∷ NotWhole ∷ BadSize ∷ ManyRegisters ∷ LastZero ∷ BadEntryCount ∷ BadEntry ∷ BytesLeft ∷
    LengthsDiffer ∷ ShortMemory ∷ NoWord ∷ ShortBuffer ∷ NoLine ∷ UnknownLabel ∷ LabelTwice ∷ ValueOutside ∷
    TooDeep ∷ ManyWords ∷ BadRecord ∷ BadSum ∷ OtherType ∷ BeyondMemory ∷ ByteTwice ∷ NoEnd ∷
    AfterEnd ∷ PartWord ∷ NoData ∷ []

-- the first of these refusals that has the number
abbrev first_with : List Refusal → ℕ → Refusal
first_with [] n = NoPlace
first_with (r ∷ rs) n = cond (eqb (number r) n) r (first_with rs n)

-- the result that answers a number, with this value where that is 0
abbrev pub result_of : {A : Type 0} → ℕ → A → Result A Refusal
result_of n a = cond (eqb n 0) (Ok a) (Err (first_with refusals n))

pub result_of-number : {A : Type 0} (r : Refusal) (a : A) → result_of (number r) a ≡ Err r
result_of-number NoPlace a = refl
result_of-number NoInstruction a = refl
result_of-number NoArrival a = refl
result_of-number LoadOutside a = refl
result_of-number StoreOutside a = refl
result_of-number StoreForbidden a = refl
result_of-number BadSet a = refl
result_of-number EmptySet a = refl
result_of-number NotWithin a = refl
result_of-number NotOwned a = refl
result_of-number NoReturn a = refl
result_of-number NoNumber a = refl
result_of-number BadForm a = refl
result_of-number BadOwner a = refl
result_of-number StrayBit a = refl
result_of-number LoadForbidden a = refl
result_of-number BadRows a = refl
result_of-number NotWhole a = refl
result_of-number BadSize a = refl
result_of-number ManyRegisters a = refl
result_of-number LastZero a = refl
result_of-number BadEntryCount a = refl
result_of-number BadEntry a = refl
result_of-number BytesLeft a = refl
result_of-number LengthsDiffer a = refl
result_of-number ShortMemory a = refl
result_of-number NoWord a = refl
result_of-number ShortBuffer a = refl
result_of-number NoLine a = refl
result_of-number UnknownLabel a = refl
result_of-number LabelTwice a = refl
result_of-number ValueOutside a = refl
result_of-number TooDeep a = refl
result_of-number ManyWords a = refl
result_of-number BadRecord a = refl
result_of-number BadSum a = refl
result_of-number OtherType a = refl
result_of-number BeyondMemory a = refl
result_of-number ByteTwice a = refl
result_of-number NoEnd a = refl
result_of-number AfterEnd a = refl
result_of-number PartWord a = refl
result_of-number NoData a = refl

pub number-not-0 : (r : Refusal) → number r ≡ 0 → ⊥
number-not-0 r z =
    let f : ◌≡◌ {A = Result ℕ Refusal} (Ok 0) (Err r) = ap (λ (n : ℕ). result_of n 0) (sym z) ∙ result_of-number r 0 in
    cc

-- two results that are seen alike are one, where their answer and their value are seen
module _ {A Seen : Type 0} (view : Result A Refusal → Seen) (answer : Seen → ℕ) (value : Seen → A)
    (done : (a : A) → answer (view (Ok a)) ≡ 0) (kept : (a : A) → value (view (Ok a)) ≡ a) (refused : (r : Refusal) → answer (view (Err r)) ≡ number r) where
  seen : (x : Result A Refusal) → result_of (answer (view x)) (value (view x)) ≡ x
  seen (Ok a) = rw (done a, kept a) refl
  seen (Err r) = rw (refused r) (result_of-number r _)

  pub same_result : (x y : Result A Refusal) → view x ≡ view y → x ≡ y
  same_result x y e = sym (seen x) ∙ ap (λ v. result_of (answer v) (value v)) e ∙ seen y
