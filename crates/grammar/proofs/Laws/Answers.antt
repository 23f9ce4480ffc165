-- Laws of answers and of reading on.
use Rattle.std.specs.Prelude.{◌≡◌, refl, List, [], ◌∷◌, ◌++◌, ℕ}
use Rattle.std.proofs.Common.{ap, arith}
use Rattle.std.proofs.Math.Option.{Option, none, some, map}
use Rattle.grammar.specs.Tokens.{Token}
use Rattle.grammar.specs.Reading.Reader.{Answer, got, fault, deep, code, or_fault, then, State, step, run}

-- what holds of what is there, if anything is
abbrev pub To : {A : Type 0} → (A → Type 0) → Option A → Type 0
To P (some a) = P a
To P none = Unit {0}

pub to_map : {A B : Type 0} (P : A → Type 0) (Q : B → Type 0) (f : A → B) → ((a : A) → P a → Q (f a)) → (x : Option A) → To P x → To Q (map f x)
to_map P Q f k (some a) h = k a h
to_map P Q f k none h = tt

-- what holds of what is got, if anything is
abbrev pub All : {A : Type 0} → (A → Type 0) → Answer A → Type 0
All P (got a) = P a
All P fault = Unit {0}
All P deep = Unit {0}

pub all_or_fault : {A : Type 0} (P : A → Type 0) (x : Option A) → To P x → All P (or_fault x)
all_or_fault P (some a) h = h
all_or_fault P none h = tt

pub all_then : {A B : Type 0} (P : A → Type 0) (Q : B → Type 0) (f : A → Answer B) → ((a : A) → P a → All Q (f a)) → (x : Answer A) → All P x → All Q (then f x)
all_then P Q f k (got a) h = k a h
all_then P Q f k fault h = tt
all_then P Q f k deep h = tt

-- two answers that differ in their numbers are two
pub differ : {A : Type 0} {B : Type 0} (x y : Answer A) → (code x ≡ code y → ⊥) → x ≡ y → B
differ x y n e = absurd (n (ap code e))

pub or_fault_not_deep : {A : Type 0} {B : Type 0} (x : Option A) → or_fault x ≡ deep → B
or_fault_not_deep (some a) h = differ (got a) deep (omega arith) h
or_fault_not_deep none h = differ fault deep (omega arith) h

module _ (limit : ℕ) where
  pub run_append : (ts us : List Token) (s : Answer State) → run limit (ts ++ us) s ≡ run limit us (run limit ts s)
  run_append [] us s = refl
  run_append (t ∷ ts) us s = run_append ts us (then (step limit t) s)

  pub run_fault : (ts : List Token) → run limit ts fault ≡ fault
  run_fault [] = refl
  run_fault (t ∷ ts) = run_fault ts

  pub run_deep : (ts : List Token) → run limit ts deep ≡ deep
  run_deep [] = refl
  run_deep (t ∷ ts) = run_deep ts
