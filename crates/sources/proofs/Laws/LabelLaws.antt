-- Where a label is defined: exactly where a line says so; its address is the number of words before the first such line.
use Rattle.std.specs.Prelude.{◌≡◌, refl, Bool, true, false, ◌||◌, ◌↔◌, ℕ, ◌+◌}
use Rattle.std.proofs.Common.{sym, ap, ◌∙◌, subst, ⊎_elim}
use mathlib.Core.List.Memᴰ
use mathlib.Core.List.{List, [], ◌∷◌, ◌++◌, Memᴰ}
use Rattle.std.proofs.Math.Option.{Option, none, some, map}
use Rattle.common.proofs.Laws.Tests.{clash}
use Rattle.grammar.specs.Trees.{nothing, labelled, instruction, value}
use Rattle.grammar.specs.Reading.Reader.{got, fault, deep}
use Rattle.grammar.proofs.Laws.Tables.{same_true, same_refl, either, none_not_some}
use Rattle.sources.specs.Texts.{Reading}
use Rattle.sources.specs.Labels.{holds, words_in, defines, defined, Site, onward, first, address}

-- some line of these defines x
abbrev pub DefinedIn : List ℕ → List Reading → Type 0
DefinedIn x ls = Memᴰ (got (labelled x)) ls

-- the first line of these that defines x stands behind n words
pub record FirstAt (x : List ℕ) (ls : List Reading) (n : ℕ) : Type 0 where
  pub before : List Reading
  pub rest : List Reading
  pub parts : ls ≡ before ++ got (labelled x) ∷ rest
  pub not_before : DefinedIn x before → ⊥
  pub counted : words_in before ≡ n

-- ---- the tests say so

defines_exactly : (x : List ℕ) (l : Reading) → (defines x l ≡ true) ↔ (l ≡ got (labelled x))
defines_exactly x l = (to l, λ e. ap (defines x) e ∙ same_refl x)
  where
    to : (m : Reading) → defines x m ≡ true → m ≡ got (labelled x)
    to (got nothing) h = clash h refl
    to (got (labelled y)) h = ap (λ (z : List ℕ). got (labelled z)) (sym (same_true x y h))
    to (got (instruction i)) h = clash h refl
    to (got (value e)) h = clash h refl
    to fault h = clash h refl
    to deep h = clash h refl

in_defined : (x : List ℕ) {ls : List Reading} → DefinedIn x ls → defined x ls ≡ true
unfolding defined
in_defined x (Memᴰ.head {x = l} {xs} e) = rw ((defines_exactly x l).1 (sym e)) refl
in_defined x (Memᴰ.tail {x = l} {xs} m) = go (defines x l) (in_defined x m)
  where
    go : (b : Bool) → defined x xs ≡ true → (b || defined x xs) ≡ true
    go true h = refl
    go false h = h

defined_in : (x : List ℕ) (ls : List Reading) → defined x ls ≡ true → DefinedIn x ls
unfolding defined
defined_in x [] h = clash h refl
defined_in x (l ∷ ls) h =
    ⊎_elim (λ e. Memᴰ.head (sym ((defines_exactly x l).0 e))) (λ e. Memᴰ.tail (defined_in x ls e)) (either (defines x l) (defined x ls) h)

-- a label is defined in these lines exactly where one of them says so
pub defined_exactly : (x : List ℕ) (ls : List Reading) → (defined x ls ≡ true) ↔ DefinedIn x ls
defined_exactly x ls = (defined_in x ls, in_defined x)

-- ---- addresses

address_here : (x : List ℕ) (l : Reading) (ls : List Reading) → l ≡ got (labelled x) → address (l ∷ ls) x ≡ some 0
unfolding first
address_here x l ls e = rw ((defines_exactly x l).1 e) refl

address_further : (x : List ℕ) (l : Reading) (ls : List Reading) → defines x l ≡ false → address (l ∷ ls) x ≡ map (λ n. holds l + n) (address ls x)
unfolding first
address_further x l ls e = rw e (go (first x ls))
  where
    go : (o : Option Site) → map (λ (s : Site). s.words) (map (onward 1 (holds l)) o) ≡ map (λ n. holds l + n) (map (λ (s : Site). s.words) o)
    go none = refl
    go (some s) = refl

-- a line more in front, which does not define it
first_further : (x : List ℕ) (l : Reading) (ls : List Reading) (n : ℕ) → defines x l ≡ false → FirstAt x ls n → FirstAt x (l ∷ ls) (holds l + n)
unfolding words_in
first_further x l ls n e f = record {
  before = l ∷ f.before;
  rest = f.rest;
  parts = ap (λ (ms : List Reading). l ∷ ms) f.parts;
  not_before = λ m. ⊎_elim (λ k. clash ((defines_exactly x l).1 (sym k)) e) f.not_before (Memᴰ.cases_cons m);
  counted = ap (λ (k : ℕ). holds l + k) f.counted;
}

words_nil : words_in [] ≡ 0
unfolding words_in
words_nil = refl

address_nil : (x : List ℕ) → address [] x ≡ none
unfolding first
address_nil x = refl

address_first : (x : List ℕ) (ls : List Reading) (n : ℕ) → address ls x ≡ some n → FirstAt x ls n
address_first x [] n h = none_not_some (address_nil x) h
address_first x (l ∷ ls) n h = go (defines x l) refl (address ls x) refl (address_first x ls)
  where
    go : (b : Bool) → defines x l ≡ b → (o : Option ℕ) → address ls x ≡ o → ((m : ℕ) → address ls x ≡ some m → FirstAt x ls m) → FirstAt x (l ∷ ls) n
    go true e o k ih =
        let d = (defines_exactly x l).0 e in
        let z = address_here x l ls d in
        record { before = []; rest = ls; parts = ap (λ (m : Reading). m ∷ ls) d; not_before = Memᴰ.not-nil; counted = words_nil ∙ cc }
    go false e none k ih = none_not_some (address_further x l ls e ∙ rw k refl) h
    go false e (some m) k ih =
        let z : some (holds l + m) ≡ some n = sym (address_further x l ls e ∙ rw k refl) ∙ h in
        let q : holds l + m ≡ n = cc in
        subst (FirstAt x (l ∷ ls)) q (first_further x l ls m e (ih m k))

first_address : (x : List ℕ) (before rest : List Reading) → (DefinedIn x before → ⊥) → address (before ++ got (labelled x) ∷ rest) x ≡ some (words_in before)
unfolding words_in
first_address x [] rest h = address_here x (got (labelled x)) rest refl
first_address x (l ∷ before) rest h =
    address_further x l (before ++ got (labelled x) ∷ rest) (go (defines x l) refl)
    ∙ ap (map (λ n. holds l + n)) (first_address x before rest (λ m. h (Memᴰ.tail m)))
  where
    go : (b : Bool) → defines x l ≡ b → defines x l ≡ false
    go true e = absurd (h (Memᴰ.head (sym ((defines_exactly x l).0 e))))
    go false e = e

-- "A label means its first line": its address is n exactly where n words stand before the first line that defines it
pub address_exactly : (x : List ℕ) (ls : List Reading) (n : ℕ) → (address ls x ≡ some n) ↔ FirstAt x ls n
address_exactly x ls n = (
  address_first x ls n,
  λ f. ap (λ (ms : List Reading). address ms x) f.parts ∙ first_address x f.before f.rest f.not_before ∙ ap some f.counted,
)

defined_address : (x : List ℕ) {ls : List Reading} → DefinedIn x ls → (n : ℕ) × (address ls x ≡ some n)
defined_address x (Memᴰ.head {x = l} {xs} e) = (0, address_here x l xs (sym e))
defined_address x (Memᴰ.tail {x = l} {xs} m) = go (defines x l) refl (defined_address x m)
  where
    go : (b : Bool) → defines x l ≡ b → (n : ℕ) × (address xs x ≡ some n) → (n : ℕ) × (address (l ∷ xs) x ≡ some n)
    go true e ih = (0, address_here x l xs ((defines_exactly x l).0 e))
    go false e ih = (holds l + ih.0, address_further x l xs e ∙ ap (map (λ n. holds l + n)) ih.1)

-- it has one exactly where some line defines it
pub some_address : (x : List ℕ) (ls : List Reading) → DefinedIn x ls ↔ ((n : ℕ) × (address ls x ≡ some n))
some_address x ls = (
  defined_address x,
  λ a.
      let f = address_first x ls a.0 a.1 in
      subst (DefinedIn x) (sym f.parts) (Memᴰ.append_right f.before (Memᴰ.head refl)),
)

pub no_address : (x : List ℕ) (ls : List Reading) → (address ls x ≡ none) ↔ (DefinedIn x ls → ⊥)
no_address x ls = (λ h m. none_not_some h (defined_address x m).1, λ n. go n (address ls x) refl)
  where
    go : (DefinedIn x ls → ⊥) → (o : Option ℕ) → address ls x ≡ o → address ls x ≡ none
    go n none e = e
    go n (some k) e = absurd (n ((some_address x ls).1 (k, e)))
