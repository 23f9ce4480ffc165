-- A test at each of a list: it passes at all of them, or there is one at which it fails.
use Rattle.std.specs.Prelude.{◌≡◌, refl, Bool, true, false, ◌&&◌}
use Rattle.std.proofs.Common.{sym, ap, ◌∙◌}
use Rattle.std.proofs.Math.Bool.{and_assoc}
use mathlib.Core.List.{List, [], ◌∷◌, ◌++◌, Memᴰ}
use Rattle.common.proofs.Laws.Tests.{both, clash}

abbrev pub each : {A : Type 0} → (A → Bool) → List A → Bool
each test [] = true
each test (x ∷ xs) = test x && each test xs

pub each_append : {A : Type 0} (test : A → Bool) (xs ys : List A) → each test (xs ++ ys) ≡ (each test xs && each test ys)
each_append test [] ys = refl
each_append test (x ∷ xs) ys = ap (λ (b : Bool). test x && b) (each_append test xs ys) ∙ sym (and_assoc (test x) (each test xs) (each test ys))

pub each_of : {A : Type 0} (test : A → Bool) {x : A} {xs : List A} → Memᴰ x xs → each test xs ≡ true → test x ≡ true
each_of test (Memᴰ.head {x = y} {xs} e) h = ap test e ∙ (both (test y) (each test xs) h).0
each_of test (Memᴰ.tail {x = y} {xs} m) h = each_of test m (both (test y) (each test xs) h).1

pub of_each : {A : Type 0} (test : A → Bool) (xs : List A) → ((x : A) → Memᴰ x xs → test x ≡ true) → each test xs ≡ true
of_each test [] h = refl
of_each test (x ∷ xs) h =
    ap (λ (b : Bool). b && each test xs) (h x (Memᴰ.head refl)) ∙ of_each test xs (λ y m. h y (Memᴰ.tail m))

-- where it does not pass
pub record Fails {A : Type 0} (test : A → Bool) (xs : List A) : Type 0 where
  pub at : A
  pub there : Memᴰ at xs
  pub fails : test at ≡ false

fails_further : {A : Type 0} (test : A → Bool) (x : A) {xs : List A} → Fails test xs → Fails test (x ∷ xs)
fails_further test x f = record { at = f.at; there = Memᴰ.tail f.there; fails = f.fails }

pub each_fails : {A : Type 0} (test : A → Bool) (xs : List A) → each test xs ≡ false → Fails test xs
each_fails test [] h = clash refl h
each_fails test (x ∷ xs) h = go (test x) refl (each_fails test xs) h
  where
    go : (b : Bool) → test x ≡ b → (each test xs ≡ false → Fails test xs) → (b && each test xs) ≡ false → Fails test (x ∷ xs)
    go true e ih k = fails_further test x (ih k)
    go false e ih k = record { at = x; there = Memᴰ.head refl; fails = e }

pub fails_each : {A : Type 0} (test : A → Bool) (xs : List A) → Fails test xs → each test xs ≡ false
fails_each test xs f = go (each test xs) refl
  where
    go : (b : Bool) → each test xs ≡ b → each test xs ≡ false
    go true e = clash (each_of test f.there e) f.fails
    go false e = e
