-- Laws of tests and of tables: what is found is what stands there.
use Rattle.std.specs.Prelude.{◌≡◌, refl, Bool, true, false, cond, ◌&&◌, ◌||◌, List, [], ◌∷◌, ◌++◌, ◌⊎◌, ℕ, zero, suc, ◌<◌, eqb, length, get_or}
use Rattle.std.proofs.Common.{sym, ap, ◌∙◌, inl, inr, arith, eqb-true, eq-eqb}
use Rattle.std.proofs.Math.Option.{Option, none, some}
use Rattle.std.proofs.lemmas.Bool.{eqb-false}
use Rattle.common.proofs.Laws.Tests.{clash, both}
use Rattle.grammar.specs.Tokens.{Token}
use Rattle.grammar.specs.Spelling.{every, Row, At}
use Rattle.grammar.specs.Reading.Lexer.{same, find}

pub either : (a b : Bool) → (a || b) ≡ true → (a ≡ true) ⊎ (b ≡ true)
either true b h = inl refl
either false b h = inr h

pub none_not_some : {A B : Type 0} {a : A} {x : Option A} → x ≡ none → x ≡ some a → B
none_not_some p q = let z : ◌≡◌ {A = ℕ} 0 1 = cc in absurd (omega arith)

-- what holds of the picked side, of a test that is known
pub picks : {A : Type 0} (b : Bool) (x y : A) (P : A → Type 0) → (b ≡ true → P x) → (b ≡ false → P y) → P (cond b x y)
picks true x y P f g = f refl
picks false x y P f g = g refl

pub every_snoc : (test : ℕ → Bool) (bs : List ℕ) (b : ℕ) → every test bs ≡ true → test b ≡ true → every test (bs ++ b ∷ []) ≡ true
every_snoc test [] b h k = simp k
every_snoc test (c ∷ bs) b h k =
    let z = both (test c) (every test bs) h in ap (λ (x : Bool). x && every test (bs ++ b ∷ [])) z.0 ∙ every_snoc test bs b z.1 k

pub every_at : (test : ℕ → Bool) (bs : List ℕ) → every test bs ≡ true → (i : ℕ) → i < length bs → test (get_or bs i 0) ≡ true
every_at test [] h i l = absurd (omega arith)
every_at test (b ∷ bs) h zero l = (both (test b) (every test bs) h).0
every_at test (b ∷ bs) h (suc i) l = every_at test bs (both (test b) (every test bs) h).1 i (omega arith)

-- ---- numbers

-- a test of each number below k
abbrev pub all_below : (ℕ → Bool) → ℕ → Bool
all_below test zero = true
all_below test (suc k) = test k && all_below test k

pub below : (test : ℕ → Bool) (k : ℕ) → all_below test k ≡ true → (d : ℕ) → d < k → test d ≡ true
below test zero h d n = absurd (omega arith)
below test (suc k) h d n = go (eqb d k) refl (λ m. below test k (both (test k) (all_below test k) h).1 d m)
  where
    go : (b : Bool) → eqb d k ≡ b → (d < k → test d ≡ true) → test d ≡ true
    go true e ih = ap test (eqb-true d k e) ∙ (both (test k) (all_below test k) h).0
    go false e ih = let z = eqb-false d k e in ih (omega arith)

-- ---- keys

pub same_true : (bs cs : List ℕ) → same bs cs ≡ true → bs ≡ cs
same_true [] [] h = refl
same_true [] (c ∷ cs) h = clash h refl
same_true (b ∷ bs) [] h = clash h refl
same_true (b ∷ bs) (c ∷ cs) h =
    let k = both (eqb b c) (same bs cs) h in
    ap (λ (x : ℕ). x ∷ bs) (eqb-true b c k.0) ∙ ap (λ (xs : List ℕ). c ∷ xs) (same_true bs cs k.1)

pub same_refl : (bs : List ℕ) → same bs bs ≡ true
same_refl [] = refl
same_refl (b ∷ bs) = simp (eq-eqb b b refl, same_refl bs)

-- ---- what is found stands in the table

pub find_at : (rs : List Row) (k : List ℕ) (t : Token) → find rs k ≡ some t → At rs k t
find_at [] k t h = none_not_some refl h
find_at (r ∷ rs) k t h = go (same k r.key) refl (find_at rs k t) h
  where
    go : (b : Bool) → same k r.key ≡ b → (find rs k ≡ some t → At rs k t) → cond b (some r.token) (find rs k) ≡ some t → At (r ∷ rs) k t
    go true e ih g = inl (same_true k r.key e, cc)
    go false e ih g = inr (ih g)

-- ---- what stands in a table whose keys are distinct is found

abbrev absent : Option Token → Bool
absent (some t) = false
absent none = true

abbrev pub distinct : List Row → Bool
distinct [] = true
distinct (r ∷ rs) = absent (find rs r.key) && distinct rs

pub at_find : (rs : List Row) (k : List ℕ) (t : Token) → distinct rs ≡ true → At rs k t → find rs k ≡ some t
at_find [] k t d a = absurd a
at_find (r ∷ rs) k t d (inl e) =
    ap (λ (b : Bool). cond b (some r.token) (find rs k)) (ap (λ (x : List ℕ). same x r.key) e.0 ∙ same_refl r.key) ∙ ap some (sym e.1)
at_find (r ∷ rs) k t d (inr a) =
    let h = both (absent (find rs r.key)) (distinct rs) d in go (at_find rs k t h.1 a) h.0 (same k r.key) refl
  where
    go : find rs k ≡ some t → absent (find rs r.key) ≡ true → (b : Bool) → same k r.key ≡ b → cond b (some r.token) (find rs k) ≡ some t
    go f n true e = clash n (ap (λ (x : List ℕ). absent (find rs x)) (sym (same_true k r.key e)) ∙ ap absent f)
    go f n false e = f

-- ---- a test that passes at each row of the table

abbrev pub each : (Row → Bool) → List Row → Bool
each test [] = true
each test (r ∷ rs) = test r && each test rs

pub at_each : (test : Row → Bool) (rs : List Row) (k : List ℕ) (t : Token) → each test rs ≡ true → At rs k t → test (record { key = k; token = t }) ≡ true
at_each test [] k t h a = absurd a
at_each test (r ∷ rs) k t h (inl e) =
    ap (λ (x : List ℕ). test (record { key = x; token = t })) e.0 ∙ ap (λ (x : Token). test (record { key = r.key; token = x })) e.1
    ∙ (both (test r) (each test rs) h).0
at_each test (r ∷ rs) k t h (inr a) = at_each test rs k t (both (test r) (each test rs) h).1 a
