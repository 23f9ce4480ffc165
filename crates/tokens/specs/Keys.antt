-- Words by their keys: the number that a word's bytes make.
use Rattle.std.specs.Prelude.{◌≡◌, refl, Bool, true, false, cond, ◌&&◌, List, [], ◌∷◌, map, ◌≢◌, ℕ, ◌+◌, ◌*◌, ◌<◌, ◌≤◌, eqb, ltb, length}
use Rattle.std.proofs.Common.{sym, ap, ◌∙◌, arith, eqb-true, eq-eqb, ne_eqb, ltb-true, ltb-false}
use Rattle.std.proofs.Math.Option.{Option, none, some}
use Rattle.std.proofs.lemmas.Bool.{eqb-false}
use Rattle.common.proofs.Laws.Tests.{both, bool_ext}
use Rattle.grammar.specs.Tokens.{Token}
use Rattle.grammar.specs.Spelling.{between, every, Row, words, lower, in_word}
use Rattle.grammar.specs.Reading.Lexer.{same, find}
use Rattle.grammar.proofs.Laws.Tables.{same_true, same_refl, each}
use Rattle.tokens.specs.Bytes.{bounds, inside, lower_bounds}
use Rattle.tokens.specs.Worth.{worth, worth_map, held, held_under, held_over, by_limit}

-- ---- bytes but 0 make a number that no other bytes make

abbrev filled : ℕ → Bool
filled b = between 1 255 b

abbrev spell : ℕ → List ℕ → ℕ
spell n w = worth (λ b. b) 256 n w

abbrev pub key_of : List ℕ → ℕ
key_of w = spell 0 w

-- as many bytes behind more make more
spell_more : (bs cs : List ℕ) (m n : ℕ) → every filled bs ≡ true → length bs ≡ length cs → m < n → spell m bs < spell n cs
unfolding worth
spell_more [] [] m n h e k = k
spell_more [] (c ∷ cs) m n h e k = absurd (omega arith)
spell_more (b ∷ bs) [] m n h e k = absurd (omega arith)
spell_more (b ∷ bs) (c ∷ cs) m n h e k =
    let z = both (filled b) (every filled bs) h in
    let l = bounds 1 255 b z.0 in
    spell_more bs cs (m * 256 + b) (n * 256 + c) z.1 (omega arith) (omega arith)

-- and so do more bytes
spell_longer : (bs cs : List ℕ) (m n : ℕ) → every filled bs ≡ true → every filled cs ≡ true → length bs < length cs → m ≤ n → spell m bs < spell n cs
unfolding worth
spell_longer bs [] m n h g e k = absurd (omega arith)
spell_longer bs (c ∷ cs) m n h g e k = go (eqb (length bs) (length cs)) refl (λ l. spell_longer bs cs m (n * 256 + c) h z.1 l (omega arith))
  where
    z : (filled c ≡ true) × (every filled cs ≡ true)
    z = both (filled c) (every filled cs) g

    go : (t : Bool) → eqb (length bs) (length cs) ≡ t → (length bs < length cs → spell m bs < spell (n * 256 + c) cs) → spell m bs < spell (n * 256 + c) cs
    go true f ih = let l = bounds 1 255 c z.0 in spell_more bs cs m (n * 256 + c) h (eqb-true _ _ f) (omega arith)
    go false f ih = let o : length bs ≢ length cs = eqb-false _ _ f in ih (omega arith)

spell_one : (bs cs : List ℕ) (m n : ℕ) → every filled bs ≡ true → every filled cs ≡ true → length bs ≡ length cs → spell m bs ≡ spell n cs → (m ≡ n) × (bs ≡ cs)
unfolding worth
spell_one [] [] m n h g e k = (k, refl)
spell_one [] (c ∷ cs) m n h g e k = absurd (omega arith)
spell_one (b ∷ bs) [] m n h g e k = absurd (omega arith)
spell_one (b ∷ bs) (c ∷ cs) m n h g e k =
    let y = both (filled b) (every filled bs) h in
    let z = both (filled c) (every filled cs) g in
    let l = bounds 1 255 b y.0 in
    let o = bounds 1 255 c z.0 in
    let r = spell_one bs cs (m * 256 + b) (n * 256 + c) y.1 z.1 (omega arith) k in
    let s : m * 256 + b ≡ n * 256 + c = r.0 in
    let t : b ≡ c = omega arith in
    let u : bs ≡ cs = r.1 in
    (omega arith, cc)

-- two words are the same where their keys are
key_same : (bs cs : List ℕ) → every filled bs ≡ true → every filled cs ≡ true → eqb (key_of bs) (key_of cs) ≡ same bs cs
key_same bs cs h g = bool_ext (eqb (key_of bs) (key_of cs)) (same bs cs) there back
  where
    sized : key_of bs ≡ key_of cs → length bs ≡ length cs
    sized e = go (eqb (length bs) (length cs)) refl (ltb (length bs) (length cs)) refl
      where
        go : (t : Bool) → eqb (length bs) (length cs) ≡ t → (u : Bool) → ltb (length bs) (length cs) ≡ u → length bs ≡ length cs
        go true f u k = eqb-true _ _ f
        go false f true k = let l : key_of bs < key_of cs = spell_longer bs cs 0 0 h g (ltb-true _ _ k) (omega arith) in absurd (omega arith)
        go false f false k =
            let o : length bs ≢ length cs = eqb-false _ _ f in
            let p : length cs ≤ length bs = ltb-false _ _ k in
            let l : key_of cs < key_of bs = spell_longer cs bs 0 0 g h (omega arith) (omega arith) in
            absurd (omega arith)

    there : eqb (key_of bs) (key_of cs) ≡ true → same bs cs ≡ true
    there t = let e : key_of bs ≡ key_of cs = eqb-true _ _ t in rw (spell_one bs cs 0 0 h g (sized e) e).1 (same_refl cs)

    back : same bs cs ≡ true → eqb (key_of bs) (key_of cs) ≡ true
    back t = eq-eqb _ _ (ap key_of (same_true bs cs t))

-- ---- tables by keys

-- a key that is held is that of a long word
abbrev pub longest : ℕ
longest = 1099511627776

unfoldable pub find_by : List Row → ℕ → Option Token
find_by [] k = none
find_by (r ∷ rs) k = cond (eqb k (key_of r.key)) (some r.token) (find_by rs k)

abbrev short : Row → Bool
short r = every filled r.key && ltb (key_of r.key) longest

held_eqb : (n m : ℕ) → m < longest → eqb (held longest n) m ≡ eqb n m
held_eqb n m h =
    by_limit longest (eqb (held longest n) m ≡ eqb n m) n
    (λ k. ap (λ (x : ℕ). eqb x m) (held_under longest n k))
    (λ k. ap (λ (x : ℕ). eqb x m) (held_over longest n k) ∙ ne_eqb longest m (λ e. omega arith) ∙ sym (ne_eqb n m (λ e. omega arith)))

find_by_lem : (rs : List Row) (w : List ℕ) → each short rs ≡ true → every filled w ≡ true → find rs w ≡ find_by rs (held longest (key_of w))
unfolding find_by
find_by_lem [] w h g = refl
find_by_lem (r ∷ rs) w h g =
    let z = both (short r) (each short rs) h in
    let y = both (every filled r.key) (ltb (key_of r.key) longest) z.0 in
    let e : same w r.key ≡ eqb (held longest (key_of w)) (key_of r.key) = sym (held_eqb (key_of w) (key_of r.key) (ltb-true _ _ y.1) ∙ key_same w r.key g y.0) in
    rw (e, find_by_lem rs w z.1 g) refl

words_short : each short words ≡ true
unfolding words worth
words_short = refl

lower_filled : (w : List ℕ) → every in_word w ≡ true → every filled (map lower w) ≡ true
lower_filled [] h = refl
lower_filled (b ∷ w) h =
    let z = both (in_word b) (every in_word w) h in
    let k = lower_bounds b z.0 in
    rw (inside 1 255 (lower b) (omega arith) (omega arith), lower_filled w z.1) refl

pub find_word : (w : List ℕ) → every in_word w ≡ true → find words (map lower w) ≡ find_by words (held longest (worth lower 256 0 w))
find_word w h = find_by_lem words (map lower w) words_short (lower_filled w h) ∙ ap (λ (n : ℕ). find_by words (held longest n)) (worth_map lower 256 0 w)
