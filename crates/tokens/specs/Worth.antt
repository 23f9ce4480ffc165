-- The number that bytes make, and numbers that are held at a limit.
use Rattle.std.specs.Prelude.{◌≡◌, refl, Bool, true, false, cond, ℕ, ◌+◌, ◌*◌, ◌<◌, ◌≤◌, ltb}
use Rattle.std.proofs.Common.{sym, ap, ◌∙◌, le-mul_of_pos_right, arith, lt-ltb, le-ltb, ltb-true, ltb-false}
use mathlib.Core.List.{List, [], ◌∷◌, map}
use Rattle.grammar.specs.Spelling.{digit_value, value}
use Rattle.grammar.specs.Reading.Kinds.{clip}

-- the number that bytes make behind n, each for as much as f says
unfoldable pub worth : (ℕ → ℕ) → ℕ → ℕ → List ℕ → ℕ
worth f base n [] = n
worth f base n (b ∷ bs) = worth f base (n * base + f b) bs

unfoldable pub held : ℕ → ℕ → ℕ
held limit n = cond (ltb n limit) n limit

pub worth_map : (f : ℕ → ℕ) (base n : ℕ) (bs : List ℕ) → worth (λ b. b) base n (map f bs) ≡ worth f base n bs
unfolding worth
worth_map f base n [] = refl
worth_map f base n (b ∷ bs) = worth_map f base (n * base + f b) bs

pub worth_value : (base n : ℕ) (bs : List ℕ) → worth digit_value base n bs ≡ value base n bs
unfolding worth
worth_value base n [] = refl
worth_value base n (b ∷ bs) = worth_value base (n * base + digit_value b) bs

module _ (limit : ℕ) where
  pub held_under : (n : ℕ) → n < limit → held limit n ≡ n
  unfolding held
  held_under n h = simp (lt-ltb n limit h)

  pub held_over : (n : ℕ) → limit ≤ n → held limit n ≡ limit
  unfolding held
  held_over n h = simp (le-ltb n limit h)

  -- by the two cases
  pub by_limit : (P : Type 0) (n : ℕ) → (n < limit → P) → (limit ≤ n → P) → P
  by_limit P n f g = go (ltb n limit) refl
    where
      go : (t : Bool) → ltb n limit ≡ t → P
      go true e = f (ltb-true n limit e)
      go false e = g (ltb-false n limit e)

  pub held_most : (n : ℕ) → held limit n ≤ limit
  held_most n = by_limit (held limit n ≤ limit) n (λ h. rw (held_under n h) (omega arith)) (λ h. rw (held_over n h) (omega arith))

  pub held_small : (n : ℕ) → n ≤ limit → held limit n ≡ n
  held_small n k = by_limit (held limit n ≡ n) n (λ h. held_under n h) (λ h. rw (held_over n h) (omega arith))

  held_held : (n : ℕ) → held limit (held limit n) ≡ held limit n
  held_held n = held_small (held limit n) (held_most n)

  -- what is held at the limit stays there
  module _ (f : ℕ → ℕ) (base : ℕ) (positive : 0 < base) where
    held_step : (n m d : ℕ) → held limit n ≡ held limit m → held limit (n * base + d) ≡ held limit (m * base + d)
    held_step n m d e = by_limit _ n low high
      where
        low : n < limit → held limit (n * base + d) ≡ held limit (m * base + d)
        low h = by_limit _ m
            (λ k. ap (λ (x : ℕ). held limit (x * base + d)) (sym (held_under n h) ∙ e ∙ held_under m k))
            (λ k. let z : n ≡ limit = sym (held_under n h) ∙ e ∙ held_over m k in absurd (omega arith))

        high : limit ≤ n → held limit (n * base + d) ≡ held limit (m * base + d)
        high h = by_limit _ m
            (λ k. let z : limit ≡ m = sym (held_over n h) ∙ e ∙ held_under m k in absurd (omega arith))
            (λ k.
            let p : n ≤ n * base = le-mul_of_pos_right n positive in
            let q : m ≤ m * base = le-mul_of_pos_right m positive in
            held_over (n * base + d) (omega arith) ∙ sym (held_over (m * base + d) (omega arith)))

    held_on : (bs : List ℕ) (n m : ℕ) → held limit n ≡ held limit m → held limit (worth f base n bs) ≡ held limit (worth f base m bs)
    unfolding worth
    held_on [] n m e = e
    held_on (b ∷ bs) n m e = held_on bs (n * base + f b) (m * base + f b) (held_step n m (f b) e)

    pub held_again : (bs : List ℕ) (n : ℕ) → held limit (worth f base n bs) ≡ held limit (worth f base (held limit n) bs)
    held_again bs n = held_on bs n (held limit n) (sym (held_held n))

pub clip_held : (n : ℕ) → clip n ≡ held 4294967296 n
unfolding clip held
clip_held n = refl
