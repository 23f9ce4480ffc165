-- Words as the code comes to them, one after the other: the sum of their bytes, and their digits.
use Rattle.std.specs.Prelude.{◌≡◌, refl, List, [], ◌∷◌, ◌++◌, ℕ, ◌+◌, ◌*◌, ◌≤◌, ◌<◌, get_or, length, take}
use Rattle.std.proofs.Common.{sym, ap, ◌∙◌, arith, length-take}
use Rattle.std.proofs.lemmas.List.{take_more}
use Rattle.rules.specs.Images.{four_bytes, all_bytes}
use Rattle.images.specs.Sections.{bytes_more}
use Rattle.numerals.specs.Numerals.{digits}
use Rattle.numerals.specs.Writing.{put}
use Rattle.text.specs.Puts.{put_of, put_nothing, put_behind}
use Rattle.intel_hex.specs.Records.{sum}
use Rattle.intel_hex.specs.Exporting.{pairs}
use Rattle.intel_hex.proofs.Laws.Written.{sum_append}

-- ---- their sum

pub sum_four : (w : ℕ) (bs : List ℕ) → bs ≡ four_bytes w → get_or bs 0 0 + get_or bs 1 0 + get_or bs 2 0 + get_or bs 3 0 ≡ sum (four_bytes w)
unfolding sum
sum_four w bs e = rw e (omega arith)

pub sum_most : (ws : List ℕ) → sum (all_bytes ws) ≤ 1020 * length ws
unfolding sum all_bytes
sum_most [] = omega arith
sum_most (w ∷ ws) = let ih = sum_most ws in omega arith

pub sum_none : (ws : List ℕ) → 0 ≡ sum (all_bytes (take 0 ws))
unfolding sum all_bytes
sum_none ws = refl

pub sum_more : (ws : List ℕ) (i : ℕ) → i < length ws → (s b : ℕ) → s ≡ sum (all_bytes (take i ws)) → b ≡ sum (four_bytes (get_or ws i 0))
    → s + b ≡ sum (all_bytes (take (i + 1) ws))
sum_more ws i h s b e f =
    let m = ap sum (bytes_more ws i h) ∙ sum_append (all_bytes (take i ws)) (four_bytes (get_or ws i 0)) in omega arith

pub sum_small : (ws : List ℕ) (i : ℕ) → (s : ℕ) → s ≡ sum (all_bytes (take i ws)) → length ws ≤ 4 → s ≤ 4080
sum_small ws i s e h = let l = length-take i ws in let m = sum_most (take i ws) in omega arith

-- ---- their digits

pub pairs_append : (xs ys : List ℕ) → pairs (xs ++ ys) ≡ pairs xs ++ pairs ys
unfolding pairs
pairs_append [] ys = refl
pairs_append (x ∷ xs) ys = ap (λ (l : List ℕ). digits 16 2 x ++ l) (pairs_append xs ys)

-- the next byte joins, and the next word
module _ (at : ℕ) (out : List ℕ) (p n : ℕ) (mid new : List ℕ) where
  pub byte_put : (bs : List ℕ) (i : ℕ) → i < length bs → put_of p mid ≡ put (pairs (take i bs)) at out
      → put_of n new ≡ put (digits 16 2 (get_or bs i 0)) p mid → put_of n new ≡ put (pairs (take (i + 1) bs)) at out
  unfolding pairs
  byte_put bs i h a b =
      put_behind (pairs (take i bs)) (digits 16 2 (get_or bs i 0)) out at p mid n new a b
      ∙ ap (λ (t : List ℕ). put t at out) (sym (ap pairs (take_more bs i 0 h) ∙ pairs_append (take i bs) (get_or bs i 0 ∷ [])))

  pub word_put : (ws : List ℕ) (i : ℕ) → i < length ws → put_of p mid ≡ put (pairs (all_bytes (take i ws))) at out
      → put_of n new ≡ put (pairs (four_bytes (get_or ws i 0))) p mid → put_of n new ≡ put (pairs (all_bytes (take (i + 1) ws))) at out
  word_put ws i h a b =
      put_behind (pairs (all_bytes (take i ws))) (pairs (four_bytes (get_or ws i 0))) out at p mid n new a b
      ∙ ap (λ (t : List ℕ). put t at out) (sym (ap pairs (bytes_more ws i h) ∙ pairs_append (all_bytes (take i ws)) (four_bytes (get_or ws i 0))))

-- none yet
pub bytes_none : (bs : List ℕ) (at : ℕ) (out : List ℕ) → at ≤ length out → put_of at out ≡ put (pairs (take 0 bs)) at out
unfolding pairs
bytes_none bs at out h = put_nothing out at h

pub words_none : (ws : List ℕ) (at : ℕ) (out : List ℕ) → at ≤ length out → put_of at out ≡ put (pairs (all_bytes (take 0 ws))) at out
unfolding pairs all_bytes
words_none ws at out h = put_nothing out at h
