-- Texts stored one after the other, as the code stores them.
use Rattle.std.specs.Prelude.{◌≡◌, refl, List, [], ◌∷◌, ◌++◌, ℕ, ◌+◌, ◌≤◌, length, set}
use Rattle.std.proofs.Common.{sym, ap, ◌∙◌, subst, append_assoc, add-one, arith, length-append}
use Rattle.std.proofs.lemmas.List.Edits.{sets}
use Rattle.std.proofs.Math.Seq.{length-sets}
use Rattle.images.specs.Stores.{sets_then}
use Rattle.numerals.specs.Writing.{put}
use Rattle.text.specs.Puts.{put_of, put_whole}

-- a text stands from a place on, and `next` is the place after it
pub record Stored (old : List ℕ) (at : ℕ) (text new : List ℕ) (next : ℕ) : Type 0 where
  pub ends : next ≡ at + length text
  pub bytes : new ≡ sets old at text

-- ---- one text behind another

pub stored_then : (old : List ℕ) (at : ℕ) (t u : List ℕ) (mid : List ℕ) (p : ℕ) (new : List ℕ) (r : ℕ)
    → Stored old at t mid p → Stored mid p u new r → Stored old at (t ++ u) new r
stored_then old at t u mid p new r a b =
    let l = length-append t u in
    record { ends = omega arith; bytes = b.bytes ∙ ap (λ (m : List ℕ). sets m p u) a.bytes ∙ sets_then old at p t u a.ends }

-- three parts, of which the last two are stored together
pub joined : (t u v : List ℕ) → length (t ++ u ++ v) ≡ length t + length (u ++ v)
joined t u v = ap length (append_assoc t u v) ∙ length-append t (u ++ v)

pub stored_joins : (old : List ℕ) (at : ℕ) (t u v : List ℕ) (mid : List ℕ) (p : ℕ) (new : List ℕ) (r : ℕ)
    → Stored old at t mid p → Stored mid p (u ++ v) new r → Stored old at (t ++ u ++ v) new r
stored_joins old at t u v mid p new r a b =
    subst (λ (x : List ℕ). Stored old at x new r) (sym (append_assoc t u v)) (stored_then old at t (u ++ v) mid p new r a b)

pub stored_none : (old : List ℕ) (at : ℕ) → Stored old at [] old at
stored_none old at = record { ends = omega arith; bytes = refl }

-- a byte, or two, and a text behind them
pub stored_one : (old : List ℕ) (at x : ℕ) (t new : List ℕ) (r : ℕ) → Stored (set old at x) (at + 1) t new r → Stored old at (x ∷ t) new r
stored_one old at x t new r k = record { ends = omega arith; bytes = k.bytes ∙ ap (λ (n : ℕ). sets (set old at x) n t) (add-one at) }

pub stored_two : (old : List ℕ) (at x y : ℕ) (t new : List ℕ) (r : ℕ) → Stored (set (set old at x) (at + 1) y) (at + 2) t new r → Stored old at (x ∷ y ∷ t) new r
stored_two old at x y t new r k =
    let e : at + 2 ≡ at + 1 + 1 = omega arith in
    stored_one old at x (y ∷ t) new r
    (stored_one (set old at x) (at + 1) y t new r (subst (λ (n : ℕ). Stored (set (set old at x) (at + 1) y) n t new r) e k))

-- the buffer is as long as before
pub stored_length : (old : List ℕ) (at : ℕ) (t new : List ℕ) (r : ℕ) → Stored old at t new r → length new ≡ length old
stored_length old at t new r k = ap length k.bytes ∙ length-sets old at t

-- ---- what was put where there is room is stored

pub put_stored : (old : List ℕ) (at : ℕ) (text new : List ℕ) (r : ℕ) → at + length text ≤ length old → put_of r new ≡ put text at old → Stored old at text new r
put_stored old at text new r h e = let w = put_whole text old at h r new e in record { ends = w.0; bytes = w.1 }
