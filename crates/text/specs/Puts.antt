-- What is seen of a call that puts a text, and texts put one behind another.
use Rattle.std.specs.Prelude.{◌≡◌, refl, Bool, true, false, leb, set, take, drop}
use Rattle.std.proofs.Common.{sym, ◌∙◌, append_assoc, add-one, leb-true, leb-false, length-set, take-append-drop, length-take-le, take_all}
use Rattle.std.proofs.lemmas.List.{drop-drop}
use Rattle.std.proofs.lemmas.List.Edits.{sets-eq}
use borrow.Rule.Slice.PartMut.{put_mid}
use Rattle.std.proofs.Math.Path.{ap}
use mathlib.Core.List.{List, [], ◌∷◌, ◌++◌}
use Prim.Native.Nat.{ℕ, suc, ◌+◌, ◌-◌, ◌≤◌, min}
use native.Mathlib.Omega.{arith}
use Rattle.std.proofs.Math.ListN.{length, length-append}
use Rattle.std.proofs.Math.Seq.{sets, set_out, length-sets}
use Rattle.images.specs.Stores.{sets_then}
use Rattle.numerals.specs.Writing.{Put, put}

abbrev pub put_of : ℕ → List ℕ → Put
put_of next out = record { next = next; out = out }

-- ---- what has no place is left out

sets_out : (l : List ℕ) (i : ℕ) (vs : List ℕ) → length l ≤ i → sets l i vs ≡ l
sets_out l i [] h = refl
sets_out l i (v ∷ vs) h = let e = set_out l i v h in let n = length-set l i v in sets_out (set l i v) (suc i) vs (omega arith) ∙ e

-- a text over the places from one on
pub put_mid_sets : (out vs : List ℕ) (at k : ℕ) → k ≡ length vs → at + k ≤ length out → put_mid at k out vs ≡ sets out at vs
put_mid_sets out vs at k e h =
    ap (λ (l : List ℕ). take at out ++ (vs ++ l)) (drop-drop k at out ∙ ap (λ (n : ℕ). drop (at + n) out) e)
    ∙ sym (append_assoc (take at out) vs (drop (at + length vs) out)) ∙ sym (sets-eq vs out at (omega arith))

-- the part of a text that has places
module _ (text out : List ℕ) (at start n : ℕ) (from : start ≡ min at (length out)) (e : n ≡ min (length text) (length out - start)) where
  front_whole : sets out start (take n text) ≡ sets out at text
  front_whole = go (leb (length out) at) refl (leb (length text) n) refl
    where
      go : (a : Bool) → leb (length out) at ≡ a → (b : Bool) → leb (length text) n ≡ b → sets out start (take n text) ≡ sets out at text
      go true d b c =
          let m = leb-true (length out) at d in
          sets_out out start (take n text) (omega arith) ∙ sym (sets_out out at text m)
      go false d true c =
          let m = leb-false (length out) at d in
          let s : start ≡ at = omega arith in
          ap (λ (k : ℕ). sets out k (take n text)) s ∙ ap (sets out at) (take_all n text (leb-true (length text) n c))
      go false d false c =
          let m = leb-false (length out) at d in
          let o = leb-false (length text) n c in
          let s : start ≡ at = omega arith in
          let l = length-take-le n text (omega arith) in
          let k = length-sets out at (take n text) in
          ap (λ (k : ℕ). sets out k (take n text)) s ∙ sym (sets_out (sets out at (take n text)) (at + n) (drop n text) (omega arith))
          ∙ sets_then out at (at + n) (take n text) (drop n text) (omega arith) ∙ ap (sets out at) (take-append-drop n text)

  pub front_put : (k : ℕ) (vs : List ℕ) → k ≡ n → vs ≡ take n text → put_of (start + n) (put_mid start k out vs) ≡ put text at out
  unfolding put
  front_put k vs w t =
      let i : start + n ≡ min (at + length text) (length out) = omega arith in
      let l = length-take-le n text (omega arith) in
      let v = ap length t in
      simp (i, put_mid_sets out vs start k (omega arith) (omega arith) ∙ ap (sets out start) t ∙ front_whole)

-- two bytes that have their places
pub two_put : (out : List ℕ) (at x y : ℕ) → at + 2 ≤ length out → put_of (at + 2) (set (set out at x) (at + 1) y) ≡ put (x ∷ y ∷ []) at out
unfolding put
two_put out at x y h = let k : at + 2 ≡ min (at + 2) (length out) = omega arith in simp (← k, add-one at)

-- no text
pub put_nothing : (out : List ℕ) (at : ℕ) → at ≤ length out → put_of at out ≡ put [] at out
unfolding put
put_nothing out at h = let k : min (at + 0) (length out) ≡ at = omega arith in simp k

-- ---- one text behind another

module _ (t u out : List ℕ) (at : ℕ) where
  behind : sets (sets out at t) (min (at + length t) (length out)) u ≡ sets out at (t ++ u)
  behind = go (leb (at + length t) (length out)) refl
    where
      go : (b : Bool) → leb (at + length t) (length out) ≡ b → sets (sets out at t) (min (at + length t) (length out)) u ≡ sets out at (t ++ u)
      go true c = let l = leb-true (at + length t) (length out) c in sets_then out at (min (at + length t) (length out)) t u (omega arith)
      go false c =
          let l = leb-false (at + length t) (length out) c in
          let k = length-sets out at t in
          sets_out (sets out at t) (min (at + length t) (length out)) u (omega arith)
          ∙ sym (sets_out (sets out at t) (at + length t) u (omega arith)) ∙ sets_then out at (at + length t) t u refl

  pub put_behind : (p : ℕ) (mid : List ℕ) (r : ℕ) (new : List ℕ) → put_of p mid ≡ put t at out → put_of r new ≡ put u p mid
      → put_of r new ≡ put (t ++ u) at out
  unfolding put
  put_behind p mid r new a b =
      let ep : p ≡ min (at + length t) (length out) = ap (λ (x : Put). x.next) a in
      let em : mid ≡ sets out at t = ap (λ (x : Put). x.out) a in
      let er : r ≡ min (p + length u) (length mid) = ap (λ (x : Put). x.next) b in
      let en : new ≡ sets mid p u = ap (λ (x : Put). x.out) b in
      let lm : length mid ≡ length out = ap length em ∙ length-sets out at t in
      let l = length-append t u in
      let k : r ≡ min (at + length (t ++ u)) (length out) = omega arith in
      simp (k, en ∙ ap (λ (m : List ℕ). sets m p u) em ∙ ap (λ (x : ℕ). sets (sets out at t) x u) ep ∙ behind)

-- a text that has a place for each byte
pub put_whole : (text out : List ℕ) (at : ℕ) → at + length text ≤ length out → (r : ℕ) (new : List ℕ) → put_of r new ≡ put text at out
    → (r ≡ at + length text) × (new ≡ sets out at text)
unfolding put
put_whole text out at h r new e =
    let k : r ≡ min (at + length text) (length out) = ap (λ (x : Put). x.next) e in (omega arith, ap (λ (x : Put). x.out) e)

-- the buffer is as long as before, and the place is not behind its end
pub put_length : (text out : List ℕ) (at r : ℕ) (new : List ℕ) → put_of r new ≡ put text at out → length new ≡ length out
unfolding put
put_length text out at r new e = ap (λ (x : Put). length x.out) e ∙ length-sets out at text

pub put_within : (text out : List ℕ) (at r : ℕ) (new : List ℕ) → put_of r new ≡ put text at out → r ≤ length new
unfolding put
put_within text out at r new e = let l = put_length text out at r new e in let k : r ≡ min (at + length text) (length out) = ap (λ (x : Put). x.next) e in omega arith
