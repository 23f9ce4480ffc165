-- Numbers and sections stored one after the other, as the code stores them.
use Rattle.std.specs.Prelude.{◌≡◌, refl, List, ℕ, ◌+◌, ◌*◌, ◌<◌, ◌≤◌, get_or, length, take, drop, ◌++◌}
use Rattle.std.proofs.Common.{sym, ap, ◌∙◌, append_assoc, arith, length-take-le}
use Rattle.std.proofs.lemmas.List.{drop-drop}
use Rattle.std.proofs.lemmas.List.Edits.{sets, sets-eq}
use borrow.Rule.Slice.PartMut.{put_mid}
use Rattle.rules.specs.Images.{four_bytes, all_bytes, section}
use Rattle.images.specs.Sections.{length_all_bytes, bytes_more}
use Rattle.images.specs.Stores.{sets_then}

-- a number, over the four places from one on
pub number_stored : (out bs : List ℕ) (at k x : ℕ) → bs ≡ four_bytes x → k ≡ 4 → at + k ≤ length out → put_mid at k out bs ≡ sets out at (four_bytes x)
number_stored out bs at k x e f h =
    ap (put_mid at k out) e
    ∙ ap (λ (l : List ℕ). take at out ++ (four_bytes x ++ l)) (drop-drop k at out ∙ ap (λ (n : ℕ). drop (at + n) out) f)
    ∙ sym (append_assoc (take at out) (four_bytes x) (drop (at + 4) out)) ∙ sym (sets-eq (four_bytes x) out at (omega arith))

-- the next number joins
pub stores_more : (xs out mid new : List ℕ) (at i end : ℕ) → i < length xs → end ≡ at + 4 * i → mid ≡ sets out at (all_bytes (take i xs))
    → new ≡ sets mid end (four_bytes (get_or xs i 0)) → new ≡ sets out at (all_bytes (take (i + 1) xs))
stores_more xs out mid new at i end h p e f =
    let l : length (all_bytes (take i xs)) ≡ 4 * i = length_all_bytes (take i xs) ∙ ap (λ (k : ℕ). 4 * k) (length-take-le i xs (omega arith)) in
    f ∙ ap (λ (m : List ℕ). sets m end (four_bytes (get_or xs i 0))) e
    ∙ sets_then out at end (all_bytes (take i xs)) (four_bytes (get_or xs i 0)) (omega arith) ∙ ap (sets out at) (sym (bytes_more xs i h))

-- a section is its count and then its numbers
pub section_stored : (xs out one end : List ℕ) (at : ℕ) → one ≡ sets out at (four_bytes (length xs)) → end ≡ sets one (at + 4) (all_bytes xs)
    → end ≡ sets out at (section xs)
unfolding section
section_stored xs out one end at o n =
    n ∙ ap (λ (m : List ℕ). sets m (at + 4) (all_bytes xs)) o ∙ sets_then out at (at + 4) (four_bytes (length xs)) (all_bytes xs) refl
