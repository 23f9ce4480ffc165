-- The mnemonics as the code keeps them: five bytes each, of which the first are letters.
use Rattle.std.specs.Prelude.{◌≡◌, refl, List, [], ◌∷◌, ℕ, ◌+◌, ◌*◌, ◌<◌, ◌≤◌, length, get_or, take, drop}
use Rattle.std.proofs.Common.{ap, ◌∙◌, subst, arith, length-take, length-drop}
use Rattle.numerals.specs.Bytes.{bytes}
use Rattle.sources.proofs.Listings.ListingRows.{AllBelow, none, ◌and◌, below, name}
use Rattle.disassembler.specs.Stores.{Stored}

-- how many letters
abbrev pub counts : List ℕ
counts = 3 ∷ 5 ∷ 3 ∷ 3 ∷ 3 ∷ 3 ∷ 2 ∷ 3 ∷ 4 ∷ 5 ∷ 4 ∷ 3 ∷ 3 ∷ 4 ∷ []

abbrev pub names : List ℕ
names = bytes "Nop..ConstMov..Add..Sub..Mul..Eq...Leq..Load.StoreJump.Jal..Bnz..Halt."

pub counts_name : (op : ℕ) → op < 14 → get_or counts op 0 ≡ length (name op)
counts_name op h = below all op h
  where
    all : AllBelow (λ op. get_or counts op 0 ≡ length (name op)) 14
    all = refl and refl and refl and refl and refl and refl and refl and refl and refl and refl and refl and refl and refl and refl and none

part_name : (op : ℕ) → op < 14 → take (length (name op)) (drop (5 * op) names) ≡ name op
part_name op h = below all op h
  where
    all : AllBelow (λ op. take (length (name op)) (drop (5 * op) names) ≡ name op) 14
    all = refl and refl and refl and refl and refl and refl and refl and refl and refl and refl and refl and refl and refl and refl and none

-- no name reaches beyond the last
pub names_reach : (op : ℕ) → op < 14 → 5 * op + length (name op) ≤ 70
names_reach op h =
    let l = length-take (length (name op)) (drop (5 * op) names) in
    let d = length-drop (5 * op) names in
    let e = ap length (part_name op h) in
    omega arith

pub name_stored : (old : List ℕ) (place op n : ℕ) (new : List ℕ) (r : ℕ) → op < 14 → n ≡ length (name op)
    → Stored old place (take n (drop (5 * op) names)) new r → Stored old place (name op) new r
name_stored old place op n new r h e s =
    let t : take n (drop (5 * op) names) ≡ name op = ap (λ (k : ℕ). take k (drop (5 * op) names)) e ∙ part_name op h in
    subst (λ (x : List ℕ). Stored old place x new r) t s
