-- The bits of a word that its opcode leaves unused, in the forms in which the code comes to them.
use Rattle.std.specs.Prelude.{◌≡◌, Bool, ℕ, suc, ◌+◌, ◌-◌, ◌*◌, ◌/◌, ◌%◌, ◌≤◌, ◌<◌}
use Rattle.std.proofs.Math.Path.{sym, ap}
use Rattle.std.proofs.Common.{◌∙◌, add-one}
use Rattle.std.proofs.Math.Bool.{true}
use Rattle.std.proofs.Math.Nat.{mod-le}
use native.Mathlib.Omega.{arith}
use borrow.Author.Tests.{lt-ltb, le-ltb}
use Rattle.std.proofs.Math.Dec.{ltb}
use Rattle.common.specs.Services.{is_service}
use Rattle.common.specs.Words.{row, op_of, a_of, b_of, low_of, pack, Decoded, instruction}
use Rattle.common.proofs.Laws.WordLaws.{row_small}
use Rattle.common.proofs.Laws.ServiceLaws.{service_range}
use Rattle.instructions.specs.Masks.{used_of, fields_of}
use Rattle.reasons.specs.Why.{beyond, stray_bits}

-- no service sits below 4096
pub service_above : (m : Bool) (x : ℕ) → is_service m x ≡ true → 4096 ≤ x
service_above m x e = (service_range m x e).0

-- ---- the bits of a word

-- what is above is no more than there is
pub beyond_below : (x most k : ℕ) → x < k → beyond x most < k
beyond_below x most k h = less (x % suc most)
  where
    less : (y : ℕ) → x - y < k
    less y = omega arith

pub rest_below : (x most : ℕ) → x % (most + 1) ≤ x
rest_below x most = mod-le x (most + 1)

pub beyond_is : (x most : ℕ) → x - x % (most + 1) ≡ beyond x most
beyond_is x most = ap (λ (m : ℕ). x - x % m) (add-one most)

-- the largest value of each field, from the bits that an opcode uses
module _ (op u : ℕ) (e : u ≡ used_of op) where
  masks : (u ≡ (row op).a * 1048576 + ((row op).b * 65536 + (row op).low)) × ((row op).a ≤ 15) × ((row op).b ≤ 15) × ((row op).low ≤ 65535)
  unfolding used_of
  masks = let s = row_small op in (e, s.a, s.b, s.low)

  pub mask_a : u / 1048576 % 16 ≡ (row op).a
  mask_a = let m = masks in go (row op).a (row op).b (row op).low m.0 m.1 m.2 m.3
    where
      go : (a b l : ℕ) → u ≡ a * 1048576 + (b * 65536 + l) → a ≤ 15 → b ≤ 15 → l ≤ 65535 → u / 1048576 % 16 ≡ a
      go a b l h x y z = omega arith

  pub mask_b : u / 65536 % 16 ≡ (row op).b
  mask_b = let m = masks in go (row op).a (row op).b (row op).low m.0 m.1 m.2 m.3
    where
      go : (a b l : ℕ) → u ≡ a * 1048576 + (b * 65536 + l) → a ≤ 15 → b ≤ 15 → l ≤ 65535 → u / 65536 % 16 ≡ b
      go a b l h x y z = omega arith

  pub mask_low : u % 65536 ≡ (row op).low
  mask_low = let m = masks in go (row op).a (row op).b (row op).low m.0 m.1 m.2 m.3
    where
      go : (a b l : ℕ) → u ≡ a * 1048576 + (b * 65536 + l) → a ≤ 15 → b ≤ 15 → l ≤ 65535 → u % 65536 ≡ l
      go a b l h x y z = omega arith

-- the fields as they stand
module _ (word op a b low : ℕ) (e : instruction op a b low ≡ fields_of word) where
  pub op_is : op ≡ op_of word
  op_is = ap (λ (d : Decoded). d.op) e

  pub a_is : a ≡ a_of word
  a_is = ap (λ (d : Decoded). d.a) e

  pub b_is : b ≡ b_of word
  b_is = ap (λ (d : Decoded). d.b) e

  pub low_is : low ≡ low_of word
  low_is = ap (λ (d : Decoded). d.low) e

  pub no_opcode : 13 < op → 0 ≡ stray_bits word
  unfolding stray_bits
  no_opcode h = let o = op_is in sym (simp (le-ltb (op_of word) 14 (omega arith)))

  module _ (h : op ≤ 13) (u : ℕ) (f : u ≡ used_of op) (x y z : ℕ) (ex : x ≡ beyond a (u / 1048576 % 16)) (ey : y ≡ beyond b (u / 65536 % 16)) (ez : z ≡ beyond low (u % 65536)) where
    pub x_small : x < 16
    x_small = let k : a < 16 = let t = a_is in omega arith in rw ex (beyond_below a (u / 1048576 % 16) 16 k)

    pub y_small : y < 16
    y_small = let k : b < 16 = let t = b_is in omega arith in rw ey (beyond_below b (u / 65536 % 16) 16 k)

    pub z_small : z < 65536
    z_small = let k : low < 65536 = let t = low_is in omega arith in rw ez (beyond_below low (u % 65536) 65536 k)

    pub stray_is : x * 1048576 + y * 65536 + z ≡ stray_bits word
    unfolding stray_bits
    stray_is =
        let o : op ≡ op_of word = op_is in
        let t : ltb (op_of word) 14 ≡ true = lt-ltb (op_of word) 14 (omega arith) in
        let p : x ≡ beyond (a_of word) (row (op_of word)).a = ex ∙ ap (beyond a) (mask_a op u f) ∙ ap (λ (k : ℕ). beyond k (row op).a) a_is ∙ ap (λ (k : ℕ). beyond (a_of word) (row k).a) o in
        let q : y ≡ beyond (b_of word) (row (op_of word)).b = ey ∙ ap (beyond b) (mask_b op u f) ∙ ap (λ (k : ℕ). beyond k (row op).b) b_is ∙ ap (λ (k : ℕ). beyond (b_of word) (row k).b) o in
        let r : z ≡ beyond (low_of word) (row (op_of word)).low = ez ∙ ap (beyond low) (mask_low op u f) ∙ ap (λ (k : ℕ). beyond k (row op).low) low_is ∙ ap (λ (k : ℕ). beyond (low_of word) (row k).low) o in
        simp (t, ← p, ← q, ← r) (sum x y z)
      where
        sum : (x y z : ℕ) → x * 1048576 + y * 65536 + z ≡ pack 0 x y z
        sum x y z = omega arith
