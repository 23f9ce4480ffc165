-- The encoder packs four numbers that have room in a word, and asks of the word what the rules ask of the numbers.
use Rattle.std.specs.Prelude.{◌≡◌, refl, Bool, true, false, ◌&&◌, ℕ, ◌<◌, ltb}
use Rattle.std.proofs.Common.{sym, ap, ◌∙◌, arith}
use borrow.Author.Tests.{ltb-true, lt-ltb}
use Rattle.common.proofs.Laws.Tests.{both, clash}
use Rattle.common.specs.Answers as answer
use Rattle.common.specs.Words.{allowed, op_of, a_of, b_of, low_of, pack, encode}
use Rattle.common.proofs.Laws.WordLaws.{is_allowed}
use Rattle.instructions.specs.Masks.{fits_in, mask_allowed}

abbrev pub has_room : ℕ → ℕ → ℕ → ℕ → Bool
has_room op a b low = ltb op 14 && ltb a 16 && ltb b 16 && ltb low 65536

pub record Room (op a b low : ℕ) : Type 0 where
  pub op_small : op < 14
  pub a_small : a < 16
  pub b_small : b < 16
  pub low_small : low < 65536

-- four numbers that pass the test
pub room : (op a b low : ℕ) → has_room op a b low ≡ true → Room op a b low
room op a b low h =
    let x = both (ltb op 14 && ltb a 16 && ltb b 16) _ h in
    let y = both (ltb op 14 && ltb a 16) _ x.0 in
    let z = both (ltb op 14) _ y.0 in
    record { op_small = ltb-true _ _ z.0; a_small = ltb-true _ _ z.1; b_small = ltb-true _ _ y.1; low_small = ltb-true _ _ x.1 }

-- what has no room is not allowed
no_room : (op a b low : ℕ) → has_room op a b low ≡ false → allowed op a b low ≡ false
no_room op a b low f = go (allowed op a b low) refl
  where
    go : (t : Bool) → allowed op a b low ≡ t → allowed op a b low ≡ false
    go false e = e
    go true e =
        let w = is_allowed op a b low e in
        let r : has_room op a b low ≡ true = simp (lt-ltb op 14 w.known, lt-ltb a 16 w.a_small, lt-ltb b 16 w.b_small, lt-ltb low 65536 w.low_small) in
        clash r f

-- the word has the four numbers as its fields, so that the code's test of it is the rules' test of them
module _ (op a b low : ℕ) (r : Room op a b low) where
  op_kept : op_of (pack op a b low) ≡ op
  op_kept = let s = r in omega arith

  packed : allowed (op_of (pack op a b low)) (a_of (pack op a b low)) (b_of (pack op a b low)) (low_of (pack op a b low)) ≡ allowed op a b low
  packed =
      let s = r in
      let e2 : a_of (pack op a b low) ≡ a = omega arith in
      let e3 : b_of (pack op a b low) ≡ b = omega arith in
      let e4 : low_of (pack op a b low) ≡ low = omega arith in
      simp (op_kept, e2, e3, e4)

  asked : fits_in (pack op a b low) op ≡ allowed op a b low
  asked =
      let s = r in
      ap (fits_in (pack op a b low)) (sym op_kept) ∙ mask_allowed (pack op a b low) (omega (arith, op_kept)) ∙ packed

-- ---- the encoder's three returns

-- no room
pub refuses : (op a b low : ℕ) → has_room op a b low ≡ false → record { answer = answer.no_word; word = 0 } ≡ encode op a b low
unfolding encode
refuses op a b low h = simp (no_room op a b low h)

-- room: the word is asked
module _ (op a b low : ℕ) (h : has_room op a b low ≡ true) (w : ℕ) (p : w ≡ pack op a b low) where
  is_allowed_lem : allowed op a b low ≡ fits_in w op
  is_allowed_lem = sym (asked op a b low (room op a b low h)) ∙ ap (λ (v : ℕ). fits_in v op) (sym p)

  pub refuses_word : fits_in w op ≡ false → record { answer = answer.no_word; word = 0 } ≡ encode op a b low
  unfolding encode
  refuses_word k = simp (is_allowed_lem ∙ k)

  pub takes_word : fits_in w op ≡ true → record { answer = answer.done; word = w } ≡ encode op a b low
  unfolding encode
  takes_word k = simp (is_allowed_lem ∙ k, p)
