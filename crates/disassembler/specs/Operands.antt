-- The operands of an instruction, case by case, as the code comes to them.
use Rattle.std.specs.Prelude.{◌≡◌, refl, Bool, true, false, cond, ◌&&◌, ◌||◌, ◌⊎◌, eqb, List, [], ◌++◌, ℕ, ◌-◌, ◌<◌, ◌≤◌}
use Rattle.std.proofs.Math.Path.{ap}
use Rattle.std.proofs.Common.{◌∙◌, inl, inr, arith}
use Rattle.std.proofs.Math.Dec.{leb}
use borrow.Author.Tests.{lt-ltb, le-ltb, le-leb, lt-leb, eq-eqb, ne_eqb, eqb-false}
use Rattle.common.specs.Words.{Decoded}
use Rattle.numerals.specs.Bytes.{bytes}
use Rattle.numerals.specs.Numerals.{decimal}
use Rattle.sources.specs.Listing.{blank, register_text, offset_text, operands}

pub offset_forward : (low : ℕ) → low < 32768 → offset_text low ≡ decimal low
unfolding offset_text
offset_forward low h = simp (lt-ltb low 32768 h)

pub offset_back : (low : ℕ) → 32768 ≤ low → offset_text low ≡ bytes "-" ++ decimal (65536 - low)
unfolding offset_text
offset_back low h = simp (le-ltb low 32768 h)

module _ (i : Decoded) where
  pub no_operands : (i.op ≡ 0) ⊎ (i.op ≡ 13) → operands i ≡ []
  unfolding operands
  no_operands (inl e) = simp e
  no_operands (inr e) = simp e

  pub number_register : i.op ≡ 1 → operands i ≡ blank ++ decimal i.low ++ blank ++ register_text i.a
  unfolding operands
  number_register e = simp e

  pub register_offset : i.op ≡ 12 → operands i ≡ blank ++ register_text i.a ++ bytes ", " ++ offset_text i.low
  unfolding operands
  register_offset e = simp e

  -- the others have registers alone: whether it is one, and else whether it is three
  abbrev by_tests : Bool → Bool → List ℕ
  by_tests one three =
      cond one (blank ++ register_text i.a)
      (cond three (blank ++ register_text i.a ++ blank ++ register_text i.b ++ blank ++ register_text i.low)
      (blank ++ register_text i.a ++ blank ++ register_text i.b))

  module _ (n : (i.op ≡ 0) ⊎ (i.op ≡ 13) → ⊥) (c : i.op ≡ 1 → ⊥) (b : i.op ≡ 12 → ⊥) where
    registers : (one three : Bool) → (eqb i.op 10 || eqb i.op 11) ≡ one → (leb 3 i.op && leb i.op 7) ≡ three → operands i ≡ by_tests one three
    unfolding operands
    registers one three e f =
        simp (ne_eqb i.op 0 (λ z. n (inl z)), ne_eqb i.op 13 (λ z. n (inr z)), ne_eqb i.op 1 c, ne_eqb i.op 12 b)
        (ap (λ (x : Bool). by_tests x (leb 3 i.op && leb i.op 7)) e ∙ ap (by_tests one) f)

    pub one_register : 10 ≤ i.op → i.op < 12 → operands i ≡ blank ++ register_text i.a
    one_register l m = registers true _ (go (eqb i.op 10) refl) refl
      where
        go : (x : Bool) → eqb i.op 10 ≡ x → (x || eqb i.op 11) ≡ true
        go true e = refl
        go false e = let z = eqb-false i.op 10 e in eq-eqb i.op 11 (omega arith)

    -- none of the two
    neither : i.op < 10 ⊎ 12 ≤ i.op → (eqb i.op 10 || eqb i.op 11) ≡ false
    neither (inl h) = simp (ne_eqb i.op 10 (λ e. omega arith), ne_eqb i.op 11 (λ e. omega arith))
    neither (inr h) = simp (ne_eqb i.op 10 (λ e. omega arith), ne_eqb i.op 11 (λ e. omega arith))

    pub three_registers : 3 ≤ i.op → i.op < 8 → operands i ≡ blank ++ register_text i.a ++ blank ++ register_text i.b ++ blank ++ register_text i.low
    three_registers l m = registers false true (neither (inl (omega arith))) (simp (le-leb 3 i.op l, le-leb i.op 7 (omega arith)))

    above : 8 ≤ i.op → (leb 3 i.op && leb i.op 7) ≡ false
    above h = simp (le-leb 3 i.op (omega arith), lt-leb i.op 7 h)

    pub two_registers : (i.op < 3) ⊎ ((8 ≤ i.op) × (i.op < 10)) ⊎ (12 ≤ i.op) → operands i ≡ blank ++ register_text i.a ++ blank ++ register_text i.b
    two_registers (inl h) = registers false false (neither (inl (omega arith))) (simp (lt-leb 3 i.op h))
    two_registers (inr (inl h)) = registers false false (neither (inl h.1)) (above h.0)
    two_registers (inr (inr h)) = registers false false (neither (inr h)) (above (omega arith))
