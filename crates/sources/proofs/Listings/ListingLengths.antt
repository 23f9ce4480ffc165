-- How long a listing is at most.
use Rattle.std.proofs.Common.{ap, arith, length-append}
use Rattle.std.specs.Prelude.{List, [], ◌∷◌, ℕ, suc, ◌+◌, ◌-◌, ◌*◌, ◌^◌, ◌<◌, ◌≤◌, ltb, length}
use Rattle.common.specs.Answers as answer
use Rattle.grammar.specs.Tokens.{Mnemonic, Nop, Halt, Const, Bnz, one, two, three}
use Rattle.grammar.proofs.Laws.Tables.{picks}
use Rattle.numerals.specs.Numerals.{decimal}
use Rattle.sources.specs.Listing.{register_text, offset_text, word_text, listing}
use Rattle.numerals.specs.Laws.Widths.{width_most, length_decimal, length_digits}
use Rattle.sources.proofs.Listings.ListingRows.{Fits, letters, behind, mnemonic_fits, name_short, operands_behind}
use Rattle.sources.proofs.Listings.ListingWords.{of_word}

decimal_most : (k n : ℕ) → n < 10 ^ suc k → length (decimal n) ≤ suc k
decimal_most k n h = let e = length_decimal n in let w = width_most k n h in omega arith

register_most : (r : ℕ) → r < 16 → length (register_text r) ≤ 3
register_most r h = let d = decimal_most 1 r (omega arith) in omega arith

offset_most : (low : ℕ) → low < 65536 → length (offset_text low) ≤ 6
unfolding offset_text
offset_most low h =
    picks (ltb low 32768) _ _ (λ (t : List ℕ). length t ≤ 6) (λ e. let d = decimal_most 4 low (omega arith) in omega arith)
    (λ e. let d = decimal_most 4 (65536 - low) (omega arith) in omega arith)

line_most : (m : Mnemonic) (a b low : ℕ) → Fits m a b low → letters m + length (behind m a b low) ≤ 15
line_most Nop a b low f = omega arith
line_most Halt a b low f = omega arith
line_most Const a b low f =
    let d = decimal_most 4 low (omega arith) in
    let r = register_most a (omega arith) in
    simp length-append (omega arith)
line_most Bnz a b low f =
    let r = register_most a (omega arith) in
    let o = offset_most low (omega arith) in
    simp length-append (omega arith)
line_most (one k) a b low f = let r = register_most a (omega arith) in omega arith
line_most (two k) a b low f =
    let r = register_most a (omega arith) in
    let s = register_most b (omega arith) in
    simp length-append (omega arith)
line_most (three k) a b low f =
    let r = register_most a (omega arith) in
    let s = register_most b (omega arith) in
    let t = register_most low (omega arith) in
    simp length-append (omega arith)

pub word_fits : (w : ℕ) → length (word_text w) ≤ 15
word_fits w =
    of_word w (λ t. length t ≤ 15)
    (λ k.
    let o = ap length (operands_behind _ _ _ _ k) in
    let n = name_short _ k.known in
    let l = line_most _ _ _ _ (mnemonic_fits _ _ _ _ k) in
    simp length-append (omega arith))
    (let d = length_digits 16 8 w in omega arith)

pub listing_fits : (ws : List ℕ) → length (listing ws) ≤ 16 * length ws
unfolding listing
listing_fits [] = omega arith
listing_fits (w ∷ ws) =
    let h = word_fits w in
    let t = listing_fits ws in
    simp length-append (omega arith)
