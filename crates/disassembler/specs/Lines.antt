-- The lines of a listing, as the code comes to them.
use Rattle.std.specs.Prelude.{◌≡◌, refl, true, List, [], ◌∷◌, ◌++◌, ℕ, ◌+◌, ◌*◌, ◌<◌, ◌≤◌, leb, length, get_or, set, take, drop}
use Rattle.std.proofs.Common.{sym, ◌∙◌, subst, append_assoc, add-one, arith, le-leb, eq-eqb, ne_eqb, length-append, take-append-drop, take-suc, take_all}
use Rattle.std.proofs.Math.Path.{ap}
use Rattle.common.specs.Words.{Decoded, decode}
use Rattle.common.proofs.Laws.WordLaws.{decoded_small}
use Rattle.numerals.specs.Bytes.{feed}
use Rattle.sources.specs.Listing.{operands, number_text, word_text, listing}
use Rattle.sources.proofs.Listings.ListingRows.{name}
use Rattle.sources.proofs.Listings.ListingLengths.{listing_fits}
use Rattle.disassembler.specs.Stores.{Stored, stored_then, stored_none}

-- ---- a word

module _ (w : ℕ) (d : Decoded) (e : d ≡ decode w) where
  pub word_number : (d.answer ≡ 0 → ⊥) → word_text w ≡ number_text w
  unfolding word_text
  word_number n = simp (ne_eqb (decode w).answer 0 (λ z. n (ap (λ (x : Decoded). x.answer) e ∙ z)))

  pub word_instruction : d.answer ≡ 0 → word_text w ≡ name d.op ++ operands d
  unfolding word_text
  word_instruction z =
      simp (eq-eqb (decode w).answer 0 (ap (λ (x : Decoded). x.answer) (sym e) ∙ z)) (ap (λ (x : Decoded). name x.op ++ operands x) (sym e))

  pub fields_small : (d.op < 14) × (d.low < 65536)
  fields_small = let s = decoded_small w in subst (λ (x : Decoded). (x.op < 14) × (x.low < 65536)) (sym e) (s.0, s.3)

-- ---- all words

listing_append : (us ws : List ℕ) → listing (us ++ ws) ≡ listing us ++ listing ws
unfolding listing
listing_append [] ws = refl
listing_append (u ∷ us) ws =
    ap (λ (x : List ℕ). word_text u ++ feed ∷ x) (listing_append us ws) ∙ sym (append_assoc (word_text u) (feed ∷ listing us) (listing ws))

module _ (ws : List ℕ) (i : ℕ) (h : i < length ws) where
  pub listing_more : listing (take (i + 1) ws) ≡ listing (take i ws) ++ (word_text (get_or ws i 0) ++ feed ∷ [])
  unfolding listing
  listing_more =
      ap (λ (k : ℕ). listing (take k ws)) (add-one i) ∙ ap listing (take-suc ws i 0 h) ∙ listing_append (take i ws) (get_or ws i 0 ∷ [])

  pub length_more : length (listing (take (i + 1) ws)) ≡ length (listing (take i ws)) + length (word_text (get_or ws i 0)) + 1
  length_more =
      let a = length-append (listing (take i ws)) (word_text (get_or ws i 0) ++ feed ∷ []) in
      let b = length-append (word_text (get_or ws i 0)) (feed ∷ []) in
      let c = ap length listing_more in
      omega arith

pub length_front : (ws : List ℕ) (i : ℕ) → length (listing (take i ws)) ≤ length (listing ws)
length_front ws i =
    let a = ap length (listing_append (take i ws) (drop i ws)) in
    let b = length-append (listing (take i ws)) (listing (drop i ws)) in
    let c = ap (λ (l : List ℕ). length (listing l)) (take-append-drop i ws) in
    omega arith

-- a line has room where the lines before it end
pub line_room : (ws : List ℕ) (i : ℕ) → i < length ws → length (listing (take i ws)) + length (word_text (get_or ws i 0)) + 1 ≤ length (listing ws)
line_room ws i h =
    let a = length_more ws i h in
    let b = length_front ws (i + 1) in
    omega arith

pub line_stored : (ws : List ℕ) (i : ℕ) → i < length ws → (old : List ℕ) (out : List ℕ) (at : ℕ) (new : List ℕ) (end : ℕ)
    → Stored old 0 (listing (take i ws)) out at → Stored out at (word_text (get_or ws i 0)) new end
    → Stored old 0 (listing (take (i + 1) ws)) (set new end feed) (end + 1)
line_stored ws i h old out at new end a b =
    let line = stored_then out at (word_text (get_or ws i 0)) (feed ∷ []) new end (set new end feed) (end + 1) b (record { ends = refl; bytes = refl }) in
    subst (λ (t : List ℕ). Stored old 0 t (set new end feed) (end + 1)) (sym (listing_more ws i h))
    (stored_then old 0 (listing (take i ws)) (word_text (get_or ws i 0) ++ feed ∷ []) out at (set new end feed) (end + 1) a line)

pub no_lines : (ws old : List ℕ) → Stored old 0 (listing (take 0 ws)) old 0
unfolding listing
no_lines ws old = stored_none old 0

-- after the last turn
pub listing_all : (ws : List ℕ) (i : ℕ) → length ws ≤ i → listing (take i ws) ≡ listing ws
listing_all ws i h = ap listing (take_all i ws h)

-- ---- whether there is room

pub ample : (ws : List ℕ) (room : ℕ) → 16 * length ws ≤ room → true ≡ leb (length (listing ws)) room
ample ws room h = let f = listing_fits ws in sym (le-leb (length (listing ws)) room (omega arith))

pub measured : (ws : List ℕ) (room i n : ℕ) → length ws ≤ i → n ≡ length (listing (take i ws)) → leb n room ≡ leb (length (listing ws)) room
measured ws room i n h e = ap (λ (k : ℕ). leb k room) (e ∙ ap length (listing_all ws i h))
