-- Assembling a listing gives the words back, and how long a listing is at most.
use Rattle.std.specs.Prelude.{◌≡◌, refl, List, [], ◌∷◌, ◌++◌, map, ℕ, suc, ◌+◌, ◌<◌, ◌≤◌, length, get_or}
use Rattle.std.proofs.Common.{ap, ◌∙◌, arith}
use Rattle.grammar.specs.Trees.{nothing}
use Rattle.grammar.specs.Reading.Reader.{got, read}
use Rattle.sources.specs.Texts.{lines, Reading, reading, readings}
use Rattle.sources.specs.Labels.{words_in}
use Rattle.sources.specs.Meaning.{says, behind, then, from, meaning}
use Rattle.sources.proofs.Laws.FirstLaws.{words_append}
use Rattle.sources.specs.Listing.{word_text, listing}
use Rattle.sources.proofs.Listings.ListingWords.{Holds, word_holds}

-- every word is one of 32 bits
abbrev pub Small : List ℕ → Type 0
Small ws = (i : ℕ) → i < length ws → get_or ws i 0 < 4294967296

rest_small : (w : ℕ) (ws : List ℕ) → Small (w ∷ ws) → Small ws
rest_small w ws h i l = h (suc i) (omega arith)

-- a line's reading, then those of the lines after it
readings_more : (w : ℕ) (ws : List ℕ) (k : Holds w (word_text w)) → readings (listing (w ∷ ws)) ≡ got k.line ∷ readings (listing ws)
unfolding readings listing
readings_more w ws k =
    ap (map reading) (k.reads.alone (listing ws)) ∙ ap (λ (l : Reading). l ∷ map reading (lines (listing ws))) k.reads.read

no_readings : readings (listing []) ≡ got nothing ∷ []
unfolding readings listing lines reading read
no_readings = refl

-- the words behind lines that hold few enough
from_listing : (ws : List ℕ) → Small ws → (all before : List Reading) → words_in before + length ws ≤ 2048
    → from all before (readings (listing ws)) ≡ says ws
unfolding from words_in
from_listing [] h all before l = ap (from all before) no_readings
from_listing (w ∷ ws) h all before l =
    let k = word_holds w (h 0 (omega arith)) in
    let n = words_append before (got k.line ∷ []) in
    let o = k.one_word in
    ap (from all before) (readings_more w ws k)
    ∙ ap (λ o. then o (length before + 1) (from all (before ++ got k.line ∷ []) (readings (listing ws)))) (k.comes all before (omega arith))
    ∙ ap (behind (w ∷ [])) (from_listing ws (rest_small w ws h) all (before ++ got k.line ∷ []) (omega arith))

pub listing_back : (ws : List ℕ) → Small ws → length ws ≤ 2048 → meaning (listing ws) ≡ says ws
unfolding meaning words_in
listing_back ws h l = from_listing ws h (readings (listing ws)) [] (omega arith)
