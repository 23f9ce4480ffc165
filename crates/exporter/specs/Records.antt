-- Records as the code comes to them: their parts put one behind another, and one record behind another.
use Rattle.std.specs.Prelude.{◌≡◌, refl, Bool, true, false, List, [], ◌∷◌, ◌++◌, ℕ, zero, suc, ◌+◌, ◌-◌, ◌*◌, ◌/◌, ◌%◌, ◌<◌, min, leb, get_or, length, take, drop}
use Rattle.std.proofs.Common.{sym, ap, ◌∙◌, append_assoc, add-zero, zero-add, add-one, arith, leb-true, leb-false, length-drop, take_all}
use Rattle.rules.specs.Images.{all_bytes}
use Rattle.images.specs.Sections.{length_all_bytes}
use Rattle.numerals.specs.Bytes.{feed}
use Rattle.numerals.specs.Writing.{put}
use Rattle.text.specs.Puts.{put_of, put_nothing, put_behind}
use Rattle.intel_hex.specs.Records.{colon, data_type, sum}
use Rattle.intel_hex.specs.Exporting.{pairs, checksum, fields_of, data_record, end_record, chunk, records, records_in, text_of}
use Rattle.exporter.specs.Words.{pairs_append}

-- ---- one record

-- an address in two bytes
pub place_bytes : (place : ℕ) (bs : List ℕ) → place < 65536 → bs ≡ place / 256 % 256 ∷ place % 256 ∷ [] → (get_or bs 0 0 ≡ place / 256) × (get_or bs 1 0 ≡ place % 256)
place_bytes place bs h e = rw e (omega arith, refl)

-- the count, the bytes of the address and the checksum are the code's
module _ (place : ℕ) (ws : List ℕ) (n high low c : ℕ) (count : n ≡ 4 * length ws) (above : high ≡ place / 256) (below : low ≡ place % 256)
    (check : c ≡ (256 - (n + high + low + sum (all_bytes ws)) % 256) % 256) where
  abbrev head : List ℕ
  head = n ∷ high ∷ low ∷ data_type ∷ []

  fields_are : head ++ all_bytes ws ≡ fields_of place data_type (all_bytes ws)
  fields_are =
      let l = count ∙ sym (length_all_bytes ws) in λ i. l i ∷ above i ∷ below i ∷ data_type ∷ all_bytes ws

  check_is : c ≡ checksum (fields_of place data_type (all_bytes ws))
  unfolding sum
  check_is =
      let l = length_all_bytes ws in
      let e : n + high + low + sum (all_bytes ws) ≡ sum (fields_of place data_type (all_bytes ws)) = omega arith in
      check ∙ ap (λ (x : ℕ). (256 - x % 256) % 256) e

  record_text : colon ∷ (pairs head ++ pairs (all_bytes ws) ++ pairs (c ∷ []) ++ feed ∷ []) ≡ data_record place (all_bytes ws) ++ feed ∷ []
  unfolding data_record
  record_text =
      ap (λ (l : List ℕ). colon ∷ (l ++ pairs (c ∷ []) ++ feed ∷ [])) (sym (pairs_append head (all_bytes ws)))
      ∙ ap (λ (l : List ℕ). colon ∷ (l ++ feed ∷ [])) (sym (pairs_append (head ++ all_bytes ws) (c ∷ [])))
      ∙ (λ i. colon ∷ (pairs (fields_are i ++ check_is i ∷ []) ++ feed ∷ []))

  pub record_put : (at : ℕ) (out : List ℕ) (p q r t z : ℕ) (one two three four five : List ℕ)
      → put_of p one ≡ put (colon ∷ []) at out → put_of q two ≡ put (pairs head) p one
      → put_of r three ≡ put (pairs (all_bytes ws)) q two → put_of t four ≡ put (pairs (c ∷ [])) r three
      → put_of z five ≡ put (feed ∷ []) t four → put_of z five ≡ put (data_record place (all_bytes ws) ++ feed ∷ []) at out
  record_put at out p q r t z one two three four five a b d e f =
      let two_put = put_behind (colon ∷ []) (pairs head) out at p one q two a b in
      let three-put = put_behind (colon ∷ pairs head) (pairs (all_bytes ws)) out at q two r three two_put d in
      let four-put = put_behind (colon ∷ (pairs head ++ pairs (all_bytes ws))) (pairs (c ∷ [])) out at r three t four three-put e in
      put_behind (colon ∷ (pairs head ++ pairs (all_bytes ws) ++ pairs (c ∷ []))) (feed ∷ []) out at t four z five four-put f
      ∙ ap (λ (x : List ℕ). put x at out) record_text

-- ---- the words of record i

drop_bytes : (k : ℕ) (ws : List ℕ) → drop (4 * k) (all_bytes ws) ≡ all_bytes (drop k ws)
unfolding all_bytes
drop_bytes zero ws = refl
drop_bytes (suc k) [] = let e : 4 * suc k ≡ suc (3 + 4 * k) = omega arith in rw e refl
drop_bytes (suc k) (w ∷ ws) = let e : 4 * suc k ≡ suc (suc (suc (suc (4 * k)))) = omega arith in rw e (drop_bytes k ws)

four_words : (us : List ℕ) → take 16 (all_bytes us) ≡ all_bytes (take 4 us)
unfolding all_bytes
four_words [] = refl
four_words (a ∷ []) = refl
four_words (a ∷ b ∷ []) = refl
four_words (a ∷ b ∷ c ∷ []) = refl
four_words (a ∷ b ∷ c ∷ d ∷ us) = refl

chunk_is : (ws : List ℕ) (i : ℕ) → chunk (all_bytes ws) i ≡ all_bytes (take 4 (drop (4 * i) ws))
chunk_is ws i = let e : 16 * i ≡ 4 * (4 * i) = omega arith in rw (e, drop_bytes (4 * i) ws) (four_words (drop (4 * i) ws))

part_is : (ws : List ℕ) (i first end : ℕ) → first ≡ 4 * i → end ≡ min (first + 4) (length ws) → take (end - first) (drop first ws) ≡ take 4 (drop (4 * i) ws)
part_is ws i first end f e = go (leb (first + 4) (length ws)) refl
  where
    go : (b : Bool) → leb (first + 4) (length ws) ≡ b → take (end - first) (drop first ws) ≡ take 4 (drop (4 * i) ws)
    go true t =
        let l = leb-true (first + 4) (length ws) t in
        let n : end - first ≡ 4 = omega arith in
        ap (λ (k : ℕ). take k (drop first ws)) n ∙ ap (λ (k : ℕ). take 4 (drop k ws)) f
    go false t =
        let l = leb-false (first + 4) (length ws) t in
        let d = length-drop first ws in
        take_all (end - first) (drop first ws) (omega arith) ∙ sym (take_all 4 (drop first ws) (omega arith)) ∙ ap (λ (k : ℕ). take 4 (drop k ws)) f

pub part_put : (ws : List ℕ) (i first end : ℕ) → first ≡ 4 * i → end ≡ min (first + 4) (length ws) → (at : ℕ) (out : List ℕ) (r : ℕ) (new : List ℕ)
    → put_of r new ≡ put (data_record (16 * i) (all_bytes (take (end - first) (drop first ws))) ++ feed ∷ []) at out
    → put_of r new ≡ put (data_record (16 * i) (chunk (all_bytes ws) i) ++ feed ∷ []) at out
part_put ws i first end f e at out r new h =
    h
    ∙ ap (λ (b : List ℕ). put (data_record (16 * i) b ++ feed ∷ []) at out) (ap all_bytes (part_is ws i first end f e) ∙ sym (chunk_is ws i))

-- ---- one record behind another

records_last : (bytes : List ℕ) (i k : ℕ) → records bytes i (suc k) ≡ records bytes i k ++ (data_record (16 * (i + k)) (chunk bytes (i + k)) ++ feed ∷ [])
unfolding records
records_last bytes i zero = ap (λ (j : ℕ). data_record (16 * j) (chunk bytes j) ++ feed ∷ []) (sym (add-zero i))
records_last bytes i (suc k) =
    let e : suc i + k ≡ i + suc k = omega arith in
    ap (λ (l : List ℕ). data_record (16 * i) (chunk bytes i) ++ feed ∷ l) (records_last bytes (suc i) k)
    ∙ ap (λ (j : ℕ). data_record (16 * i) (chunk bytes i) ++ feed ∷ (records bytes (suc i) k ++ (data_record (16 * j) (chunk bytes j) ++ feed ∷ []))) e
    ∙ sym (append_assoc (data_record (16 * i) (chunk bytes i)) (feed ∷ records bytes (suc i) k) (data_record (16 * (i + suc k)) (chunk bytes (i + suc k)) ++ feed ∷ []))

pub records_put : (bytes : List ℕ) (i : ℕ) (out : List ℕ) (p n : ℕ) (mid new : List ℕ)
    → put_of p mid ≡ put (records bytes 0 i) 0 out → put_of n new ≡ put (data_record (16 * i) (chunk bytes i) ++ feed ∷ []) p mid
    → put_of n new ≡ put (records bytes 0 (i + 1)) 0 out
records_put bytes i out p n mid new a b =
    put_behind (records bytes 0 i) (data_record (16 * i) (chunk bytes i) ++ feed ∷ []) out 0 p mid n new a b
    ∙ ap (λ (j : ℕ). put (records bytes 0 i ++ (data_record (16 * j) (chunk bytes j) ++ feed ∷ [])) 0 out) (sym (zero-add i))
    ∙ ap (λ (t : List ℕ). put t 0 out) (sym (records_last bytes 0 i)) ∙ ap (λ (k : ℕ). put (records bytes 0 k) 0 out) (sym (add-one i))

pub records_none : (bytes out : List ℕ) → put_of 0 out ≡ put (records bytes 0 0) 0 out
unfolding records
records_none bytes out = put_nothing out 0 (omega arith)

pub text_put : (ws out : List ℕ) (p n : ℕ) (mid new : List ℕ) → put_of p mid ≡ put (records (all_bytes ws) 0 (records_in ws)) 0 out
    → put_of n new ≡ put (end_record ++ feed ∷ []) p mid → put_of n new ≡ put (text_of ws) 0 out
unfolding text_of
text_put ws out p n mid new a b = put_behind (records (all_bytes ws) 0 (records_in ws)) (end_record ++ feed ∷ []) out 0 p mid n new a b
