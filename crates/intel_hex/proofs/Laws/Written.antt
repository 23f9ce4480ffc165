-- A record that was written: its parts, that it passes 60 and 61, and what is said with it.
use Rattle.std.specs.Prelude.{◌≡◌, true, List, [], ◌∷◌, ◌++◌, ℕ, ◌+◌, ◌*◌, ◌%◌, ◌<◌}
use Rattle.std.proofs.Common.{sym, ap, ◌∙◌, zero-add, eq-eqb, length-append}
use native.Mathlib.Omega.{arith}
use Rattle.std.proofs.Math.ListN.{length}
use Rattle.std.proofs.Math.Seq.{take_all, take-append_seam}
use Rattle.numerals.specs.Bytes.{feed}
use Rattle.intel_hex.specs.Records.{line, lines, body, colon, octets, count, offset, type, data_of, sum, formed, sums_up}
use Rattle.intel_hex.specs.Exporting.{checksum, fields_of, record_of}
use Rattle.intel_hex.proofs.Laws.Bounds.{Below, below_append, From}
use Rattle.intel_hex.proofs.Laws.Pairs.{one_line, whole_body, length_pairs, pairs_from, pairs_digits, octet_at, octets_at}

pub sum_append : (xs ys : List ℕ) → sum (xs ++ ys) ≡ sum xs + sum ys
unfolding sum
sum_append [] ys = sym (zero-add (sum ys))
sum_append (x ∷ xs) ys = let ih = sum_append xs ys in omega arith

checked : (xs : List ℕ) → sum (xs ++ checksum xs ∷ []) % 256 ≡ 0
unfolding sum
checked xs = let e : sum (xs ++ checksum xs ∷ []) ≡ sum xs + (checksum xs + 0) = sum_append xs (checksum xs ∷ []) in rw e (omega arith)

-- four bytes before the data, and the checksum
many : (at type' : ℕ) (bytes : List ℕ) → length (fields_of at type' bytes ++ checksum (fields_of at type' bytes) ∷ []) ≡ length bytes + 5
many at type' bytes = let a = length-append bytes (checksum (fields_of at type' bytes) ∷ []) in omega arith

pub length_record : (at type' : ℕ) (bytes : List ℕ) → length (record_of (fields_of at type' bytes)) ≡ 2 * length bytes + 11
length_record at type' bytes =
    let m = many at type' bytes in
    let l = length_pairs (fields_of at type' bytes ++ checksum (fields_of at type' bytes) ∷ []) in
    omega arith

-- what stands in a record of these bytes, and that it passes 60 and 61
pub record Parts (at type' : ℕ) (bytes : List ℕ) : Type 0 where
  pub count_is : count (record_of (fields_of at type' bytes)) ≡ length bytes
  pub offset_is : offset (record_of (fields_of at type' bytes)) ≡ at
  pub type_is : type (record_of (fields_of at type' bytes)) ≡ type'
  pub data_is : data_of (record_of (fields_of at type' bytes)) ≡ bytes
  pub formed_is : formed (record_of (fields_of at type' bytes)) ≡ true
  pub sums_up_lem : sums_up (record_of (fields_of at type' bytes)) ≡ true
  pub one_line : (rest : List ℕ) → lines (record_of (fields_of at type' bytes) ++ feed ∷ rest) ≡ line (record_of (fields_of at type' bytes)) true ∷ lines rest
  pub whole : body (record_of (fields_of at type' bytes)) ≡ record_of (fields_of at type' bytes)

module _ (at type' : ℕ) (bytes : List ℕ) (few : length bytes < 256) (low : at < 65536) (kind : type' < 256) (small : Below 256 bytes) where
  abbrev xs : List ℕ
  xs = fields_of at type' bytes ++ checksum (fields_of at type' bytes) ∷ []

  abbrev r : List ℕ
  r = record_of (fields_of at type' bytes)

  below : Below 256 xs
  below = (few, (omega arith, (omega arith, (kind, below_append 256 bytes (checksum (fields_of at type' bytes) ∷ []) small (omega arith, tt)))))

  count_is : count r ≡ length bytes
  count_is = let m = many at type' bytes in octet_at colon xs 0 below (omega arith)

  offset_is : offset r ≡ at
  offset_is =
      let m = many at type' bytes in
      let h = octet_at colon xs 1 below (omega arith) in
      let l = octet_at colon xs 2 below (omega arith) in
      rw (h, l) (omega arith)

  type_is : type r ≡ type'
  type_is = let m = many at type' bytes in octet_at colon xs 3 below (omega arith)

  data_is : data_of r ≡ bytes
  data_is =
      let m = many at type' bytes in
      ap (octets r 4) count_is ∙ octets_at colon xs 4 (length bytes) below (omega arith)
      ∙ take-append_seam bytes (checksum (fields_of at type' bytes) ∷ [])

  from_is : From 48 r
  from_is = (omega arith, pairs_from xs)

  formed_is : formed r ≡ true
  unfolding formed
  formed_is = rw (pairs_digits xs, count_is) (eq-eqb (length r) (2 * length bytes + 11) (length_record at type' bytes))

  sums_up_lem : sums_up r ≡ true
  unfolding sums_up
  sums_up_lem =
      let m = many at type' bytes in
      let n : length bytes + 5 ≡ length xs = omega arith in
      let all : octets r 0 (length bytes + 5) ≡ xs = octets_at colon xs 0 (length bytes + 5) below (omega arith) ∙ take_all (length bytes + 5) xs (omega arith) in
      rw (count_is, all) (eq-eqb (sum xs % 256) 0 (checked (fields_of at type' bytes)))

  pub written : Parts at type' bytes
  written =
      let l = length_record at type' bytes in
      record {
        count_is = count_is;
        offset_is = offset_is;
        type_is = type_is;
        data_is = data_is;
        formed_is = formed_is;
        sums_up_lem = sums_up_lem;
        one_line = λ rest. one_line r rest from_is;
        whole = whole_body r from_is (omega arith);
      }
