-- Lines of a text, and the parts of a record of the Intel HEX format: a colon, then pairs of digits for the count, the address field
-- (high, low), the type, as many bytes of data as the count says, and the checksum.
use Rattle.std.specs.Prelude.{Bool, true, false, cond, ◌&&◌, ◌||◌, not, List, [], ◌∷◌, ℕ, zero, suc, ◌+◌, ◌-◌, ◌*◌, ◌%◌, leb, ltb, eqb, get_or, length, take, drop}
use Rattle.numerals.specs.Bytes.{feed}

-- ---- lines

-- the bytes before the LF, and whether it is there
pub record Line : Type 0 where
  pub bytes : List ℕ
  pub whole : Bool

abbrev pub line : List ℕ → Bool → Line
line bytes whole = record { bytes = bytes; whole = whole }

abbrev pub onto : ℕ → List Line → List Line
onto b [] = line (b ∷ []) false ∷ []
onto b (l ∷ ls) = line (b ∷ l.bytes) l.whole ∷ ls

-- "a line ends in LF": an empty text has no line, and behind the last LF there is none
unfoldable pub lines : List ℕ → List Line
lines [] = []
lines (b ∷ bs) = cond (eqb b feed) (line [] true ∷ lines bs) (onto b (lines bs))

-- "LF, or CR and LF": a CR right before the LF is no part of the record
abbrev pub return : ℕ
return = 13

unfoldable pub body : List ℕ → List ℕ
body bytes = cond (eqb (get_or bytes (length bytes - 1) 0) return) (take (length bytes - 1) bytes) bytes

-- ---- digits

-- "Digits are read in either case": the number of a digit, and 16 for any other byte
unfoldable pub digit_of : ℕ → ℕ
digit_of b = cond (leb 48 b && leb b 57) (b - 48) (cond (leb 65 b && leb b 70) (b - 55) (cond (leb 97 b && leb b 102) (b - 87) 16))

unfoldable pub all_digits : List ℕ → Bool
all_digits [] = true
all_digits (b ∷ bs) = ltb (digit_of b) 16 && all_digits bs

-- the byte that pair i of a record says
unfoldable pub octet : List ℕ → ℕ → ℕ
octet r i = 16 * digit_of (get_or r (2 * i + 1) 0) + digit_of (get_or r (2 * i + 2) 0)

-- those of the k pairs from i on
unfoldable pub octets : List ℕ → ℕ → ℕ → List ℕ
octets r i zero = []
octets r i (suc k) = octet r i ∷ octets r (suc i) k

-- ---- the parts

abbrev pub colon : ℕ
colon = 58

abbrev pub count : List ℕ → ℕ
count r = octet r 0

-- the address field
abbrev pub offset : List ℕ → ℕ
offset r = 256 * octet r 1 + octet r 2

abbrev pub type : List ℕ → ℕ
type r = octet r 3

abbrev pub data_of : List ℕ → List ℕ
data_of r = octets r 4 (count r)

-- the types
abbrev pub data_type : ℕ
data_type = 0

abbrev pub end_type : ℕ
end_type = 1

abbrev pub base_type : ℕ
base_type = 4

-- in type 04 two bytes of data, high and low: bits 16 to 31 of the addresses that follow
abbrev pub base_of : List ℕ → ℕ
base_of r = 256 * octet r 4 + octet r 5

unfoldable pub sum : List ℕ → ℕ
sum [] = 0
sum (x ∷ xs) = x + sum xs

-- ---- what 60, 61 and 62 ask

-- a colon and digits, as many as the count says: five pairs beside the data
unfoldable pub formed : List ℕ → Bool
formed r = eqb (get_or r 0 0) colon && all_digits (drop 1 r) && eqb (length r) (2 * count r + 11)

-- "data in type 01, other than two bytes in type 04"
unfoldable pub wrong_count : List ℕ → Bool
wrong_count r = (eqb (type r) end_type && not (eqb (count r) 0)) || (eqb (type r) base_type && not (eqb (count r) 2))

-- the bytes of a record, the checksum with them, sum up to 0 modulo 256
unfoldable pub sums_up : List ℕ → Bool
sums_up r = eqb (sum (octets r 0 (count r + 5)) % 256) 0

unfoldable pub known : List ℕ → Bool
known r = eqb (type r) data_type || eqb (type r) end_type || eqb (type r) base_type
