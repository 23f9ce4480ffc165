-- Texts by computation: what they say, or which record is refused with which number.
use Rattle.std.specs.Prelude.{◌≡◌, refl, List, [], ◌∷◌, ◌++◌, ℕ, replicate}
use Prim.Native.String.{String}
use Rattle.common.specs.Tables.{first_of}
use Rattle.rules.specs.Images.{field, fields, all_bytes, section, listed, image_bytes}
use Rattle.numerals.specs.Bytes.{bytes}
use Rattle.intel_hex.specs.Records.{lines, body, digit_of, all_digits, octet, octets, sum, formed, wrong_count, sums_up, known}
use Rattle.intel_hex.specs.Reading.{beyond, any_given, record_checks, record_verdict, with_record, Reading, says, refused, from, reading}
use Rattle.intel_hex.specs.Importing.{past, words_of, end_checks, end_verdict, Imported, refusal, import}
use Rattle.intel_hex.specs.Exporting.{pairs, data_record, end_record, records, text_of, export_checks, export_verdict, export}

-- a text is refused with this number, at this record
abbrev Refused : String → ℕ → ℕ → Type 0
Refused s number line = reading (bytes s) ≡ refused number line

abbrev no_registers : List ℕ
no_registers = replicate 16 0

abbrev imported : String → ℕ → ℕ → Imported
imported s entry room = import (bytes s) no_registers entry (replicate room 7)

-- a text says these words
abbrev words_said : Reading → List ℕ
words_said (says s) = words_of s.memory
words_said (refused number line) = []

abbrev Says : String → List ℕ → Type 0
Says s ws = words_said (reading (bytes s)) ≡ ws

-- importing with entry 0 and room enough is refused with this number, of no record
abbrev Ends : String → ℕ → Type 0
Ends s number = imported s 0 64 ≡ refusal number 0 (replicate 64 7)

-- ---- what a text says

pub record Words : Type 0 where
  pub word : Says ":0400000001000000FB\n:00000001FF\n" (1 ∷ [])
  pub four_bytes : Says ":0400000078563412E8\n:00000001FF\n" (0x12345678 ∷ [])
  pub either_case : Says ":04000000abCDefAbea\n:00000001FF\n" (0xABEFCDAB ∷ [])
  pub returns : Says ":0400000001000000FB\r\n:00000001FF\r\n" (1 ∷ [])
  pub mixed : Says ":0400000001000000FB\n:0400040002000000F6\r\n:00000001FF\n" (1 ∷ 2 ∷ [])
  pub gap : Says ":0400040007000000F1\n:00000001FF\n" (0 ∷ 7 ∷ [])
  pub gap_within : Says ":0100000007F8\n:0100030009F3\n:00000001FF\n" (0x09000007 ∷ [])
  pub any_order : Says ":0400040002000000F6\n:0400000001000000FB\n:00000001FF\n" (1 ∷ 2 ∷ [])
  pub by_byte : Says ":0100030004F8\n:0100010002FC\n:0100020003FA\n:0100000001FE\n:00000001FF\n" (0x04030201 ∷ [])
  pub base_zero : Says ":020000040000FA\n:0400000001000000FB\n:00000001FF\n" (1 ∷ [])
  pub base_back : Says ":020000040001F9\n:020000040000FA\n:0400000001000000FB\n:00000001FF\n" (1 ∷ [])
  pub any_field : Says ":02BEEF0400004D\n:0400000001000000FB\n:00123401B9\n" (1 ∷ [])
  pub no_bytes : Says ":00FFFF0002\n:0400000001000000FB\n:0000000000\n:00000001FF\n" (1 ∷ [])

-- ---- one record has one number, and the first record at fault is named

pub record Records : Type 0 where
  pub after_end : Refused ":0400000001000000FB\n:00000001FF\n:00000001FF\n" 66 3
  pub after_end_feed : Refused ":0400000001000000FB\n:00000001FF\n\n" 66 3
  pub after_end_byte : Refused ":0400000001000000FB\n:00000001FF\nx" 66 3
  pub after_end_first : Refused ":00000001FF\n:00\n" 66 2
  pub no_feed : Refused ":0400000001000000FB\n:00000001FF" 60 2
  pub no_feed_return : Refused ":0400000001000000FB\n:00000001FF\r" 60 2
  pub empty_line : Refused ":0400000001000000FB\n\n:00000001FF\n" 60 2
  pub return_alone : Refused ":0400000001000000FB\n\r\n:00000001FF\n" 60 2
  pub two_returns : Refused ":0400000001000000FB\r\r\n:00000001FF\n" 60 1
  pub return_within : Refused ":0400000001000000FB\r:00000001FF\n" 60 1
  pub no_colon : Refused "0400000001000000FB\n" 60 1
  pub blank_before : Refused " :0400000001000000FB\n" 60 1
  pub blank_behind : Refused ":0400000001000000FB \n" 60 1
  pub no_digit : Refused ":0400000001000000GB\n" 60 1
  pub odd : Refused ":0400000001000000FB0\n" 60 1
  pub count_less : Refused ":0300000001000000FB\n" 60 1
  pub count_more : Refused ":0500000001000000FB\n" 60 1
  pub too_few : Refused ":00000000\n" 60 1
  pub end_with_data : Refused ":0100000100FE\n" 60 1
  pub base_one : Refused ":0100000400FB\n" 60 1
  pub base_three : Refused ":03000004000000F9\n" 60 1
  pub base_none : Refused ":00000004FC\n" 60 1
  pub length_before_sum : Refused ":0100000100FF\n" 60 1
  pub sum_above : Refused ":0400000001000000FC\n" 61 1
  pub sum_below : Refused ":0400000001000000FA\n" 61 1
  pub sum_of_end : Refused ":0400000001000000FB\n:0000000100\n" 61 2
  pub sum_before_type : Refused ":0400000500000000F8\n" 61 1
  pub type_2 : Refused ":020000020000FC\n" 62 1
  pub type_3 : Refused ":0400000300000000F9\n" 62 1
  pub type_5 : Refused ":0400000500000000F7\n" 62 1
  pub type_6 : Refused ":0400000600000000F6\n" 62 1
  pub type_255 : Refused ":040000FF00000000FD\n" 62 1
  pub other_length : Refused ":00000002FE\n" 62 1
  pub beyond : Refused ":0120000000DF\n" 63 1
  pub beyond_part : Refused ":041FFD0001000000DF\n" 63 1
  pub beyond_base : Refused ":020000040001F9\n:0400000001000000FB\n" 63 2
  pub beyond_high_base : Refused ":02000004FFFFFC\n:02FFFF000102FD\n" 63 2
  pub beyond_before_twice : Refused ":041FFC0001000000E0\n:041FFD0001000000DF\n" 63 2
  pub twice : Refused ":0400000001000000FB\n:0400040002000000F6\n:0100030000FC\n" 64 3
  pub twice_same : Refused ":0400000001000000FB\n:0400000001000000FB\n" 64 2
  pub twice_zero : Refused ":0100000000FF\n:0100000000FF\n" 64 2
  pub twice_last : Refused ":0400040002000000F6\n:0400010000000000FB\n" 64 2
  pub first_record : Refused ":0400000001000000FB\n:x\n:0400000001000000FB\n" 60 2

-- ---- at the end

pub record Ends-so : Type 0 where
  pub no_end : Ends ":0400000001000000FB\n" 65
  pub empty : Ends "" 65
  pub no_end_no_data : Ends ":0000000000\n" 65
  pub no_data : Ends ":00000001FF\n" 68
  pub no_bytes : Ends ":0000000000\n:00000001FF\n" 68
  pub part : Ends ":03000000010203F7\n:00000001FF\n" 67
  pub part_behind_gap : Ends ":0100040001FA\n:00000001FF\n" 67
  pub part_by_bytes : Ends ":0400010001020304F1\n:00000001FF\n" 67

-- ---- importing: the image, and beyond it what the buffer held; or the buffer as it was

abbrev two : String
two = ":0400040002000000F6\n:00000001FF\n"

-- 0 and 2 as an image: two words, no registers, one entry
abbrev image : ℕ → List ℕ
image entry = 2 ∷ 0 ∷ 0 ∷ 0 ∷ 0 ∷ 0 ∷ 0 ∷ 0 ∷ 2 ∷ 0 ∷ 0 ∷ 0 ∷ 0 ∷ 0 ∷ 0 ∷ 0 ∷ 1 ∷ 0 ∷ 0 ∷ 0 ∷ entry ∷ 0 ∷ 0 ∷ 0 ∷ []

pub record Imports : Type 0 where
  pub written : imported two 1 26 ≡ record { answer = 0; line = 0; length = 24; out = image 1 ++ 7 ∷ 7 ∷ [] }
  pub just_fits : imported two 0 24 ≡ record { answer = 0; line = 0; length = 24; out = image 0 }
  pub too_short : imported two 1 23 ≡ refusal 31 0 (replicate 23 7)
  pub entry_first : imported two 2 23 ≡ refusal 25 0 (replicate 23 7)
  pub entry_most : imported two 4294967295 24 ≡ refusal 25 0 (replicate 24 7)
  pub a_record : imported ":0100030004F8\n:0100030004F8\n" 0 3 ≡ refusal 64 2 (replicate 3 7)

-- ---- exporting

-- the text of words
abbrev Shows : List ℕ → String → Type 0
Shows ws s = text_of ws ≡ bytes s

pub record Exports : Type 0 where
  pub one : Shows (0x12345678 ∷ []) ":0400000078563412E8\n:00000001FF\n"
  pub upper_case : Shows (0xABCDEF01 ∷ []) ":0400000001EFCDAB94\n:00000001FF\n"
  pub four : Shows (1 ∷ 2 ∷ 3 ∷ 4 ∷ []) ":1000000001000000020000000300000004000000E6\n:00000001FF\n"
  pub five : Shows (1 ∷ 2 ∷ 3 ∷ 4 ∷ 0xFFFFFFFF ∷ []) ":1000000001000000020000000300000004000000E6\n:04001000FFFFFFFFF0\n:00000001FF\n"
  pub eight : Shows (0 ∷ 0 ∷ 0 ∷ 0 ∷ 0xDEADBEEF ∷ 1 ∷ 2 ∷ 3 ∷ []) ":1000000000000000000000000000000000000000F0\n:10001000EFBEADDE010000000200000003000000A2\n:00000001FF\n"
  pub just_fits : export (1 ∷ []) (replicate 32 7) ≡ record { answer = 0; length = 32; out = text_of (1 ∷ []) }
  pub beyond_kept : export (1 ∷ []) (replicate 34 7) ≡ record { answer = 0; length = 32; out = text_of (1 ∷ []) ++ 7 ∷ 7 ∷ [] }
  pub too_short : export (1 ∷ []) (replicate 31 7) ≡ record { answer = 31; length = 0; out = replicate 31 7 }
  pub no_words : export [] (7 ∷ []) ≡ record { answer = 21; length = 0; out = 7 ∷ [] }

pub record Samples : Type 0 where
  pub words : Words
  pub records_are : Records
  pub ends : Ends-so
  pub imports : Imports
  pub exports : Exports

pub samples : Samples
unfolding lines body digit_of all_digits octet octets sum formed wrong_count sums_up known beyond any_given record_checks record_verdict with_record from reading first_of past words_of end_checks end_verdict import field fields all_bytes section listed image_bytes pairs data_record end_record records text_of export_checks export_verdict export
samples = record { words = search refl; records_are = search refl; ends = search refl; imports = record { written = refl; just_fits = refl; too_short = refl; entry_first = refl; entry_most = refl; a_record = refl }; exports = search refl }
