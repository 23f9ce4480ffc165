-- Whole texts by computation: what they say, or which line is refused with which number.
use Rattle.std.specs.Prelude.{◌≡◌, refl, List, [], ◌∷◌, ◌++◌, ℕ, pos, negsuc, replicate}
use Rattle.std.proofs.Math.Option.{Option, some}
use Prim.Native.String.{String}
use Rattle.common.specs.Tables.{first_of}
use Rattle.rules.specs.Images.{all_bytes, section, listed, image_bytes, write_checks, write_verdict, write}
use Rattle.numerals.specs.Bytes.{bytes}
use Rattle.grammar.specs.Trees.{adding, taking, Expr, product, negative, more, factor, times, literal, label, here, group}
use Rattle.grammar.specs.Spelling.{digit, capital, small, in_word, blank, lower, hex, digit_value, words, signs}
use Rattle.grammar.specs.Reading.Reader.{read}
use Rattle.grammar.specs.Reading.Lexer.{hexadecimal_of, number_of_lem, token_of, class}
use Rattle.sources.specs.Values.{lies, bounded}
use Rattle.sources.specs.Laws.OnTheWay.{names_e, plain_e, way_e}
use Rattle.sources.specs.Texts.{lines, reading, readings}
use Rattle.sources.specs.Labels.{words_in, defined, first}
use Rattle.sources.specs.Words.{in_field}
use Rattle.sources.specs.Meaning.{Meaning, says, refused, from, meaning, assemble}

-- a text says these words
abbrev Says : String → List ℕ → Type 0
Says s ws = meaning (bytes s) ≡ says ws

-- a text is refused with this number, at this line
abbrev Refused : String → ℕ → ℕ → Type 0
Refused s number line = meaning (bytes s) ≡ refused number line

-- ---- the sheet's instructions, and lines that hold nothing

pub record Sheet : Type 0 where
  pub constant : Says "Const 7 r2" (0x01200007 ∷ [])
  pub nine : Says "Const 9 r1" (0x01100009 ∷ [])
  pub branch : Says "Bnz r1, -1" (0x0C10FFFF ∷ [])
  pub sum : Says "Add r1 r2 r3" (0x03120003 ∷ [])
  pub store : Says "Store r5 r1" (0x09510000 ∷ [])
  pub rest : Says "NOP\nmov R1,r2\nSub r1 r2 r15\nMul r3 r4, r5\nEq r0, r1 r2\nleq r9,r8,r7\nLoad r5 r1\nJump r10\nJal r11\nhalt"
      (0x00000000 ∷ 0x02120000 ∷ 0x0412000F ∷ 0x05340005 ∷ 0x06010002 ∷ 0x07980007 ∷ 0x08510000 ∷ 0x0AA00000 ∷ 0x0BB00000 ∷ 0x0D000000 ∷ [])
  pub numbers : Says "0x0c10ffff\n01200007\n(2+3)*4-1" (0x0C10FFFF ∷ 1200007 ∷ 19 ∷ [])
  pub no_text : Says "" []
  pub only_comments : Says "; (((((((((((((((((\n\n \t; Halt\n" []
  pub behind_a_comment : Says "Halt ; (((((((((((((((((" (0x0D000000 ∷ [])
  pub no_last_feed : Says "1\n2" (1 ∷ 2 ∷ [])
  pub last_feed : Says "1\n2\n" (1 ∷ 2 ∷ [])
  pub carriage_returns : Says "a:\r\nConst a r1\r\n\r\nHalt\r\n" (0x01100000 ∷ 0x0D000000 ∷ [])

-- ---- labels and the dot

pub record Names : Type 0 where
  pub forward_and_back : Says "top: ; 0\nBnz r1, end-.\nBnz r1, top-.\nend:\nHalt" (0x0C100002 ∷ 0x0C10FFFF ∷ 0x0D000000 ∷ [])
  pub dots : Says ".\n.\nConst . r1\n. * ." (0 ∷ 1 ∷ 0x01100002 ∷ 9 ∷ [])
  pub one_address : Says "a:\nb:\n5\nc:\na\nb\nc" (5 ∷ 0 ∷ 0 ∷ 1 ∷ [])
  pub at_the_end : Says "end\nend:" (1 ∷ [])
  pub as_written : Refused "a:\nA" 51 2
  pub no_registers_lem : Says "r16:\nr01:\n7\nr16 + r01" (7 ∷ 0 ∷ [])
  pub unknown : Refused "1\nb" 51 2
  -- the second definition is at fault, and a use before it means the first; (a-n)*65535 is an offset only where a is n
  pub twice : Refused "5\na:\nBnz r1 (a-1)*65535\n6\na:\na" 52 5
  pub used_before : Refused "Bnz r1 (a-2)*65535\n5\na:\n6\na:" 52 5
  pub three_times : Refused "a:\nb:\na:\na:" 52 3
  -- lines at 50 and 54 hold no word and define no label
  pub behind_bad_lines : Refused "Bnz r1 (a-1)*65535\nHalt Halt\n(((((((((((((((((1\na:" 50 2
  pub no_label_there : Refused "a\na: Halt" 51 1
  pub malformed_again : Refused "a:\na: a:" 50 2
  -- lines at 51 and 53 hold their word
  pub behind_faults : Refused "Bnz r1 (c-3)*65535\nx\n0-1\nc:" 51 2

-- ---- one line has one number, and the first line at fault is named

pub record Order : Type 0 where
  pub unknown_before_outside : Refused "x + 4294967296" 51 1
  pub on_either_side : Refused "4294967296 * x" 51 1
  pub outside_its_field : Refused "Const (0-1) * x r1" 51 1
  pub deep_alone : Refused "x + 4294967296 + (((((((((((((((((" 54 1
  pub sixteen : Says "((((((((((((((((1))))))))))))))))" (1 ∷ [])
  pub seventeen : Refused "\n(((((((((((((((((1)))))))))))))))))" 54 2
  pub side_by_side : Says "(1)+(1)+(1)+(1)+(1)+(1)+(1)+(1)+(1)+(1)+(1)+(1)+(1)+(1)+(1)+(1)+(1)+(1)+(1)+(1)" (20 ∷ [])
  pub no_line : Refused "Halt\n\nHalt 1" 50 3
  pub first_line_lem : Refused "; nothing\nx\nHalt Halt" 51 2
  pub first_again : Refused "Halt Halt\nx" 50 1

-- ---- bounds

pub record Bounds : Type 0 where
  pub number_most : Says "4294967295" (4294967295 ∷ [])
  pub number_above : Refused "4294967296" 53 1
  pub least_on_the_way : Says "-2147483648+2147483648" (0 ∷ [])
  pub below_on_the_way : Refused "-2147483649+2147483649" 53 1
  pub sum_least : Says "0-2147483648+2147483648" (0 ∷ [])
  pub sum_below : Refused "0-2147483648-1+2147483649" 53 1
  pub sum_most : Says "4294967294+1-4294967295" (0 ∷ [])
  pub sum_above : Refused "4294967295+1-4294967295" 53 1
  pub product_most : Says "65537*65535" (4294967295 ∷ [])
  pub product_above : Refused "65536*65536-1" 53 1
  pub product_on_the_way : Refused "65536*65536*0" 53 1
  pub in_brackets : Refused "0*(65536*65536)" 53 1
  pub left_to_right : Says "4294967295-1+1" (4294967295 ∷ [])
  pub too_long : Refused "99999999999999999999999999*0" 53 1
  pub too_long_behind : Refused "0*0x100000000" 53 1
  pub zeros_before : Says "0000000000000000000000000000004294967295" (4294967295 ∷ [])
  pub constant_most : Says "Const 65535 r1" (0x0110FFFF ∷ [])
  pub constant_above : Refused "Const 65536 r1" 53 1
  pub constant_least : Says "Const 1-1 r1" (0x01100000 ∷ [])
  pub constant_below : Refused "Const -1 r1" 53 1
  pub offset_most : Says "Bnz r1 32767" (0x0C107FFF ∷ [])
  pub offset_above : Refused "Bnz r1 32768" 53 1
  pub offset_least : Says "Bnz r1 -32768" (0x0C108000 ∷ [])
  pub offset_below : Refused "Bnz r1 -32769" 53 1
  pub data_least : Says "1-1" (0 ∷ [])
  pub data_below : Refused "-1" 53 1

-- ---- what an expression uses and passes through: -2*x+(.-3), where x is 5 and the dot is 7

abbrev passing : Expr
passing = more (negative (times (factor (literal 2)) (label (bytes "x")))) adding (factor (group (more (product (factor here)) taking (factor (literal 3)))))

abbrev five : List ℕ → Option ℕ
five x = some 5

pub record Passing : Type 0 where
  pub names : names_e passing ≡ bytes "x" ∷ []
  pub plain : plain_e five 7 passing ≡ negsuc 5
  pub way : way_e five 7 passing ≡ pos 2 ∷ pos 5 ∷ pos 10 ∷ negsuc 9 ∷ pos 7 ∷ pos 3 ∷ pos 4 ∷ negsuc 5 ∷ []

-- ---- many words

-- a text's last line, of which nothing but its bytes is left to read behind so many lines that hold a word each
abbrev behind : ℕ → String → Meaning
behind n s = from (readings (bytes s)) (replicate n (reading (bytes "Halt"))) (readings (bytes s))

pub record Many : Type 0 where
  pub last_word : behind 2047 "Halt" ≡ says (0x0D000000 ∷ [])
  pub one_too_many : behind 2048 "Halt" ≡ refused 55 2049
  pub each_after : behind 2049 "Halt" ≡ refused 55 2050
  pub no_word : behind 2048 "a: ; no word" ≡ says []
  pub outside_first : behind 2048 "4294967296" ≡ refused 53 2049
  pub unknown_first : behind 2048 "x" ≡ refused 51 2049
  pub counted_on : behind 2049 "Bnz r1 (.-2049)*65535" ≡ refused 55 2050

-- ---- assembling: the image, and beyond it what the buffer held; or the buffer as it was

-- Halt as an image: one word, no registers, one entry
abbrev halt : List ℕ
halt = 1 ∷ 0 ∷ 0 ∷ 0 ∷ 0 ∷ 0 ∷ 0 ∷ 13 ∷ 0 ∷ 0 ∷ 0 ∷ 0 ∷ 1 ∷ 0 ∷ 0 ∷ 0 ∷ 0 ∷ 0 ∷ 0 ∷ 0 ∷ []

pub record Assembling : Type 0 where
  pub written : assemble (bytes "Halt") (replicate 22 7) ≡ record { answer = 0; line = 0; length = 20; out = halt ++ 7 ∷ 7 ∷ [] }
  pub just_fits : assemble (bytes "Halt") (replicate 20 7) ≡ record { answer = 0; line = 0; length = 20; out = halt }
  pub too_short : assemble (bytes "Halt") (replicate 19 7) ≡ record { answer = 31; line = 0; length = 0; out = replicate 19 7 }
  pub no_words : assemble (bytes "a:\n") (7 ∷ []) ≡ record { answer = 21; line = 0; length = 0; out = 7 ∷ [] }
  pub a_fault : assemble (bytes "Halt\nx") (7 ∷ []) ≡ record { answer = 51; line = 2; length = 0; out = 7 ∷ [] }

pub record Samples : Type 0 where
  pub sheet : Sheet
  pub names : Names
  pub order : Order
  pub bounds : Bounds
  pub passing_through : Passing
  pub many : Many
  pub assembling : Assembling

pub samples : Samples
unfolding read digit capital small in_word blank lower hex digit_value words signs hexadecimal_of number_of_lem token_of class lies bounded lines reading readings words_in defined first in_field from meaning assemble all_bytes section listed image_bytes first_of write_checks write_verdict write
samples =
    record { sheet = search refl; names = search refl; order = search refl; bounds = search refl; passing_through = search refl; many = search refl; assembling = search refl }
