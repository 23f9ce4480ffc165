-- Lines by computation: what they say, and the numbers of those that say nothing.
use Rattle.std.specs.Prelude.{◌≡◌, refl, ℕ}
use Prim.Native.String.{String}
use Rattle.grammar.specs.Tokens.{Add}
use Rattle.grammar.specs.Trees.{adding, taking, product, negative, more, factor, times, literal, label, here, group, constant, computing, branching, Line, nothing, labelled, instruction, value}
use Rattle.grammar.specs.Grammar.{deepest}
use Rattle.numerals.specs.Bytes.{bytes}
use Rattle.grammar.specs.Spelling.{digit, capital, small, in_word, blank, lower, hex, digit_value, words, signs}
use Rattle.grammar.specs.Reading.Reader.{Answer, got, code, read}
use Rattle.grammar.specs.Reading.Lexer.{hexadecimal_of, number_of_lem, token_of, class}
use Rattle.grammar.specs.Sources.{answer}

abbrev said : String → Answer Line
said s = answer deepest (bytes s)

-- what a text says, and what number it gets
abbrev Says : String → Line → Type 0
Says s t = said s ≡ got t

abbrev Gets : String → ℕ → Type 0
Gets s n = code (said s) ≡ n

pub record Samples : Type 0 where
  pub nothing_there : Says "  ; only a comment (" nothing
  pub a_label : Says "loop:" (labelled (bytes "loop"))
  pub a_constant : Says "Const 9 r1" (instruction (constant (product (factor (literal 9))) 1))
  pub a_comma : Says "cONST 0x1F,R15" (instruction (constant (product (factor (literal 31))) 15))
  pub three : Says "Add r1, r2 r3" (instruction (computing Add 1 2 3))
  pub backwards : Says "Bnz r1, -1" (instruction (branching 1 (negative (factor (literal 1)))))
  pub offsets : Says "Bnz r1 loop-." (instruction (branching 1 (more (product (factor (label (bytes "loop")))) taking (factor here))))
  pub left_to_right : Says "1+2*3-(4)" (value (more (more (product (factor (literal 1))) adding (times (factor (literal 2)) (literal 3))) taking (factor (group (product (factor (literal 4)))))))
  pub sixteen : Gets "((((((((((((((((1))))))))))))))))" 0
  pub seventeen : Gets "(((((((((((((((((1)))))))))))))))))" 54
  pub behind_a_factor : Gets "((((((((((((((((1 (" 54
  pub whatever_follows : Gets "Const -((((((((((((((((((&$" 54
  pub garbage_first : Gets "1 ((((((((((((((((((" 50
  pub two_items : Gets "a: Halt" 50
  pub two_signs : Gets "--1" 50
  pub run_together : Gets "12ab" 50
  pub no_digits : Gets "0x" 50
  pub two_commas : Gets "Mov r1,, r2" 50
  pub no_register : Gets "Jump r16" 50
  pub reserved : Gets "halt:" 50

pub samples : Samples
unfolding read digit capital small in_word blank lower hex digit_value words signs hexadecimal_of number_of_lem token_of class
samples = search refl
