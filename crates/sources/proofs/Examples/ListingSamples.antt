-- Words and their lines by computation.
use Rattle.std.specs.Prelude.{◌≡◌, refl, [], ◌∷◌, ℕ}
use Prim.Native.String.{String}
use Rattle.common.specs.Words.{pack, row, allowed, decode}
use Rattle.common.specs.Opcodes as is
use Rattle.numerals.specs.Bytes.{bytes}
use Rattle.numerals.specs.Numerals.{width_by, decimal}
use Rattle.sources.specs.Listing.{offset_text, operands, word_text, listing}

abbrev Shows : ℕ → String → Type 0
Shows w s = word_text w ≡ bytes s

pub record Samples : Type 0 where
  pub alone : Shows (pack is.nop 0 0 0) "Nop"
  pub a_constant : Shows (pack is.const 1 0 9) "Const 9 r1"
  pub two : Shows (pack is.store 5 1 0) "Store r5 r1"
  pub three : Shows (pack is.add 1 2 3) "Add r1 r2 r3"
  pub a_register : Shows (pack is.jal 4 0 0) "Jal r4"
  pub back : Shows (pack is.bnz 1 0 65535) "Bnz r1, -1"
  pub forth : Shows (pack is.bnz 10 0 32767) "Bnz r10, 32767"
  pub most_digits : Shows (pack is.const 15 0 65535) "Const 65535 r15"
  pub most_letters : Shows (pack is.leq 15 15 15) "Leq r15 r15 r15"
  pub furthest_back : Shows (pack is.bnz 15 0 32768) "Bnz r15, -32768"
  pub no_opcode : Shows 3735928559 "0xDEADBEEF"
  pub unused_bit : Shows (pack is.nop 0 0 10) "0x0000000A"
  pub lines : listing (pack is.halt 0 0 0 ∷ pack is.mov 12 0 0 ∷ []) ≡ bytes "Halt\nMov r12 r0\n"

pub samples : Samples
unfolding row allowed decode width_by decimal offset_text operands word_text listing
samples = search refl
