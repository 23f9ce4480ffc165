-- A register by its number, and else a mnemonic or a name.
use Rattle.std.proofs.Common.{sym, ap, ◌∙◌, arith}
use Rattle.tokens.specs.Bytes.{unless_some, unless_none}
use Rattle.tokens.specs.Known.{both_of, register_of, register_most, known_register, known_mnemonic}
use Rattle.tokens.proofs.words.known.Goals as goal

pub returns-in-Some : goal.returns-in-Some
returns-in-Some c =
    let s = unless_some 16 (register_of c.args.key) _ (sym c.in-Some.is ∙ c.register.ensures) in
    ap (both_of 7) s.0 ∙ known_register c.args.key (omega (arith, s.0, s.1, register_most c.args.key))

pub returns-in-None : goal.returns-in-None
returns-in-None c = c.mnemonic.ensures ∙ known_mnemonic c.args.key (omega (arith, unless_none 16 (register_of c.args.key) (sym c.in-None.is ∙ c.register.ensures)))
