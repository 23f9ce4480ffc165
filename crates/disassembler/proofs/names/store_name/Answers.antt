-- Each name stands whole in its five bytes.
use native.Mathlib.Omega.{arith}
use Rattle.disassembler.specs.Names.{names_reach, name_stored}
use Rattle.disassembler.proofs.names.store_name.Goals as goal

pub store_part-requires : goal.store_part-requires
store_part-requires c = let h = names_reach _ c.requires.0 in (omega arith, omega arith)

pub returns : goal.returns
returns c = name_stored _ _ _ _ _ _ c.requires.0 c.letters-n.ensures c.store_part.ensures
