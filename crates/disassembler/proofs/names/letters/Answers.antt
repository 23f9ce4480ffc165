-- The table has each name's length.
use Rattle.disassembler.specs.Names.{counts_name}
use Rattle.disassembler.proofs.names.letters.Goals as goal

pub returns : goal.returns
returns c = counts_name _ c.requires
