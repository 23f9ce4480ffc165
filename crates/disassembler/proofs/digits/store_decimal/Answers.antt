-- What is put has room.
use Rattle.disassembler.specs.Stores.{put_stored}
use Rattle.disassembler.proofs.digits.store_decimal.Goals as goal

pub returns : goal.returns
returns c = put_stored _ _ _ _ _ c.requires c.put_decimal.ensures
