-- Two bytes, and eight digits behind them.
use native.Mathlib.Omega.{arith}
use lib.ListN.{length-set}
use Rattle.numerals.specs.Numerals.{digits}
use Rattle.disassembler.specs.Stores.{put_stored, stored_two, stored_length}
use Rattle.disassembler.proofs.digits.store_number.Goals as goal

pub bounds-out-at-2 : goal.bounds-out-at-2
bounds-out-at-2 c = simp length-set (omega arith)

pub returns : goal.returns
returns c = let g = c.args in stored_two g.out.now g.at 48 120 (digits 16 8 g.w) _ _ (put_stored _ _ (digits 16 8 g.w) _ _ (simp length-set (omega arith)) c.put_hexadecimal.ensures)

pub shape_of-out : goal.shape_of-out
shape_of-out c = stored_length _ _ _ _ _ (returns c)
