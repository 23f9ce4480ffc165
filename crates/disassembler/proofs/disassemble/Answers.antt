-- A refusal leaves the buffer; else the listing is stored, which has room.
use Rattle.std.proofs.lemmas.Result.{err_from_is_err_and}
use Rattle.disassembler.specs.Verdicts.{refuses, fits, writes}
use Rattle.disassembler.proofs.disassemble.Goals as goal

pub returns-in_err-check : goal.returns-in_err-check
returns-in_err-check c = let p = err_from_is_err_and c.from_residual.result c.from_residual.ensures.1 in rw (p.1, p.2) (refuses _ _ _ c.in_err-check.ensures)

pub store_listing-requires : goal.store_listing-requires
store_listing-requires c = fits _ _ c.in_ok-check.ensures

pub returns : goal.returns
returns c = writes _ _ c.in_ok-check.ensures _ _ c.store_listing.ensures
