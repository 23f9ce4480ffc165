-- A text without room leaves the buffer; any other stands at its front.
use Rattle.sheet.specs.LineLaws.{tell_short, tell_whole}
use Rattle.sheet.proofs.lines.place.Goals as goal

pub returns-then-out-length : goal.returns-then-out-length
returns-then-out-length c = tell_short _ _ c.if-out-length.true

pub returns : goal.returns
returns c = tell_whole _ _ c.if-out-length.false _ _ c.put_text.ensures
