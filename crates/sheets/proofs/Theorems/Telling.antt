-- What a call that tells a text leaves: the text where it has room, and 31 and the buffer as it was where it has not.
use Rattle.std.specs.Prelude.{◌≡◌, List, ℕ, ◌≤◌, ◌<◌, length}
use Rattle.std.proofs.Common.{le-leb}
use Rattle.std.proofs.lemmas.Bool.{lt-leb}
use Rattle.common.specs.Answers as answer
use Rattle.rules.specs.Images.{over}
use Rattle.sheets.specs.Told.{tell}

pub tell_whole : (text out : List ℕ) → length text ≤ length out → tell text out ≡ record { answer = answer.done; length = length text; out = over text out }
unfolding tell
tell_whole text out h = simp (le-leb (length text) (length out) h)

pub tell_left : (text out : List ℕ) → length out < length text → tell text out ≡ record { answer = answer.short_buffer; length = 0; out = out }
unfolding tell
tell_left text out h = simp (lt-leb (length text) (length out) h)
