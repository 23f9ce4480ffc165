-- A text written into a buffer from a place on: what has no place there is left out.
use Rattle.std.specs.Prelude.{List, ℕ, ◌+◌, min, length}
use Rattle.std.proofs.lemmas.List.Edits.{sets}

-- the place behind the text, or the buffer's end; and the buffer
pub record Put : Type 0 where
  pub next : ℕ
  pub out : List ℕ

unfoldable pub put : List ℕ → ℕ → List ℕ → Put
put text at out = record { next = min (at + length text) (length out); out = sets out at text }
