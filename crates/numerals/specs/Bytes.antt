-- The bytes of a text in quotes, so that tables of words can be read.
use mathlib.Core.List as L
use Rattle.std.specs.Prelude.{ℕ}
use Prim.Native.Char.{code}
use Prim.Native.String.{String, [], ◌∷◌}

abbrev pub bytes : String → L.List ℕ
bytes [] = L.[]
bytes (c ∷ s) = L.◌∷◌ (code c) (bytes s)

-- LF
abbrev pub feed : ℕ
feed = 10
