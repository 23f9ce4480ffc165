-- How many bytes a call moved, whether it came to its end or was cut.
use Rattle.std.specs.Prelude.{List, ℕ, length, Result, Ok, Err}
use Rattle.streams.specs.declared.Cut.{Cut}

abbrev pub read_of : Result ℕ Cut → ℕ
read_of (Ok n) = n
read_of (Err cut) = cut.count

-- a text that was written whole has all its bytes written
abbrev pub written_of : Result Unit Cut → List ℕ → ℕ
written_of (Ok done) text = length text
written_of (Err cut) text = cut.count
