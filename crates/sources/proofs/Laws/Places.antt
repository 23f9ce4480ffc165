-- Lines by the places at which they begin, as code walks a text.
use Rattle.std.specs.Prelude.{cond, List, [], ℕ, leb, length, drop}
use Rattle.sources.specs.Texts.{Reading, readings}

-- the lines from a place on; a line begins where the text ends, if it is empty or its last byte is LF, and none behind that
unfoldable pub readings_from : List ℕ → ℕ → List Reading
readings_from text at = cond (leb at (length text)) (readings (drop at text)) []
