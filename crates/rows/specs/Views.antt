-- The lent table, seen as the rules' rows.
use Rattle.std.specs.Prelude.{List, map}
use Rattle.rules.specs.Rows as meant
use Rattle.rows.specs.declared.Row.{Row}

abbrev pub row_of : Row → meant.Row
row_of row = record { owned = row.owned; jump = row.jump; store = row.store }

abbrev pub table : List Row → List meant.Row
table rows = map row_of rows
