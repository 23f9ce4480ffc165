-- A table of labels: what it holds, how a label is looked up in it, and how one is put in.
use Rattle.std.specs.Prelude as rust
use Rattle.std.specs.Prelude.{Bool, cond, List, [], ◌∷◌, ℕ, zero, suc, ◌+◌, ◌*◌, ◌%◌, ltb, length, get_or, set, replicate, Some, None}
use Rattle.std.proofs.Math.Option.{Option, none, some}
use Rattle.grammar.specs.Reading.Lexer.{same}
use Rattle.grammar.specs.Laws.Runs.{name_at}
use Rattle.sources.specs.Labels.{Site, site}
use Rattle.label_table.specs.declared.Definition.{Definition}
use Rattle.label_table.specs.declared.Entry.{Entry}
use Rattle.label_table.specs.declared.Table.{Table}

-- ---- the layout: the count, the heads of 1,024 chains, and the entries

-- how many labels a table can hold
abbrev pub most : ℕ
most = 2048

-- the chain that a name is in, from its first byte to its last
unfoldable pub hash_on : ℕ → List ℕ → ℕ
hash_on h [] = h
hash_on h (b ∷ bs) = hash_on ((h * 131 + b) % 1024) bs

abbrev pub hash : List ℕ → ℕ
hash x = hash_on 0 x

abbrev pub count : Table → ℕ
count table = table.count

-- the newest entry of a chain
unfoldable pub head : Table → ℕ → rust.Option ℕ
head table h = get_or table.newest h None

abbrev pub blank : Entry
blank = record { place = 0; definition = record { line = 0; words = 0 }; older = None }

abbrev pub entry : Table → ℕ → Entry
entry table n = get_or table.entries n blank

unfoldable pub name : List ℕ → Table → ℕ → List ℕ
name text table n = name_at text (entry table n).place

unfoldable pub site_of : Table → ℕ → Site
site_of table n = let d = (entry table n).definition in site d.line d.words

-- the entry of the same chain that was put in before
unfoldable pub link : Table → ℕ → rust.Option ℕ
link table n = (entry table n).older

-- ---- looking up, whatever the table holds

-- the first k entries of a chain from an entry on
unfoldable pub walk : List ℕ → Table → List ℕ → ℕ → rust.Option ℕ → Option Site
walk text table x zero next = none
walk text table x (suc k) None = none
walk text table x (suc k) (Some n) =
    cond (ltb n (length table.entries)) (cond (same x (name text table n)) (some (site_of table n)) (walk text table x k (link table n))) none

unfoldable pub looked : List ℕ → Table → List ℕ → Option Site
looked text table x = walk text table x most (head table (hash x))

abbrev pub found : Option Site → rust.Option Definition
found (some s) = Some (record { line = s.line; words = s.words })
found none = None

-- ---- putting in: a full table stays as it was

-- no label
abbrev pub empty : Table
empty = record { count = 0; newest = replicate 1024 None; entries = replicate 2048 blank }

-- one more entry, at the front of chain h
unfoldable pub added : Table → ℕ → ℕ → ℕ → ℕ → Table
added table h place line words =
    record {
      count = count table + 1;
      newest = set table.newest h (Some (count table));
      entries = set table.entries (count table) (record { place = place; definition = record { line = line; words = words }; older = head table h });
    }

unfoldable pub inserted : List ℕ → Table → ℕ → ℕ → ℕ → Table
inserted text table place line words =
    cond (ltb (count table) most) (added table (hash (name_at text place)) place line words) table
