-- The steps of hashing a name and of walking a chain, as the code comes to them.
use Rattle.std.specs.Prelude as rust
use Rattle.std.specs.Prelude.{◌≡◌, Bool, true, false, cond, List, [], ℕ, zero, suc, ◌+◌, ◌*◌, ◌%◌, ◌<◌, ◌≤◌, leb, length, get_or, Some, None}
use Rattle.std.proofs.Math.Path.{refl}
use Rattle.std.proofs.Math.Option.{Option, none, some}
use borrow.Author.Tests.{le-ltb, lt-ltb, leb-true, leb-false}
use Rattle.grammar.specs.Spelling.{in_word}
use Rattle.grammar.specs.Reading.Lexer.{same}
use Rattle.grammar.specs.Laws.Runs.{name_at}
use Rattle.sources.specs.Labels.{Site}
use Rattle.tokens.specs.Names.{name_more}
use Rattle.label_table.specs.declared.Entry.{Entry}
use Rattle.label_table.specs.declared.Table.{Table}
use Rattle.label_table.specs.Table.{most, hash_on, hash, count, head, entry, found, looked, name, site_of, link, walk, added, inserted}

-- ---- a name, byte by byte

module _ (text : List ℕ) (h p : ℕ) where
  pub hash_more : in_word (get_or text p 0) ≡ true
      → hash_on h (name_at text p) ≡ hash_on ((h * 131 + get_or text p 0) % 1024) (name_at text (p + 1))
  unfolding hash_on
  hash_more e = rw (name_more text p e) refl

  pub hash_end : name_at text p ≡ [] → hash_on h (name_at text p) ≡ h
  unfolding hash_on
  hash_end e = rw e refl

-- ---- a chain, entry by entry

module _ (text : List ℕ) (table : Table) (x : List ℕ) where
  pub walk_none : (k : ℕ) → walk text table x k None ≡ none
  unfolding walk
  walk_none zero = refl
  walk_none (suc k) = refl

  pub walk_past : (k n : ℕ) → length table.entries ≤ n → walk text table x k (Some n) ≡ none
  unfolding walk
  walk_past zero n l = refl
  walk_past (suc k) n l = simp (le-ltb n (length table.entries) l)

  pub walk_here : (k n : ℕ) → n < length table.entries
      → walk text table x (suc k) (Some n) ≡ cond (same x (name text table n)) (some (site_of table n)) (walk text table x k (link table n))
  unfolding walk
  walk_here k n l = simp (lt-ltb n (length table.entries) l)

  pub looked_begins : (h : ℕ) → h ≡ hash x → looked text table x ≡ walk text table x most (get_or table.newest h None)
  unfolding looked head
  looked_begins h e = rw e refl

  -- what is left to walk finds o
  module _ (o : Option Site) (k : ℕ) (next : rust.Option ℕ) (w : o ≡ walk text table x k next) where
    pub not_found : k ≡ 0 → None ≡ found o
    unfolding walk
    not_found z = rw (w, z) refl

    pub no_more : next ≡ None → None ≡ found o
    no_more e = rw (w, e, walk_none k) refl

    module _ (n : ℕ) (e : next ≡ Some n) where
      pub no_entry : length table.entries ≤ n → None ≡ found o
      no_entry l = rw (w, e, walk_past k n l) refl

      module _ (j : ℕ) (more : k ≡ suc j) (l : n < length table.entries) (i : Entry) (at : i ≡ entry table n) (s : Bool) (named : s ≡ same x (name_at text i.place)) where
        here : o ≡ cond s (some (site_of table n)) (walk text table x j (link table n))
        unfolding name
        here = rw (w, more, e, walk_here j n l, named, at) refl

        pub is_found : s ≡ true → Some i.definition ≡ found o
        unfolding site_of
        is_found t = rw (here, t, at) refl

        pub walk_on : s ≡ false → o ≡ walk text table x j i.older
        unfolding link
        walk_on t = rw (here, t, at) refl

-- ---- a label put in, where there is room

module _ (text : List ℕ) (table : Table) (place line words : ℕ) where
  pub stays : leb most (count table) ≡ true → table ≡ inserted text table place line words
  unfolding inserted
  stays e = simp (le-ltb (count table) most (leb-true most (count table) e))

  pub puts_in : leb most (count table) ≡ false → (h : ℕ) → h ≡ hash (name_at text place) → added table h place line words ≡ inserted text table place line words
  unfolding inserted
  puts_in e h k = simp (lt-ltb (count table) most (leb-false most (count table) e), k)
