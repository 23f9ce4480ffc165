-- What stands where after a label was put in.
use Rattle.std.specs.Prelude.{◌≡◌, refl, List, ◌≢◌, ℕ, ◌+◌, ◌<◌, length, Some, None}
use Rattle.std.proofs.Math.Path.{ap}
use Rattle.std.proofs.Common.{◌∙◌, arith}
use Rattle.std.proofs.Math.ListN.{length-set}
use Rattle.std.proofs.Math.Seq.{get_or-set_same, get_or-set_other}
use Rattle.grammar.specs.Laws.Runs.{name_at}
use Rattle.sources.specs.Labels.{site}
use Rattle.label_table.specs.declared.Entry.{Entry}
use Rattle.label_table.specs.declared.Table.{Table}
use Rattle.label_table.specs.Table.{most, blank, count, head, entry, name, site_of, link, added}

-- there is room for an entry, and such a chain
pub record Places (table : Table) (h : ℕ) : Type 0 where
  pub chains : length table.newest ≡ 1024
  pub size : length table.entries ≡ most
  pub room : count table < most
  pub chain : h < 1024

module _ (table : Table) (h place line words : ℕ) (p : Places table h) where
  abbrev c : ℕ
  c = count table

  abbrev new : Table
  new = added table h place line words

  abbrev newest : Entry
  newest = record { place = place; definition = record { line = line; words = words }; older = head table h }

  pub length_added : (length new.newest ≡ 1024) × (length new.entries ≡ most)
  unfolding added
  length_added = (length-set table.newest h (Some c) ∙ p.chains, length-set table.entries c newest ∙ p.size)

  pub count_added : count new ≡ c + 1
  unfolding added
  count_added = refl

  pub head_added : head new h ≡ Some c
  unfolding head added
  head_added = get_or-set_same table.newest h (Some c) None (omega (arith, p.chains, p.chain))

  pub head_kept : (g : ℕ) → g ≢ h → head new g ≡ head table g
  unfolding head added
  head_kept g o = get_or-set_other table.newest h g (Some c) None o

  -- the new entry
  entry_added : entry new c ≡ newest
  unfolding added
  entry_added = get_or-set_same table.entries c newest blank (omega (arith, p.size, p.room))

  pub name_added : (text : List ℕ) → name text new c ≡ name_at text place
  unfolding name
  name_added text = ap (λ (e : Entry). name_at text e.place) entry_added

  pub site_added : site_of new c ≡ site line words
  unfolding site_of
  site_added = ap (λ (e : Entry). site e.definition.line e.definition.words) entry_added

  pub link_added : link new c ≡ head table h
  unfolding link
  link_added = ap (λ (e : Entry). e.older) entry_added

  -- an older entry
  module _ (m : ℕ) (older : m < c) where
    entry_kept : entry new m ≡ entry table m
    unfolding added
    entry_kept = get_or-set_other table.entries c m newest blank (omega arith)

    pub name_kept : (text : List ℕ) → name text new m ≡ name text table m
    unfolding name
    name_kept text = ap (λ (e : Entry). name_at text e.place) entry_kept

    pub site_kept : site_of new m ≡ site_of table m
    unfolding site_of
    site_kept = ap (λ (e : Entry). site e.definition.line e.definition.words) entry_kept

    pub link_kept : link new m ≡ link table m
    unfolding link
    link_kept = ap (λ (e : Entry). e.older) entry_kept
