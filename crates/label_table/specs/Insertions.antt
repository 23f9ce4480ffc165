-- An empty table is fair, and a fair table stays so: the new label is found, and every other as before.
use Rattle.std.specs.Prelude as rust
use Rattle.std.specs.Prelude.{◌≡◌, Bool, List, ltb, Some, None}
use Rattle.std.proofs.Math.Path.{refl, ap}
use Rattle.std.proofs.Common.{sym, ◌∙◌, add-one, arith}
use Rattle.std.proofs.Math.Bool.{true, false, cond}
use Rattle.std.proofs.Math.Option.{none, some}
use Prim.Native.Nat.{ℕ, zero, suc, ◌<◌, ◌≤◌}
use borrow.Author.Tests.{eqb-true, eqb-false, ltb-true, ltb-false, lt-ltb}
use Rattle.std.proofs.Math.Dec.{eqb}
use Rattle.std.proofs.Math.ListN.{length-replicate}
use Rattle.std.proofs.lemmas.List.{get_or-replicate}
use Rattle.grammar.specs.Reading.Lexer.{same}
use Rattle.grammar.specs.Laws.Runs.{name_at}
use Rattle.sources.specs.Labels.{site}
use Rattle.label_table.specs.declared.Entry.{Entry}
use Rattle.label_table.specs.declared.Table.{Table}
use Rattle.label_table.specs.Table.{most, blank, hash, count, head, name, link, looked, empty, added, inserted}
use Rattle.label_table.specs.Places.{Places, length_added, count_added, head_added, head_kept, name_added, site_added, link_added, name_kept, site_kept, link_kept}
use Rattle.label_table.specs.Fairness.{hash_small, latest, search, Fair, looked_search}

-- ---- no label

module _ (text : List ℕ) where
  pub fair_empty : Fair text empty
  unfolding head latest
  fair_empty =
      record {
        chains = length-replicate {A = rust.Option ℕ} 1024 None;
        size = length-replicate {A = Entry} 2048 blank;
        held = omega arith;
        heads = λ h l. get_or-replicate {A = rust.Option ℕ} 1024 h None None l;
        links = λ n l. absurd (omega arith);
      }

  pub looked_empty : (x : List ℕ) → looked text empty x ≡ none
  unfolding search
  looked_empty x = looked_search text empty x fair_empty

-- ---- a label more

module _ (text : List ℕ) (table : Table) (place line words : ℕ) (fair : Fair text table) (room : count table < most) where
  abbrev c : ℕ
  c = count table

  abbrev g : ℕ
  g = hash (name_at text place)

  abbrev new : Table
  new = added table g place line words

  p : Places table g
  p = record { chains = fair.chains; size = fair.size; room = room; chain = hash_small 0 (name_at text place) (omega arith) }

  named : name text new c ≡ name_at text place
  named = name_added table g place line words p text

  old_name : (n : ℕ) → n < c → name text new n ≡ name text table n
  old_name n l = name_kept table g place line words p n l text

  latest_kept : (h n : ℕ) → n ≤ c → latest text new h n ≡ latest text table h n
  unfolding latest
  latest_kept h zero l = refl
  latest_kept h (suc n) l = rw (old_name n (omega arith), latest_kept h n (omega arith)) refl

  search_kept : (x : List ℕ) (n : ℕ) → n ≤ c → search text new x n ≡ search text table x n
  unfolding search
  search_kept x zero l = refl
  search_kept x (suc n) l =
      let s = site_kept table g place line words p n (omega arith) in
      rw (old_name n (omega arith), s, search_kept x n (omega arith)) refl

  searched : (x : List ℕ) (n : ℕ) → n ≡ suc c → search text new x n ≡ cond (same x (name_at text place)) (some (site line words)) (search text table x c)
  unfolding search
  searched x n z = rw (z, named, site_added table g place line words p, search_kept x c (omega arith)) refl

  new_heads : (n h : ℕ) → n ≡ suc c → h < 1024 → head new h ≡ latest text new h n
  unfolding latest
  new_heads n h z l = rw z (go (eqb g h) refl)
    where
      go : (b : Bool) → eqb g h ≡ b → head new h ≡ cond (eqb (hash (name text new c)) h) (Some c) (latest text new h c)
      go true e = rw (named, e) (ap (head new) (sym (eqb-true g h e)) ∙ head_added table g place line words p)
      go false e =
          let o : g ≡ h → ⊥ = eqb-false g h e in
          rw (named, e, latest_kept h c (omega arith)) (head_kept table g place line words p h (λ z. o (sym z)) ∙ fair.heads h l)

  new_links : (n : ℕ) → n < suc c → link new n ≡ latest text new (hash (name text new n)) n
  new_links n l = go (ltb n c) refl
    where
      go : (b : Bool) → ltb n c ≡ b → link new n ≡ latest text new (hash (name text new n)) n
      go true e =
          let k : n < c = ltb-true n c e in
          rw (latest_kept (hash (name text new n)) n (omega arith), old_name n k)
          (link_kept table g place line words p n k ∙ fair.links n k)
      go false e =
          let k : c ≤ n = ltb-false n c e in
          let z : n ≡ c = omega arith in
          rw (z, named, latest_kept g c (omega arith)) (link_added table g place line words p ∙ fair.heads g p.chain)

  counted : count new ≡ suc c
  counted = count_added table g place line words p ∙ add-one c

  fair_added : Fair text new
  fair_added =
      let n = length_added table g place line words p in
      record {
        chains = n.0;
        size = n.1;
        held = omega (arith, counted);
        heads = λ h l. new_heads (count new) h counted l;
        links = λ n l. new_links n (omega (arith, counted));
      }

  there_is_room : inserted text table place line words ≡ new
  unfolding inserted
  there_is_room = simp (lt-ltb (count table) most room)

  pub count_insert : count (inserted text table place line words) ≡ suc (count table)
  count_insert = rw there_is_room counted

  pub fair_insert : Fair text (inserted text table place line words)
  fair_insert = rw there_is_room fair_added

  pub looked_insert : (x : List ℕ) → looked text (inserted text table place line words) x ≡ cond (same x (name_at text place)) (some (site line words)) (looked text table x)
  looked_insert x =
      rw there_is_room
      (looked_search text new x fair_added ∙ searched x (count new) counted ∙ ap (cond (same x (name_at text place)) (some (site line words))) (sym (looked_search text table x fair)))
