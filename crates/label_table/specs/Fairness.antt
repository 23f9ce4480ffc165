-- A table that insertions made: a chain has all entries of its hash, the newest first, so a label is found if it was put in.
use Rattle.std.specs.Prelude as rust
use Rattle.std.specs.Prelude.{◌≡◌, Bool, cond, List, [], ◌∷◌, length, Some, None}
use Rattle.std.proofs.Math.Path.{refl, ap}
use Rattle.std.proofs.Common.{sym, ◌∙◌, arith, eqb-true, eq-eqb}
use Rattle.std.proofs.Math.Bool.{true, false}
use Rattle.std.proofs.Math.Option.{Option, none, some}
use Prim.Native.Nat.{ℕ, zero, suc, ◌+◌, ◌*◌, ◌%◌, ◌<◌, ◌≤◌}
use Rattle.std.proofs.Math.Dec.{eqb}
use Rattle.common.proofs.Laws.Tests.{clash, both}
use Rattle.grammar.specs.Reading.Lexer.{same}
use Rattle.sources.specs.Labels.{Site}
use Rattle.label_table.specs.declared.Table.{Table}
use Rattle.label_table.specs.Table.{most, hash_on, hash, count, head, name, site_of, link, walk, looked}
use Rattle.label_table.specs.Steps.{walk_none, walk_here}

-- ---- a name's hash

pub hash_small : (h : ℕ) (x : List ℕ) → h < 1024 → hash_on h x < 1024
unfolding hash_on
hash_small h [] l = l
hash_small h (b ∷ x) l = hash_small ((h * 131 + b) % 1024) x (omega arith)

same_hash : (h : ℕ) (x y : List ℕ) → same x y ≡ true → hash_on h x ≡ hash_on h y
unfolding hash_on
same_hash h [] [] e = refl
same_hash h [] (c ∷ y) e = clash e refl
same_hash h (b ∷ x) [] e = clash e refl
same_hash h (b ∷ x) (c ∷ y) e =
    let t = both (eqb b c) (same x y) e in
    ap (λ (z : ℕ). hash_on ((h * 131 + z) % 1024) x) (eqb-true b c t.0) ∙ same_hash ((h * 131 + c) % 1024) x y t.1

-- ---- the entries of a table, the newest first

module _ (text : List ℕ) (table : Table) where
  -- the newest of the first n entries that is in chain h
  unfoldable pub latest : ℕ → ℕ → rust.Option ℕ
  latest h zero = None
  latest h (suc n) = cond (eqb (hash (name text table n)) h) (Some n) (latest h n)

  -- the newest of the first n entries that has a name
  unfoldable pub search : List ℕ → ℕ → Option Site
  search x zero = none
  search x (suc n) = cond (same x (name text table n)) (some (site_of table n)) (search x n)

  -- each head and each link is the newest entry of its chain among those that were there: so insertions make a table
  pub record Fair : Type 0 where
    pub chains : length table.newest ≡ 1024
    pub size : length table.entries ≡ most
    pub held : count table ≤ most
    pub heads : (h : ℕ) → h < 1024 → head table h ≡ latest h (count table)
    pub links : (n : ℕ) → n < count table → link table n ≡ latest (hash (name text table n)) n

  -- ---- a chain, walked, finds what a search through all entries finds

  module _ (x : List ℕ) where
    other_name : (y : List ℕ) → eqb (hash y) (hash x) ≡ false → same x y ≡ false
    other_name y e = go (same x y) refl
      where
        go : (b : Bool) → same x y ≡ b → same x y ≡ false
        go true s = clash (eq-eqb (hash y) (hash x) (sym (same_hash 0 x y s))) e
        go false s = s

    module _ (fair : Fair) where
      walk_search : (n k : ℕ) → n ≤ k → n ≤ count table → walk text table x k (latest (hash x) n) ≡ search x n
      unfolding latest search
      walk_search zero k l m = walk_none text table x k
      walk_search (suc n) zero l m = absurd (omega arith)
      walk_search (suc n) (suc k) l m =
          go (eqb (hash (name text table n)) (hash x)) refl (walk_search n k (omega arith) (omega arith)) (walk_search n (suc k) (omega arith) (omega arith))
        where
          go : (b : Bool) → eqb (hash (name text table n)) (hash x) ≡ b
              → walk text table x k (latest (hash x) n) ≡ search x n
              → walk text table x (suc k) (latest (hash x) n) ≡ search x n
              → walk text table x (suc k) (latest (hash x) (suc n)) ≡ search x (suc n)
          go true e on here =
              let held : count table ≤ most = fair.held in
              let size : length table.entries ≡ most = fair.size in
              let next : link table n ≡ latest (hash x) n = fair.links n (omega arith) ∙ ap (λ (h : ℕ). latest h n) (eqb-true (hash (name text table n)) (hash x) e) in
              rw e (walk_here text table x k n (omega arith) ∙ rw (next, on) refl)
          go false e on here = rw (e, other_name (name text table n) e) here

      pub looked_search : looked text table x ≡ search x (count table)
      unfolding looked
      looked_search =
          ap (walk text table x most) (fair.heads (hash x) (hash_small 0 x (omega arith))) ∙ walk_search (count table) most fair.held (omega arith)
