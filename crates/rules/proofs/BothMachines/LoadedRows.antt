-- The rows of an accepted image: right as the loader fills them, so right after any number of steps; what is owned adds up, and numbers that are not used have nothing.
use Rattle.std.proofs.Math.Path.{◌≡◌, refl, ap, ap₂}
use Rattle.std.proofs.Common.{sym, ◌∙◌, subst, arith}
use Rattle.std.specs.Prelude.{Bool, ◌&&◌, not, List, ◌≢◌, get_or, length}
use Rattle.std.proofs.Math.Bool.{true, false, cond}
use Prim.Native.Nat.{ℕ, zero, suc, ◌+◌, ◌-◌, ◌≤◌, ◌<◌}
use Rattle.std.proofs.Math.Nat.{zero-add, add-zero}
use borrow.Author.Tests.{eqb-true, eqb-false, eq-eqb, ne_eqb, lt-ltb, le-ltb, le-leb, lt-leb, ltb-true, ltb-false}
use Rattle.std.proofs.Math.Dec.{eqb, ltb, leb}
use Rattle.std.proofs.lemmas.List.{get_or-replicate}
use Rattle.common.specs.Answers as answer
use Rattle.common.specs.Instructions.{bit}
use Rattle.common.specs.Services.{isolate, service_count, is_service, service_at, is_service_number}
use Rattle.common.proofs.Laws.ServiceLaws.{service_count_lem}
use Rattle.rules.specs.Compartments.{numbers, member, empty, main_alone, service_numbers}
use Rattle.rules.specs.Laws.CompartmentLaws.{member_empty, member_services, member_main}
use Rattle.rules.specs.State.{State, service_room, in_memory, has_owner, owner_at, jumpers_at, writers_at, owns}
use Rattle.rules.specs.Images.{size_in, entry_in, words_of, regs_of, loaded, load}
use Rattle.rules.specs.Run.{Ran}
use Rattle.rules.specs.Counts.{count_from, owned_count}
use Rattle.rules.specs.Laws.Tested.{formed}
use Rattle.rules.proofs.Laws.TagLaws.{filled}
use Rattle.rules.proofs.Laws.FormLaws.{numbers_good, outside}
use Rattle.rules.specs.Laws.CountLaws.{count_same, count_none, count_one, count_all, count_sum, count_shift, owning, having}
use Rattle.rules.proofs.Laws.ServiceRows.{services_owned, owned_list, jump_list, store_list}
use Rattle.rules.specs.Rows.{Row, no_row, counts_of, fresh_row, fresh_rows, owned_below, LentRan, lent_run, lent_load}
use Rattle.rules.specs.Laws.RowLaws.{row_is, length_rows, row_of_lem}
use Rattle.rules.proofs.Theorems.Rows.{told, Right, lent_load_lem, same_run, run_right}
use Rattle.rules.proofs.Laws.StepLaws.{run_keeps}
use Rattle.rules.proofs.Theorems.Grows.{SameSizes, run_same_sizes}
use Rattle.rules.proofs.BothMachines.Match.{Inv}
use Rattle.rules.proofs.BothMachines.Keeps.{step_inv}
use Rattle.rules.proofs.BothMachines.Start.{Accepted, words_are, accepted, loads, start_inv}
use Rattle.rules.proofs.BothMachines.Agreement.{BelowNext, tagged, start_keeps, numbers_below_next}

-- ---- the services, of which each has one owner

-- the service at 4096 + i is that of number i + 1
services_owned_lem : (s : State) (f : formed s ≡ true) (c : ℕ) → services_owned s c ≡ count_from (λ i. eqb (suc i) c) 0 (service_count s.cpu.strict)
unfolding owns has_owner owner_at is_service service_at
services_owned_lem s f c =
    count_shift (λ x. not (in_memory s x) && owns s c x) isolate (service_count s.cpu.strict)
    ∙ count_same (λ i. not (in_memory s (isolate + i)) && owns s c (isolate + i)) (λ i. eqb (suc i) c) 0 (service_count s.cpu.strict) (λ i l h.
    let a : isolate + i - (isolate - 1) ≡ suc i = omega arith in
    simp (outside s f (isolate + i) (omega arith), le-leb isolate (isolate + i) (omega arith), lt-ltb (isolate + i) (isolate + service_count s.cpu.strict) (omega arith), a))

-- ---- each place has one owner

-- what f gives for the numbers below k, added up
unfoldable sum : ℕ → (ℕ → ℕ) → ℕ
sum zero f = 0
sum (suc k) f = sum k f + f k

sum_both : (k : ℕ) (f g : ℕ → ℕ) → sum k (λ c. f c + g c) ≡ sum k f + sum k g
unfolding sum
sum_both zero f g = refl
sum_both (suc k) f g = let ih = sum_both k f g in omega (arith, ih)

sum_same : (k : ℕ) (f g : ℕ → ℕ) → ((c : ℕ) → c < k → f c ≡ g c) → sum k f ≡ sum k g
unfolding sum
sum_same zero f g h = refl
sum_same (suc k) f g h = ap₂ (λ (a b : ℕ). a + b) (sum_same k f g (λ c l. h c (omega arith))) (h k (omega arith))

-- the places by owner, for all owners below k
sum_owners : (g : ℕ → ℕ) (n k : ℕ) → sum k (λ c. count_from (λ x. eqb (g x) c) 0 n) ≡ count_from (λ x. ltb (g x) k) 0 n
unfolding sum
sum_owners g n zero = sym (count_none (λ x. ltb (g x) 0) n (λ x h. le-ltb (g x) 0 (omega arith)))
sum_owners g n (suc k) =
    ap (λ (a : ℕ). a + count_from (λ x. eqb (g x) k) 0 n) (sum_owners g n k)
    ∙ count_sum (λ x. ltb (g x) k) (λ x. eqb (g x) k) (λ x. ltb (g x) (suc k)) n (λ x h. one (g x) (ltb (g x) k) (eqb (g x) k) refl refl)
  where
    one : (v : ℕ) (b c : Bool) → ltb v k ≡ b → eqb v k ≡ c → bit (ltb v k) + bit (eqb v k) ≡ bit (ltb v (suc k))
    one v true c e f =
        let l : v < k = ltb-true _ _ e in
        simp (e, ne_eqb v k (λ q. omega arith), lt-ltb v (suc k) (omega arith))
    one v false true e f = let q : v ≡ k = eqb-true _ _ f in simp (e, f, lt-ltb v (suc k) (omega arith))
    one v false false e f =
        let l : k ≤ v = ltb-false _ _ e in
        let ne : v ≢ k = eqb-false _ _ f in
        simp (e, f, le-ltb v (suc k) (omega arith))

-- ---- the start

module _ (m : Bool) (words regs : List ℕ) (entry : ℕ) (old : State) (ok : Accepted m words entry old) where
  abbrev start : State
  start = loaded m words regs entry old

  abbrev n : ℕ
  n = length words

  f : formed start ≡ true
  f = (start_inv m words regs entry old ok).formed

  -- all places or none
  all_or_none : (t : ℕ → Bool) (b : Bool) (k : ℕ) → ((y : ℕ) → y < k → t y ≡ b) → count_from t 0 k ≡ cond b k 0
  all_or_none t true k h = count_all t 0 k (λ y l g. h y (omega arith))
  all_or_none t false k h = count_none t k h

  start_owned : (c : ℕ) → owning n start.owners c ≡ cond (eqb 0 c) n 0
  unfolding loaded
  start_owned c = all_or_none _ (eqb 0 c) n (λ x h. ap (λ (v : ℕ). eqb v c) (filled n 0 old.owners x h))

  start_jumps : (c : ℕ) → having n start.jumpers c ≡ cond (is_service_number m c) n 0
  unfolding loaded
  start_jumps c = all_or_none _ (is_service_number m c) n (λ x h. ap (λ (v : ℕ). member v c) (filled n (service_numbers m) old.jumpers x h) ∙ member_services m c)

  start_services : (c : ℕ) → having (service_count m) start.cpu.services c ≡ cond (eqb c 0) (service_count m) 0
  unfolding loaded
  start_services c =
      all_or_none _ (eqb c 0) (service_count m) (λ i h. let k = service_count_lem m in ap (λ (v : ℕ). member v c) (get_or-replicate service_room i main_alone 0 (omega (arith, k.1))) ∙ member_main c)

  start_stores : (c : ℕ) → having n start.writers c ≡ 0
  unfolding loaded
  start_stores c = count_none _ n (λ x h. ap (λ (v : ℕ). member v c) (filled n empty old.writers x h) ∙ member_empty c)

  -- one service of each service's number
  own_service : (c : ℕ) → count_from (λ i. eqb (suc i) c) 0 (service_count m) ≡ bit (is_service_number m c)
  unfolding is_service_number
  own_service zero = count_none _ (service_count m) (λ i h. ne_eqb (suc i) 0 (λ z. omega arith))
  own_service (suc j) = go (ltb j (service_count m)) refl
    where
      go : (b : Bool) → ltb j (service_count m) ≡ b → count_from (λ i. eqb (suc i) (suc j)) 0 (service_count m) ≡ bit (leb 1 (suc j) && leb (suc j) (service_count m))
      go true e =
          let l : j < service_count m = ltb-true _ _ e in
          count_one _ j (service_count m) l (λ y ne. ne_eqb (suc y) (suc j) (λ q. ne (omega arith))) ∙ simp (eq-eqb (suc j) (suc j) refl, le-leb 1 (suc j) (omega arith), le-leb (suc j) (service_count m) (omega arith))
      go false e =
          let l : service_count m ≤ j = ltb-false _ _ e in
          count_none _ (service_count m) (λ y h. ne_eqb (suc y) (suc j) (λ q. omega arith)) ∙ simp (le-leb 1 (suc j) (omega arith), lt-leb (suc j) (service_count m) (omega arith))

  pub start_counts : (c : ℕ) → counts_of start c ≡ fresh_row m n c
  unfolding counts_of loaded fresh_row is_service_number
  start_counts zero =
      row_is _ _ _ _ _ _ (owned_list start f 0 ∙ ap₂ (λ (a b : ℕ). a + b) (start_owned 0) (services_owned_lem start f 0 ∙ own_service 0) ∙ add-zero n)
      (jump_list start f 0 ∙ ap₂ (λ (a b : ℕ). a + b) (start_jumps 0) (start_services 0) ∙ zero-add (service_count m)) (store_list start f 0 ∙ start_stores 0)
  start_counts (suc j) =
      row_is _ _ _ (0 + bit (is_service_number m (suc j))) (cond (is_service_number m (suc j)) n 0 + 0) 0
      (owned_list start f (suc j) ∙ ap₂ (λ (a b : ℕ). a + b) (start_owned (suc j) ∙ simp (ne_eqb 0 (suc j) (λ z. omega arith))) (services_owned_lem start f (suc j) ∙ own_service (suc j)))
      (jump_list start f (suc j) ∙ ap₂ (λ (a b : ℕ). a + b) (start_jumps (suc j)) (start_services (suc j) ∙ simp (ne_eqb (suc j) 0 (λ z. omega arith)))) (store_list start f (suc j) ∙ start_stores (suc j))
      ∙ go (is_service_number m (suc j))
      ∙ simp (ne_eqb (suc j) 0 (λ z. omega arith))
    where
      go : (b : Bool) → ◌≡◌ {A = Row} (record { owned = 0 + bit b; jump = cond b n 0 + 0; store = 0 }) (cond b (record { owned = 1; jump = n; store = 0 }) no_row)
      go true = row_is _ _ _ _ _ _ refl (add-zero n) refl
      go false = refl

-- N and the mode
module _ (m : Bool) (bytes regs : List ℕ) (entry : ℕ) (old : State) where
  start_n : (loaded m (words_of bytes) regs entry old).cpu.n ≡ size_in bytes
  unfolding loaded
  start_n = words_are bytes

  start_m : (loaded m (words_of bytes) regs entry old).cpu.strict ≡ m
  unfolding loaded
  start_m = refl

-- ---- any number of steps

module _ (m : Bool) (bytes : List ℕ) (old : State) (rows : List Row) (e : length rows ≡ numbers) (ok : (load m bytes old).answer ≡ answer.done) where
  -- what the loader filled
  pub load_rows : lent_load m bytes old rows ≡ record { answer = answer.done; state = (load m bytes old).state; rows = fresh_rows m (size_in bytes) }
  load_rows = lent_load_lem rows e m bytes old ∙ simp ok

  pub load_right : Right (load m bytes old).state (fresh_rows m (size_in bytes))
  load_right =
      record {
        all = length_rows _ 0 numbers;
        same = λ c h. row_of_lem (fresh_row m (size_in bytes)) 0 numbers c h ∙ ap (fresh_row m (size_in bytes)) (zero-add c) ∙ ap (λ (n : ℕ). fresh_row m n c) (sym (words_are bytes))
            ∙ sym (start_counts m (words_of bytes) (regs_of bytes) (entry_in bytes) old (accepted m bytes old ok) c) ∙ ap (λ (s : State). counts_of s c) (sym (loads m bytes old ok));
      }

  -- after k steps: the rows are the counts of the state that the run without rows comes to
  module _ (k : ℕ) where
    abbrev after : LentRan
    after = lent_run k (load m bytes old).state (fresh_rows m (size_in bytes))

    same : told after ≡ tagged m k bytes old
    same = same_run k (load m bytes old).state (fresh_rows m (size_in bytes)) (length_rows _ 0 numbers)

    pub rows_right : Right (tagged m k bytes old).state after.rows
    rows_right = subst (λ (r : Ran). Right r.state after.rows) same (run_right k (load m bytes old).state (fresh_rows m (size_in bytes)) load_right)

    abbrev s : State
    s = (tagged m k bytes old).state

    below : BelowNext s
    below = numbers_below_next m bytes old ok k

    kept : Inv s
    kept = run_keeps Inv step_inv k (load m bytes old).state (start_keeps m bytes old ok)

    f' : formed s ≡ true
    f' = kept.formed

    -- a number that is not used
    unused : (c : ℕ) → s.cpu.next ≤ c → counts_of s c ≡ no_row
    unfolding counts_of jumpers_at writers_at in_memory is_service
    unused c l =
        let low : service_count s.cpu.strict < s.cpu.next = (numbers_good s f').low in
        row_is _ _ _ 0 0 0
        (owned_list s f' c ∙ ap₂ (λ (a b : ℕ). a + b)
        (count_none _ s.cpu.n (λ x h. ne_eqb (get_or s.owners x 0) c (λ q. let o = (kept.owner x h).1 in omega arith)))
        (services_owned_lem s f' c ∙ count_none _ (service_count s.cpu.strict) (λ i h. ne_eqb (suc i) c (λ q. omega arith))))
        (jump_list s f' c ∙ ap₂ (λ (a b : ℕ). a + b)
        (count_none _ s.cpu.n (λ x h. none (member (get_or s.jumpers x 0) c) (λ q. below.jumper x c (simp (lt-ltb x s.cpu.n h) q))))
        (count_none _ (service_count s.cpu.strict) (λ i h. none (member (get_or s.cpu.services i 0) c) (λ q. below.jumper (isolate + i) c (service i h q)))))
        (store_list s f' c ∙ count_none _ s.cpu.n (λ x h. none (member (get_or s.writers x 0) c) (λ q. below.writer x c (simp (lt-ltb x s.cpu.n h) q))))
      where
        none : (b : Bool) → (b ≡ true → c < s.cpu.next) → b ≡ false
        none true h = let u : c < s.cpu.next = h refl in absurd (omega arith)
        none false h = refl

        service : (i : ℕ) → i < service_count s.cpu.strict → member (get_or s.cpu.services i 0) c ≡ true → member (jumpers_at s (isolate + i)) c ≡ true
        service i h q =
            let a : isolate + i - isolate ≡ i = omega arith in
            let o : ltb (isolate + i) s.cpu.n ≡ false = outside s f' (isolate + i) (omega arith) in
            simp (o, le-leb isolate (isolate + i) (omega arith), lt-ltb (isolate + i) (isolate + service_count s.cpu.strict) (omega arith), a) q

    -- "and those from next on are 0"
    pub unused_rows : (c : ℕ) → s.cpu.next ≤ c → c < numbers → get_or after.rows c no_row ≡ no_row
    unused_rows c l h = rows_right.same c h ∙ unused c l

    -- all that is owned by the numbers that are used
    owned_sum : sum s.cpu.next (owned_count s) ≡ s.cpu.n + service_count s.cpu.strict
    owned_sum =
        let low : service_count s.cpu.strict < s.cpu.next = (numbers_good s f').low in
        sum_same s.cpu.next (owned_count s) (λ c. owning s.cpu.n s.owners c + count_from (λ i. eqb (suc i) c) 0 (service_count s.cpu.strict))
        (λ c h. owned_list s f' c ∙ ap (λ (a : ℕ). owning s.cpu.n s.owners c + a) (services_owned_lem s f' c))
        ∙ sum_both s.cpu.next (owning s.cpu.n s.owners) (λ c. count_from (λ i. eqb (suc i) c) 0 (service_count s.cpu.strict))
        ∙ ap₂ (λ (a b : ℕ). a + b)
        (sum_owners (λ x. get_or s.owners x 0) s.cpu.n s.cpu.next ∙ count_all _ 0 s.cpu.n (λ x l h. lt-ltb (get_or s.owners x 0) s.cpu.next (kept.owner x (omega arith)).1))
        (sum_owners (λ i. suc i) (service_count s.cpu.strict) s.cpu.next ∙ count_all _ 0 (service_count s.cpu.strict) (λ i l h. lt-ltb (suc i) s.cpu.next (omega arith)))

    rows_sum : (rows' : List Row) (j : ℕ) → ((c : ℕ) → c < j → get_or rows' c no_row ≡ counts_of s c) → owned_below j rows' ≡ sum j (owned_count s)
    unfolding owned_below sum counts_of
    rows_sum rows' zero h = refl
    rows_sum rows' (suc j) h = ap₂ (λ (a b : ℕ). a + b) (rows_sum rows' j (λ c l. h c (omega arith))) (ap (λ (r : Row). r.owned) (h j (omega arith)))

    -- "From a loaded image the owned counts below next sum to N plus the number of services"
    pub owned_adds_up : owned_below s.cpu.next after.rows ≡ size_in bytes + service_count m
    owned_adds_up =
        let high : s.cpu.next ≤ 64 = (numbers_good s f').high in
        rows_sum after.rows s.cpu.next (λ c h. rows_right.same c (omega arith)) ∙ owned_sum
        ∙ ap₂ (λ (a : ℕ) (b : Bool). a + service_count b) (sizes.n ∙ first.0) (sizes.strict ∙ first.1)
      where
        sizes : SameSizes (load m bytes old).state s
        sizes = run_same_sizes k (load m bytes old).state

        first : ((load m bytes old).state.cpu.n ≡ size_in bytes) × ((load m bytes old).state.cpu.strict ≡ m)
        first = (ap (λ (t : State). t.cpu.n) (loads m bytes old ok) ∙ start_n m bytes _ _ old, ap (λ (t : State). t.cpu.strict) (loads m bytes old ok) ∙ start_m m bytes _ _ old)
