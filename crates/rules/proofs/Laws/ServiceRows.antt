-- What a step does to the counts: an instruction and an added reader nothing, a service as much as the lists of tags that it changes differ.
use Rattle.std.specs.Prelude.{◌≡◌, Bool, cond, ◌&&◌, ◌||◌, not, List, ◌≢◌, ◌⊎◌, ℕ, ◌+◌, ◌-◌, ◌≤◌, ◌<◌, min, ltb, get_or, length, set}
use Rattle.std.proofs.Math.Path.{refl, sym, ap, ap₂}
use Rattle.std.proofs.Common.{◌∙◌, subst, inl, inr, get_or-set_same, get_or-set_other}
use Rattle.std.proofs.Math.Bool.{true, false}
use native.Mathlib.Omega.{arith}
use Rattle.std.proofs.Math.Nat.{add-zero}
use Rattle.std.proofs.Math.Decide.{ℕ_discrete}
use borrow.Author.Tests.{lt-ltb, ltb-true, ltb-false, eqb-true, eq-eqb, le-leb}
use Rattle.std.proofs.Math.Dec.{eqb}
use Rattle.std.proofs.Math.Seq.{set_out}
use Rattle.common.specs.Words.{Decoded}
use Rattle.common.specs.Instructions.{bit, reg}
use Rattle.common.specs.Services.{isolate, service_count, is_service, service_at}
use Rattle.common.specs.AddressSets.{in_set}
use Rattle.common.proofs.Laws.AddressSetLaws.{within_at}
use Rattle.common.proofs.Laws.Tests.{both}
use Rattle.rules.specs.Compartments.{numbers, member, insert}
use Rattle.rules.specs.Laws.CompartmentLaws.{member_empty}
use Rattle.rules.specs.State.{State, in_memory, has_owner, owner_at, jumpers_at, writers_at, owns, may_jump, may_store}
use Rattle.rules.specs.Checks.{set_a, set_j, set_s}
use Rattle.rules.specs.Laws.Tested.{formed}
use Rattle.rules.proofs.Laws.FormLaws.{Lent, lent_memories, numbers_good, outside}
use Rattle.rules.proofs.Laws.Passed as passed
use Rattle.rules.proofs.Laws.TagLaws.{length-map, get_d_map, beyond}
use Rattle.rules.specs.Step.{map_from, below, owned, joined, joined_services, join_at, ran_instruction, isolated, jump_added, store_added, read_added}
use Rattle.rules.specs.Counts.{count_from, address_count, owned_count, jump_count, store_count}
use Rattle.rules.specs.Laws.CountLaws.{count_same, count_none, count_one, count_shift, owning, having, differs, differing, Joins, joins_add, joins_keep, Passed, pass_gains, pass_loses, pass_keeps}
use Rattle.rules.specs.Rows.{Row, counts_of, moved}
use Rattle.rules.specs.Laws.RowLaws.{row_is, none_moved, settled, gained, gain_moves, settle_moves}

-- ---- steps that change no owner and no set I or W

pub instruction_rows : (s : State) (c : ℕ) (i : Decoded) (rows : List Row) → moved s (ran_instruction s c i) rows ≡ rows
unfolding counts_of owned_count jump_count store_count address_count owns has_owner owner_at in_memory may_jump jumpers_at may_store writers_at ran_instruction
instruction_rows s c i rows = none_moved (counts_of s) (counts_of (ran_instruction s c i)) rows (λ d. refl)

pub read_rows : (s : State) (rows : List Row) → moved s (read_added s) rows ≡ rows
unfolding counts_of owned_count jump_count store_count address_count owns has_owner owner_at in_memory may_jump jumpers_at may_store writers_at read_added
read_rows s rows = none_moved (counts_of s) (counts_of (read_added s)) rows (λ d. refl)

-- ---- the counts of a state that 14 lets pass, list by list

-- the services that c owns: no tag says so
abbrev pub services_owned : State → ℕ → ℕ
services_owned s c = count_from (λ x. not (in_memory s x) && owns s c x) isolate (service_count s.cpu.strict)

module _ (s : State) (f : formed s ≡ true) (c : ℕ) where
  abbrev lent : Lent s
  lent = lent_memories s f

  abbrev n : ℕ
  n = s.cpu.n

  all_places : (l : List ℕ) → length l ≡ length s.words → min n (length l) ≡ n
  all_places l e = omega (arith, lent.enough)

  pub owned_list : owned_count s c ≡ owning n s.owners c + services_owned s c
  unfolding owned_count address_count owns has_owner owner_at in_memory
  owned_list =
      ap (λ (k : ℕ). count_from (owns s c) 0 k + services_owned s c) (all_places s.owners lent.owners)
      ∙ ap (λ (k : ℕ). k + services_owned s c) (count_same (owns s c) _ 0 n (λ x l h. simp (lt-ltb x n (omega arith))))

  -- a service, as one of the sets of the record
  service_jump : (i : ℕ) → i < service_count s.cpu.strict → (not (in_memory s (isolate + i)) && may_jump s c (isolate + i)) ≡ member (get_or s.cpu.services i 0) c
  unfolding may_jump jumpers_at is_service
  service_jump i h =
      let o = outside s f (isolate + i) (omega arith) in
      let a : isolate + i - isolate ≡ i = omega arith in
      simp (o, le-leb isolate (isolate + i) (omega arith), lt-ltb (isolate + i) (isolate + service_count s.cpu.strict) (omega arith), a)

  pub jump_list : jump_count s c ≡ having n s.jumpers c + having (service_count s.cpu.strict) s.cpu.services c
  unfolding jump_count address_count may_jump jumpers_at in_memory
  jump_list =
      ap₂ (λ (k j : ℕ). k + j) (ap (count_from (may_jump s c) 0) (all_places s.jumpers lent.jumpers) ∙ count_same (may_jump s c) _ 0 n (λ x l h. simp (lt-ltb x n (omega arith))))
      (count_shift _ isolate (service_count s.cpu.strict) ∙ count_same _ _ 0 (service_count s.cpu.strict) (λ i l h. service_jump i (omega arith)))

  service_store : (i : ℕ) → (not (in_memory s (isolate + i)) && may_store s c (isolate + i)) ≡ false
  unfolding may_store writers_at
  service_store i = simp (outside s f (isolate + i) (omega arith), member_empty)

  pub store_list : store_count s c ≡ having n s.writers c
  unfolding store_count address_count may_store writers_at in_memory
  store_list =
      ap₂ (λ (k j : ℕ). k + j) (ap (count_from (may_store s c) 0) (all_places s.writers lent.writers) ∙ count_same (may_store s c) _ 0 n (λ x l h. simp (lt-ltb x n (omega arith))))
      (count_shift _ isolate (service_count s.cpu.strict) ∙ count_none _ (service_count s.cpu.strict) (λ i h. service_store i))
      ∙ add-zero _

-- ---- lists that a service changes

-- where a number joins by place
map_joins : (n k : ℕ) (t : ℕ → Bool) (l : List ℕ) → Joins n k l (map_from (λ x v. cond (t x) (insert v k) v) 0 l)
map_joins n k t l x h = go (ltb x (length l)) refl
  where
    m : List ℕ
    m = map_from (λ x v. cond (t x) (insert v k) v) 0 l

    at : (b : Bool) → get_or m x 0 ≡ cond b (insert (get_or l x 0) k) (get_or l x 0) → (get_or m x 0 ≡ get_or l x 0) ⊎ (get_or m x 0 ≡ insert (get_or l x 0) k)
    at true e = inr e
    at false e = inl e

    go : (b : Bool) → ltb x (length l) ≡ b → (get_or m x 0 ≡ get_or l x 0) ⊎ (get_or m x 0 ≡ insert (get_or l x 0) k)
    go true e = at (t x) (get_d_map _ l x (ltb-true _ _ e))
    go false e =
        let out : length l ≤ x = ltb-false _ _ e in
        let same : length m ≡ length l = length-map (λ x v. cond (t x) (insert v k) v) 0 l in
        inl (beyond m x (omega arith) ∙ sym (beyond l x out))

-- where it joins at one place
place_joins : (n k y : ℕ) (l : List ℕ) → Joins n k l (join_at l y k)
place_joins n k y l x h = go (ℕ_discrete x y) (ltb y (length l)) refl
  where
    go : Dec (x ≡ y) → (b : Bool) → ltb y (length l) ≡ b → (get_or (join_at l y k) x 0 ≡ get_or l x 0) ⊎ (get_or (join_at l y k) x 0 ≡ insert (get_or l x 0) k)
    go (no ne) b e = inl (get_or-set_other l y x _ 0 ne)
    go (yes q) true e = inr (subst (λ (z : ℕ). get_or (join_at l y k) z 0 ≡ insert (get_or l z 0) k) (sym q) (get_or-set_same l y _ 0 (ltb-true _ _ e)))
    go (yes q) false e = inl (ap (λ (z : List ℕ). get_or z x 0) (set_out l y _ (ltb-false _ _ e)))

-- where owners of p become k's
map_passes : (n p k : ℕ) (t : ℕ → Bool) (l : List ℕ) → ((x : ℕ) → x < n → t x ≡ true → get_or l x 0 ≡ p) → Passed n p k l (map_from (λ x v. cond (t x) k v) 0 l)
map_passes n p k t l mine x h = go (ltb x (length l)) refl
  where
    m : List ℕ
    m = map_from (λ x v. cond (t x) k v) 0 l

    at : (b : Bool) → t x ≡ b → get_or m x 0 ≡ cond b k (get_or l x 0) → (get_or m x 0 ≡ get_or l x 0) ⊎ ((get_or l x 0 ≡ p) × (get_or m x 0 ≡ k))
    at true e g = inr (mine x h e, g)
    at false e g = inl g

    go : (b : Bool) → ltb x (length l) ≡ b → (get_or m x 0 ≡ get_or l x 0) ⊎ ((get_or l x 0 ≡ p) × (get_or m x 0 ≡ k))
    go true e = at (t x) refl (get_d_map _ l x (ltb-true _ _ e))
    go false e =
        let out : length l ≤ x = ltb-false _ _ e in
        let same : length m ≡ length l = length-map (λ x v. cond (t x) k v) 0 l in
        inl (beyond m x (omega arith) ∙ sym (beyond l x out))

-- lists that differ at one place at most
pub one_differs : (n y v : ℕ) (l : List ℕ) → y < n → differing n l (set l y v) ≡ bit (differs (get_or l y 0) (get_or (set l y v) y 0))
unfolding differing
one_differs n y v l h = count_one _ y n h (λ x ne. simp (get_or-set_other l y x v 0 ne, eq-eqb (get_or l x 0) (get_or l x 0) refl))

-- ---- the services

module _ (s t : State) (n-same : t.cpu.n ≡ s.cpu.n) (m-same : t.cpu.strict ≡ s.cpu.strict) (c : ℕ) where
  same_services : services_owned t c ≡ services_owned s c
  unfolding owns has_owner owner_at in_memory
  same_services = simp m-same (count_same _ _ isolate (service_count s.cpu.strict) (λ x l h. simp n-same (one x (ltb x s.cpu.n))))
    where
      one : (x : ℕ) (b : Bool) → (not b && ((b || is_service s.cpu.strict x) && eqb (cond b (get_or t.owners x 0) (service_at x)) c))
          ≡ (not b && ((b || is_service s.cpu.strict x) && eqb (cond b (get_or s.owners x 0) (service_at x)) c))
      one x true = refl
      one x false = refl

place_owner : (s : State) (c x : ℕ) → x < s.cpu.n → owns s c x ≡ true → get_or s.owners x 0 ≡ c
unfolding owns owner_at in_memory
place_owner s c x h e = let k : owner_at s x ≡ c = eqb-true _ _ (both (has_owner s x) (eqb (owner_at s x) c) e).1 in simp (lt-ltb x s.cpu.n h) at k

module _ (s : State) (p : passed.Passes s) (out : in_memory s s.cpu.pc ≡ false) where
  f : formed s ≡ true
  f = p.formed

  caller_small : s.cpu.prev < numbers
  caller_small = let a : s.cpu.prev < s.cpu.next = (numbers_good s f).prev in let b : s.cpu.next ≤ 64 = (numbers_good s f).high in omega arith

  -- an isolate that runs: its caller loses the words of A', and the new compartment gains them, its jump targets and its store targets
  module _ (is : passed.Isolates s s.cpu.prev) (f' : formed (isolated s) ≡ true) where
    abbrev next : ℕ
    next = s.cpu.next

    free : next < numbers
    free = passed.number_left s s.cpu.prev f is

    apart : s.cpu.prev ≢ next
    apart e = let a : s.cpu.prev < s.cpu.next = (numbers_good s f).prev in absurd (omega arith)

    passes_on : Passed s.cpu.n s.cpu.prev next s.owners (owned s.cpu.n (set_a s) next s.owners)
    unfolding owned
    passes_on =
        map_passes s.cpu.n s.cpu.prev next (below s.cpu.n (set_a s)) s.owners
        (λ x h e. place_owner s s.cpu.prev x h (within_at (set_a s) (owns s s.cpu.prev) x is.A (both (ltb x s.cpu.n) (in_set (set_a s) x) e).1))

    jumpers_join : Joins s.cpu.n next s.jumpers (joined s.cpu.n (set_j s) next s.jumpers)
    unfolding joined
    jumpers_join = map_joins s.cpu.n next (below s.cpu.n (set_j s)) s.jumpers

    services_join : Joins (service_count s.cpu.strict) next s.cpu.services (joined_services (set_j s) next s.cpu.services)
    unfolding joined_services
    services_join = map_joins (service_count s.cpu.strict) next (λ i. in_set (set_j s) (isolate + i)) s.cpu.services

    writers_join : Joins s.cpu.n next s.writers (joined s.cpu.n (set_s s) next s.writers)
    unfolding joined
    writers_join = map_joins s.cpu.n next (below s.cpu.n (set_s s)) s.writers

    abbrev gain_a : ℕ
    gain_a = differing s.cpu.n s.owners (isolated s).owners

    abbrev gain_j : ℕ
    gain_j = differing s.cpu.n s.jumpers (isolated s).jumpers + differing (service_count s.cpu.strict) s.cpu.services (isolated s).cpu.services

    abbrev gain_s : ℕ
    gain_s = differing s.cpu.n s.writers (isolated s).writers

    to_is : counts_of (isolated s) next ≡ record { owned = (counts_of s next).owned + gain_a; jump = (counts_of s next).jump + gain_j; store = (counts_of s next).store + gain_s }
    unfolding counts_of isolated
    to_is =
        let a = pass_gains s.cpu.n s.cpu.prev next apart s.owners (isolated s).owners passes_on in
        let b = joins_add s.cpu.n next free s.jumpers (isolated s).jumpers jumpers_join in
        let c = joins_add (service_count s.cpu.strict) next free s.cpu.services (isolated s).cpu.services services_join in
        let d = joins_add s.cpu.n next free s.writers (isolated s).writers writers_join in
        let e = same_services s (isolated s) refl refl next in
        row_is _ _ _ _ _ _ (owned_list (isolated s) f' next ∙ omega (arith, a, e) ∙ ap (λ (x : ℕ). x + gain_a) (sym (owned_list s f next)))
        (jump_list (isolated s) f' next ∙ omega (arith, b, c) ∙ ap (λ (x : ℕ). x + gain_j) (sym (jump_list s f next)))
        (store_list (isolated s) f' next ∙ d ∙ ap (λ (x : ℕ). x + gain_s) (sym (store_list s f next)))

    from_is : counts_of s s.cpu.prev ≡ record { owned = (counts_of (isolated s) s.cpu.prev).owned + gain_a; jump = (counts_of (isolated s) s.cpu.prev).jump; store = (counts_of (isolated s) s.cpu.prev).store }
    unfolding counts_of isolated
    from_is =
        let a = pass_loses s.cpu.n s.cpu.prev next apart s.owners (isolated s).owners passes_on in
        let b = joins_keep s.cpu.n next free s.jumpers (isolated s).jumpers jumpers_join s.cpu.prev apart in
        let c = joins_keep (service_count s.cpu.strict) next free s.cpu.services (isolated s).cpu.services services_join s.cpu.prev apart in
        let d = joins_keep s.cpu.n next free s.writers (isolated s).writers writers_join s.cpu.prev apart in
        let e = same_services s (isolated s) refl refl s.cpu.prev in
        row_is _ _ _ _ _ _ (owned_list s f s.cpu.prev ∙ omega (arith, a, e) ∙ ap (λ (x : ℕ). x + gain_a) (sym (owned_list (isolated s) f' s.cpu.prev)))
        (jump_list s f s.cpu.prev ∙ omega (arith, b, c) ∙ sym (jump_list (isolated s) f' s.cpu.prev))
        (store_list s f s.cpu.prev ∙ sym d ∙ sym (store_list (isolated s) f' s.cpu.prev))

    others_are : (c : ℕ) → c ≢ s.cpu.prev → c ≢ next → counts_of s c ≡ counts_of (isolated s) c
    unfolding counts_of isolated
    others_are c np nk =
        let a = pass_keeps s.cpu.n s.cpu.prev next apart s.owners (isolated s).owners passes_on c np nk in
        let b = joins_keep s.cpu.n next free s.jumpers (isolated s).jumpers jumpers_join c nk in
        let g = joins_keep (service_count s.cpu.strict) next free s.cpu.services (isolated s).cpu.services services_join c nk in
        let d = joins_keep s.cpu.n next free s.writers (isolated s).writers writers_join c nk in
        let e = same_services s (isolated s) refl refl c in
        row_is _ _ _ _ _ _ (owned_list s f c ∙ omega (arith, a, e) ∙ sym (owned_list (isolated s) f' c))
        (jump_list s f c ∙ omega (arith, b, g) ∙ sym (jump_list (isolated s) f' c)) (store_list s f c ∙ sym d ∙ sym (store_list (isolated s) f' c))

    pub isolate_rows : (rows : List Row) → settled s.cpu.prev next gain_a gain_j gain_s rows ≡ moved s (isolated s) rows
    isolate_rows rows = settle_moves (counts_of s) (counts_of (isolated s)) rows s.cpu.prev next gain_a gain_j gain_s apart from_is to_is others_are

  -- an add that runs: its caller gains a target, or has it already
  module _ (is : passed.Adds s) where
    abbrev target : ℕ
    target = reg s.cpu.regs 1

    inside : target < s.cpu.n
    unfolding in_memory
    inside = ltb-true _ _ is.named

    -- whether the place changed
    abbrev grows : List ℕ → ℕ
    grows l = bit (differs (get_or l target 0) (get_or (join_at l target s.cpu.prev) target 0))

    adds : (l : List ℕ) → having s.cpu.n (join_at l target s.cpu.prev) s.cpu.prev ≡ having s.cpu.n l s.cpu.prev + grows l
    adds l = joins_add s.cpu.n s.cpu.prev caller_small l (join_at l target s.cpu.prev) (place_joins s.cpu.n s.cpu.prev target l) ∙ ap (λ (x : ℕ). having s.cpu.n l s.cpu.prev + x) (one_differs s.cpu.n target _ l inside)

    keeps : (l : List ℕ) (c : ℕ) → c ≢ s.cpu.prev → having s.cpu.n l c ≡ having s.cpu.n (join_at l target s.cpu.prev) c
    keeps l c ne = sym (joins_keep s.cpu.n s.cpu.prev caller_small l (join_at l target s.cpu.prev) (place_joins s.cpu.n s.cpu.prev target l) c ne)

    pub jump_rows : formed (jump_added s) ≡ true → (rows : List Row) → gained s.cpu.prev 0 (grows s.jumpers) 0 rows ≡ moved s (jump_added s) rows
    unfolding counts_of jump_added
    jump_rows f' rows =
        gain_moves (counts_of s) (counts_of (jump_added s)) rows s.cpu.prev 0 (grows s.jumpers) 0
        (row_is _ _ _ _ _ _ (owned_list (jump_added s) f' s.cpu.prev ∙ omega (arith, same_services s (jump_added s) refl refl s.cpu.prev) ∙ sym (owned_list s f s.cpu.prev) ∙ sym (add-zero _))
        (jump_list (jump_added s) f' s.cpu.prev ∙ omega (arith, adds s.jumpers) ∙ ap (λ (x : ℕ). x + grows s.jumpers) (sym (jump_list s f s.cpu.prev)))
        (store_list (jump_added s) f' s.cpu.prev ∙ sym (store_list s f s.cpu.prev) ∙ sym (add-zero _)))
        (λ c ne. row_is _ _ _ _ _ _ (owned_list s f c ∙ omega (arith, same_services s (jump_added s) refl refl c) ∙ sym (owned_list (jump_added s) f' c))
        (jump_list s f c ∙ omega (arith, keeps s.jumpers c ne) ∙ sym (jump_list (jump_added s) f' c)) (store_list s f c ∙ sym (store_list (jump_added s) f' c)))

    pub store_rows : formed (store_added s) ≡ true → (rows : List Row) → gained s.cpu.prev 0 0 (grows s.writers) rows ≡ moved s (store_added s) rows
    unfolding counts_of store_added
    store_rows f' rows =
        gain_moves (counts_of s) (counts_of (store_added s)) rows s.cpu.prev 0 0 (grows s.writers)
        (row_is _ _ _ _ _ _ (owned_list (store_added s) f' s.cpu.prev ∙ omega (arith, same_services s (store_added s) refl refl s.cpu.prev) ∙ sym (owned_list s f s.cpu.prev) ∙ sym (add-zero _))
        (jump_list (store_added s) f' s.cpu.prev ∙ sym (jump_list s f s.cpu.prev) ∙ sym (add-zero _))
        (store_list (store_added s) f' s.cpu.prev ∙ adds s.writers ∙ ap (λ (x : ℕ). x + grows s.writers) (sym (store_list s f s.cpu.prev))))
        (λ c ne. row_is _ _ _ _ _ _ (owned_list s f c ∙ omega (arith, same_services s (store_added s) refl refl c) ∙ sym (owned_list (store_added s) f' c))
        (jump_list s f c ∙ sym (jump_list (store_added s) f' c)) (store_list s f c ∙ keeps s.writers c ne ∙ sym (store_list (store_added s) f' c)))
