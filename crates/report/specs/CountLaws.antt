-- The counts in the forms in which the code comes to them: the places of one list, and the services.
use Rattle.std.specs.Prelude.{◌≡◌, Bool, ◌&&◌, not, List, ℕ, suc, ◌+◌, ◌-◌, ◌≤◌, ◌<◌, min, max, ltb, eqb, get_or, length, take, nat_lt, ◌==◌}
use Rattle.std.specs.Ordering.{nat_cmp, ord_min, ord_max}
use Rattle.std.proofs.Math.Path.{refl, sym, ap, ap₂}
use Rattle.std.proofs.Common.{◌∙◌, arith, zero-add, add-zero, add-one}
use Rattle.std.proofs.lemmas.List.{length-take, get_or-take}
use Rattle.std.proofs.Math.Bool.{true, false, and-false}
use borrow.Author.Tests.{ltb-true, lt-ltb, ltb-false, le-leb, lt-leb, not-true, not-false}
use Rattle.common.specs.Instructions.{bit}
use Rattle.common.specs.Services.{isolate, service_count, is_service, service_at}
use Rattle.common.proofs.Laws.ServiceLaws.{is_service_lem, is_fourth}
use Rattle.rules.specs.Compartments.{member, insert, size}
use Rattle.rules.specs.Laws.CompartmentLaws.{eqb_swap, member_empty, bit_most, size_most}
use Rattle.rules.specs.State.{State, in_memory, has_owner, owner_at, jumpers_at, writers_at, owns, may_jump, may_store}
use Rattle.rules.specs.Laws.CountLaws.{count_most, count_same}
use Rattle.rules.specs.Counts.{count_from, address_count, owned_count, jump_count, store_count, writer_count, most_below}

-- ---- the library's least and greatest of two numbers

module _ (a b : ℕ) where
  pub least : ord_min nat_cmp a b ≡ min a b
  least = go (nat_lt b a) (b == a) refl refl
    where
      go : (s t : Bool) → nat_lt b a ≡ s → (b == a) ≡ t → ord_min nat_cmp a b ≡ min a b
      go true t e f = let l = ltb-true b a e in simp e (omega arith)
      go false true e f = let l = ltb-false b a e in simp (e, f) (omega arith)
      go false false e f = let l = ltb-false b a e in simp (e, f) (omega arith)

  pub greatest : ord_max nat_cmp a b ≡ max a b
  greatest = go (nat_lt b a) (b == a) refl refl
    where
      go : (s t : Bool) → nat_lt b a ≡ s → (b == a) ≡ t → ord_max nat_cmp a b ≡ max a b
      go true t e f = let l = ltb-true b a e in simp e (omega arith)
      go false true e f = let l = ltb-false b a e in simp (e, f) (omega arith)
      go false false e f = let l = ltb-false b a e in simp (e, f) (omega arith)

-- ---- a count, address by address

module _ (test : ℕ → Bool) where
  pub count_zero : 0 ≡ count_from test 0 0
  unfolding count_from
  count_zero = refl

  count_more : (k : ℕ) → count_from test 0 (k + 1) ≡ count_from test 0 k + bit (test k)
  unfolding count_from
  count_more k = ap (count_from test 0) (add-one k) ∙ ap (λ (x : ℕ). count_from test 0 k + bit (test x)) (zero-add k)

-- a loop over the first places of a list that counts the items that pass, at place k
module _ (passes : ℕ → Bool) (xs : List ℕ) (places k count one : ℕ) where
  pub counts_on : count ≡ count_from (λ x. passes (get_or xs x 0)) 0 k → k < length (take places xs) → one ≡ bit (passes (get_or (take places xs) k 0))
      → count + one ≡ count_from (λ x. passes (get_or xs x 0)) 0 (k + 1)
  counts_on e h o =
      let l = length-take places xs in
      ap₂ (λ (a b : ℕ). a + b) e (o ∙ ap (λ (x : ℕ). bit (passes x)) (get_or-take places xs k 0 (omega arith))) ∙ sym (count_more (λ x. passes (get_or xs x 0)) k)

  pub counts_below : (n : ℕ) → count ≡ count_from (λ x. passes (get_or xs x 0)) 0 k → k < length (take places xs) → one ≡ bit (passes (get_or (take places xs) k 0))
      → places ≡ min n (length xs) → count + one ≤ n
  counts_below n e h o w =
      let l = length-take places xs in
      let c = counts_on e h o in
      let m = count_most (λ x. passes (get_or xs x 0)) (k + 1) in
      omega arith

-- ---- the places of one list

abbrev pub places_owned : List ℕ → ℕ → ℕ → ℕ
places_owned owners n c = count_from (λ x. eqb (get_or owners x 0) c) 0 (min n (length owners))

abbrev pub places_with : List ℕ → ℕ → ℕ → ℕ
places_with sets n c = count_from (λ x. member (get_or sets x 0) c) 0 (min n (length sets))

module _ (s : State) (c : ℕ) where
  places_owned_lem : places_owned s.owners s.cpu.n c ≡ count_from (owns s c) 0 (min s.cpu.n (length s.owners))
  unfolding owns has_owner owner_at in_memory
  places_owned_lem = count_same _ (owns s c) 0 (min s.cpu.n (length s.owners)) (λ x l h. simp (lt-ltb x s.cpu.n (omega arith)))

  places_jump : places_with s.jumpers s.cpu.n c ≡ count_from (may_jump s c) 0 (min s.cpu.n (length s.jumpers))
  unfolding may_jump jumpers_at in_memory
  places_jump = count_same _ (may_jump s c) 0 (min s.cpu.n (length s.jumpers)) (λ x l h. simp (lt-ltb x s.cpu.n (omega arith)))

  places_store : places_with s.writers s.cpu.n c ≡ count_from (may_store s c) 0 (min s.cpu.n (length s.writers))
  unfolding may_store writers_at in_memory
  places_store = count_same _ (may_store s c) 0 (min s.cpu.n (length s.writers)) (λ x l h. simp (lt-ltb x s.cpu.n (omega arith)))

-- ---- the services

-- x has the number, and N does not reach x
unfoldable pub outside : ℕ → ℕ → Bool → Bool
outside n x has = not (ltb x n) && has

unfoldable pub four : Bool → ℕ → Bool → Bool → Bool → Bool → ℕ
four strict n a b c d = bit (outside n 4096 a) + bit (outside n 4097 b) + bit (outside n 4098 c) + bit (strict && outside n 4099 d)

outside_same : (n x : ℕ) (a b : Bool) → (ltb x n ≡ false → a ≡ b) → outside n x a ≡ outside n x b
unfolding outside
outside_same n x a b h = go (ltb x n) refl
  where
    go : (t : Bool) → ltb x n ≡ t → (not t && a) ≡ (not t && b)
    go true e = refl
    go false e = h e

services_count : (s : State) (m : Bool) (test : ℕ → Bool) (a b c d : Bool)
    → (in_memory s 4096 ≡ false → a ≡ test 4096) → (in_memory s 4097 ≡ false → b ≡ test 4097) → (in_memory s 4098 ≡ false → c ≡ test 4098)
    → (m ≡ true → in_memory s 4099 ≡ false → d ≡ test 4099)
    → four m s.cpu.n a b c d ≡ count_from (λ x. not (in_memory s x) && test x) isolate (service_count m)
unfolding count_from service_count in_memory outside four
services_count s true test a b c d f g h k =
    simp (outside_same s.cpu.n 4096 a (test 4096) f, outside_same s.cpu.n 4097 b (test 4097) g, outside_same s.cpu.n 4098 c (test 4098) h, outside_same s.cpu.n 4099 d (test 4099) (k refl), zero-add)
services_count s false test a b c d f g h k =
    simp (outside_same s.cpu.n 4096 a (test 4096) f, outside_same s.cpu.n 4097 b (test 4097) g, outside_same s.cpu.n 4098 c (test 4098) h, zero-add, add-zero)

pub service_most : (r n x : ℕ) (has : Bool) → r ≡ bit (outside n x has) → r ≤ 1
service_most r n x has e = let m = bit_most (outside n x has) in omega arith

-- as many as N leaves outside
four_most : (m : Bool) (n : ℕ) (a b c d : Bool) → four m n a b c d ≤ 4100 - n
unfolding outside four
four_most m n a b c d = last _ _ (sum _ _ _ (one 4096 a) (one 4097 b) (one 4098 c)) (fourth m)
  where
    one : (x : ℕ) (b : Bool) → bit (outside n x b) ≤ min 1 (suc x - n)
    one x b = go (ltb x n) refl
      where
        go : (t : Bool) → ltb x n ≡ t → bit (not t && b) ≤ min 1 (suc x - n)
        go true e = omega arith
        go false e = let l : n ≤ x = ltb-false x n e in let k = bit_most b in omega arith

    fourth : (m : Bool) → bit (m && outside n 4099 d) ≤ min 1 (4100 - n)
    fourth true = one 4099 d
    fourth false = omega arith

    sum : (p q r : ℕ) → p ≤ min 1 (4097 - n) → q ≤ min 1 (4098 - n) → r ≤ min 1 (4099 - n) → p + q + r ≤ 4099 - n
    sum p q r f g h = omega arith

    last : (p q : ℕ) → p ≤ 4099 - n → q ≤ min 1 (4100 - n) → p + q ≤ 4100 - n
    last p q f g = omega arith

-- places and services together, as the code adds them, are few enough for 32 bits
pub counts_fit : (p q : ℕ) (test : ℕ → Bool) (m : Bool) (n k : ℕ) (a b c d : Bool) → p ≡ count_from test 0 (min n k) → q ≡ four m n a b c d → n < 4294967296
    → p + q < 4294967296
counts_fit p q test m n k a b c d e f h =
    let l = count_most test (min n k) in
    let o = four_most m n a b c d in
    omega arith

-- the two returns of `services`, by the numbers that it adds
module _ (m : Bool) (n : ℕ) (a b c d : Bool) (p q r : ℕ) (ep : p ≡ bit (outside n 4096 a)) (eq : q ≡ bit (outside n 4097 b)) (er : r ≡ bit (outside n 4098 c)) where
  pub no_fourth : not m ≡ true → p + q + r ≡ four m n a b c d
  unfolding four
  no_fourth h = simp (ep, eq, er, not-true m h, add-zero)

  pub with_fourth : not m ≡ false → (t : ℕ) → t ≡ bit (outside n 4099 d) → p + q + r + t ≡ four m n a b c d
  unfolding four
  with_fourth h t et = simp (ep, eq, er, et, not-false m h)

-- ---- what the calls come to

module _ (s : State) (c : ℕ) where
  abbrev m : Bool
  m = s.cpu.strict

  service_owns : (x : ℕ) → is_service m x ≡ true → in_memory s x ≡ false → eqb c (service_at x) ≡ owns s c x
  unfolding owns has_owner owner_at
  service_owns x e h = eqb_swap c (service_at x) ∙ simp (h, e)

  service_jump : (x : ℕ) → is_service m x ≡ true → in_memory s x ≡ false → member (get_or s.cpu.services (x - isolate) 0) c ≡ may_jump s c x
  unfolding may_jump jumpers_at
  service_jump x e h = simp (h, e)

  service_store : (x : ℕ) → in_memory s x ≡ false → false ≡ may_store s c x
  unfolding may_store writers_at
  service_store x h = sym (member_empty c) ∙ simp h

  first : is_service m 4096 ≡ true
  first = is_service_lem m 4096 (omega arith) (omega arith)

  second : is_service m 4097 ≡ true
  second = is_service_lem m 4097 (omega arith) (omega arith)

  third : is_service m 4098 ≡ true
  third = is_service_lem m 4098 (omega arith) (omega arith)

  pub owned_is : (p q : ℕ) → p ≡ places_owned s.owners s.cpu.n c → q ≡ four m s.cpu.n (eqb c 1) (eqb c 2) (eqb c 3) (eqb c 4) → p + q ≡ owned_count s c
  unfolding owned_count address_count service_at
  owned_is p q e f =
      ap₂ (λ (x y : ℕ). x + y) (e ∙ places_owned_lem s c)
      (f ∙ services_count s m (owns s c) (eqb c 1) (eqb c 2) (eqb c 3) (eqb c 4) (service_owns 4096 first) (service_owns 4097 second) (service_owns 4098 third)
      (λ e. service_owns 4099 (is_fourth m e)))

  pub jumps_are : (p q : ℕ) (f g h i : Bool) → p ≡ places_with s.jumpers s.cpu.n c → f ≡ member (get_or s.cpu.services 0 0) c
      → g ≡ member (get_or s.cpu.services 1 0) c → h ≡ member (get_or s.cpu.services 2 0) c → i ≡ member (get_or s.cpu.services 3 0) c
      → q ≡ four m s.cpu.n f g h i → p + q ≡ jump_count s c
  unfolding jump_count address_count
  jumps_are p q f g h i e ef eg eh ei k =
      ap₂ (λ (x y : ℕ). x + y) (e ∙ places_jump s c)
      (k ∙ services_count s m (may_jump s c) f g h i (λ z. ef ∙ service_jump 4096 first z) (λ z. eg ∙ service_jump 4097 second z)
      (λ z. eh ∙ service_jump 4098 third z) (λ e z. ei ∙ service_jump 4099 (is_fourth m e) z))

  pub stores_are : places_with s.writers s.cpu.n c ≡ store_count s c
  unfolding store_count address_count outside four
  stores_are =
      places_store s c ∙ sym (add-zero _) ∙ ap (λ (x : ℕ). count_from (may_store s c) 0 (min s.cpu.n (length s.writers)) + x) none
    where
      nothing : (t : Bool) → (not t && false) ≡ false
      nothing true = refl
      nothing false = refl

      none : 0 ≡ count_from (λ x. not (in_memory s x) && may_store s c x) isolate (service_count m)
      none =
          sym (simp (nothing, and-false)) ∙ services_count s m (may_store s c) false false false false (service_store 4096) (service_store 4097) (service_store 4098)
          (λ e. service_store 4099)

-- ---- the most widely writable word

-- the two returns of `writer_count`, by the size that it counts
module _ (owner set joined : ℕ) (e : joined ≡ size (insert set owner)) where
  pub within : owner < 64 → joined ≡ writer_count owner set
  unfolding writer_count
  within h = e ∙ simp (lt-leb 64 owner h, add-zero)

  pub beyond : 64 ≤ owner → joined + 1 ≡ writer_count owner set
  unfolding writer_count
  beyond h = simp (e, le-leb 64 owner h)

  -- there is room for one more
  pub joined_most : joined ≤ 64
  joined_most = let h = size_most 64 (insert set owner) in omega arith

pub most_none : (f : ℕ → ℕ) → 0 ≡ most_below 0 f
unfolding most_below
most_none f = refl

pub most_more : (f : ℕ → ℕ) (k : ℕ) → most_below (k + 1) f ≡ max (most_below k f) (f k)
unfolding most_below
most_more f k = ap (λ (j : ℕ). most_below j f) (add-one k)
