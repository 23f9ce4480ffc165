-- What passing checks 14 and 15 says of a state, as lengths and orders, and which state passes 14.
use Rattle.std.specs.Prelude.{◌≡◌, refl, Bool, true, false, ◌&&◌, ◌||◌, not, ℕ, ◌≤◌, ◌<◌, leb, eqb, length}
use Rattle.std.proofs.Common.{◌∙◌, arith}
use Rattle.std.proofs.Math.Bool.{and-true}
use borrow.Author.Tests.{ltb-true, leb-true, leb-false, eqb-true, le-leb, lt-ltb, le-ltb, eq-eqb}
use Rattle.common.proofs.Laws.Tests.{both, clash}
use Rattle.common.specs.Services.{service_count, is_service, service_at, is_service_number}
use Rattle.common.proofs.Laws.ServiceLaws.{service_small}
use Rattle.rules.specs.State.{State, first_number, in_memory, has_owner, owner_at}
use Rattle.rules.specs.Laws.Tested.{same_lengths, sized, numbered, seated, formed, bad_owner}

-- ---- the sizes

-- memories of one length, N or longer; in the sheet's mode the readers may have any
pub record Lent (s : State) : Type 0 where
  pub owners : length s.owners ≡ length s.words
  pub jumpers : length s.jumpers ≡ length s.words
  pub writers : length s.writers ≡ length s.words
  pub readers : s.cpu.strict ≡ true → length s.readers ≡ length s.words
  pub enough : s.cpu.n ≤ length s.words

pub record Sized (s : State) : Type 0 where
  pub lent : Lent s
  pub some : 1 ≤ s.cpu.n
  pub most : s.cpu.n ≤ 2048

-- what 27 asks for too
pub same_lengths_lem : (m : Bool) (s : State) → same_lengths m s ≡ true
    → (length s.owners ≡ length s.words) × (length s.jumpers ≡ length s.words) × (length s.writers ≡ length s.words)
    × (m ≡ true → length s.readers ≡ length s.words)
unfolding same_lengths
same_lengths_lem m s h =
    let r = both _ (not m || eqb (length s.readers) (length s.words)) h in
    let a = both (eqb (length s.owners) (length s.words) && eqb (length s.jumpers) (length s.words)) _ r.0 in
    let b = both (eqb (length s.owners) (length s.words)) _ a.0 in
    (eqb-true _ _ b.0, eqb-true _ _ b.1, eqb-true _ _ a.1, λ e. eqb-true _ _ (simp e at r.1))

pub is_sized : (s : State) → sized s ≡ true → Sized s
unfolding sized
is_sized s h =
    let a = both (same_lengths s.cpu.strict s && leb 1 s.cpu.n && leb s.cpu.n 2048) _ h in
    let b = both (same_lengths s.cpu.strict s && leb 1 s.cpu.n) _ a.0 in
    let c = both (same_lengths s.cpu.strict s) _ b.0 in
    let l = same_lengths_lem s.cpu.strict s c.0 in
    record {
      lent = record { owners = l.0; jumpers = l.1; writers = l.2; readers = l.3; enough = leb-true _ _ a.1 };
      some = leb-true _ _ c.1;
      most = leb-true _ _ b.1;
    }

-- of lent memories, 14 looks at N alone
pub sized_lent : (s : State) → Lent s → sized s ≡ (leb 1 s.cpu.n && leb s.cpu.n 2048)
unfolding sized same_lengths
sized_lent s l =
    let r : (not s.cpu.strict || eqb (length s.readers) (length s.words)) ≡ true = asked s.cpu.strict refl in
    simp (
      r,
      eq-eqb (length s.owners) (length s.words) l.owners,
      eq-eqb (length s.jumpers) (length s.words) l.jumpers,
      eq-eqb (length s.writers) (length s.words) l.writers,
      le-leb s.cpu.n (length s.words) l.enough,
      and-true,
    )
  where
    asked : (m : Bool) → s.cpu.strict ≡ m → (not m || eqb (length s.readers) (length s.words)) ≡ true
    asked true e = eq-eqb (length s.readers) (length s.words) (l.readers e)
    asked false e = refl

pub sized_is : (s : State) → Sized s → sized s ≡ true
sized_is s z = sized_lent s z.lent ∙ simp (le-leb 1 s.cpu.n z.some, le-leb s.cpu.n 2048 z.most)

-- ---- the numbers

pub record Numbered (s : State) : Type 0 where
  pub low : service_count s.cpu.strict < s.cpu.next
  pub high : s.cpu.next ≤ 64
  pub prev : s.cpu.prev < s.cpu.next

pub is_numbered : (s : State) → numbered s ≡ true → Numbered s
unfolding numbered first_number
is_numbered s h =
    let a = both (leb (first_number s.cpu.strict) s.cpu.next && leb s.cpu.next 64) _ h in
    let b = both (leb (first_number s.cpu.strict) s.cpu.next) _ a.0 in
    record { low = leb-true _ _ b.0; high = leb-true _ _ b.1; prev = ltb-true _ _ a.1 }

pub numbered_is : (s : State) → Numbered s → numbered s ≡ true
unfolding numbered first_number
numbered_is s n = simp (le-leb (first_number s.cpu.strict) s.cpu.next n.low, le-leb s.cpu.next 64 n.high, lt-ltb s.cpu.prev s.cpu.next n.prev)

-- ---- all of 14

pub record Form (s : State) : Type 0 where
  pub sized : sized s ≡ true
  pub numbered : numbered s ≡ true
  pub seated : seated s ≡ true

pub is_formed : (s : State) → formed s ≡ true → Form s
unfolding formed
is_formed s h =
    let a = both (sized s && numbered s) _ h in
    let b = both (sized s) _ a.0 in
    record { sized = b.0; numbered = b.1; seated = a.1 }

module _ (s : State) (h : formed s ≡ true) where
  pub lent_memories : Lent s
  lent_memories = (is_sized s (is_formed s h).sized).lent

  pub n_most : s.cpu.n ≤ 2048
  n_most = (is_sized s (is_formed s h).sized).most

  pub numbers_good : Numbered s
  numbers_good = is_numbered s (is_formed s h).numbered

  pub outside : (x : ℕ) → 2048 ≤ x → in_memory s x ≡ false
  unfolding in_memory
  outside x l = let m : s.cpu.n ≤ 2048 = n_most in le-ltb x s.cpu.n (omega arith)

  -- a service's own number is below the first unused one
  pub service_below : (x : ℕ) → is_service s.cpu.strict x ≡ true → service_at x < s.cpu.next
  service_below x e =
      let l : service_at x ≤ service_count s.cpu.strict = service_small s.cpu.strict x e in
      let m : service_count s.cpu.strict < s.cpu.next = numbers_good.low in
      omega arith

-- what has an owner is a memory word or a service
pub at_service : (s : State) (x : ℕ) → has_owner s x ≡ true → in_memory s x ≡ false → is_service s.cpu.strict x ≡ true
unfolding has_owner
at_service s x h e = simp e at h

-- ---- what passing 15 says

pub record GoodOwner (s : State) : Type 0 where
  pub plain : is_service_number s.cpu.strict (owner_at s s.cpu.pc) ≡ false
  pub below : owner_at s s.cpu.pc < s.cpu.next

pub good_owner : (s : State) → in_memory s s.cpu.pc ≡ true → bad_owner s ≡ false → GoodOwner s
unfolding bad_owner
good_owner s e h = go (is_service_number s.cpu.strict (owner_at s s.cpu.pc)) (leb s.cpu.next (owner_at s s.cpu.pc)) refl refl
  where
    go : (a b : Bool) → is_service_number s.cpu.strict (owner_at s s.cpu.pc) ≡ a → leb s.cpu.next (owner_at s s.cpu.pc) ≡ b → GoodOwner s
    go false false p q = record { plain = p; below = leb-false _ _ q }
    go true b p q = let z : true ≡ false = simp (e, p) at h in clash refl z
    go false true p q = let z : true ≡ false = simp (e, p, q) at h in clash refl z
