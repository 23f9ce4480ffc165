-- What an accepted image leaves: the loader's state matches the abstract machine's start.
use Rattle.std.specs.Prelude.{◌≡◌, Bool, ◌&&◌, eqb, drop, replicate}
use Rattle.std.proofs.Math.Path.{refl, sym, ap}
use Rattle.std.proofs.Common.{◌∙◌, length-append, length-drop}
use Rattle.std.proofs.Math.Bool.{true, false, and-false, and-true}
use mathlib.Core.List.{List}
use Prim.Native.Nat.{ℕ, zero, suc, ◌+◌, ◌-◌, ◌≤◌, ◌<◌}
use native.Mathlib.Omega.{arith}
use borrow.Author.Tests.{ltb-true, leb-true, eqb-true, le-leb, lt-ltb, eq-eqb, ne_eqb}
use Rattle.std.proofs.Math.Dec.{ltb, leb}
use Rattle.std.proofs.Math.ListN.{get_or, length}
use Rattle.std.proofs.lemmas.List.{length-replicate, get_or-replicate}
use Rattle.std.proofs.Math.Seq.{take-append_seam}
use Rattle.common.specs.Answers as answer
use Rattle.common.specs.Tables.{first_of}
use Rattle.common.specs.Services.{isolate, service_count, is_service, service_at, is_service_number}
use Rattle.common.proofs.Laws.ServiceLaws.{service_count_lem, service_range, no_service}
use Rattle.common.proofs.Laws.Tests.{both, bool_ext}
use Rattle.common.proofs.Laws.CheckLaws.{needs, eqb_cond, cond_same}
use Rattle.paper.specs.Abstract as paper
use Rattle.paper.proofs.Laws.CompLaws.{service_comps_lem, at_service}
use Rattle.rules.specs.Compartments.{member, empty, service_numbers, main_alone}
use Rattle.rules.specs.Laws.CompartmentLaws.{member_empty, member_services, member_main}
use Rattle.rules.specs.State.{State, first_number, service_room, in_memory, has_owner, owner_at, jumpers_at, writers_at, readers_at, owns, may_jump, may_store, may_read}
use Rattle.rules.specs.Laws.Tested.{same_lengths, seated, formed}
use Rattle.rules.specs.Images.{fields, size_in, entry_in, entry_checks, register_checks, image_checks, load_checks, words_of, regs_of, over, loaded, load_verdict, load}
use Rattle.rules.proofs.Laws.TestedRows.{lengths_row}
use Rattle.rules.proofs.Laws.FormLaws.{Sized, same_lengths_lem, sized_is, Numbered, numbered_is}
use Rattle.rules.proofs.Laws.TagLaws.{filled}
use Rattle.rules.proofs.BothMachines.Match.{Match, Inv}

-- ---- what a loader's 0 says

pub record Accepted (m : Bool) (words : List ℕ) (entry : ℕ) (old : State) : Type 0 where
  pub some : 1 ≤ length words
  pub most : length words ≤ 2048
  pub entered : entry < length words
  pub lent : length words ≤ length old.words
  pub owners : length old.owners ≡ length old.words
  pub jumpers : length old.jumpers ≡ length old.words
  pub writers : length old.writers ≡ length old.words
  pub readers : m ≡ true → length old.readers ≡ length old.words

fields_length : (bytes : List ℕ) (k p : ℕ) → length (fields bytes p k) ≡ k
unfolding fields
fields_length bytes zero p = refl
fields_length bytes (suc k) p = ap suc (fields_length bytes k (p + 4))

pub words_are : (bytes : List ℕ) → length (words_of bytes) ≡ size_in bytes
words_are bytes = fields_length bytes (size_in bytes) 4

module _ (m : Bool) (bytes : List ℕ) (old : State) (ok : (load m bytes old).answer ≡ answer.done) where
  pub accepted : Accepted m (words_of bytes) (entry_in bytes) old
  unfolding load load_verdict load_checks image_checks register_checks entry_checks first_of
  accepted =
      let n : length (words_of bytes) ≡ size_in bytes = words_are bytes in
      let lengths = same_lengths_lem m old (needs (same_lengths m old) (load_verdict m bytes old) (λ e. simp (lengths_row, e)) ok) in
      let sizes = both _ _ (needs (leb 1 (size_in bytes) && leb (size_in bytes) 2048) (load_verdict m bytes old) (λ e. simp (e, eqb_cond, cond_same)) ok) in
      record {
        some = rw n (leb-true _ _ sizes.0);
        most = rw n (leb-true _ _ sizes.1);
        entered = rw n (ltb-true _ _ (needs (ltb (entry_in bytes) (size_in bytes)) (load_verdict m bytes old) (λ e. simp (e, eqb_cond, cond_same)) ok));
        lent = rw n (leb-true _ _ (needs (leb (size_in bytes) (length old.words)) (load_verdict m bytes old) (λ e. simp (e, eqb_cond, cond_same)) ok));
        owners = lengths.0;
        jumpers = lengths.1;
        writers = lengths.2;
        readers = lengths.3;
      }

  pub loads : (load m bytes old).state ≡ loaded m (words_of bytes) (regs_of bytes) (entry_in bytes) old
  unfolding load
  loads = simp (eq-eqb _ _ ok)

-- ---- memories filled by the loader

over_length : (front old : List ℕ) → length front ≤ length old → length (over front old) ≡ length old
over_length front old h = length-append front (drop (length front) old) ∙ simp length-drop (omega arith)

filled_length : (n v : ℕ) (old : List ℕ) → n ≤ length old → length (over (replicate n v) old) ≡ length old
filled_length n v old h = over_length (replicate n v) old (rw length-replicate h)

-- ---- the services at the start

-- no service is owned by 0, and the j-th is owned by suc j
not_main : (m : Bool) (x : ℕ) → (is_service m x && eqb (service_at x) 0) ≡ false
unfolding service_at
not_main m x = go (is_service m x) refl
  where
    go : (b : Bool) → is_service m x ≡ b → (b && eqb (service_at x) 0) ≡ false
    go true e = let r : (isolate ≤ x) × (x < isolate + service_count m) = service_range m x e in ne_eqb (x - (isolate - 1)) 0 (λ q. omega arith)
    go false e = refl

same_service : (m : Bool) (x j : ℕ) → (ltb j (service_count m) && eqb x (isolate + j)) ≡ (is_service m x && eqb (service_at x) (suc j))
unfolding service_at is_service
same_service m x j =
    bool_ext (ltb j (service_count m) && eqb x (isolate + j)) (is_service m x && eqb (x - (isolate - 1)) (suc j))
    (λ h. let t = both (ltb j (service_count m)) (eqb x (isolate + j)) h in
    let l : j < service_count m = ltb-true _ _ t.0 in
    let e : x ≡ isolate + j = eqb-true _ _ t.1 in
    simp (le-leb isolate x (omega arith), lt-ltb x (isolate + service_count m) (omega arith), eq-eqb (x - (isolate - 1)) (suc j) (omega arith)))
    (λ h. let t = both (is_service m x) (eqb (x - (isolate - 1)) (suc j)) h in
    let r : (isolate ≤ x) × (x < isolate + service_count m) = service_range m x t.0 in
    let e : x - (isolate - 1) ≡ suc j = eqb-true _ _ t.1 in
    simp (lt-ltb j (service_count m) (omega arith), eq-eqb x (isolate + j) (omega arith)))

-- 1 to the number of services
services_are : (m : Bool) (j : ℕ) → member (service_numbers m) (suc j) ≡ ltb j (service_count m)
unfolding is_service_number
services_are m j = member_services m (suc j) ∙ simp (le-leb 1 (suc j) (omega arith))

-- each service's set is {0}
main_there : (m : Bool) (x : ℕ) → is_service m x ≡ true → get_or (replicate service_room main_alone) (x - isolate) empty ≡ main_alone
main_there m x f =
    let r : (isolate ≤ x) × (x < isolate + service_count m) = service_range m x f in
    let k = service_count_lem m in
    get_or-replicate service_room (x - isolate) main_alone empty (omega (arith, k.1))

-- ---- the start

module _ (m : Bool) (words regs : List ℕ) (entry : ℕ) (old : State) (ok : Accepted m words entry old) where
  abbrev start : State
  start = loaded m words regs entry old

  abbrev n : ℕ
  n = length words

  word_plain : (x : ℕ) → x < n → is_service m x ≡ false
  word_plain x h = let l : n ≤ 2048 = ok.most in no_service m x (omega arith)

  start_a : (c x : ℕ) → (paper.comp (paper.initial_comps m n) c).A x ≡ owns start c x
  unfolding paper.initial_comps owns has_owner owner_at in_memory loaded
  start_a c x = go (ltb x n) refl c
    where
      go : (b : Bool) → ltb x n ≡ b → (c : ℕ) → (paper.comp (paper.initial_comps m n) c).A x ≡ owns start c x
      go true e zero = simp (e, filled n 0 old.owners x (ltb-true _ _ e))
      go true e (suc j) =
          let l : x < n = ltb-true _ _ e in
          let b : n ≤ 2048 = ok.most in
          at_service m n j (λ k. k.A x) refl
          ∙ simp (ne_eqb x (isolate + j) (λ q. omega arith), and-false, e, filled n 0 old.owners x l)
          (sym (ne_eqb 0 (suc j) (λ z. omega arith)))
      go false e zero = simp e (sym (not_main m x))
      go false e (suc j) = at_service m n j (λ k. k.A x) refl ∙ simp e (same_service m x j)

  start_j : (c x : ℕ) → (paper.comp (paper.initial_comps m n) c).J x ≡ may_jump start c x
  unfolding paper.initial_comps may_jump jumpers_at in_memory loaded is_service_number
  start_j c x = go (ltb x n) (is_service m x) refl refl c
    where
      go : (b p : Bool) → ltb x n ≡ b → is_service m x ≡ p → (c : ℕ) → (paper.comp (paper.initial_comps m n) c).J x ≡ may_jump start c x
      go true p e f zero =
          simp (e, word_plain x (ltb-true _ _ e), filled n (service_numbers m) old.jumpers x (ltb-true _ _ e), member_services)
      go true p e f (suc j) =
          at_service m n j (λ k. k.J x) refl
          ∙ simp (e, and-true, filled n (service_numbers m) old.jumpers x (ltb-true _ _ e)) (sym (services_are m j))
      go false true e f zero = simp (e, f, main_there m x f, member_main)
      go false true e f (suc j) =
          at_service m n j (λ k. k.J x) refl ∙ simp (e, f, and-false, main_there m x f) (sym (member_main (suc j) ∙ ne_eqb (suc j) 0 (λ z. omega arith)))
      go false false e f zero = simp (e, f, member_empty)
      go false false e f (suc j) = at_service m n j (λ k. k.J x) refl ∙ simp (e, f, and-false) (sym (member_empty (suc j)))

  start_s : (c x : ℕ) → (paper.comp (paper.initial_comps m n) c).S x ≡ may_store start c x
  unfolding paper.initial_comps may_store writers_at in_memory loaded
  start_s c x = none c ∙ sym (go (ltb x n) refl)
    where
      none : (c : ℕ) → (paper.comp (paper.initial_comps m n) c).S x ≡ false
      none zero = refl
      none (suc j) = at_service m n j (λ k. k.S x) refl ∙ and-false (ltb j (service_count m))

      go : (b : Bool) → ltb x n ≡ b → may_store start c x ≡ false
      go true e = simp (e, filled n empty old.writers x (ltb-true _ _ e), member_empty)
      go false e = simp (e, member_empty)

  start_r : (c x : ℕ) → (paper.comp (paper.initial_comps m n) c).R x ≡ may_read start c x
  unfolding paper.initial_comps may_read readers_at in_memory loaded
  start_r c x = none c ∙ sym (go m (ltb x n) refl refl)
    where
      none : (c : ℕ) → (paper.comp (paper.initial_comps m n) c).R x ≡ false
      none zero = refl
      none (suc j) = at_service m n j (λ k. k.R x) refl ∙ and-false (ltb j (service_count m))

      go : (a b : Bool) → m ≡ a → ltb x n ≡ b → may_read start c x ≡ false
      go true true e f = simp (e, f, filled n empty old.readers x (ltb-true _ _ f), member_empty)
      go true false e f = simp (e, f, member_empty)
      go false b e f = simp (e, member_empty)

  pub start_match : Match start (paper.initial m words regs entry)
  unfolding loaded paper.initial paper.initial_comps first_number
  start_match =
      record {
        words = sym (take-append_seam words (drop n old.words));
        regs = refl;
        pc = refl;
        prev = refl;
        jumped = refl;
        count = ap suc (service_comps_lem n 0 (service_count m));
        A = start_a;
        J = start_j;
        S = start_s;
        R = start_r;
        fenced = refl;
      }

  start_sized : Sized start
  unfolding loaded
  start_sized =
      let h : n ≤ length old.words = ok.lent in
      let w : length (over words old.words) ≡ length old.words = over_length words old.words h in
      let all : (v : ℕ) (l : List ℕ) → length l ≡ length old.words → length (over (replicate n v) l) ≡ length (over words old.words) =
      λ v l e. filled_length n v l (omega arith) ∙ e ∙ sym w in
      record {
        lent =
            record {
              owners = all 0 old.owners ok.owners;
              jumpers = all (service_numbers m) old.jumpers ok.jumpers;
              writers = all empty old.writers ok.writers;
              readers = λ e. simp e (all empty old.readers (ok.readers e));
              enough = omega arith;
            };
        some = ok.some;
        most = ok.most;
      }

  start_numbered : Numbered start
  unfolding loaded first_number
  start_numbered = let k = service_count_lem m in record { low = omega arith; high = omega (arith, k.1); prev = omega arith }

  pub start_inv : Inv start
  unfolding loaded formed seated in_memory is_service_number first_number
  start_inv =
      record {
        formed = simp (sized_is start start_sized, numbered_is start start_numbered);
        sets = (service_count_lem m).1;
        caller = λ z. refl;
        owner = λ x l. let g : get_or (over (replicate n 0) old.owners) x 0 ≡ 0 = filled n 0 old.owners x l in (ap (is_service_number m) g, omega arith);
      }
