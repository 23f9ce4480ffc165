-- The nest of tests is the table's first row that holds, for every state whatever: each condition is the test that the nest makes.
use Rattle.std.specs.Prelude.{◌≡◌, refl, Bool, true, false, cond, ◌&&◌, ◌||◌, not, ℕ, ◌+◌, ◌≤◌, ◌<◌, ltb, eqb, get_or}
use Rattle.std.proofs.Common.{sym, ap, ◌∙◌, arith, ltb-true, eqb-true, eq-eqb, ne_eqb}
use Rattle.std.proofs.Math.Bool.{or-false, or_assoc, not-not}
use Rattle.std.proofs.lemmas.Bool.{not-false, eqb-false}
use Rattle.common.specs.Answers as answer
use Rattle.common.specs.Opcodes as is
use Rattle.common.specs.Services.{isolate, add_jump_target, add_store_target, add_read_target, service_count, is_service}
use Rattle.common.proofs.Laws.ServiceLaws.{service_count_lem, service_range}
use Rattle.common.proofs.Laws.WordLaws.{Decodes, runs, unknown_opcode, stray, decode_answers}
use Rattle.common.specs.Tables.{first_of}
use Rattle.common.proofs.Laws.Tests.{cond_not, not_and, not_or, not_leb}
use Rattle.rules.specs.Compartments.{member, empty}
use Rattle.rules.specs.State.{State, first_number, in_memory, has_owner, owner_at, writers_at, readers_at, owns, may_jump, may_store, may_read, reads}
use Rattle.rules.specs.Checks.{checks, is_word, owner, instruction_at, named, at_isolate, at_add, verdict, good_sets, sets_within, returns}
use Rattle.rules.specs.Laws.Tested.{same_lengths, sized, numbered, seated, formed, bad_owner, arrives, store_verdict, load_verdict, instruction_verdict, word_verdict, isolate_verdict, add_verdict, service_verdict, tested}
use Rattle.rules.proofs.Laws.FormLaws.{n_most, at_service}
use Rattle.rules.specs.Checks as of

-- ---- each condition is the test that the definition makes

first_number_lem : (m : Bool) → first_number m ≡ cond m 5 4
unfolding first_number service_count
first_number_lem true = refl
first_number_lem false = refl

pub lengths_row : (m : Bool) (s : State) → of.lengths_differ m s ≡ not (same_lengths m s)
unfolding of.lengths_differ same_lengths
lengths_row m s = simp (not_and, not_or, not-not)

pub form_row : (s : State) → of.bad_form s ≡ not (formed s)
unfolding of.bad_form of.lengths_differ formed sized same_lengths numbered seated
form_row s = simp (first_number_lem, not_and, not_or, not-not, or_assoc, not_leb)

place_row : (s : State) → of.no_place s ≡ not (has_owner s s.cpu.pc)
unfolding of.no_place has_owner in_memory
place_row s = simp not_or

pub owner_row : (s : State) → of.wrong_owner s ≡ bad_owner s
unfolding of.wrong_owner bad_owner owner_at in_memory
owner_row s = go (ltb s.cpu.pc s.cpu.n) refl
  where
    go : (b : Bool) → ltb s.cpu.pc s.cpu.n ≡ b → of.wrong_owner s ≡ bad_owner s
    go true e = simp e
    go false e = simp e

arrival_row : (s : State) → of.no_arrival s ≡ not (arrives s)
unfolding of.no_arrival arrives may_jump
arrival_row s = simp not_or

-- what the conditions of 14, 15 and 4 say of the tests
pub formed_if : (s : State) → of.bad_form s ≡ false → formed s ≡ true
formed_if s h = not-false (formed s) (sym (form_row s) ∙ h)

pub if_formed : (s : State) → formed s ≡ true → of.bad_form s ≡ false
if_formed s h = form_row s ∙ ap not h

pub arrives_if : (s : State) → of.no_arrival s ≡ false → arrives s ≡ true
arrives_if s h = not-false (arrives s) (sym (arrival_row s) ∙ h)

pub if_arrives : (s : State) → arrives s ≡ true → of.no_arrival s ≡ false
if_arrives s h = arrival_row s ∙ ap not h

-- a word that is in memory is owned by its owner
owns_word : (s : State) (c x : ℕ) → in_memory s x ≡ true → owns s c x ≡ eqb (owner s x) c
unfolding owns has_owner owner_at
owns_word s c x e = simp e

owner_word : (s : State) (x : ℕ) → in_memory s x ≡ true → owner_at s x ≡ owner s x
unfolding owner_at
owner_word s x e = simp e

-- 17's row, of a word that is in memory
reads_word : (s : State) (c x : ℕ) → in_memory s x ≡ true
    → reads s c x ≡ not (s.cpu.strict && not (eqb (owner s x) c || member (get_or s.readers x empty) c))
unfolding reads may_read readers_at
reads_word s c x e = go s.cpu.strict refl
  where
    go : (b : Bool) → s.cpu.strict ≡ b → reads s c x ≡ not (s.cpu.strict && not (eqb (owner s x) c || member (get_or s.readers x empty) c))
    go true f = simp (f, e, owns_word s c x e, not-not)
    go false f = simp f

-- ---- where pc is, as the rows ask

-- below N it is no service
word_place : (s : State) → formed s ≡ true → in_memory s s.cpu.pc ≡ true → (at_isolate s ≡ false) × (at_add s ≡ false)
unfolding in_memory
word_place s f h =
    let m : s.cpu.n ≤ 2048 = n_most s f in
    let l : s.cpu.pc < s.cpu.n = ltb-true _ _ h in
    let j : eqb s.cpu.pc add_jump_target ≡ false = ne_eqb s.cpu.pc add_jump_target (λ z. omega arith) in
    let t : eqb s.cpu.pc add_store_target ≡ false = ne_eqb s.cpu.pc add_store_target (λ z. omega arith) in
    let r : eqb s.cpu.pc add_read_target ≡ false = ne_eqb s.cpu.pc add_read_target (λ z. omega arith) in
    (ne_eqb s.cpu.pc isolate (λ z. omega arith), simp (j, t, r))

abbrev is_add : ℕ → Bool
is_add x = eqb x add_jump_target || eqb x add_store_target || eqb x add_read_target

-- a service that is not isolate is one of the others
other_service : (m : Bool) (x : ℕ) → is_service m x ≡ true → eqb x isolate ≡ false → is_add x ≡ true
other_service m x h n = go (eqb x add_jump_target) (eqb x add_store_target) refl refl
  where
    go : (b c : Bool) → eqb x add_jump_target ≡ b → eqb x add_store_target ≡ c → is_add x ≡ true
    go true c e f = simp e
    go false true e f = simp (e, f)
    go false false e f =
        let r : (4096 ≤ x) × (x < 4096 + service_count m) = service_range m x h in
        let k = service_count_lem m in
        let a = eqb-false x isolate n in
        let b = eqb-false x add_jump_target e in
        let c = eqb-false x add_store_target f in
        simp (e, f, eq-eqb x add_read_target (omega (arith, k.1)))

isolate_only : (x : ℕ) → eqb x isolate ≡ true → is_add x ≡ false
isolate_only x h = simp (eqb-true x isolate h)

-- ---- the nest is the table's first row

-- an opcode is one of the three that a row names at most
load_alone : (op : ℕ) → eqb op is.load ≡ true → (eqb op is.store ≡ false) × (eqb op is.halt ≡ false)
load_alone op h = let e : op ≡ is.load = eqb-true _ _ h in (simp e, simp e)

store_alone : (op : ℕ) → eqb op is.store ≡ true → eqb op is.halt ≡ false
store_alone op h = let e : op ≡ is.store = eqb-true _ _ h in simp e

pub instruction_answers : (s : State) → Decodes (instruction_at s).answer
unfolding instruction_at
instruction_answers s = decode_answers (get_or s.words s.cpu.pc 0)

pub verdict_tested : (s : State) → verdict s ≡ tested s
unfolding verdict tested first_of checks in_memory word_verdict instruction_verdict store_verdict load_verdict instruction_at may_store writers_at service_verdict isolate_verdict add_verdict of.no_instruction of.stray_bit of.load_outside of.load_forbidden of.store_outside of.store_forbidden of.halts of.bad_sets of.empty_set of.not_within of.not_owned of.no_return of.no_number
verdict_tested s = go (formed s) (has_owner s s.cpu.pc) (is_word s) refl refl refl
  where
    store : formed s ≡ true → has_owner s s.cpu.pc ≡ true → is_word s ≡ true → (instruction_at s).answer ≡ answer.done → eqb (instruction_at s).op is.load ≡ false
        → eqb (instruction_at s).op is.store ≡ true → (b : Bool) → ltb (named s) s.cpu.n ≡ b → verdict s ≡ tested s
    store p q u v w x false m = simp (cond_not, form_row, place_row, owner_row, arrival_row, p, q, u, v, w, x, m)
    store p q u v w x true m =
        let a = store_alone (instruction_at s).op x in
        let z = word_place s p u in
        let o : owner_at s s.cpu.pc ≡ owner s s.cpu.pc = owner_word s s.cpu.pc u in
        simp (cond_not, form_row, place_row, owner_row, arrival_row, o, owns_word s (owner s s.cpu.pc) (named s) m, p, q, u, v, w, x, m, a, z.0, z.1)

    load : formed s ≡ true → has_owner s s.cpu.pc ≡ true → is_word s ≡ true → (instruction_at s).answer ≡ answer.done → eqb (instruction_at s).op is.load ≡ true
        → (b : Bool) → ltb (named s) s.cpu.n ≡ b → verdict s ≡ tested s
    load p q u v w false m = simp (cond_not, form_row, place_row, owner_row, arrival_row, p, q, u, v, w, m)
    load p q u v w true m =
        let a = load_alone (instruction_at s).op w in
        let z = word_place s p u in
        let o : owner_at s s.cpu.pc ≡ owner s s.cpu.pc = owner_word s s.cpu.pc u in
        simp (cond_not, form_row, place_row, owner_row, arrival_row, o, reads_word s (owner s s.cpu.pc) (named s) m, p, q, u, v, w, m, a.0, a.1, z.0, z.1)

    word : formed s ≡ true → has_owner s s.cpu.pc ≡ true → is_word s ≡ true → (g h : Bool) → Decodes (instruction_at s).answer
        → eqb (instruction_at s).op is.load ≡ g → eqb (instruction_at s).op is.store ≡ h → verdict s ≡ tested s
    word p q u g h (unknown_opcode v) w x = simp (cond_not, form_row, place_row, owner_row, arrival_row, p, q, u, v)
    word p q u g h (stray v) w x = simp (cond_not, form_row, place_row, owner_row, arrival_row, p, q, u, v)
    word p q u true h (runs v) w x = load p q u v w (ltb (named s) s.cpu.n) refl
    word p q u false true (runs v) w x = store p q u v w x (ltb (named s) s.cpu.n) refl
    word p q u false false (runs v) w x =
        let z = word_place s p u in
        simp (cond_not, form_row, place_row, owner_row, arrival_row, p, q, u, v, w, x, z.0, z.1)

    service : formed s ≡ true → has_owner s s.cpu.pc ≡ true → is_word s ≡ false → is_service s.cpu.strict s.cpu.pc ≡ true → (b : Bool) → at_isolate s ≡ b
        → verdict s ≡ tested s
    service p q u k true e =
        simp (cond_not, or-false, form_row, place_row, owner_row, arrival_row, p, q, u, e, isolate_only s.cpu.pc e)
    service p q u k false e =
        simp (cond_not, form_row, place_row, owner_row, arrival_row, p, q, u, e, other_service s.cpu.strict s.cpu.pc k e)

    go : (a b e : Bool) → formed s ≡ a → has_owner s s.cpu.pc ≡ b → is_word s ≡ e → verdict s ≡ tested s
    go false b e p q u = simp (form_row, p)
    go true false e p q u = simp (form_row, place_row, p, q)
    go true true false p q u = service p q u (at_service s s.cpu.pc q u) (at_isolate s) refl
    go true true true p q u =
        word p q u (eqb (instruction_at s).op is.load) (eqb (instruction_at s).op is.store) (instruction_answers s) refl refl
