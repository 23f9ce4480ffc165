-- The tagged machine against the abstract one, from the bytes of any accepted image and for any number of steps.
use Rattle.std.specs.Prelude.{◌≡◌, refl, Bool, true, false, ◌||◌, List, ◌↔◌, ◌⊎◌, ltb, eqb}
use Rattle.std.proofs.Common.{sym, ◌∙◌, subst, arith}
use Rattle.std.proofs.Math.Path.{ap}
use Rattle.std.proofs.Math.Bool.{or-true}
use Rattle.std.proofs.Math.Logic.{⊎_elim}
use Prim.Native.Nat.{ℕ, suc, ◌≤◌, ◌<◌}
use borrow.Author.Tests.{ltb-true, ltb-false, lt-ltb}
use Rattle.std.proofs.Math.ListN.{length}
use Rattle.common.specs.Answers as answer
use Rattle.common.specs.Services.{is_service}
use Rattle.common.proofs.Laws.Tests.{clash}
use Rattle.paper.specs.Abstract as paper
use Rattle.paper.proofs.Laws.CompLaws.{comp_none}
use Rattle.paper.proofs.Laws.RunLaws.{given, run_answers, run_words, run_fenced}
use Rattle.paper.proofs.Theorems.Sound.{InOne, Sound, run_sound}
use Rattle.paper.proofs.Theorems.Property as property
use Rattle.rules.specs.Compartments.{numbers, member}
use Rattle.rules.specs.State.{State, has_owner, owner_at, jumpers_at, writers_at, readers_at, may_jump, may_store, may_read}
use Rattle.rules.specs.Checks.{verdict}
use Rattle.rules.specs.Step.{step}
use Rattle.rules.specs.Run.{Ran, run}
use Rattle.rules.specs.Images.{size_in, entry_in, words_of, regs_of, load}
use Rattle.rules.proofs.BothMachines.Match.{Match, Inv}
use Rattle.rules.proofs.BothMachines.Verdicts.{owner_low}
use Rattle.rules.proofs.BothMachines.Start.{Accepted, words_are, accepted, loads, start_match, start_inv}
use Rattle.rules.proofs.BothMachines.Runs.{Together, Wants65, Parted, Few, Many, Agreed, agreed, Step13, step_13, wanted}
use Rattle.rules.proofs.BothMachines.Changes.{Changes, Stored, changed}

-- n steps of the tagged machine from what the loader left over the lent memories of `old`, whatever they held
abbrev pub tagged : Bool → ℕ → List ℕ → State → Ran
tagged m n bytes old = run n (load m bytes old).state

-- n steps of the abstract machine from the image's words, registers and entry
abbrev pub start : Bool → List ℕ → paper.State
start m bytes = paper.initial m (words_of bytes) (regs_of bytes) (entry_in bytes)

abbrev pub abstract : Bool → ℕ → List ℕ → paper.Ran
abstract m n bytes = paper.run n (start m bytes)

-- how many compartments it has then
abbrev pub compartments : Bool → ℕ → List ℕ → ℕ
compartments m n bytes = length (abstract m n bytes).state.comps

-- each owner is a number that is used, and so is each number in an I, a W or a set of readers
pub record BelowNext (s : State) : Type 0 where
  pub owner : (x : ℕ) → has_owner s x ≡ true → owner_at s x < s.cpu.next
  pub jumper : (x c : ℕ) → member (jumpers_at s x) c ≡ true → c < s.cpu.next
  pub writer : (x c : ℕ) → member (writers_at s x) c ≡ true → c < s.cpu.next
  pub reader : (x c : ℕ) → member (readers_at s x) c ≡ true → c < s.cpu.next

below_next : (s : State) (a : paper.State) → Match s a → Inv s → BelowNext s
unfolding may_jump may_store may_read
below_next s a m inv =
    record {
      owner = owner_low s inv;
      jumper = λ x c h. used c (λ (k : paper.Comp). k.J x) refl (m.J c x ∙ h);
      writer = λ x c h. used c (λ (k : paper.Comp). k.S x) refl (m.S c x ∙ h);
      reader = λ x c h. used c (λ (k : paper.Comp). k.R x) refl (m.R c x ∙ h);
    }
  where
    -- a compartment that is not there has nothing
    used : (c : ℕ) (f : paper.Comp → Bool) → f paper.nothing ≡ false → f (paper.comp a.comps c) ≡ true → c < s.cpu.next
    used c f z h = go (ltb c s.cpu.next) refl
      where
        go : (b : Bool) → ltb c s.cpu.next ≡ b → c < s.cpu.next
        go true e = ltb-true _ _ e
        go false e =
            let l : s.cpu.next ≤ c = ltb-false _ _ e in
            clash h (ap f (comp_none a.comps c (omega (arith, m.count))) ∙ z)

module _ (m : Bool) (bytes : List ℕ) (old : State) (ok : (load m bytes old).answer ≡ answer.done) where
  -- ---- the start

  -- what a 0 of the loader says of the image and of the lent memories
  pub image_accepted : Accepted m (words_of bytes) (entry_in bytes) old
  image_accepted = accepted m bytes old ok

  -- N is what the image says
  pub image_size : length (words_of bytes) ≡ size_in bytes
  image_size = words_are bytes

  -- the loader's state is the one that the abstract start stands for
  pub start_matches : Match (load m bytes old).state (start m bytes)
  start_matches = subst (λ (s : State). Match s (start m bytes)) (sym (loads m bytes old ok)) (start_match m (words_of bytes) (regs_of bytes) (entry_in bytes) old image_accepted)

  pub start_keeps : Inv (load m bytes old).state
  start_keeps = subst Inv (sym (loads m bytes old ok)) (start_inv m (words_of bytes) (regs_of bytes) (entry_in bytes) old image_accepted)

  module _ (n : ℕ) where
    either : Agreed n (load m bytes old).state (start m bytes)
    either = agreed n (load m bytes old).state (start m bytes) start_matches start_keeps

    -- ---- agreement

    -- as long as there are no more than 64 compartments: answers, counts, words, registers, position and all sets
    pub agreement : compartments m n bytes ≤ numbers → Together (tagged m n bytes old) (abstract m n bytes)
    agreement h =
        ⊎_elim (λ (p : Few n (load m bytes old).state (start m bytes)). p.1)
        (λ (p : Many n (load m bytes old).state (start m bytes)).
        let k : numbers < compartments m n bytes = p.0 in absurd (omega arith)) either

    -- and where there are more: the tagged machine stopped with 13 when the abstract one made the 65th, and stands
    -- where the abstract one stood then
    pub parting : numbers < compartments m n bytes → (j : ℕ) × Parted n j (load m bytes old).state (start m bytes)
    parting h =
        ⊎_elim (λ (p : Few n (load m bytes old).state (start m bytes)).
        let k : compartments m n bytes ≤ numbers = p.0 in absurd (omega arith))
        (λ (p : Many n (load m bytes old).state (start m bytes)). p.1) either

    -- there is one parting
    pub parting_once : (j k : ℕ) → Parted n j (load m bytes old).state (start m bytes) → Parted n k (load m bytes old).state (start m bytes) → j ≡ k
    parting_once j k p q = sym p.count ∙ q.count

    -- ---- 13

    -- exactly where the abstract machine, all 64 numbers being used, makes another compartment
    pub thirteen : ((tagged m n bytes old).answer ≡ answer.no_number) ↔ ((j : ℕ) × (j < n) × Wants65 j (start m bytes))
    thirteen = (to, from)
      where
        to : (tagged m n bytes old).answer ≡ answer.no_number → (j : ℕ) × (j < n) × Wants65 j (start m bytes)
        to h =
            ⊎_elim (λ (p : Few n (load m bytes old).state (start m bytes)). absurd (p.1.not13 h))
            (λ (p : Many n (load m bytes old).state (start m bytes)).
            (p.1.0, p.1.1.sooner, p.1.1.wants)) either

        from : (j : ℕ) × (j < n) × Wants65 j (start m bytes) → (tagged m n bytes old).answer ≡ answer.no_number
        from w = (parting (wanted n w.0 (start m bytes) w.1 w.2)).1.stops

    -- the step after n steps
    pub step_thirteen : compartments m n bytes ≤ numbers → ((step (tagged m n bytes old).state).answer ≡ answer.no_number) ↔ Step13 (tagged m n bytes old).state (abstract m n bytes).state
    step_thirteen h = let t = agreement h in step_13 (tagged m n bytes old).state (abstract m n bytes).state t.match t.inv

    -- ---- no other number

    -- 14 and 15 never arise: 0 to 13, and in strict mode 17
    pub answers : (given m (tagged m n bytes old).answer || eqb (tagged m n bytes old).answer answer.no_number) ≡ true
    unfolding paper.initial
    answers =
        ⊎_elim (λ (p : Few n (load m bytes old).state (start m bytes)).
        let e : (tagged m n bytes old).answer ≡ (abstract m n bytes).answer = p.1.answers in
        simp (e, run_answers n (start m bytes)))
        (λ (p : Many n (load m bytes old).state (start m bytes)).
        let e : (tagged m n bytes old).answer ≡ 13 = p.1.1.stops in
        simp (e, or-true)) either

    pub abstract_answers : given m (abstract m n bytes).answer ≡ true
    unfolding paper.initial
    abstract_answers = run_answers n (start m bytes)

    -- ---- numbers that are not used

    -- no address has one of them as its owner, in its I or W or among its readers
    pub numbers_below_next : BelowNext (tagged m n bytes old).state
    numbers_below_next =
        ⊎_elim (λ (p : Few n (load m bytes old).state (start m bytes)). below_next _ _ p.1.match p.1.inv)
        (λ (p : Many n (load m bytes old).state (start m bytes)). below_next _ _ p.1.1.match p.1.1.inv) either

    -- ---- words

    -- n steps on, a step changes the word at x: a Store did it, in the one compartment that holds pc
    pub words : (x : ℕ) → Changes (tagged m n bytes old).state x → Stored (tagged m n bytes old).state (abstract m n bytes).state x
    unfolding step
    words x d =
        ⊎_elim (λ (p : Few n (load m bytes old).state (start m bytes)).
        changed (tagged m n bytes old).state (abstract m n bytes).state p.1.match p.1.inv x d)
        (λ (p : Many n (load m bytes old).state (start m bytes)).
        let q = p.1.1 in
        let e : verdict (tagged m n bytes old).state ≡ 13 =
        (step_13 (tagged m n bytes old).state (abstract m p.1.0 bytes).state q.match q.inv).1 (q.full, q.wants.makes, q.wants.another ∙ ap suc (sym q.wants.all)) in
        absurd (d (simp e))) either

    -- ---- the paper's property

    sound : Sound (abstract m n bytes).state
    sound = run_sound m (words_of bytes) (regs_of bytes) (entry_in bytes) image_accepted.most n

    -- each address in memory, and each service, lies in one compartment and in no other
    pub one_compartment : (x : ℕ) → (x < size_in bytes) ⊎ (is_service m x ≡ true) → InOne (abstract m n bytes).state.comps x
    unfolding paper.in_memory paper.initial
    one_compartment x h =
        let l : length (abstract m n bytes).state.words ≡ size_in bytes = run_words n (start m bytes) ∙ words_are bytes in
        let f : (abstract m n bytes).state.fenced ≡ m = run_fenced n (start m bytes) in
        sound.one x
        (⊎_elim (λ (e : x < size_in bytes). simp (l, lt-ltb x (size_in bytes) e)) (λ (e : is_service m x ≡ true). simp (f, e, or-true)) h)

    -- a step that runs leaves pc in its compartment or at one of its jump targets, or the next step stops with 2 or 4
    pub leaving : (paper.step (abstract m n bytes).state).answer ≡ answer.done → property.Leaves (abstract m n bytes).state
    leaving h = property.leaves (abstract m n bytes).state sound h

    -- (b) of the abstract machine by itself, also where the tagged one has stopped
    pub changing : (x : ℕ) → property.Changes (abstract m n bytes).state x
        → (paper.A-of (abstract m n bytes).state (paper.current (abstract m n bytes).state) x || paper.S-of (abstract m n bytes).state (paper.current (abstract m n bytes).state) x) ≡ true
    changing x d = property.changes (abstract m n bytes).state x d
