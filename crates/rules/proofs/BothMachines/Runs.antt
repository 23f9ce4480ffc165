-- Any number of steps of both machines from two states that match.
use Rattle.std.specs.Prelude.{◌≡◌, refl, Bool, true, false, ◌↔◌, ◌⊎◌, eqb}
use Rattle.std.proofs.Common.{sym, ◌∙◌, inl, ⊎_elim, le_of_suc-le-suc, eqb-true}
use Rattle.std.proofs.Math.Path.{ap, subst}
use Rattle.std.proofs.Math.Logic.{inr}
use Prim.Native.Nat.{ℕ, zero, suc, ◌+◌, ◌-◌, ◌≤◌, ◌<◌}
use native.Mathlib.Omega.{arith}
use Rattle.std.proofs.lemmas.Bool.{eqb-false}
use Rattle.std.proofs.Math.ListN.{length}
use Rattle.common.specs.Answers as answer
use Rattle.paper.specs.Abstract as paper
use Rattle.paper.proofs.Laws.RunLaws as laws
use Rattle.rules.specs.Compartments.{numbers}
use Rattle.rules.specs.State.{State}
use Rattle.rules.specs.Step.{step}
use Rattle.rules.specs.Run.{Ran, one_more, run}
use Rattle.rules.proofs.Laws.FormLaws.{numbers_good}
use Rattle.rules.proofs.Laws.StepLaws.{run_goes_on, run_ends}
use Rattle.rules.proofs.BothMachines.Match.{Match, Inv}
use Rattle.rules.proofs.BothMachines.OneStep.{Same, Parts, one_step_lem}

-- how many compartments the abstract machine has after n steps
abbrev pub comps : ℕ → paper.State → ℕ
comps n a = length (paper.run n a).state.comps

-- two runs that agree
pub record Together (r : Ran) (q : paper.Ran) : Type 0 where
  pub answers : r.answer ≡ q.answer
  pub not13 : r.answer ≡ answer.no_number → ⊥
  pub counts : r.count ≡ q.count
  pub match : Match r.state q.state
  pub inv : Inv r.state

-- after j steps, which all ran, the abstract machine has 64 compartments and makes another
pub record Wants65 (j : ℕ) (a : paper.State) : Type 0 where
  pub ran : (paper.run j a).answer ≡ answer.done
  pub steps : (paper.run j a).count ≡ j
  pub all : comps j a ≡ numbers
  pub makes : (paper.step (paper.run j a).state).answer ≡ answer.done
  pub another : length (paper.step (paper.run j a).state).state.comps ≡ suc numbers

-- after j steps, sooner than n, the machines part: j is the least with 65 compartments at suc j
pub record Parted (n j : ℕ) (s : State) (a : paper.State) : Type 0 where
  pub sooner : j < n
  pub wants : Wants65 j a
  pub more : comps (suc j) a ≡ suc numbers
  pub least : (i : ℕ) → i ≤ j → comps i a ≤ numbers
  pub stops : (run n s).answer ≡ answer.no_number
  pub count : (run n s).count ≡ j
  pub full : (run n s).state.cpu.next ≡ numbers
  pub match : Match (run n s).state (paper.run j a).state
  pub inv : Inv (run n s).state

-- n steps with no more than 64 compartments, and with more
abbrev pub Few : ℕ → State → paper.State → Type 0
Few n s a = (comps n a ≤ numbers) × Together (run n s) (paper.run n a)

abbrev pub Many : ℕ → State → paper.State → Type 0
Many n s a = (numbers < comps n a) × ((j : ℕ) × Parted n j s a)

abbrev pub Agreed : ℕ → State → paper.State → Type 0
Agreed n s a = Few n s a ⊎ Many n s a

few : (s : State) (a : paper.State) → Match s a → Inv s → length a.comps ≤ numbers
few s a m i = subst (λ (k : ℕ). k ≤ numbers) (sym m.count) (numbers_good s i.formed).high

-- ---- the induction

module _ (k : ℕ) (s : State) (a : paper.State) (m : Match s a) (i : Inv s) where
  abbrev s' : State
  s' = (step s).state

  abbrev a' : paper.State
  a' = (paper.step a).state

  -- a parting one step later
  later : (j : ℕ) → (step s).answer ≡ answer.done → (paper.step a).answer ≡ answer.done → Parted k j s' a' → Parted (suc k) (suc j) s a
  unfolding paper.run
  later j h g p =
      let e : run (suc k) s ≡ one_more (run k s') = run_goes_on k s h in
      let f : paper.run (suc j) a ≡ paper.one_more (paper.run j a') = laws.run_goes_on j a g in
      let f2 : paper.run (suc (suc j)) a ≡ paper.one_more (paper.run (suc j) a') = laws.run_goes_on (suc j) a g in
      record {
        sooner = let l : j < k = p.sooner in omega arith;
        wants =
            record {
              ran = simp f p.wants.ran;
              steps = simp f (ap suc p.wants.steps);
              all = simp f p.wants.all;
              makes = simp f p.wants.makes;
              another = simp f p.wants.another;
            };
        more = simp f2 p.more;
        least = least;
        stops = simp e p.stops;
        count = simp e (ap suc p.count);
        full = simp e p.full;
        match = simp (e, f) p.match;
        inv = simp e p.inv;
      }
    where
      least : (c : ℕ) → c ≤ suc j → comps c a ≤ numbers
      least zero l = few s a m i
      least (suc c) l = subst (λ (r : paper.Ran). length r.state.comps ≤ numbers) (sym (laws.run_goes_on c a g)) (p.least c (le_of_suc-le-suc l))

  -- a parting at this step
  now : Parts s a → Agreed (suc k) s a
  unfolding run paper.run
  now p =
      let z : (step s).answer ≡ 13 = p.stops in
      let stop = run_ends k s (λ (q : (step s).answer ≡ 0). omega arith) in
      let g : 65 ≤ comps k a' = subst (λ (x : ℕ). x ≤ comps k a') p.another (laws.run_grows k a') in
      let f : paper.run (suc k) a ≡ paper.one_more (paper.run k a') = laws.run_goes_on k a p.makes in
      let f1 : paper.run 1 a ≡ paper.one_more (paper.run 0 a') = laws.run_goes_on 0 a p.makes in
      let u : comps (suc k) a ≡ comps k a' = simp f in
      inr (
        omega arith,
        (
          0,
          record {
            sooner = omega arith;
            wants = record { ran = refl; steps = refl; all = m.count ∙ p.full; makes = p.makes; another = p.another };
            more = simp f1 p.another;
            least = λ c l. let c0 : c ≡ 0 = omega arith in subst (λ (c : ℕ). comps c a ≤ numbers) (sym c0) (few s a m i);
            stops = ap (λ (r : Ran). r.answer) stop ∙ z;
            count = ap (λ (r : Ran). r.count) stop;
            full = ap (λ (r : Ran). r.state.cpu.next) stop ∙ ap (λ (t : State). t.cpu.next) p.state ∙ p.full;
            match = subst (λ (r : Ran). Match r.state a) (sym stop) (subst (λ (t : State). Match t a) (sym p.state) m);
            inv = subst (λ (r : Ran). Inv r.state) (sym stop) (subst (λ (t : State). Inv t) (sym p.state) i);
          },
        ),
      )

  -- both ran, and the rest is known
  onward : Same s a → (paper.step a).answer ≡ answer.done → Agreed k s' a' → Agreed (suc k) s a
  onward p g rest =
      let h : (step s).answer ≡ 0 = p.answers ∙ g in
      let et = run_goes_on k s h in
      let ea = laws.run_goes_on k a g in
      ⊎_elim
      (λ (w : Few k s' a').
      inl (
        simp ea w.0,
        record {
          answers = simp (et, ea) w.1.answers;
          not13 = simp et w.1.not13;
          counts = simp (et, ea) (ap suc w.1.counts);
          match = simp (et, ea) w.1.match;
          inv = simp et w.1.inv;
        },
      ))
      (λ (w : Many k s' a').
      inr (simp ea w.0, (suc w.1.0, later w.1.0 h g w.1.1)))
      rest

  -- both stopped
  stopped : Same s a → ((paper.step a).answer ≡ answer.done → ⊥) → Agreed (suc k) s a
  stopped p g =
      let et = run_ends k s (λ z. g (sym p.answers ∙ z)) in
      let ea = laws.run_ends k a g in
      inl (
        simp ea (few s' a' p.match p.inv),
        record {
          answers = simp (et, ea) p.answers;
          not13 = simp et p.not13;
          counts = simp (et, ea);
          match = simp (et, ea) p.match;
          inv = simp et p.inv;
        },
      )

pub agreed : (n : ℕ) (s : State) (a : paper.State) → Match s a → Inv s → Agreed n s a
unfolding run paper.run
agreed zero s a m i =
    inl (few s a m i, record { answers = refl; not13 = λ (z : ◌≡◌ {A = ℕ} 0 13). omega arith; counts = refl; match = m; inv = i })
agreed (suc k) s a m i = ⊎_elim (same (agreed k (step s).state (paper.step a).state)) (now k s a m i) (one_step_lem s a m i)
  where
    same : (Match (step s).state (paper.step a).state → Inv (step s).state → Agreed k (step s).state (paper.step a).state) → Same s a → Agreed (suc k) s a
    same ih p = go (eqb (paper.step a).answer answer.done) refl
      where
        go : (b : Bool) → eqb (paper.step a).answer answer.done ≡ b → Agreed (suc k) s a
        go true e = onward k s a m i p (eqb-true _ _ e) (ih p.match p.inv)
        go false e = stopped k s a m i p (eqb-false _ _ e)

-- ---- 13, in one step and in any number of steps

-- all numbers are used, and the abstract machine runs and has one compartment more
abbrev pub Step13 : State → paper.State → Type 0
Step13 s a =
    (s.cpu.next ≡ numbers) × ((paper.step a).answer ≡ answer.done) × (length (paper.step a).state.comps ≡ suc (length a.comps))

pub step_13 : (s : State) (a : paper.State) → Match s a → Inv s → ((step s).answer ≡ answer.no_number) ↔ Step13 s a
step_13 s a m i = (to, from)
  where
    to : (step s).answer ≡ answer.no_number → Step13 s a
    to h =
        ⊎_elim (λ (p : Same s a). absurd (p.not13 h))
        (λ (p : Parts s a).
        (p.full, p.makes, p.another ∙ ap suc (sym (m.count ∙ p.full)))) (one_step_lem s a m i)

    from : Step13 s a → (step s).answer ≡ answer.no_number
    from h =
        ⊎_elim
        (λ (p : Same s a).
        let e : length (paper.step a).state.comps ≡ (step s).state.cpu.next = p.match.count in
        let f : (step s).state.cpu.next ≤ 64 = (numbers_good (step s).state p.inv.formed).high in
        let g : length a.comps ≡ s.cpu.next = m.count in
        let u : s.cpu.next ≡ 64 = h.0 in
        let w : length (paper.step a).state.comps ≡ suc (length a.comps) = h.2 in
        absurd (omega arith))
        (λ (p : Parts s a). p.stops) (one_step_lem s a m i)

pub wanted : (n j : ℕ) (a : paper.State) → j < n → Wants65 j a → numbers < comps n a
wanted n j a l w =
    let e : n ≡ j + suc (n - suc j) = omega arith in
    let b : paper.State = (paper.run j a).state in
    let f : (paper.run n a).state ≡ (paper.run (suc (n - suc j)) b).state =
    ap (λ (k : ℕ). (paper.run k a).state) e ∙ laws.run_on j (suc (n - suc j)) a w.ran in
    let g : (paper.run (suc (n - suc j)) b).state ≡ (paper.run (n - suc j) (paper.step b).state).state =
    ap (λ (r : paper.Ran). r.state) (laws.run_goes_on (n - suc j) b w.makes) in
    let u : comps n a ≡ comps (n - suc j) (paper.step b).state = ap (λ (q : paper.State). length q.comps) (f ∙ g) in
    let v : length (paper.step b).state.comps ≤ comps (n - suc j) (paper.step b).state = laws.run_grows (n - suc j) (paper.step b).state in
    let z : length (paper.step b).state.comps ≡ 65 = w.another in
    omega arith
