-- No text of an input of bytes is longer than 2,924 bytes, so a buffer of so many never answers 31.
use Rattle.std.proofs.Common.{ap, eqb-true, ltb-true}
use Rattle.std.specs.Prelude.{◌≡◌, Bool, cond, ◌&&◌, not, List, ℕ, zero, suc, ◌+◌, ◌*◌, ◌<◌, ◌≤◌, min, ltb, leb, get_or}
use Rattle.std.proofs.Math.Path.{refl}
use Rattle.std.proofs.Math.Bool.{true, false}
use native.Mathlib.Omega.{arith}
use Rattle.std.proofs.Math.Dec.{eqb}
use Rattle.std.proofs.Math.ListN.{length, length-append}
use Rattle.common.specs.Answers as answer
use Rattle.common.specs.Instructions.{bit}
use Rattle.common.specs.Services.{isolate, service_count}
use Rattle.common.proofs.Laws.ServiceLaws.{service_count_lem}
use Rattle.common.proofs.Laws.CheckLaws.{cond_same}
use Rattle.rules.specs.Compartments.{insert}
use Rattle.common.specs.Tables.{first_of}
use Rattle.rules.specs.State.{State, in_memory, owns, may_jump, may_store}
use Rattle.rules.specs.Checks.{checks, verdict}
use Rattle.rules.specs.Images as images
use Rattle.rules.specs.Step.{step}
use Rattle.rules.specs.Run.{Ran, run}
use Rattle.rules.specs.Counts.{count_from, address_count, owned_count, jump_count, store_count, writer_count, most_below, widest}
use Rattle.rules.specs.Laws.CompartmentLaws.{bit_most, size_most}
use Rattle.rules.proofs.Laws.FormLaws.{n_most}
use Rattle.rules.proofs.Laws.StepLaws.{answer_is}
use Rattle.rules.proofs.Theorems.Counted.{counted}
use Rattle.rules.proofs.Theorems.Formed.{run_formed}
use Rattle.rules.proofs.BothMachines.Agreement.{start_keeps}
use Rattle.printed.specs.Text.{first_line, row_line, row_lines, refused, text}
use Rattle.printed.specs.Outcome.{budget, memories, line_of, row_of, rows_from, ran_outcome, load_outcome, outcome, Printed, print}
use Rattle.printed.proofs.Theorems.Lengths.{longest, refused_most, SmallLine, first_most, SmallRow, row_most}
use Rattle.printed.proofs.Theorems.Numbers.{run_numbered}
use Rattle.printed.proofs.Theorems.Words.{run_held, load_held}
use Rattle.printed.proofs.Theorems.Printing.{print_whole}

-- ---- answers

ltb_cond : (b : Bool) (x y k : ℕ) → ltb (cond b x y) k ≡ cond b (ltb x k) (ltb y k)
ltb_cond true x y k = refl
ltb_cond false x y k = refl

verdict_most : (s : State) → verdict s < 32
verdict_most s = ltb-true (verdict s) 32 test
  where
    test : ltb (verdict s) 32 ≡ true
    test = unfold verdict checks first_of in simp (ltb_cond, cond_same)

answer_most : (k : ℕ) (s : State) → (run k s).answer < 32
unfolding run
answer_most zero s = omega arith
answer_most (suc k) s = go (eqb (step s).answer answer.done) refl (answer_most k (step s).state)
  where
    go : (b : Bool) → eqb (step s).answer answer.done ≡ b → (run k (step s).state).answer < 32 → (run (suc k) s).answer < 32
    go true e ih = simp e ih
    go false e ih = let v = verdict_most s in let a = answer_is s in let l : (step s).answer < 32 = omega arith in simp e l

pub load_most : (strict : Bool) (input : List ℕ) (old : State) → images.load_verdict strict input old < 32
load_most strict input old = ltb-true (images.load_verdict strict input old) 32 test
  where
    test : ltb (images.load_verdict strict input old) 32 ≡ true
    test = unfold images.load_verdict images.load_checks images.image_checks images.register_checks images.entry_checks first_of in simp (ltb_cond, cond_same)

-- ---- counts

count_most : (test : ℕ → Bool) (x k : ℕ) → count_from test x k ≤ k
unfolding count_from
count_most test x zero = omega arith
count_most test x (suc k) = let h = count_most test x k in let b = bit_most (test (x + k)) in omega arith

address_most : (s : State) (list : List ℕ) (test : ℕ → Bool) → s.cpu.n ≤ 2048 → address_count s list test ≤ 2052
unfolding address_count
address_most s list test h =
    let a = count_most test 0 (min s.cpu.n (length list)) in
    let b = count_most (λ x. not (in_memory s x) && test x) isolate (service_count s.cpu.strict) in
    let c = service_count_lem s.cpu.strict in
    omega (arith, c.1)

-- 64 numbers, and an owner that is none of them
writers_most : (owner set : ℕ) → writer_count owner set ≤ 65
unfolding writer_count
writers_most owner set = let h = size_most 64 (insert set owner) in let b = bit_most (leb 64 owner) in omega arith

most_most : (k : ℕ) (owners sets : List ℕ) → most_below k (λ x. writer_count (get_or owners x 0) (get_or sets x 0)) ≤ 65
unfolding most_below
most_most zero owners sets = omega arith
most_most (suc k) owners sets = let h = most_most k owners sets in let w = writers_most (get_or owners k 0) (get_or sets k 0) in omega arith

-- ---- lines

row_small : (s : State) (c : ℕ) → s.cpu.n ≤ 2048 → c ≤ 64 → SmallRow (row_of s c)
unfolding row_of owned_count jump_count store_count
row_small s c n h =
    let o = address_most s s.owners (owns s c) n in
    let j = address_most s s.jumpers (may_jump s c) n in
    let w = address_most s s.writers (may_store s c) n in
    record { number = omega arith; owned = omega arith; jumps = omega arith; stores = omega arith }

rows_most : (s : State) → s.cpu.n ≤ 2048 → (c k : ℕ) → c + k ≤ 64 → length (row_lines (rows_from s c k)) ≤ 44 * k
unfolding row_lines rows_from
rows_most s n c zero h = omega arith
rows_most s n c (suc k) h =
    let r = row_most (row_of s c) (row_small s c n (omega arith)) in
    let rest = rows_most s n (suc c) k (omega arith) in
    let l = length-append (row_line (row_of s c)) (row_lines (rows_from s (suc c) k)) in
    omega arith

module _ (strict : Bool) (input : List ℕ) (byte : (i : ℕ) → i < length input → get_or input i 0 < 256) where
  module _ (ok : (images.load strict input memories).answer ≡ answer.done) where
    abbrev left : Ran
    left = run budget (images.load strict input memories).state

    pub line_small : SmallLine (line_of left)
    unfolding line_of widest
    line_small =
        let a = answer_most budget (images.load strict input memories).state in
        let c = (counted budget (images.load strict input memories).state).0 in
        let n = run_numbered strict input memories ok budget in
        let w = most_most (min left.state.cpu.n (min (length left.state.owners) (length left.state.writers))) left.state.owners left.state.writers in
        record {
          answer = omega arith;
          steps = omega arith;
          pc = (run_held budget _ (load_held input byte strict ok)).pc;
          prev = omega arith;
          next = omega arith;
          widest = omega arith;
        }

    ran_most : length (text (ran_outcome left)) ≤ longest
    unfolding text ran_outcome
    ran_most =
        let f = first_most (line_of left) line_small in
        let n = (run_numbered strict input memories ok budget).high in
        let k = n_most left.state (run_formed budget _ (start_keeps strict input memories ok).formed) in
        let r = rows_most left.state k 0 left.state.cpu.next (omega arith) in
        let l = length-append (first_line (line_of left)) (row_lines (rows_from left.state 0 left.state.cpu.next)) in
        omega arith

  pub text_most : length (text (outcome strict input)) ≤ longest
  unfolding outcome load_outcome
  text_most = go (eqb (images.load strict input memories).answer answer.done) refl
    where
      go : (b : Bool) → eqb (images.load strict input memories).answer answer.done ≡ b → length (text (outcome strict input)) ≤ longest
      go true e = simp e (ran_most (eqb-true _ _ e))
      go false e =
          let h = load_most strict input memories in
          let a : (images.load strict input memories).answer ≡ images.load_verdict strict input memories = unfold images.load in refl in
          let r = refused_most (images.load strict input memories).answer (omega arith) in
          let m : length (text (refused (images.load strict input memories).answer)) ≤ longest = unfold text in omega arith in
          simp e m

  pub never_short : (out : List ℕ) → longest ≤ length out → (print strict input out).answer ≡ answer.done
  never_short out h = let t = text_most in ap (λ (p : Printed). p.answer) (print_whole strict input out (omega arith))
