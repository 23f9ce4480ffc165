-- No line of an input of bytes is longer than 308 bytes, and none of the totals of 10,000 images than 350.
use Rattle.std.specs.Prelude.{◌≡◌, Bool, List, [], ◌∷◌, ◌++◌, ℕ, zero, suc, ◌+◌, ◌*◌, ◌≤◌, ◌<◌, leb, get_or}
use Rattle.std.proofs.Math.Path.{refl, ap}
use Rattle.std.proofs.Math.Bool.{true, false}
use native.Mathlib.Omega.{arith}
use Rattle.std.proofs.Common.{eqb-true, leb-true, leb-false}
use Rattle.std.proofs.Math.Dec.{eqb}
use Rattle.std.proofs.Math.ListN.{length, length-append, get_or-eq_default}
use Rattle.common.specs.Answers as answer
use Rattle.rules.specs.Images.{load, load_verdict}
use Rattle.rules.specs.Run.{Ran, run}
use Rattle.printed.specs.Text.{line_end, first_fields}
use Rattle.printed.specs.Outcome.{budget, memories, line_of}
use Rattle.printed.proofs.Theorems.Lengths.{Word, refused_most, fields_most}
use Rattle.printed.proofs.Theorems.Bound.{load_most, line_small}
use Rattle.sheets.specs.Lines.{members, target_writers, Entry, refused, ran_entry, load_entry, entry, writers_text, line_text}
use Rattle.sheets.specs.Totals.{is_refused, ended_with, ended_from, steps_of, answers, totals, totals_text}
use Rattle.sheets.proofs.Laws.Counting.{count_most, ended_at}
use Rattle.sheets.proofs.Theorems.Exact.{most, AllSmall}
use Rattle.sheets.proofs.Theorems.Images.{entries, one_each, all_small}
use Rattle.sheets.proofs.Theorems.Lengths.{longest, writers_asked, writers_most, SmallTotals, totals_most}

module _ (strict : Bool) (input : List ℕ) (byte : (i : ℕ) → i < length input → get_or input i 0 < 256) where
  abbrev left : Ran
  left = run budget (load strict input memories).state

  ran_most : (load strict input memories).answer ≡ answer.done → length (line_text (ran_entry left)) ≤ longest
  unfolding line_text ran_entry line_of
  ran_most ok =
      let f = fields_most (line_of left) (line_small strict input byte ok) in
      let e = ap length (writers_asked left.answer (members (target_writers left.state))) in
      let w = writers_most left.answer (target_writers left.state) in
      simp length-append (omega arith)

  away_most : length (line_text (refused (load strict input memories).answer)) ≤ longest
  unfolding line_text load
  away_most =
      let h = load_most strict input memories in
      let r = refused_most (load_verdict strict input memories) (omega arith) in
      omega arith

  pub line_most : length (line_text (entry strict input)) ≤ longest
  unfolding entry load_entry
  line_most = go (eqb (load strict input memories).answer answer.done) refl
    where
      go : (b : Bool) → eqb (load strict input memories).answer answer.done ≡ b → length (line_text (load_entry (load strict input memories))) ≤ longest
      go true e = simp e (ran_most (eqb-true _ _ e))
      go false e = simp e away_most

-- ---- the totals

steps_most : (es : List Entry) → AllSmall es → steps_of es ≤ budget * length es
unfolding steps_of AllSmall
steps_most [] h = omega arith
steps_most (e ∷ es) h = let s = h.0.steps in let r = steps_most es h.1 in omega arith

length_ended : (k a : ℕ) (es : List Entry) → length (ended_from k a es) ≡ k
unfolding ended_from
length_ended zero a es = refl
length_ended (suc k) a es = ap suc (length_ended k (suc a) es)

ended_most : (es : List Entry) (a : ℕ) → get_or (ended_from answers 0 es) a 0 ≤ length es
ended_most es a = go (leb answers a) refl
  where
    go : (b : Bool) → leb answers a ≡ b → get_or (ended_from answers 0 es) a 0 ≤ length es
    go true e =
        let l = leb-true answers a e in
        let n = length_ended answers 0 es in
        let z = get_or-eq_default (ended_from answers 0 es) 0 {n = a} (omega arith) in
        omega arith
    go false e =
        let l = leb-false answers a e in
        let h = ended_at answers 0 a es (omega arith) in
        let c = count_most (ended_with (0 + a)) es in
        omega arith

night_small : (strict : Bool) (inputs : List (List ℕ)) → length inputs ≤ most → SmallTotals (totals (entries strict inputs))
unfolding totals
night_small strict inputs few =
    let n = one_each strict inputs in
    let s = steps_most (entries strict inputs) (all_small strict inputs) in
    let r = count_most is_refused (entries strict inputs) in
    record {
      images = omega arith;
      refused = omega arith;
      ended = λ a. let h = ended_most (entries strict inputs) a in omega arith;
      steps = omega arith;
    }

pub night_most : (strict : Bool) (inputs : List (List ℕ)) → length inputs ≤ most → length (totals_text strict (totals (entries strict inputs))) ≤ 350
night_most strict inputs few = totals_most strict (totals (entries strict inputs)) (night_small strict inputs few)
