-- Each answer of importing and exporting, exactly on its condition; a refusal keeps the buffer.
use Rattle.std.specs.Prelude.{◌≡◌, Bool, cond, List, [], ◌∷◌, ◌↔◌, ℕ, zero, suc, ◌+◌, ◌-◌, ◌≤◌, ◌<◌, get_or, length, take}
use Rattle.std.proofs.Math.Path.{refl, sym, ap, subst}
use Rattle.std.proofs.Common.{◌∙◌}
use Rattle.std.proofs.Math.Bool.{true, false}
use native.Mathlib.Omega.{arith}
use borrow.Author.Tests.{eqb-true, eqb-false, eq-eqb, ne_eqb}
use Rattle.std.proofs.Math.Dec.{eqb}
use Rattle.common.specs.Answers as answer
use Rattle.common.specs.Tables.{first_of, Exactly, NoneHolds}
use Rattle.common.proofs.Laws.TableLaws.{nonzero, on_its_condition, done_otherwise}
use Rattle.intel_hex.specs.Records.{Line, line, lines, body}
use Rattle.intel_hex.specs.Reading.{Said, nothing, record_checks, record_verdict, with_record, Reading, says, refused, from, reading}
use Rattle.intel_hex.specs.Importing.{Imported, end_checks, end_verdict, refusal, words_of, accepted, image_of, import}
use Rattle.intel_hex.specs.Exporting.{export_checks, export_verdict, export}

-- ---- the first record at fault

abbrev pub no_line : Line
no_line = line [] false

-- line i + 1 behind `ls`'s start is the first whose checks refuse: those before it say `before`, behind which its first check that holds is n
pub record Fault (s : Said) (m : ℕ) (ls : List Line) (n i : ℕ) : Type 0 where
  pub before : Said
  pub there : i < length ls
  pub passed : from s m (take i ls) ≡ says before
  pub fails : n ≡ answer.done → ⊥
  pub exactly : Exactly (record_checks before (get_or ls i no_line)) n

verdict_exactly : (s : Said) (l : Line) (n : ℕ) → (n ≡ answer.done → ⊥) → (record_verdict s l ≡ n) ↔ Exactly (record_checks s l) n
unfolding record_verdict
verdict_exactly s l n h = on_its_condition (record_verdict s l) (record_checks s l) refl n h

-- ---- readings told apart

abbrev Refuses : Reading → Type 0
Refuses (says s) = ⊥
Refuses (refused n k) = Unit {0}

abbrev number_in : Reading → ℕ
number_in (says s) = 0
number_in (refused n k) = n

abbrev line_in : Reading → ℕ
line_in (says s) = 0
line_in (refused n k) = k

abbrev said_in : Reading → Said
said_in (says s) = s
said_in (refused n k) = nothing

pub says_not : {C : Type 0} (s : Said) (n k : ℕ) → says s ≡ refused n k → C
says_not s n k e = absurd (subst Refuses (sym e) tt)

-- ---- refused exactly there

pub record Found (s : Said) (m : ℕ) (ls : List Line) (n k : ℕ) : Type 0 where
  pub place : ℕ
  pub counted : m + suc place ≡ k
  pub fault : Fault s m ls n place

refused_found : (s : Said) (m : ℕ) (ls : List Line) (n k : ℕ) → from s m ls ≡ refused n k → Found s m ls n k
unfolding from
refused_found s m [] n k h = says_not s n k h
refused_found s m (l ∷ ls) n k h = go (eqb (record_verdict s l) answer.done) refl (refused_found (with_record s (body l.bytes)) (suc m) ls n k)
  where
    go : (b : Bool) → eqb (record_verdict s l) answer.done ≡ b
        → (from (with_record s (body l.bytes)) (suc m) ls ≡ refused n k → Found (with_record s (body l.bytes)) (suc m) ls n k) → Found s m (l ∷ ls) n k
    go true e ih =
        let f = ih (rw e at h) in
        let c = f.counted in
        let t = f.fault.there in
        record {
          place = suc f.place;
          counted = omega arith;
          fault = record { before = f.fault.before; there = omega arith; passed = rw e f.fault.passed; fails = f.fault.fails; exactly = f.fault.exactly };
        }
    go false e ih =
        let g : refused (record_verdict s l) (suc m) ≡ refused n k = rw e at h in
        let v : record_verdict s l ≡ n = ap number_in g in
        let c : suc m ≡ k = ap line_in g in
        let ne : n ≡ answer.done → ⊥ = λ z. eqb-false (record_verdict s l) answer.done e (v ∙ z) in
        record {
          place = 0;
          counted = omega arith;
          fault = record { before = s; there = omega arith; passed = refl; fails = ne; exactly = (verdict_exactly s l n ne).0 v };
        }

found_refused : (s : Said) (m : ℕ) (ls : List Line) (n i : ℕ) → Fault s m ls n i → from s m ls ≡ refused n (m + suc i)
unfolding from
found_refused s m [] n i f = let t = f.there in absurd (omega arith)
found_refused s m (l ∷ ls) n zero f =
    let same : s ≡ f.before = ap said_in f.passed in
    let v : record_verdict s l ≡ n = ap (λ (x : Said). record_verdict x l) same ∙ (verdict_exactly f.before l n f.fails).1 f.exactly in
    let k : suc m ≡ m + 1 = omega arith in
    rw (v, ne_eqb n answer.done f.fails) (ap (refused n) k)
found_refused s m (l ∷ ls) n (suc i) f = go (eqb (record_verdict s l) answer.done) refl (found_refused (with_record s (body l.bytes)) (suc m) ls n i)
  where
    go : (b : Bool) → eqb (record_verdict s l) answer.done ≡ b
        → (Fault (with_record s (body l.bytes)) (suc m) ls n i → from (with_record s (body l.bytes)) (suc m) ls ≡ refused n (suc m + suc i)) → from s m (l ∷ ls) ≡ refused n (m + suc (suc i))
    go true e ih =
        let t = f.there in
        let k : suc m + suc i ≡ m + suc (suc i) = omega arith in
        rw e (ih (record { before = f.before; there = omega arith; passed = rw e at f.passed; fails = f.fails; exactly = f.exactly }) ∙ ap (refused n) k)
    go false e ih = let g : refused (record_verdict s l) (suc m) ≡ says f.before = rw e at f.passed in says_not f.before _ _ (sym g)

module _ (text : List ℕ) where
  -- record k, counted from 1, is the first at fault, with number n
  pub record FirstFault (n k : ℕ) : Type 0 where
    pub counted : 1 ≤ k
    pub fault : Fault nothing 0 (lines text) n (k - 1)

  -- "record by record"
  pub refused_exactly : (n k : ℕ) → (reading text ≡ refused n k) ↔ FirstFault n k
  unfolding reading
  refused_exactly n k = (to, back)
    where
      to : reading text ≡ refused n k → FirstFault n k
      to h =
          let f = refused_found nothing 0 (lines text) n k h in
          let c = f.counted in
          let p : f.place ≡ k - 1 = omega arith in
          record { counted = omega arith; fault = subst (Fault nothing 0 (lines text) n) p f.fault }

      back : FirstFault n k → reading text ≡ refused n k
      back f = let c = f.counted in let e : 0 + suc (k - 1) ≡ k = omega arith in found_refused nothing 0 (lines text) n (k - 1) f.fault ∙ ap (refused n) e

-- ---- importing

module _ (text regs : List ℕ) (entry : ℕ) (out : List ℕ) where
  -- the answer of the first record at fault
  pub import_fault : (n k : ℕ) → FirstFault text n k → import text regs entry out ≡ refusal n k out
  unfolding import
  import_fault n k f = rw ((refused_exactly text n k).1 f) refl

  line_none : (s : Said) (b : Bool) → (cond b (accepted (words_of s.memory) regs entry out) (refusal (end_verdict s regs entry out) 0 out)).line ≡ 0
  line_none s true = refl
  line_none s false = refl

  -- a record is told exactly where it is the first at fault
  pub import_record : (n k : ℕ) → 1 ≤ k → (((import text regs entry out).answer ≡ n) × ((import text regs entry out).line ≡ k)) ↔ FirstFault text n k
  unfolding import
  import_record n k c = (λ h. to (reading text) refl h.0 h.1, λ f. let e = import_fault n k f in (ap (λ (x : Imported). x.answer) e, ap (λ (x : Imported). x.line) e))
    where
      to : (m : Reading) → reading text ≡ m → (image_of m regs entry out).answer ≡ n → (image_of m regs entry out).line ≡ k → FirstFault text n k
      to (refused i j) e a l = (refused_exactly text n k).0 (e ∙ ap (λ (x : ℕ). refused x j) a ∙ ap (refused n) l)
      to (says s) e a l = let z = line_none s (eqb (end_verdict s regs entry out) answer.done) in absurd (omega (arith, z, l))

  -- where no record is at fault: the answer of the first check at the end, exactly
  module _ (s : Said) (said : reading text ≡ says s) where
    import_end : (import text regs entry out).answer ≡ first_of (end_checks s regs entry out)
    unfolding import end_verdict
    import_end = rw said (go (eqb (end_verdict s regs entry out) answer.done) refl)
      where
        go : (b : Bool) → eqb (end_verdict s regs entry out) answer.done ≡ b
            → (cond b (accepted (words_of s.memory) regs entry out) (refusal (end_verdict s regs entry out) 0 out)).answer ≡ end_verdict s regs entry out
        go true e = sym (eqb-true (end_verdict s regs entry out) answer.done e)
        go false e = refl

    pub import_line : (import text regs entry out).line ≡ 0
    unfolding import
    import_line = rw said (line_none s (eqb (end_verdict s regs entry out) answer.done))

    pub import_number : (n : ℕ) → (n ≡ answer.done → ⊥) → ((import text regs entry out).answer ≡ n) ↔ Exactly (end_checks s regs entry out) n
    import_number n h = on_its_condition (import text regs entry out).answer (end_checks s regs entry out) import_end n h

    pub import_done : ((import text regs entry out).answer ≡ answer.done) ↔ NoneHolds (end_checks s regs entry out)
    unfolding end_checks nonzero
    import_done = done_otherwise (import text regs entry out).answer (end_checks s regs entry out) import_end refl

    pub import_accepted : (import text regs entry out).answer ≡ answer.done → import text regs entry out ≡ accepted (words_of s.memory) regs entry out
    unfolding import end_verdict
    import_accepted h =
        let v : end_verdict s regs entry out ≡ answer.done = sym import_end ∙ h in
        rw (said, eq-eqb (end_verdict s regs entry out) answer.done v) refl

  -- "Refusals keep the out buffer's contents"
  pub import_keeps : ((import text regs entry out).answer ≡ answer.done → ⊥) → ((import text regs entry out).length ≡ 0) × ((import text regs entry out).out ≡ out)
  unfolding import
  import_keeps h = go (reading text) refl h
    where
      go : (m : Reading) → reading text ≡ m → ((image_of m regs entry out).answer ≡ answer.done → ⊥) → ((image_of m regs entry out).length ≡ 0) × ((image_of m regs entry out).out ≡ out)
      go (refused n k) e h = (refl, refl)
      go (says s) e h = end (eqb (end_verdict s regs entry out) answer.done) h
        where
          end : (b : Bool) → ((cond b (accepted (words_of s.memory) regs entry out) (refusal (end_verdict s regs entry out) 0 out)).answer ≡ answer.done → ⊥)
              → ((cond b (accepted (words_of s.memory) regs entry out) (refusal (end_verdict s regs entry out) 0 out)).length ≡ 0)
              × ((cond b (accepted (words_of s.memory) regs entry out) (refusal (end_verdict s regs entry out) 0 out)).out ≡ out)
          end true h = absurd (h refl)
          end false h = (refl, refl)

-- ---- exporting

module _ (words out : List ℕ) where
  pub export_verdict_lem : (export words out).answer ≡ export_verdict words out
  unfolding export
  export_verdict_lem = go (eqb (export_verdict words out) answer.done) refl
    where
      go : (b : Bool) → eqb (export_verdict words out) answer.done ≡ b → (export words out).answer ≡ export_verdict words out
      go true e = rw e (sym (eqb-true (export_verdict words out) answer.done e))
      go false e = rw e refl

  export_answer : (export words out).answer ≡ first_of (export_checks words out)
  unfolding export_verdict
  export_answer = export_verdict_lem

  pub export_number : (n : ℕ) → (n ≡ answer.done → ⊥) → ((export words out).answer ≡ n) ↔ Exactly (export_checks words out) n
  export_number n h = on_its_condition (export words out).answer (export_checks words out) export_answer n h

  pub export_done : ((export words out).answer ≡ answer.done) ↔ NoneHolds (export_checks words out)
  unfolding export_checks nonzero
  export_done = done_otherwise (export words out).answer (export_checks words out) export_answer refl

  pub export_keeps : ((export words out).answer ≡ answer.done → ⊥) → ((export words out).length ≡ 0) × ((export words out).out ≡ out)
  unfolding export export_verdict
  export_keeps h = go (eqb (export_verdict words out) answer.done) refl
    where
      go : (b : Bool) → eqb (export_verdict words out) answer.done ≡ b → ((export words out).length ≡ 0) × ((export words out).out ≡ out)
      go true e = absurd (h (export_answer ∙ eqb-true (export_verdict words out) answer.done e))
      go false e = rw e (refl, refl)
