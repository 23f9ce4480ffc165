-- All lines of a text, as the code walks from line to line.
use Rattle.std.specs.Prelude.{◌≡◌, Bool, cond, List, [], ◌∷◌, ◌≢◌, ℕ, suc, ◌+◌, ◌-◌, ◌<◌, ◌≤◌, ltb, length, take, drop, replicate}
use Rattle.std.proofs.Math.Path.{refl, sym, ap}
use Rattle.std.proofs.Common.{◌∙◌, add-one, arith, lt-ltb, ltb-true, length-drop, drop_of_length-le, drop-drop}
use Rattle.std.proofs.Math.Bool.{true, false}
use Rattle.std.proofs.lemmas.Bool.{eqb-false}
use Rattle.std.proofs.Math.Dec.{eqb}
use Rattle.common.specs.Answers as answer
use Rattle.common.proofs.Laws.Tests.{bool_ext}
use Rattle.numerals.specs.Bytes.{feed}
use Rattle.grammar.specs.Laws.Runs.{line_of, line_at, line_end}
use Rattle.intel_hex.specs.Records.{Line, line, lines, onto, body}
use Rattle.intel_hex.specs.Reading.{Said, record_verdict, with_record, says, refused, from, reading}
use Rattle.importer.specs.Views.{said}
use Rattle.importer.specs.Steps.{Stepped, stepped}

-- ---- the first line, and the lines behind it

less_suc : (a b : ℕ) → ltb (suc a) (suc b) ≡ ltb a b
less_suc a b =
    bool_ext (ltb (suc a) (suc b)) (ltb a b)
    (λ h. let l = ltb-true (suc a) (suc b) h in lt-ltb a b (omega arith))
    (λ h. let l = ltb-true a b h in lt-ltb (suc a) (suc b) (omega arith))

abbrev first_line : List ℕ → Line
first_line bs = line (line_of bs) (ltb (length (line_of bs)) (length bs))

lines_first : (bs : List ℕ) → 0 < length bs → lines bs ≡ first_line bs ∷ lines (drop (length (line_of bs) + 1) bs)
unfolding lines line_of
lines_first [] h = absurd (omega arith)
lines_first (b ∷ bs) h = go (eqb b feed) bs (lines_first bs)
  where
    go : (t : Bool) (cs : List ℕ) → (0 < length cs → lines cs ≡ first_line cs ∷ lines (drop (length (line_of cs) + 1) cs))
        → cond t (line [] true ∷ lines cs) (onto b (lines cs)) ≡ line (cond t [] (b ∷ line_of cs)) (ltb (length (cond t [] (b ∷ line_of cs))) (suc (length cs))) ∷ lines (drop (length (cond t [] (b ∷ line_of cs)) + 1) (b ∷ cs))
    go true cs ih = rw (lt-ltb 0 (suc (length cs)) (omega arith)) refl
    go false [] ih = refl
    go false (x ∷ cs) ih =
        let e : suc (length (line_of (x ∷ cs))) + 1 ≡ suc (length (line_of (x ∷ cs)) + 1) = omega arith in
        rw (less_suc (length (line_of (x ∷ cs))) (length (x ∷ cs)), e) (ap (onto b) (ih (omega arith)))

line_front : (bs : List ℕ) → take (length (line_of bs)) bs ≡ line_of bs
unfolding line_of
line_front [] = refl
line_front (b ∷ bs) = go (eqb b feed) (line_front bs)
  where
    go : (t : Bool) → take (length (line_of bs)) bs ≡ line_of bs → take (length (cond t [] (b ∷ line_of bs))) (b ∷ bs) ≡ cond t [] (b ∷ line_of bs)
    go true ih = refl
    go false ih = ap (λ (l : List ℕ). b ∷ l) ih

module _ (text : List ℕ) (at : ℕ) (h : at < length text) (end : ℕ) (e : end ≡ line_end text at) where
  -- the line from a place on, as it is sliced out
  abbrev here : Line
  here = line (take (end - at) (drop at text)) (ltb end (length text))

  bytes_here : take (end - at) (drop at text) ≡ line_at text at
  bytes_here = let k : end - at ≡ length (line_at text at) = omega arith in rw k (line_front (drop at text))

  whole_here : ltb end (length text) ≡ ltb (length (line_at text at)) (length (drop at text))
  whole_here =
      let l = length-drop at text in
      bool_ext (ltb end (length text)) (ltb (length (line_at text at)) (length (drop at text)))
      (λ k. let m = ltb-true end (length text) k in lt-ltb (length (line_at text at)) (length (drop at text)) (omega arith))
      (λ k. let m = ltb-true (length (line_at text at)) (length (drop at text)) k in lt-ltb end (length text) (omega arith))

  lines_next : lines (drop at text) ≡ here ∷ lines (drop (end + 1) text)
  lines_next =
      let l = length-drop at text in
      let d : drop (length (line_at text at) + 1) (drop at text) ≡ drop (end + 1) text = let k : at + (length (line_at text at) + 1) ≡ end + 1 = omega arith in drop-drop (length (line_at text at) + 1) at text ∙ ap (λ (n : ℕ). drop n text) k in
      rw (bytes_here, whole_here) (lines_first (drop at text) (omega arith) ∙ ap (λ (bs : List ℕ). first_line (drop at text) ∷ lines bs) d)

  -- ---- a turn of the walk

  module _ (s : Said) (n : ℕ) (w : reading text ≡ from s n (lines (drop at text))) (x : Stepped) (ex : x ≡ stepped s here) where
    pub turn_refuses : x.answer ≢ answer.done → refused x.answer (n + 1) ≡ reading text
    unfolding from stepped
    turn_refuses ne = go (eqb (record_verdict s here) answer.done) refl
      where
        go : (b : Bool) → eqb (record_verdict s here) answer.done ≡ b → refused x.answer (n + 1) ≡ reading text
        go true k = absurd (ne (rw k at (ap (λ (y : Stepped). y.answer) ex)))
        go false k =
            let v : x.answer ≡ record_verdict s here = rw k at (ap (λ (y : Stepped). y.answer) ex) in
            let f : from s n (here ∷ lines (drop (end + 1) text)) ≡ refused (record_verdict s here) (suc n) = rw k refl in
            ap (λ (y : ℕ). refused y (n + 1)) v ∙ ap (refused (record_verdict s here)) (add-one n) ∙ sym (w ∙ ap (from s n) lines_next ∙ f)

    pub turn_goes : x.answer ≡ answer.done → reading text ≡ from x.now (n + 1) (lines (drop (end + 1) text))
    unfolding from stepped
    turn_goes z = go (eqb (record_verdict s here) answer.done) refl
      where
        go : (b : Bool) → eqb (record_verdict s here) answer.done ≡ b → reading text ≡ from x.now (n + 1) (lines (drop (end + 1) text))
        go true k =
            let t : x.now ≡ with_record s (body here.bytes) = rw k at (ap (λ (y : Stepped). y.now) ex) in
            let f : from s n (here ∷ lines (drop (end + 1) text)) ≡ from (with_record s (body here.bytes)) (suc n) (lines (drop (end + 1) text)) = rw k refl in
            w ∙ ap (from s n) lines_next ∙ f ∙ ap (λ (y : Said). from y (suc n) (lines (drop (end + 1) text))) (sym t)
            ∙ ap (λ (m : ℕ). from x.now m (lines (drop (end + 1) text))) (sym (add-one n))
        go false k =
            let v : x.answer ≡ record_verdict s here = rw k at (ap (λ (y : Stepped). y.answer) ex) in
            absurd (eqb-false (record_verdict s here) answer.done k (sym v ∙ z))

-- ---- the ends of the walk

pub walk_starts : (text memory : List ℕ) → memory ≡ replicate 8192 256 → reading text ≡ from (said false 0 memory) 0 (lines (drop 0 text))
unfolding reading
walk_starts text memory e = rw e refl

pub walk_ends : (text : List ℕ) (at : ℕ) (s : Said) (n : ℕ) → length text ≤ at → reading text ≡ from s n (lines (drop at text)) → says s ≡ reading text
unfolding from lines
walk_ends text at s n h w = sym (w ∙ rw (drop_of_length-le text h) refl)
