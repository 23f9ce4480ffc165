-- What is read as a line is that line of the language.
use Rattle.std.specs.Prelude.{◌≡◌, refl, Bool, true, false, cond, ℕ, length}
use Rattle.std.proofs.Common.{sym, ap, ◌∙◌, arith}
use Rattle.std.proofs.Math.Path.{subst}
use mathlib.Core.List.{List, [], ◌∷◌, ◌++◌, append_assoc, append-nil}
use Rattle.std.proofs.Math.Option.{Option}
use Rattle.std.proofs.lemmas.Bool.{eqb-false}
use Rattle.grammar.specs.Tokens.{Token, mnemonic, register, name, number, comma, colon, plus, minus, star, dot, left, right, stray, Mnemonic, Nop, Halt, Const, Bnz, one, two, three}
use Rattle.grammar.specs.Trees.{Product, factor, times, Factor, literal, label, here, group, depth_f, Line}
use Rattle.grammar.specs.Grammar.{optional, write_e, write_f, Says}
use Rattle.grammar.proofs.Laws.Answers.{To, to_map, All, all_or_fault, all_then}
use Rattle.grammar.proofs.Laws.StateText.{text_stack, text_part, text_place, text_opening, text_slot, text, text_join, text_fill, FitsPart, FitsSlot, Fits, depth_join, fits_fresh, fits_fill}
use Rattle.grammar.specs.Reading.Reader.{Answer, got, deep, or_fault, then, Front, start, negated, behind, Hole, first, next, Part, wants, has, fresh, join, levels_part, levels, beyond, on_factor, on_plus, on_minus, on_star, on_right, on_left, alone, behind_const, behind_bnz, Opening, jumping_to, moving_first, computing_first, branching_on, Slot, moving_last, computing_second, computing_last, constant_into, State, begin, inside, asks, offset, gap, owes, done, chosen, take_first, take, begun, on_mnemonic, on_register, on_comma, on_colon, within, move, step, end, final, run, read}

module _ (limit : ℕ) where
  -- ---- each move adds its token

  abbrev StandsPart : List Token → Part → Type 0
  StandsPart ts x = (text_part x ≡ ts) × FitsPart limit x

  abbrev pub Stands : List Token → State → Type 0
  Stands ts s = (text s ≡ ts) × Fits limit s

  -- a move of the expression's reader that takes the token t
  abbrev Takes : Token → (Part → Option Part) → Type 0
  Takes t f = (x : Part) → FitsPart limit x → beyond limit t (levels_part x) ≡ false → To (StandsPart (text_part x ++ t ∷ [])) (f x)

  -- the text of a whole expression, with a token behind it
  text_on : (fr : Front) (p : Product) (st : List Hole) (t : Token)
      → text_stack st ++ (write_e (join fr p) ++ t ∷ []) ≡ text_part (has fr p st) ++ t ∷ []
  text_on fr p st t = rw (text_join fr p) (simp append_assoc)

  takes_factor : (t : Token) (f : Factor) → write_f f ≡ t ∷ [] → depth_f f ≡ 0 → Takes t (on_factor f)
  takes_factor t f w z (wants h st) k r =
      let d = k.0 in (text_fill h f st ∙ ap (λ (ts : List Token). text_part (wants h st) ++ ts) w, fits_fill limit h f st (omega arith) k)
  takes_factor t f w z (has fr p st) k r = tt

  takes_plus : Takes plus on_plus
  takes_plus (wants h st) k r = tt
  takes_plus (has fr p st) k r = let d = depth_join fr p in (text_on fr p st plus, (omega arith, k.2))

  takes_minus : Takes minus on_minus
  takes_minus (wants (first start) st) k r = (simp append-nil, k)
  takes_minus (wants (first negated) st) k r = tt
  takes_minus (wants (first (behind e s)) st) k r = tt
  takes_minus (wants (next fr p) st) k r = tt
  takes_minus (has fr p st) k r = let d = depth_join fr p in (text_on fr p st minus, (omega arith, k.2))

  takes_star : Takes star on_star
  takes_star (wants h st) k r = tt
  takes_star (has fr p st) k r = (simp append_assoc, (omega arith, k.2))

  takes_right : Takes right on_right
  takes_right (wants h st) k r = tt
  takes_right (has fr p []) k r = tt
  takes_right (has fr p (h ∷ st)) k r =
      let d = depth_join fr p in (
        text_fill h (group (join fr p)) st ∙ rw (text_join fr p) (simp append_assoc),
        fits_fill limit h (group (join fr p)) st (omega arith) k.2,
      )

  takes_left : Takes left on_left
  takes_left (wants h st) k r = let d = eqb-false (length st) limit r in (append-nil _, (omega arith, k))
  takes_left (has fr p st) k r = tt

  -- a step of the line's reader that takes the token t
  abbrev Adds : Token → (State → Option State) → Type 0
  Adds t f = (s : State) → Fits limit s → beyond limit t (levels s) ≡ false → To (Stands (text s ++ t ∷ [])) (f s)

  adds_within : (t : Token) (f : Part → Option Part) → Takes t f → Adds t (within f)
  adds_within t f k begin h r = to_map _ _ (inside alone) (λ y b. b) (f fresh) (k fresh (fits_fresh limit) r)
  adds_within t f k (inside w x) h r =
      to_map _ _ (inside w) (λ y b. (ap (λ (ts : List Token). text_place w ++ ts) b.0 ∙ sym (append_assoc (text_place w) (text_part x) (t ∷ [])), b.1)) (f x) (k x h r)
  adds_within t f k (asks o) h r = tt
  adds_within t f k (offset a) h r =
      to_map _ _ (inside (behind_bnz a false)) (λ y b. (ap (λ (ts : List Token). text_place (behind_bnz a false) ++ ts) b.0, b.1)) (f fresh) (k fresh (fits_fresh limit) r)
  adds_within t f k (gap s) h r = tt
  adds_within t f k (owes s) h r = tt
  adds_within t f k (done u c) h r = tt

  stands_begun : (m : Mnemonic) → Stands (mnemonic m ∷ []) (begun m)
  stands_begun Nop = (refl, omega arith)
  stands_begun Halt = (refl, omega arith)
  stands_begun Const = (refl, fits_fresh limit)
  stands_begun Bnz = (refl, tt)
  stands_begun (one k) = (refl, tt)
  stands_begun (two k) = (refl, tt)
  stands_begun (three k) = (refl, tt)

  adds_mnemonic : (m : Mnemonic) → Adds (mnemonic m) (on_mnemonic m)
  adds_mnemonic m begin f z = stands_begun m
  adds_mnemonic m (inside w x) f z = tt
  adds_mnemonic m (asks o) f z = tt
  adds_mnemonic m (offset a) f z = tt
  adds_mnemonic m (gap s) f z = tt
  adds_mnemonic m (owes s) f z = tt
  adds_mnemonic m (done u c) f z = tt

  stands_first : (o : Opening) (r : ℕ) → Stands (text_opening o ++ register r ∷ []) (take_first o r)
  stands_first (jumping_to k) r = (refl, omega arith)
  stands_first (moving_first k) r = (refl, tt)
  stands_first (computing_first k) r = (refl, tt)
  stands_first branching_on r = (refl, tt)

  stands_take : (s : Slot) (c : Bool) (r : ℕ) → FitsSlot limit s → Stands (text_slot s ++ optional c ++ register r ∷ []) (take s c r)
  stands_take (moving_last k a) c r f = (refl, omega arith)
  stands_take (computing_second k a) c r f = (refl, tt)
  stands_take (computing_last k a c b) d r f = (simp append_assoc, omega arith)
  stands_take (constant_into e) c r f = (refl, f)

  adds_register : (r : ℕ) → Adds (register r) (on_register r)
  adds_register r begin f z = tt
  adds_register r (inside alone x) f z = tt
  adds_register r (inside behind_const (wants h st)) f z = tt
  adds_register r (inside behind_const (has fr p [])) f z =
      let d = depth_join fr p in (ap (λ (ts : List Token). mnemonic Const ∷ ts ++ register r ∷ []) (append-nil (write_e (join fr p)) ∙ text_join fr p), omega arith)
  adds_register r (inside behind_const (has fr p (h ∷ st))) f z = tt
  adds_register r (inside (behind_bnz a c) x) f z = tt
  adds_register r (asks o) f z = stands_first o r
  adds_register r (offset a) f z = tt
  adds_register r (gap s) f z = rw append-nil at (stands_take s false r f)
  adds_register r (owes s) f z = stands_take s true r f
  adds_register r (done u c) f z = tt

  adds_comma : Adds comma on_comma
  adds_comma begin f z = tt
  adds_comma (inside alone x) f z = tt
  adds_comma (inside behind_const (wants h st)) f z = tt
  adds_comma (inside behind_const (has fr p [])) f z = let d = depth_join fr p in (simp text_join, omega arith)
  adds_comma (inside behind_const (has fr p (h ∷ st))) f z = tt
  adds_comma (inside (behind_bnz a c) x) f z = tt
  adds_comma (asks o) f z = tt
  adds_comma (offset a) f z = (refl, fits_fresh limit)
  adds_comma (gap s) f z = (refl, f)
  adds_comma (owes s) f z = tt
  adds_comma (done u c) f z = tt

  adds_colon : Adds colon on_colon
  adds_colon begin f z = tt
  adds_colon (inside alone (wants h st)) f z = tt
  adds_colon (inside alone (has start (factor (literal n)) st)) f z = tt
  adds_colon (inside alone (has start (factor (label x)) [])) f z = (refl, omega arith)
  adds_colon (inside alone (has start (factor (label x)) (h ∷ st))) f z = tt
  adds_colon (inside alone (has start (factor here) st)) f z = tt
  adds_colon (inside alone (has start (factor (group e)) st)) f z = tt
  adds_colon (inside alone (has start (times p g) st)) f z = tt
  adds_colon (inside alone (has negated p st)) f z = tt
  adds_colon (inside alone (has (behind e s) p st)) f z = tt
  adds_colon (inside behind_const x) f z = tt
  adds_colon (inside (behind_bnz a c) x) f z = tt
  adds_colon (asks o) f z = tt
  adds_colon (offset a) f z = tt
  adds_colon (gap s) f z = tt
  adds_colon (owes s) f z = tt
  adds_colon (done u c) f z = tt

  adds : (t : Token) → Adds t (move t)
  adds (mnemonic m) = adds_mnemonic m
  adds (register r) = adds_register r
  adds (name x) = adds_within (name x) (on_factor (label x)) (takes_factor (name x) (label x) refl refl)
  adds (number n) = adds_within (number n) (on_factor (literal n)) (takes_factor (number n) (literal n) refl refl)
  adds comma = adds_comma
  adds colon = adds_colon
  adds plus = adds_within plus on_plus takes_plus
  adds minus = adds_within minus on_minus takes_minus
  adds star = adds_within star on_star takes_star
  adds dot = adds_within dot (on_factor here) (takes_factor dot here refl refl)
  adds left = adds_within left on_left takes_left
  adds right = adds_within right on_right takes_right
  adds stray = λ s f z. tt

  -- ---- whole lines

  step_stands : (t : Token) (s : State) → Fits limit s → All (Stands (text s ++ t ∷ [])) (step limit t s)
  step_stands t s h = go (beyond limit t (levels s)) refl
    where
      go : (b : Bool) → beyond limit t (levels s) ≡ b → All (Stands (text s ++ t ∷ [])) (cond b deep (or_fault (move t s)))
      go true e = tt
      go false e = all_or_fault _ (move t s) (adds t s h e)

  run_stands : (ts us : List Token) (s : Answer State) → All (Stands us) s → All (Stands (us ++ ts)) (run limit ts s)
  run_stands [] us s h = rw append-nil h
  run_stands (t ∷ ts) us s h =
      rw (append_assoc us (t ∷ []) ts) at (run_stands ts (us ++ t ∷ []) (then (step limit t) s) (all_then (Stands us) _ (step limit t) (λ u k. rw k.0 at (step_stands t u k.1)) s h))

  -- what is read so far stands in the state
  pub read_stands : (ts : List Token) (s : State) → run limit ts (got begin) ≡ got s → Stands ts s
  read_stands ts s e = subst (All (Stands ts)) e (run_stands ts [] (got begin) (refl, tt))

  end_says : (s : State) → Fits limit s → To (Says limit (text s)) (end s)
  end_says begin f = record { choices = chosen false false; written = refl; shallow = omega arith }
  end_says (inside w (wants h st)) f = tt
  end_says (inside alone (has fr p [])) f =
      let d = depth_join fr p in record { choices = chosen false false; written = sym (text_join fr p); shallow = omega arith }
  end_says (inside behind_const (has fr p [])) f = tt
  end_says (inside (behind_bnz a c) (has fr p [])) f =
      let d = depth_join fr p in record { choices = chosen c false; written = simp text_join; shallow = omega arith }
  end_says (inside w (has fr p (h ∷ st))) f = tt
  end_says (asks o) f = tt
  end_says (offset a) f = tt
  end_says (gap s) f = tt
  end_says (owes s) f = tt
  end_says (done t c) f = record { choices = c; written = refl; shallow = f }

  pub sound : (ts : List Token) (t : Line) → read limit ts ≡ got t → Says limit ts t
  unfolding read
  sound ts t e =
      subst (All (Says limit ts)) e
      (all_then (Stands ts) (Says limit ts) final (λ s h. all_or_fault _ (end s) (rw h.0 at (end_says s h.1))) (run limit ts (got begin)) (run_stands ts [] (got begin) (refl, tt)))
