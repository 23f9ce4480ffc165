-- Demand 1 of the code, of every outcome that a contract allows: one of the numbers, each on its condition; a refusal or a stop changes nothing.
use Rattle.std.specs.Prelude.{◌≡◌, Bool, List, ◌↔◌, ◌⊎◌, ℕ, zero, suc, ◌≤◌, ◌<◌}
use Rattle.std.proofs.Common.{sym, ap, ◌∙◌, subst, arith}
use Rattle.common.specs.Words as words
use Rattle.common.proofs.Laws.WordLaws.{Allowed, Above, Outside}
use Rattle.rules.specs.State.{State}
use Rattle.rules.specs.Step.{step}
use Rattle.rules.specs.Run.{Ran, run}
use Rattle.rules.specs.Images as images
use Rattle.common.specs.Tables.{Exactly, NoneHolds}
use Rattle.rules.specs.Checks.{checks}
use Rattle.rules.proofs.Theorems.Numbers as numbers
use Rattle.rules.specs.Images.{load_checks, write_checks}
use Rattle.rules.proofs.Theorems.ImageNumbers as image_numbers
use Rattle.rules.proofs.Theorems.Stays.{run_again}
use Rattle.claims.specs.Demands as demands
use Rattle.claims.specs.Demands.{UpTo, blank_over}
use Rattle.claims.specs.Promises as promises
use Rattle.claims.specs.Code.{Code, one_step}
use Rattle.claims.proofs.Calls.{run_one}
use Rattle.claims.specs.Sessions.{budget_of, Call, Called, called}

-- what holds of the one holds of the other
of : {A : Type 0} {x y : A} (P : A → Type 0) → x ≡ y → P y → P x
of P e h = subst P (sym e) h

module _ (code : Code) where
  -- ---- step

  module _ (s : State) (o : Ran) (h : code.Steps s o) where
    is_step : o ≡ one_step (step s)
    is_step = code.steps s o h ∙ sym (run_one s)

    -- the record and every place of the five memories are as they were
    pub stop : (o.answer ≡ 0 → ⊥) → o.state ≡ s
    stop n = ap (λ (x : Ran). x.state) is_step ∙ demands.stop_changes_nothing s (λ z. n (ap (λ (x : Ran). x.answer) is_step ∙ z))

    -- each number on its condition; `step_number` in Promises spells the checks
    pub step_number : (k : ℕ) → (k ≡ 0 → ⊥) → (o.answer ≡ k) ↔ Exactly (checks s) k
    step_number k n = of (λ (x : Ran). (x.answer ≡ k) ↔ Exactly (checks s) k) is_step (numbers.step_number s k n)

    pub step_done : (o.answer ≡ 0) ↔ NoneHolds (checks s)
    step_done = of (λ (x : Ran). (x.answer ≡ 0) ↔ NoneHolds (checks s)) is_step (numbers.step_done s)

  -- ---- step and run, from any state

  module _ (s : State) (c : Call) (h : Called code s c) where
    pub call_answers : UpTo 15 s.cpu.strict c.did.answer
    call_answers = of (λ (x : Ran). UpTo 15 s.cpu.strict x.answer) (called code s c h) (demands.run_answers (budget_of c.asked) s)

    -- the step that gave a nonzero answer changed nothing: a step from what was left gives it and leaves that
    pub stays : (c.did.answer ≡ 0 → ⊥) → step c.did.state ≡ record { answer = c.did.answer; state = c.did.state }
    stays n =
        let e = called code s c h in
        of (λ (x : Ran). step x.state ≡ record { answer = x.answer; state = x.state }) e
        (demands.run_stop (budget_of c.asked) s (λ z. n (ap (λ (x : Ran). x.answer) e ∙ z)))

    -- and it comes again: any later call that was asked for a step gives it, and leaves all as it was
    pub again : (c.did.answer ≡ 0 → ⊥) → (d : Call) → Called code c.did.state d → 1 ≤ budget_of d.asked
        → d.did ≡ record { answer = c.did.answer; state = c.did.state; count = 0 }
    again n d k least = called code c.did.state d k ∙ go (budget_of d.asked) least
      where
        e : c.did ≡ run (budget_of c.asked) s
        e = called code s c h

        go : (b : ℕ) → 1 ≤ b → run b c.did.state ≡ record { answer = c.did.answer; state = c.did.state; count = 0 }
        go zero l = absurd (omega arith)
        go (suc j) l =
            of (λ (x : Ran). run (suc j) x.state ≡ record { answer = x.answer; state = x.state; count = 0 }) e
            (run_again (budget_of c.asked) j s (λ z. n (ap (λ (x : Ran). x.answer) e ∙ z)))

  -- ---- load

  module _ (m : Bool) (bytes : List ℕ) (old : State) (l : images.Loaded) (h : code.Loads m bytes old l) where
    is_load : l ≡ images.load m bytes old
    is_load = code.loads m bytes old l h

    pub load_answers : (l.answer ≡ 0) ⊎ ((20 ≤ l.answer) × (l.answer ≤ 28))
    load_answers = of (λ (x : images.Loaded). (x.answer ≡ 0) ⊎ ((20 ≤ x.answer) × (x.answer ≤ 28))) is_load (demands.load_answers m bytes old)

    -- a blank record in the mode that was asked for, and every place of the five memories as it was
    pub refused_load : (l.answer ≡ 0 → ⊥) → l.state ≡ blank_over m old
    refused_load n =
        ap (λ (x : images.Loaded). x.state) is_load ∙ demands.refused_load m bytes old (λ z. n (ap (λ (x : images.Loaded). x.answer) is_load ∙ z))

    pub load_number : (k : ℕ) → (k ≡ 0 → ⊥) → (l.answer ≡ k) ↔ Exactly (load_checks m bytes old) k
    load_number k n = of (λ (x : images.Loaded). (x.answer ≡ k) ↔ Exactly (load_checks m bytes old) k) is_load (image_numbers.load_number m bytes old k n)

    pub load_done : (l.answer ≡ 0) ↔ NoneHolds (load_checks m bytes old)
    load_done = of (λ (x : images.Loaded). (x.answer ≡ 0) ↔ NoneHolds (load_checks m bytes old)) is_load (image_numbers.load_done m bytes old)

  -- ---- write

  module _ (ws regs : List ℕ) (entry : ℕ) (out : List ℕ) (w : images.Written) (h : code.Writes ws regs entry out w) where
    is_write : w ≡ images.write ws regs entry out
    is_write = code.writes ws regs entry out w h

    pub write_answers : (w.answer ≡ 0) ⊎ ((w.answer ≡ 21) ⊎ ((w.answer ≡ 25) ⊎ (w.answer ≡ 31)))
    write_answers =
        of (λ (x : images.Written). (x.answer ≡ 0) ⊎ ((x.answer ≡ 21) ⊎ ((x.answer ≡ 25) ⊎ (x.answer ≡ 31)))) is_write
        (demands.write_answers ws regs entry out)

    -- length 0, and every place of the buffer as it was
    pub refused_write : (w.answer ≡ 0 → ⊥) → w ≡ record { answer = w.answer; length = 0; out = out }
    refused_write n =
        of (λ (x : images.Written). x ≡ record { answer = x.answer; length = 0; out = out }) is_write
        (demands.refused_write ws regs entry out (λ z. n (ap (λ (x : images.Written). x.answer) is_write ∙ z)))

    pub write_number : (k : ℕ) → (k ≡ 0 → ⊥) → (w.answer ≡ k) ↔ Exactly (write_checks ws regs entry out) k
    write_number k n =
        of (λ (x : images.Written). (x.answer ≡ k) ↔ Exactly (write_checks ws regs entry out) k) is_write (image_numbers.write_number ws regs entry out k n)

    pub write_done : (w.answer ≡ 0) ↔ NoneHolds (write_checks ws regs entry out)
    write_done = of (λ (x : images.Written). (x.answer ≡ 0) ↔ NoneHolds (write_checks ws regs entry out)) is_write (image_numbers.write_done ws regs entry out)

  -- ---- decode and encode

  module _ (word : ℕ) (d : words.Decoded) (h : code.Decodes word d) where
    is_decode : d ≡ words.decode word
    is_decode = code.decodes word d h

    pub decode_answers : (d.answer ≡ 0) ⊎ ((d.answer ≡ 3) ⊎ (d.answer ≡ 16))
    decode_answers = of (λ (x : words.Decoded). (x.answer ≡ 0) ⊎ ((x.answer ≡ 3) ⊎ (x.answer ≡ 16))) is_decode (demands.decode_answers word)

    pub refused_word : (d.answer ≡ 0 → ⊥) → d ≡ record { answer = d.answer; op = 0; a = 0; b = 0; low = 0 }
    refused_word =
        of (λ (x : words.Decoded). (x.answer ≡ 0 → ⊥) → x ≡ record { answer = x.answer; op = 0; a = 0; b = 0; low = 0 }) is_decode (demands.refused_word word)

    pub decode_numbers : ((d.answer ≡ 3) ↔ (13 < words.op_of word))
        × ((d.answer ≡ 16) ↔ ((words.op_of word < 14) × Above (words.op_of word) (words.a_of word) (words.b_of word) (words.low_of word)))
        × ((d.answer ≡ 0) ↔ Allowed (words.op_of word) (words.a_of word) (words.b_of word) (words.low_of word))
    decode_numbers =
        of (λ (x : words.Decoded).
        ((x.answer ≡ 3) ↔ (13 < words.op_of word))
        × ((x.answer ≡ 16) ↔ ((words.op_of word < 14) × Above (words.op_of word) (words.a_of word) (words.b_of word) (words.low_of word)))
        × ((x.answer ≡ 0) ↔ Allowed (words.op_of word) (words.a_of word) (words.b_of word) (words.low_of word))) is_decode (promises.decode_numbers word)

  module _ (op a b low : ℕ) (e : words.Encoded) (h : code.Encodes op a b low e) where
    is_encode : e ≡ words.encode op a b low
    is_encode = code.encodes op a b low e h

    pub encode_answers : (e.answer ≡ 0) ⊎ (e.answer ≡ 30)
    encode_answers = of (λ (x : words.Encoded). (x.answer ≡ 0) ⊎ (x.answer ≡ 30)) is_encode (demands.encode_answers op a b low)

    pub refused_fields : e.answer ≡ 30 → e ≡ record { answer = 30; word = 0 }
    refused_fields n = is_encode ∙ demands.refused_fields op a b low (sym (ap (λ (x : words.Encoded). x.answer) is_encode) ∙ n)

    pub encode_numbers : ((e.answer ≡ 30) ↔ Outside op a b low) × ((e.answer ≡ 0) ↔ Allowed op a b low)
    encode_numbers =
        of (λ (x : words.Encoded). ((x.answer ≡ 30) ↔ Outside op a b low) × ((x.answer ≡ 0) ↔ Allowed op a b low)) is_encode
        (promises.encode_numbers op a b low)
