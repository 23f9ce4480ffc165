-- Demand 2 of the code, of every outcome that a contract allows: words and images there and back, budgets and counts, places from N on.
use Rattle.std.specs.Prelude.{◌≡◌, Bool, false, cond, List, ◌++◌, ℕ, ◌+◌, ◌≤◌, ◌<◌, eqb, get_or, length, take, drop}
use Rattle.std.proofs.Common.{sym, ap, ◌∙◌, subst}
use Rattle.common.specs.Words as words
use Rattle.rules.specs.State.{State}
use Rattle.rules.specs.Run.{Ran, run}
use Rattle.rules.specs.Images as images
use Rattle.rules.proofs.Laws.FormLaws.{Lent}
use Rattle.rules.proofs.Theorems.Additive.{added}
use Rattle.rules.proofs.Theorems.Rest.{Kept}
use Rattle.rules.proofs.Theorems.Alike.{Alike, AlikeRuns}
use Rattle.claims.specs.Demands as demands
use Rattle.claims.specs.Promises as promises
use Rattle.claims.specs.Strict as strict
use Rattle.claims.specs.Code.{Code}
use Rattle.claims.specs.Sessions.{budget_of, Call, Called, called}

module _ (code : Code) where
  -- ---- "An instruction word that is accepted and written again is the same word", and what was written reads back

  pub word_again : (word : ℕ) (d : words.Decoded) (e : words.Encoded) → code.Decodes word d → code.Encodes d.op d.a d.b d.low e
      → d.answer ≡ 0 → e ≡ record { answer = 0; word = word }
  word_again word d e h k ok =
      let f = code.decodes word d h in
      code.encodes d.op d.a d.b d.low e k ∙ ap (λ (x : words.Decoded). words.encode x.op x.a x.b x.low) f
      ∙ demands.word_again word (sym (ap (λ (x : words.Decoded). x.answer) f) ∙ ok)

  pub word_reads_back : (op a b low : ℕ) (e : words.Encoded) (d : words.Decoded) → code.Encodes op a b low e → code.Decodes e.word d
      → e.answer ≡ 0 → d ≡ record { answer = 0; op = op; a = a; b = b; low = low }
  word_reads_back op a b low e d h k ok =
      let f = code.encodes op a b low e h in
      code.decodes e.word d k ∙ ap (λ (x : words.Encoded). words.decode x.word) f
      ∙ demands.word_reads_back op a b low (sym (ap (λ (x : words.Encoded). x.answer) f) ∙ ok)

  -- ---- "an accepted image written again is the same bytes": the writer is lent exactly the N words that the loader left

  pub image_again : (m : Bool) (bytes : List ℕ) (old : State) (l : images.Loaded) (out : List ℕ) (w : images.Written)
      → code.Loads m bytes old l → code.Writes (take l.state.cpu.n l.state.words) l.state.cpu.regs l.state.cpu.pc out w
      → ((i : ℕ) → i < length bytes → get_or bytes i 0 < 256) → l.answer ≡ 0 → length bytes ≤ length out
      → w ≡ record { answer = 0; length = length bytes; out = bytes ++ drop (length bytes) out }
  image_again m bytes old l out w h k small ok room =
      let f = code.loads m bytes old l h in
      code.writes (take l.state.cpu.n l.state.words) l.state.cpu.regs l.state.cpu.pc out w k
      ∙ ap (λ (x : images.Loaded). images.write (take x.state.cpu.n x.state.words) x.state.cpu.regs x.state.cpu.pc out) f
      ∙ demands.image_again m bytes old out small (sym (ap (λ (x : images.Loaded). x.answer) f) ∙ ok) room

  -- what the writer wrote, loaded in either mode over any memories of one length with room
  module _ (ws regs : List ℕ) (entry : ℕ) (out : List ℕ) (w : images.Written) (h : code.Writes ws regs entry out w) where
    pub image_reads_back : (m : Bool) (old : State) (l : images.Loaded) → code.Loads m (take w.length w.out) old l
        → demands.Writable ws regs entry out → demands.Room m ws old → (w.answer ≡ 0) × (l ≡ record { answer = 0; state = images.loaded m ws regs entry old })
    image_reads_back m old l k good room =
        let f = code.writes ws regs entry out w h in
        let q = demands.image_reads_back m ws regs entry out old good room in
        let e = code.loads m (take w.length w.out) old l k in
        (ap (λ (x : images.Written). x.answer) f ∙ q.0, e ∙ ap (λ (x : images.Written). images.load m (take x.length x.out) old) f ∙ q.1)

  -- ---- "A run with a budget"

  pub budget_0 : (s : State) (o : Ran) → code.Runs 0 s o → o ≡ record { answer = 0; state = s; count = 0 }
  budget_0 s o h = code.runs 0 s o h ∙ promises.budget_0 s

  -- "A run of m + n steps equals m, then n if the first answered 0, the counts added"
  module _ (j k : ℕ) (s : State) (whole first rest : Ran) (h : code.Runs (j + k) s whole) (f : code.Runs j s first) (r : code.Runs k first.state rest) where
    pub budgets_add : whole ≡ cond (eqb first.answer 0) (added first rest) first
    budgets_add =
        let e = code.runs j s first f in
        code.runs (j + k) s whole h ∙ promises.budgets_add j k s
        ∙ ap (λ (x : Ran). cond (eqb x.answer 0) (added x (run k x.state)) x) (sym e)
        ∙ ap (λ (x : Ran). cond (eqb first.answer 0) (added first x) first) (sym (code.runs k first.state rest r))

  module _ (s : State) (c : Call) (h : Called code s c) where
    is_run : c.did ≡ run (budget_of c.asked) s
    is_run = called code s c h

    -- the count is that of steps that answered 0, and what was left is the state after them
    pub counted : (c.did.count ≤ budget_of c.asked) × (run c.did.count s ≡ record { answer = 0; state = c.did.state; count = c.did.count })
    counted =
        subst (λ (x : Ran). (x.count ≤ budget_of c.asked) × (run x.count s ≡ record { answer = 0; state = x.state; count = x.count })) (sym is_run)
        (promises.counted (budget_of c.asked) s)

    -- a budget that is used was used in steps
    pub used : c.did.answer ≡ 0 → c.did.count ≡ budget_of c.asked
    used z = ap (λ (x : Ran). x.count) is_run ∙ promises.used (budget_of c.asked) s (sym (ap (λ (x : Ran). x.answer) is_run) ∙ z)

    pub next_never_falls : s.cpu.next ≤ c.did.state.cpu.next
    next_never_falls = subst (λ (x : Ran). s.cpu.next ≤ x.state.cpu.next) (sym is_run) (promises.next_never_falls (budget_of c.asked) s)

    -- ---- places from N on

    -- each memory is as long as it was, and the same from place N on
    pub nothing_changed : Kept s c.did.state
    nothing_changed = subst (λ (x : Ran). Kept s x.state) (sym is_run) (promises.nothing_changed (budget_of c.asked) s)

    -- in 01's mode the fifth memory is not changed, whatever its length
    pub fifth : s.cpu.strict ≡ false → c.did.state.readers ≡ s.readers
    fifth e = subst (λ (x : Ran). x.state.readers ≡ s.readers) (sym is_run) (ap (λ (x : Ran). x.state.readers) (strict.run_unread (budget_of c.asked) s e s.readers))

  -- two calls alike, over one record and memories that agree below N, each of one length of its own: the same answer and count, and they agree below N again
  pub nothing_read : (s t : State) (c d : Call) → Called code s c → Called code t d → c.asked ≡ d.asked
      → Lent s → Lent t → Alike s t → AlikeRuns c.did d.did
  nothing_read s t c d h k e ls lt al =
      subst (λ (x : Ran). AlikeRuns x d.did) (sym (called code s c h))
      (subst (λ (x : Ran). AlikeRuns (run (budget_of c.asked) s) x) (sym (called code t d k ∙ ap (λ q. run (budget_of q) t) (sym e)))
      (promises.nothing_read (budget_of c.asked) s t ls lt al))

  -- a load in 01's mode leaves the fifth memory as it was, accepted or refused
  pub load_fifth : (bytes : List ℕ) (old : State) (l : images.Loaded) → code.Loads false bytes old l → l.state.readers ≡ old.readers
  load_fifth bytes old l h = ap (λ (x : images.Loaded). x.state.readers) (code.loads false bytes old l h) ∙ ap (λ (x : images.Loaded). x.state.readers) (strict.load_unread bytes old old.readers)
