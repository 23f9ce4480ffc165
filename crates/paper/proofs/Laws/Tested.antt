-- The abstract machine's answer as a nest of tests, by cases of what pc is at, for proofs by cases: it is the table's.
use Rattle.std.specs.Prelude.{◌≡◌, Bool, cond, ◌||◌, ℕ, eqb, get_or}
use Rattle.std.proofs.Math.Path.{refl}
use Rattle.std.proofs.Math.Bool.{true, false, or-false}
use Rattle.std.proofs.Common.{eqb-true}
use Rattle.common.specs.Answers as answer
use Rattle.common.specs.Opcodes as is
use Rattle.common.specs.Words.{Decoded}
use Rattle.common.specs.Instructions.{reg}
use Rattle.common.specs.Services.{isolate, is_service}
use Rattle.common.specs.AddressSets.{is_empty}
use Rattle.common.specs.Tables.{first_of}
use Rattle.common.proofs.Laws.Tests.{cond_not}
use Rattle.common.proofs.Laws.WordLaws.{Decodes, runs, unknown_opcode, stray, decode_answers}
use Rattle.paper.specs.Abstract.{State, A-of, S-of, in_memory, reads, current, arrives, instruction_at, target, set_a, good_sets, sets_within, returns, checks, verdict}

-- ---- the instructions, in compartment c

-- Store: the address is in A or S
unfoldable pub store_verdict : State → ℕ → ℕ → ℕ
store_verdict a c x = cond (in_memory a x) (cond (A-of a c x || S-of a c x) answer.done answer.store_forbidden) answer.store_outside

-- Load: where reading is fenced, the address is in A or R
unfoldable pub load_verdict : State → ℕ → ℕ → ℕ
load_verdict a c x = cond (in_memory a x) (cond (reads a c x) answer.done answer.load_forbidden) answer.load_outside

-- all others as in the basic machine
unfoldable pub instruction_verdict : State → ℕ → Decoded → ℕ
instruction_verdict a c i =
    cond (eqb i.op is.load) (load_verdict a c (target a i))
    (cond (eqb i.op is.store) (store_verdict a c (target a i))
    (cond (eqb i.op is.halt) answer.halt answer.done))

-- a word that is no instruction hands on the decoder's answer
unfoldable pub word_verdict : State → ℕ → Decoded → ℕ
word_verdict a c i = cond (eqb i.answer answer.done) (instruction_verdict a c i) i.answer

-- ---- the services, called by compartment c

unfoldable pub isolate_verdict : State → ℕ → ℕ
isolate_verdict a c =
    cond (good_sets a c)
    (cond (is_empty (set_a a)) answer.empty_set (cond (sets_within a c) (cond (returns a c) answer.done answer.no_return) answer.not_within))
    answer.bad_set

unfoldable pub add_verdict : State → ℕ → ℕ
add_verdict a c =
    cond (A-of a c (reg a.regs 1)) (cond (A-of a c (reg a.regs 15)) answer.done answer.no_return) answer.not_owned

unfoldable pub service_verdict : State → ℕ → ℕ
service_verdict a c = cond (eqb a.pc isolate) (isolate_verdict a c) (add_verdict a c)

-- ---- the whole

unfoldable pub tested : State → ℕ
tested a =
    cond (in_memory a a.pc || is_service a.fenced a.pc)
    (cond (arrives a)
    (cond (in_memory a a.pc) (word_verdict a (current a) (instruction_at a)) (service_verdict a a.prev))
    answer.no_arrival)
    answer.no_place

-- ---- it is the table's

-- an opcode is one of the three that a row names at most
load_alone : (op : ℕ) → eqb op is.load ≡ true → (eqb op is.store ≡ false) × (eqb op is.halt ≡ false)
load_alone op h = let e : op ≡ is.load = eqb-true _ _ h in (simp e, simp e)

store_alone : (op : ℕ) → eqb op is.store ≡ true → eqb op is.halt ≡ false
store_alone op h = let e : op ≡ is.store = eqb-true _ _ h in simp e

pub instruction_answers : (a : State) → Decodes (instruction_at a).answer
unfolding instruction_at
instruction_answers a = decode_answers (get_or a.words a.pc 0)

module _ (a : State) where
  abbrev inside : Bool
  inside = in_memory a a.pc

  word : inside ≡ true → arrives a ≡ true → (g h : Bool) → Decodes (instruction_at a).answer → eqb (instruction_at a).op is.load ≡ g
      → eqb (instruction_at a).op is.store ≡ h → verdict a ≡ tested a
  unfolding verdict first_of checks tested word_verdict instruction_verdict load_verdict store_verdict
  word u v g h (unknown_opcode p) q r = simp (u, v, p)
  word u v g h (stray p) q r = simp (u, v, p)
  word u v true h (runs p) q r = let l = load_alone (instruction_at a).op q in simp (cond_not, u, v, p, q, l.0, l.1)
  word u v false true (runs p) q r = simp (cond_not, u, v, p, q, r, store_alone (instruction_at a).op r)
  word u v false false (runs p) q r = simp (u, v, p, q, r)

  service : inside ≡ false → is_service a.fenced a.pc ≡ true → arrives a ≡ true → (b : Bool) → eqb a.pc isolate ≡ b → verdict a ≡ tested a
  unfolding verdict first_of checks tested service_verdict isolate_verdict add_verdict
  service u k v true e = simp (cond_not, or-false, u, k, v, e)
  service u k v false e = simp (cond_not, u, k, v, e)

  pub verdict_tested : verdict a ≡ tested a
  unfolding verdict first_of checks tested
  verdict_tested = go inside (is_service a.fenced a.pc) (arrives a) refl refl refl
    where
      go : (b c d : Bool) → inside ≡ b → is_service a.fenced a.pc ≡ c → arrives a ≡ d → verdict a ≡ tested a
      go true c true u k v =
          word u v (eqb (instruction_at a).op is.load) (eqb (instruction_at a).op is.store) (instruction_answers a) refl refl
      go true c false u k v = simp (u, v)
      go false true true u k v = service u k v (eqb a.pc isolate) refl
      go false true false u k v = simp (u, k, v)
      go false false d u k v = simp (u, k)
