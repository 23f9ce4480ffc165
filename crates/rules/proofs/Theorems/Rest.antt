-- "No step changes a place from N on": whatever the state and the answer, the memories keep their places from N on, and their lengths.
use Rattle.std.specs.Prelude.{◌≡◌, refl, Bool, true, false, cond, List, ℕ, ◌≤◌, eqb, length, drop}
use Rattle.std.proofs.Common.{sym, ◌∙◌, subst, arith, ltb-true, le-ltb, length-set, drop-set-lt}
use Rattle.common.specs.Answers as answer
use Rattle.common.specs.Opcodes as is
use Rattle.common.specs.Words.{Decoded}
use Rattle.common.specs.Instructions.{reg, words_after}
use Rattle.common.proofs.Laws.InstructionLaws.{words_length}
use Rattle.common.specs.AddressSets.{Pair}
use Rattle.common.proofs.Laws.Tests.{clash}
use Rattle.rules.specs.State.{State, in_memory}
use Rattle.rules.specs.Checks.{set_r}
use Rattle.rules.specs.Laws.Tested.{same_lengths, sized, target, word_verdict}
use Rattle.rules.specs.Step.{ran_instruction, owned, joined, join_at, isolated, jump_added, store_added, read_added, step}
use Rattle.rules.specs.Run.{run}
use Rattle.rules.proofs.Laws.FormLaws.{Lent}
use Rattle.rules.proofs.Laws.Passed.{store_passed}
use Rattle.rules.proofs.Laws.StepLaws.{step_cases, run_keeps}
use Rattle.rules.proofs.Theorems.Grows.{SameSizes, same_sizes, same_sizes_then, step_same_sizes}
use Rattle.rules.proofs.Laws.TagLaws.{length-map, drop_map}

-- ---- one memory, before and after

pub record Untouched (n : ℕ) (old new : List ℕ) : Type 0 where
  pub rest : drop n new ≡ drop n old
  pub same_length : length new ≡ length old

untouched : (n : ℕ) (l : List ℕ) → Untouched n l l
untouched n l = record { rest = refl; same_length = refl }

untouched_then : (n : ℕ) (a b c : List ℕ) → Untouched n a b → Untouched n b c → Untouched n a c
untouched_then n a b c u v = record { rest = v.rest ∙ u.rest; same_length = v.same_length ∙ u.same_length }

words_rest : (s : State) (c : ℕ) (i : Decoded) → word_verdict s c i ≡ answer.done → Untouched s.cpu.n s.words (words_after i s.cpu.regs s.words)
unfolding words_after in_memory
words_rest s c i v = record { rest = go (eqb i.op is.store) refl; same_length = words_length i s.cpu.regs s.words }
  where
    go : (b : Bool) → eqb i.op is.store ≡ b → drop s.cpu.n (words_after i s.cpu.regs s.words) ≡ drop s.cpu.n s.words
    go true e = simp e (drop-set-lt s.cpu.n s.words (target s i) (reg s.cpu.regs i.b) (ltb-true _ _ (store_passed s c i v e).inside))
    go false e = simp e

owned_rest : (n : ℕ) (ps : List Pair) (c : ℕ) (l : List ℕ) → Untouched n l (owned n ps c l)
unfolding owned
owned_rest n ps c l = record { rest = drop_map _ 0 n l (λ x v h. simp (le-ltb x n (omega arith))); same_length = length-map _ 0 l }

joined_rest : (n : ℕ) (ps : List Pair) (c : ℕ) (l : List ℕ) → Untouched n l (joined n ps c l)
unfolding joined
joined_rest n ps c l = record { rest = drop_map _ 0 n l (λ x v h. simp (le-ltb x n (omega arith))); same_length = length-map _ 0 l }

join_rest : (s : State) (l : List ℕ) (x c : ℕ) → in_memory s x ≡ true → Untouched s.cpu.n l (join_at l x c)
unfolding in_memory
join_rest s l x c h = record { rest = drop-set-lt s.cpu.n l x _ (ltb-true _ _ h); same_length = simp length-set }

-- ---- a state, before and after

pub record Kept (s t : State) : Type 0 where
  pub words : Untouched s.cpu.n s.words t.words
  pub owners : Untouched s.cpu.n s.owners t.owners
  pub jumpers : Untouched s.cpu.n s.jumpers t.jumpers
  pub writers : Untouched s.cpu.n s.writers t.writers
  pub readers : Untouched s.cpu.n s.readers t.readers
  -- in the sheet's mode not even below N
  pub fifth : s.cpu.strict ≡ false → t.readers ≡ s.readers

kept : (s : State) → Kept s s
kept s =
    record {
      words = untouched _ s.words;
      owners = untouched _ s.owners;
      jumpers = untouched _ s.jumpers;
      writers = untouched _ s.writers;
      readers = untouched _ s.readers;
      fifth = λ e. refl;
    }

kept_then : (s t u : State) → t.cpu.n ≡ s.cpu.n → t.cpu.strict ≡ s.cpu.strict → Kept s t → Kept t u → Kept s u
kept_then s t u e f a b =
    record {
      words = untouched_then _ _ _ _ a.words (subst (λ (n : ℕ). Untouched n t.words u.words) e b.words);
      owners = untouched_then _ _ _ _ a.owners (subst (λ (n : ℕ). Untouched n t.owners u.owners) e b.owners);
      jumpers = untouched_then _ _ _ _ a.jumpers (subst (λ (n : ℕ). Untouched n t.jumpers u.jumpers) e b.jumpers);
      writers = untouched_then _ _ _ _ a.writers (subst (λ (n : ℕ). Untouched n t.writers u.writers) e b.writers);
      readers = untouched_then _ _ _ _ a.readers (subst (λ (n : ℕ). Untouched n t.readers u.readers) e b.readers);
      fifth = λ z. b.fifth (f ∙ z) ∙ a.fifth z;
    }

-- ---- the theorem

pub step_keeps_rest : (s : State) → Kept s (step s).state
unfolding ran_instruction isolated jump_added store_added read_added
step_keeps_rest s =
    step_cases s (Kept s) (kept s)
    (λ p m v. record {
      words = words_rest s _ _ v;
      owners = untouched _ s.owners;
      jumpers = untouched _ s.jumpers;
      writers = untouched _ s.writers;
      readers = untouched _ s.readers;
      fifth = λ e. refl;
    })
    (λ p m v. record {
      words = untouched _ s.words;
      owners = owned_rest _ _ _ s.owners;
      jumpers = joined_rest _ _ _ s.jumpers;
      writers = joined_rest _ _ _ s.writers;
      readers = readers_rest s.cpu.strict;
      fifth = λ e. simp e;
    })
    (λ p m a. (
      record {
        words = untouched _ s.words;
        owners = untouched _ s.owners;
        jumpers = join_rest s s.jumpers _ _ a.named;
        writers = untouched _ s.writers;
        readers = untouched _ s.readers;
        fifth = λ e. refl;
      },
      record {
        words = untouched _ s.words;
        owners = untouched _ s.owners;
        jumpers = untouched _ s.jumpers;
        writers = join_rest s s.writers _ _ a.named;
        readers = untouched _ s.readers;
        fifth = λ e. refl;
      },
      λ z. record {
        words = untouched _ s.words;
        owners = untouched _ s.owners;
        jumpers = untouched _ s.jumpers;
        writers = untouched _ s.writers;
        readers = join_rest s s.readers _ _ a.named;
        fifth = λ e. clash z e;
      },
    ))
  where
    readers_rest : (m : Bool) → Untouched s.cpu.n s.readers (cond m (joined s.cpu.n (set_r s) s.cpu.next s.readers) s.readers)
    readers_rest true = joined_rest _ _ _ s.readers
    readers_rest false = untouched _ s.readers

pub run_keeps_rest : (k : ℕ) (s : State) → Kept s (run k s).state
run_keeps_rest k s =
    (run_keeps (λ (t : State). SameSizes s t × Kept s t)
    (λ t h. (same_sizes_then s t (step t).state h.0 (step_same_sizes t), kept_then s t (step t).state h.0.n h.0.strict h.1 (step_keeps_rest t))) k s
    (same_sizes s, kept s)).1

-- so memories of one length, N or longer, stay so
pub step_lent : (s : State) → Lent s → Lent (step s).state
step_lent s l =
    let k = step_keeps_rest s in
    let w = k.words.same_length in
    let e : (step s).state.cpu.n ≡ s.cpu.n = (step_same_sizes s).n in
    let m : s.cpu.n ≤ length s.words = l.enough in
    record {
      owners = k.owners.same_length ∙ l.owners ∙ sym w;
      jumpers = k.jumpers.same_length ∙ l.jumpers ∙ sym w;
      writers = k.writers.same_length ∙ l.writers ∙ sym w;
      readers = λ z. k.readers.same_length ∙ l.readers (sym (step_same_sizes s).strict ∙ z) ∙ sym w;
      enough = omega arith;
    }

-- and 14's test of the sizes answers the same after as before
kept_sized : (s t : State) → t.cpu.n ≡ s.cpu.n → t.cpu.strict ≡ s.cpu.strict → Kept s t → sized t ≡ sized s
unfolding sized same_lengths
kept_sized s t e f k = simp (e, f, k.words.same_length, k.owners.same_length, k.jumpers.same_length, k.writers.same_length, k.readers.same_length)

pub step_sized : (s : State) → sized (step s).state ≡ sized s
step_sized s = kept_sized s (step s).state (step_same_sizes s).n (step_same_sizes s).strict (step_keeps_rest s)
