-- pc, the registers and the words of a state stay numbers of 32 bits.
use Rattle.std.specs.Prelude.{◌≡◌, refl, Bool, true, false, cond, ◌&&◌, ◌||◌, List, [], ◌∷◌, ◌++◌, ltb, get_or, set, length, replicate, drop}
use Rattle.std.proofs.Common.{sym, ltb-true, ltb-false}
use Rattle.std.proofs.Math.Path.{subst}
use Rattle.std.proofs.Math.Bool.{not}
use Prim.Native.Nat.{ℕ, zero, suc, ◌+◌, ◌-◌, ◌<◌}
use native.Mathlib.Omega.{arith}
use Rattle.std.proofs.Math.Dec.{eqb, leb}
use Rattle.std.proofs.Math.ListN.{get_or-eq_default}
use Rattle.common.specs.Answers as answer
use Rattle.common.specs.Opcodes as is
use Rattle.common.specs.Words.{Decoded}
use Rattle.common.proofs.Laws.WordLaws.{decoded_small}
use Rattle.common.specs.Instructions.{bit, arithmetic, branch, pc_after, regs_after, words_after}
use Rattle.rules.specs.State.{State}
use Rattle.rules.specs.Checks.{instruction_at}
use Rattle.rules.specs.Step.{ran_instruction, isolated, jump_added, store_added, read_added, step}
use Rattle.rules.specs.Run.{run}
use Rattle.rules.specs.Images.{field, fields, size_in, registers_at, registers_in, words_of, loaded, load}
use Rattle.rules.proofs.Laws.StepLaws.{step_cases, run_keeps}
use Rattle.rules.proofs.BothMachines.Start.{loads}
use Rattle.printed.specs.Outcome.{memories}
use Rattle.printed.proofs.Theorems.Lengths.{Word}

-- ---- lists of words

abbrev Small : List ℕ → Type 0
Small [] = Unit {0}
Small (x ∷ xs) = Word x × Small xs

small_at : (l : List ℕ) → Small l → (i : ℕ) → Word (get_or l i 0)
small_at [] h i = omega arith
small_at (x ∷ xs) h zero = h.0
small_at (x ∷ xs) h (suc i) = small_at xs h.1 i

small_set : (l : List ℕ) → Small l → (i v : ℕ) → Word v → Small (set l i v)
small_set [] h i v w = tt
small_set (x ∷ xs) h zero v w = (w, h.1)
small_set (x ∷ xs) h (suc i) v w = (h.0, small_set xs h.1 i v w)

small_append : (l m : List ℕ) → Small l → Small m → Small (l ++ m)
small_append [] m h k = k
small_append (x ∷ xs) m h k = (h.0, small_append xs m h.1 k)

small_zeros : (n : ℕ) → Small (replicate n 0)
small_zeros zero = tt
small_zeros (suc n) = (omega arith, small_zeros n)

small_drop : (n : ℕ) (l : List ℕ) → Small l → Small (drop n l)
small_drop zero l h = h
small_drop (suc n) [] h = tt
small_drop (suc n) (x ∷ xs) h = small_drop n xs h.1

-- either of two
word_either : (b : Bool) (x y : ℕ) → Word x → Word y → Word (cond b x y)
word_either true x y h k = h
word_either false x y h k = k

small_either : (b : Bool) (l m : List ℕ) → Small l → Small m → Small (cond b l m)
small_either true l m h k = h
small_either false l m h k = k

-- ---- a step

arithmetic_word : (op x y : ℕ) → Word (arithmetic op x y)
unfolding arithmetic
arithmetic_word op x y =
    word_either (eqb op is.add) _ _ (omega arith)
    (word_either (eqb op is.sub) _ _ (omega arith)
    (word_either (eqb op is.mul) _ _ (omega arith) (word_either (eqb op is.eq) _ _ (bit_word (eqb x y)) (bit_word (leb x y)))))
  where
    bit_word : (b : Bool) → Word (bit b)
    bit_word true = omega arith
    bit_word false = omega arith

branch_word : (pc low : ℕ) → Word (branch pc low)
unfolding branch
branch_word pc low = word_either (ltb low 32768) _ _ (omega arith) (omega arith)

pub record Held (s : State) : Type 0 where
  pub pc : Word s.cpu.pc
  pub regs : Small s.cpu.regs
  pub words : Small s.words

module _ (i : Decoded) (pc : ℕ) (regs words : List ℕ) (r : Small regs) (w : Small words) (low : i.low < 65536) where
  pc_word : Word (pc_after i pc regs)
  unfolding pc_after
  pc_word =
      word_either (eqb i.op is.jump || eqb i.op is.jal) _ _ (small_at regs r i.a)
      (word_either (eqb i.op is.bnz && not (eqb (get_or regs i.a 0) 0)) _ _ (branch_word pc i.low) (omega arith))

  regs_small : Small (regs_after i pc regs words)
  unfolding regs_after
  regs_small =
      small_either (eqb i.op is.const) _ _ (small_set regs r i.a i.low (omega arith))
      (small_either (eqb i.op is.mov) _ _ (small_set regs r i.b _ (small_at regs r i.a))
      (small_either (leb is.add i.op && leb i.op is.leq) _ _ (small_set regs r i.low _ (arithmetic_word i.op (get_or regs i.a 0) (get_or regs i.b 0)))
      (small_either (eqb i.op is.load) _ _ (small_set regs r i.b _ (small_at words w (get_or regs i.a 0)))
      (small_either (eqb i.op is.jal) _ _ (small_set regs r 15 _ (omega arith)) r))))

  words_small : Small (words_after i regs words)
  unfolding words_after
  words_small = small_either (eqb i.op is.store) _ _ (small_set words w (get_or regs i.a 0) _ (small_at regs r i.b)) w

step_held : (s : State) → Held s → Held (step s).state
unfolding ran_instruction isolated jump_added store_added read_added instruction_at
step_held s h =
    let d = (decoded_small (get_or s.words s.cpu.pc 0)).3 in
    let back = small_at s.cpu.regs h.regs 15 in
    step_cases s Held h
    (λ p m v. record {
      pc = pc_word (instruction_at s) s.cpu.pc s.cpu.regs s.words h.regs h.words d;
      regs = regs_small (instruction_at s) s.cpu.pc s.cpu.regs s.words h.regs h.words d;
      words = words_small (instruction_at s) s.cpu.pc s.cpu.regs s.words h.regs h.words d;
    })
    (λ p m i. record { pc = back; regs = h.regs; words = h.words })
    (λ p m a. (
      record { pc = back; regs = h.regs; words = h.words },
      record { pc = back; regs = h.regs; words = h.words },
      λ z. record { pc = back; regs = h.regs; words = h.words },
    ))

-- ---- an image of bytes

pub run_held : (k : ℕ) (s : State) → Held s → Held (run k s).state
run_held k s h = run_keeps Held step_held k s h

module _ (input : List ℕ) (byte : (i : ℕ) → i < length input → get_or input i 0 < 256) where
  any : (i : ℕ) → get_or input i 0 < 256
  any i = go (ltb i (length input)) refl
    where
      go : (b : Bool) → ltb i (length input) ≡ b → get_or input i 0 < 256
      go true e = byte i (ltb-true i (length input) e)
      go false e = let z = get_or-eq_default input 0 (ltb-false i (length input) e) in omega arith

  field_word : (p : ℕ) → Word (field input p)
  unfolding field
  field_word p = let a = any p in let b = any (p + 1) in let c = any (p + 2) in let d = any (p + 3) in omega arith

  fields_small : (p k : ℕ) → Small (fields input p k)
  unfolding fields
  fields_small p zero = tt
  fields_small p (suc k) = (field_word p, fields_small (p + 4) k)

  pub load_held : (strict : Bool) → (load strict input memories).answer ≡ answer.done → Held (load strict input memories).state
  unfolding loaded
  load_held strict ok =
      subst Held (sym (loads strict input memories ok))
      (record {
        pc = field_word _;
        regs =
            small_append (fields input (registers_at input + 4) (registers_in input)) _ (fields_small (registers_at input + 4) (registers_in input))
            (small_zeros (16 - registers_in input));
        words = small_append (words_of input) _ (fields_small 4 (size_in input)) (small_drop (length (words_of input)) _ (small_zeros 2048));
      })
