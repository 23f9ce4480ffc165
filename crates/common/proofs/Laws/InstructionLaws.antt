-- Laws of what an instruction does to words and registers: over the first n words, and how many words and registers are left.
use Rattle.std.specs.Prelude.{◌≡◌, refl, Bool, true, false, cond, List, ℕ, ◌≤◌, ◌<◌, ltb, eqb, length, take, set}
use Rattle.std.proofs.Common.{sym, ◌∙◌, arith, ltb-true, ltb-false, length-set, get_or-take, length-take-le}
use Rattle.std.proofs.Math.Seq.{take-set-lt, set_out}
use Rattle.std.proofs.lemmas.List.{take-set-le}
use Rattle.common.specs.Opcodes as is
use Rattle.common.specs.Words.{Decoded}
use Rattle.common.specs.Instructions.{reg, regs_after, words_after}
use Rattle.common.proofs.Laws.CheckLaws.{cond_same}

-- a place set and the first n taken, in either order
pub take_set : (n : ℕ) (l : List ℕ) (x v : ℕ) → n ≤ length l → take n (set l x v) ≡ set (take n l) x v
take_set n l x v h = go (ltb x n) refl
  where
    go : (b : Bool) → ltb x n ≡ b → take n (set l x v) ≡ set (take n l) x v
    go true e = take-set-lt n l x v (ltb-true _ _ e)
    go false e =
        let a : length (take n l) ≡ n = length-take-le n l h in
        let b : n ≤ x = ltb-false _ _ e in
        take-set-le n l x v b ∙ sym (set_out (take n l) x v (omega arith))

pub words_take : (i : Decoded) (n : ℕ) (regs words : List ℕ) → n ≤ length words → words_after i regs (take n words) ≡ take n (words_after i regs words)
unfolding words_after
words_take i n regs words h = go (eqb i.op is.store)
  where
    go : (b : Bool) → cond b (set (take n words) (reg regs i.a) (reg regs i.b)) (take n words) ≡ take n (cond b (set words (reg regs i.a) (reg regs i.b)) words)
    go true = sym (take_set n words (reg regs i.a) (reg regs i.b) h)
    go false = refl

-- a Load reads below n
pub regs_take : (i : Decoded) (n pc : ℕ) (regs words : List ℕ) → (eqb i.op is.load ≡ true → reg regs i.a < n)
    → regs_after i pc regs (take n words) ≡ regs_after i pc regs words
unfolding regs_after
regs_take i n pc regs words h = go (eqb i.op is.load) refl
  where
    go : (b : Bool) → eqb i.op is.load ≡ b → regs_after i pc regs (take n words) ≡ regs_after i pc regs words
    go true e = simp (get_or-take n words (reg regs i.a) 0 (h e))
    go false e = simp e

-- ---- as many words and registers as before

length_cond : (b : Bool) (l m : List ℕ) → length (cond b l m) ≡ cond b (length l) (length m)
length_cond true l m = refl
length_cond false l m = refl

pub words_length : (i : Decoded) (regs words : List ℕ) → length (words_after i regs words) ≡ length words
unfolding words_after
words_length i regs words = simp (length_cond, length-set, cond_same)

pub regs_length : (i : Decoded) (pc : ℕ) (regs words : List ℕ) → length (regs_after i pc regs words) ≡ length regs
unfolding regs_after
regs_length i pc regs words = simp (length_cond, length-set, cond_same)
