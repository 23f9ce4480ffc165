-- Moves: what the instruction at pc will write, case by case in the code's order.
use Rattle.std.specs.Prelude.{◌≡◌, ℕ, ◌<◌, Bool, true, false, cond, not, ◌&&◌, ◌||◌, List, ◌==◌, nat_le, nat_lt, slice_index, slice_index_or, refl}
use Rattle.std.proofs.Common.{ap, ◌∙◌, eqb-true, ltb-true}
use Rattle.common.specs.Answers as answer
use Rattle.common.specs.Opcodes as is
use Rattle.common.specs.Words.{Decoded, decode}
use Rattle.common.specs.Instructions.{reg, plus, arithmetic, branch}
use Rattle.rules.specs.Compartments.{member}
use Rattle.rights.specs.Rights.{free, may_use}
use Rattle.rights.specs.Arrivals.{prev_of, jumped_of, leapt, home, own_prev}
use Rattle.moves.specs.declared.Move.{Move}

-- no register, and no place
abbrev pub no_register : ℕ
no_register = 16

abbrev pub nowhere : ℕ
nowhere = 4294967295

abbrev pub stop : ℕ → ℕ → Move
stop answer owner =
    record { answer = answer; rd = no_register; value = 0; place = nowhere; word = 0; pc = 0; arrival = owner }

abbrev pub puts : ℕ → ℕ → ℕ → ℕ → Move
puts owner pc rd value =
    record { answer = answer.done; rd = rd; value = value; place = nowhere; word = 0; pc = pc; arrival = owner }

abbrev pub goes : ℕ → ℕ → Move
goes owner pc = puts owner pc no_register 0

abbrev pub stores : ℕ → ℕ → ℕ → ℕ → Move
stores owner pc place word =
    record { answer = answer.done; rd = no_register; value = 0; place = place; word = word; pc = pc; arrival = owner }

abbrev pub leaps : ℕ → ℕ → ℕ → ℕ → Move
leaps owner pc rd value =
    record { answer = answer.done; rd = rd; value = value; place = nowhere; word = 0; pc = pc; arrival = leapt owner }

-- ---- arrival at a word

unfoldable pub arrives_at : ℕ → ℕ → Bool → ℕ → Bool
arrives_at owner prev jumped jumpers = owner == prev || (jumped && member jumpers prev)

-- ---- the move of an instruction of an owner at pc

-- in strict mode alone is reading asked for
abbrev pub may_read : ℕ → ℕ → Bool → List ℕ → List ℕ → Bool
may_read owner x strict owners readers = not strict || may_use owner (slice_index owners x) (slice_index readers x)

unfoldable pub load_move : ℕ → ℕ → ℕ → ℕ → Bool → ℕ → List ℕ → List ℕ → List ℕ → Move
load_move owner on rd x strict n words owners readers =
    cond (nat_lt x n) (cond (may_read owner x strict owners readers) (puts owner on rd (slice_index words x)) (stop answer.load_forbidden owner))
    (stop answer.load_outside owner)

unfoldable pub store_move : ℕ → ℕ → ℕ → ℕ → ℕ → List ℕ → List ℕ → Move
store_move owner on x y n owners writers =
    cond (nat_lt x n)
    (cond (may_use owner (slice_index owners x) (slice_index writers x)) (stores owner on x y) (stop answer.store_forbidden owner))
    (stop answer.store_outside owner)

unfoldable pub bnz_move : ℕ → ℕ → ℕ → ℕ → ℕ → Move
bnz_move owner on pc low x = cond (x == 0) (goes owner on) (goes owner (branch pc low))

unfoldable pub instruction_move : Decoded → List ℕ → ℕ → ℕ → Bool → ℕ → List ℕ → List ℕ → List ℕ → List ℕ → Move
instruction_move i regs pc owner strict n words owners writers readers =
    let on = plus pc 1 in
    let x = reg regs i.a in
    let y = reg regs i.b in
    cond (i.op == is.const) (puts owner on i.a i.low)
    (cond (i.op == is.mov) (puts owner on i.b x)
    (cond (nat_le is.add i.op && nat_le i.op is.leq) (puts owner on i.low (arithmetic i.op x y))
    (cond (i.op == is.load) (load_move owner on i.b x strict n words owners readers)
    (cond (i.op == is.store) (store_move owner on x y n owners writers)
    (cond (i.op == is.jump) (leaps owner x no_register 0)
    (cond (i.op == is.jal) (leaps owner x 15 on)
    (cond (i.op == is.bnz) (bnz_move owner on pc i.low x)
    (cond (i.op == is.halt) (stop answer.halt owner) (goes owner on)))))))))

-- 3 and 16, the decoder's own, then the instruction
unfoldable pub word_move : Decoded → List ℕ → ℕ → ℕ → Bool → ℕ → List ℕ → List ℕ → List ℕ → List ℕ → Move
word_move i regs pc owner strict n words owners writers readers =
    cond (i.answer == answer.done) (instruction_move i regs pc owner strict n words owners writers readers) (stop i.answer owner)

-- at a memory word: 15, 4, then the word
unfoldable pub move_of : List ℕ → ℕ → ℕ → Bool → ℕ → Bool → ℕ → List ℕ → List ℕ → List ℕ → List ℕ → List ℕ → Move
move_of regs pc prev jumped next strict n words owners jumpers writers readers =
    let owner = slice_index_or owners pc 0 in
    cond (free strict owner next)
    (cond (arrives_at owner prev jumped (slice_index jumpers pc)) (word_move (decode (slice_index words pc)) regs pc owner strict n words owners writers readers) (stop answer.no_arrival owner))
    (stop answer.bad_owner owner)

-- the same by the arrival: at a word of the compartment that just ran, without a jump, neither 15 nor 4 is asked
unfoldable pub move_from : ℕ → List ℕ → ℕ → ℕ → Bool → ℕ → List ℕ → List ℕ → List ℕ → List ℕ → List ℕ → Move
move_from arrival regs pc next strict n words owners jumpers writers readers =
    let owner = slice_index_or owners pc 0 in
    cond (home arrival owner) (word_move (decode (slice_index words pc)) regs pc owner strict n words owners writers readers)
    (move_of regs pc (prev_of arrival) (jumped_of arrival) next strict n words owners jumpers writers readers)

-- where that compartment passes 15, it is the move
pub home_move : (arrival : ℕ) (regs : List ℕ) (pc next : ℕ) (strict : Bool) (n : ℕ) (words owners jumpers writers readers : List ℕ) → (arrival < 4294967296 → free strict arrival next ≡ true)
    → move_from arrival regs pc next strict n words owners jumpers writers readers ≡ move_of regs pc (prev_of arrival) (jumped_of arrival) next strict n words owners jumpers writers readers
unfolding move_from move_of arrives_at home
home_move arrival regs pc next strict n words owners jumpers writers readers h = go (nat_lt arrival 4294967296) (slice_index owners pc == arrival) refl refl
  where
    go : (s t : Bool) → nat_lt arrival 4294967296 ≡ s → (slice_index owners pc == arrival) ≡ t
        → move_from arrival regs pc next strict n words owners jumpers writers readers ≡ move_of regs pc (prev_of arrival) (jumped_of arrival) next strict n words owners jumpers writers readers
    go false t e f = simp e
    go true false e f = simp (e, f)
    go true true e f =
        let k = ltb-true arrival 4294967296 e in
        let o = eqb-true (slice_index owners pc) arrival f in
        simp (e, f, own_prev arrival k, ap (λ (o : ℕ). free strict o next) o ∙ h k)
