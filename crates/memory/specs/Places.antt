-- What is written to a register and to a word.
use Rattle.std.specs.Prelude.{cond, List, ℕ, ltb, set}

-- a register past 15 is none, and a place from N on is none
unfoldable pub put_reg : List ℕ → ℕ → ℕ → List ℕ
put_reg regs rd value = cond (ltb rd 16) (set regs rd value) regs

unfoldable pub put_word : List ℕ → ℕ → ℕ → ℕ → List ℕ
put_word words n place word = cond (ltb place n) (set words place word) words
