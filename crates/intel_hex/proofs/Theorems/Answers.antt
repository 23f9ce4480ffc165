-- Which numbers an import answers, whatever it is given.
use Rattle.std.specs.Prelude.{◌≡◌, refl, Bool, true, ◌&&◌, ◌||◌, List, [], ◌∷◌, ℕ, ◌-◌, leb, eqb, get_or}
use Rattle.std.proofs.Common.{sym, ap, ◌∙◌, inl, inr}
use Rattle.std.proofs.Math.Decide.{ℕ_discrete}
use Rattle.common.specs.Answers as answer
use Rattle.common.specs.Tables.{Check, Exactly}
use Rattle.common.proofs.Laws.Tests.{both}
use Rattle.intel_hex.specs.Records.{Line, lines}
use Rattle.intel_hex.specs.Reading.{Said, record_checks, Reading, says, refused, reading}
use Rattle.intel_hex.specs.Importing.{end_checks, Imported, import}
use Rattle.intel_hex.proofs.Theorems.Numbers.{no_line, import_fault, import_number, refused_exactly}

-- 0, 25, 31 and 60 to 68
abbrev pub is_answer : ℕ → Bool
is_answer n = eqb n answer.done || eqb n answer.bad_entry || eqb n answer.short_buffer || (leb 60 n && leb n 68)

unfoldable numbered : List Check → Bool
numbered [] = true
numbered (c ∷ cs) = is_answer c.number && numbered cs

exactly_one : (cs : List Check) (n : ℕ) → numbered cs ≡ true → Exactly cs n → is_answer n ≡ true
unfolding numbered Exactly
exactly_one [] n h x = absurd x
exactly_one (c ∷ cs) n h (inl w) = ap is_answer (sym w.1) ∙ (both (is_answer c.number) (numbered cs) h).0
exactly_one (c ∷ cs) n h (inr w) = exactly_one cs n (both (is_answer c.number) (numbered cs) h).1 w.1

record_numbered : (s : Said) (l : Line) → numbered (record_checks s l) ≡ true
unfolding numbered record_checks
record_numbered s l = refl

end_numbered : (s : Said) (regs : List ℕ) (entry : ℕ) (out : List ℕ) → numbered (end_checks s regs entry out) ≡ true
unfolding numbered end_checks
end_numbered s regs entry out = refl

pub import_answers : (text regs : List ℕ) (entry : ℕ) (out : List ℕ) → is_answer (import text regs entry out).answer ≡ true
import_answers text regs entry out = go (reading text) refl
  where
    at_end : (s : Said) → reading text ≡ says s → Dec ((import text regs entry out).answer ≡ 0) → is_answer (import text regs entry out).answer ≡ true
    at_end s e (yes z) = ap is_answer z
    at_end s e (no n) =
        exactly_one (end_checks s regs entry out) (import text regs entry out).answer (end_numbered s regs entry out)
        ((import_number text regs entry out s e (import text regs entry out).answer n).0 refl)

    go : (m : Reading) → reading text ≡ m → is_answer (import text regs entry out).answer ≡ true
    go (says s) e = at_end s e (ℕ_discrete (import text regs entry out).answer 0)
    go (refused n k) e =
        let f = (refused_exactly text n k).0 e in
        ap (λ (x : Imported). is_answer x.answer) (import_fault text regs entry out n k f)
        ∙ exactly_one (record_checks f.fault.before (get_or (lines text) (k - 1) no_line)) n (record_numbered f.fault.before (get_or (lines text) (k - 1) no_line)) f.fault.exactly
