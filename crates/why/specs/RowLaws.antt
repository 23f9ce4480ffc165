-- What is told of each answer, in the forms in which the code comes to it.
use Rattle.std.specs.Prelude.{◌≡◌, ℕ}
use Rattle.std.proofs.Math.Path.{sym, ap}
use Rattle.std.proofs.Common.{◌∙◌, arith}
use Rattle.std.proofs.Math.Bool.{or-false}
use Rattle.common.specs.AddressSets.{within}
use Rattle.rules.specs.State.{State}
use Rattle.rules.specs.Checks.{good_in, checks, verdict}
use Rattle.reasons.specs.Why.{plain, set_by, may_give, bad_set, wide_set, rows, row_of, why}
use Rattle.why.specs.declared.verdict.Outcome.{Outcome}
use Rattle.why.specs.declared.verdict.Outcome.TheVariants.{Done, Halt}
use Rattle.why.specs.Views.{outcome_number}
use Rattle.reasons.specs.Laws.RowLaws.{holds_for, holds_for_lem}
use Rattle.reasons.specs.Laws.FirstLaws.{Failing}
use Rattle.reasons.specs.Theorems.Sets.{bad_set_fails, wide_set_fails}

-- of a step that nothing refuses there is nothing to tell
pub plain_row : (s : State) (outcome : Outcome) → outcome_number outcome ≡ verdict s → plain (outcome_number outcome) ≡ why s
unfolding why row_of rows
plain_row s Done e = ap (λ (a : ℕ). row_of a (rows s)) e
plain_row s Halt e = ap (λ (a : ℕ). row_of a (rows s)) e

-- what 8 and 10 say of the set that is told
module _ (s : State) where
  pub bad_there : verdict s ≡ 8 → Failing s.cpu.strict (good_in s s.cpu.prev) (bad_set s)
  unfolding holds_for checks
  bad_there e = bad_set_fails s (sym (or-false _) ∙ holds_for_lem s 8 (λ z. omega arith) e)

  pub wide_there : verdict s ≡ 10 → Failing s.cpu.strict (λ r. within (set_by s r) (may_give s s.cpu.prev r)) (wide_set s)
  unfolding holds_for checks
  wide_there e = wide_set_fails s (sym (or-false _) ∙ holds_for_lem s 10 (λ z. omega arith) e)
